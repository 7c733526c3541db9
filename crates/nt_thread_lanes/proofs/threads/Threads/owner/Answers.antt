use Rattle.nt_thread_lanes.specs.Insides.{lanes_in}
use Rattle.nt_thread_lanes.proofs.Numbers.{owner_at}
use Rattle.nt_thread_lanes.proofs.threads.Threads.owner.Goals as goal

pub state-requires : goal.state-requires
state-requires c =
    owner_at (lanes_in c.self.inside) c.args.self.now c.args.a c.owner_of.result c.self.view_is c.self.invariant.sound.script c.requires
    c.owner_of.ensures.owner
