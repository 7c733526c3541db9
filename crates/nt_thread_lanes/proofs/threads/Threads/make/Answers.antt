use Rattle.nt_thread_lanes.specs.Insides.{lanes_in}
use Rattle.nt_thread_lanes.proofs.Whole.{holds_made}
use Rattle.nt_thread_lanes.proofs.threads.Threads.make.Goals as goal

pub invariant_of-self : goal.invariant_of-self
invariant_of-self c =
    let h = holds_made
    (lanes_in c.self.inside) c.args.self.now c.args.t c.args.n c.args.stand.now c.args.what.now c.index_mut.result.now c.make.new.state
    c.self.inside.inserted.items c.mark.new.inserted.items c.self.view_is (record { sound = c.self.invariant.sound; marked = c.self.invariant.marked })
    c.requires.thread c.requires.none c.requires.may c.index_mut.ensures.value c.make.ensures c.mark.ensures in
    record { sound = h.sound; marked = h.marked }
