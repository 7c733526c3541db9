use Rattle.std.proofs.Common.{subst}
use Rattle.nt_states.specs.ThreadLanes.{ThreadLanes, facts_in}
use Rattle.nt_thread_lanes.specs.Sound.{AreOurs}
use Rattle.nt_thread_lanes.proofs.threads.Threads.ours.Goals as goal

pub returns : goal.returns
returns c =
    subst (λ (x : ThreadLanes). AreOurs x.script c.args.t (facts_in x c.args.t).apcs) c.self.view_is (c.self.invariant.sound.picks c.args.t)
