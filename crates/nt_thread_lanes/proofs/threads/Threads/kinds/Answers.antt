use Rattle.std.proofs.Common.{subst}
use Rattle.std.specs.List.{All}
use Rattle.std.specs.Prelude.{◌≡◌}
use Rattle.nt_event.specs.Routines.{kind_of}
use Rattle.nt_thread_lanes.specs.Insides.{lanes_in}
use Rattle.nt_states.specs.ThreadLanes.{ThreadLanes}
use Rattle.nt_thread_lanes.proofs.Ours.{kinds_hold}
use Rattle.nt_thread_lanes.proofs.threads.Threads.kinds.Goals as goal

pub returns : goal.returns
returns c =
    subst (λ (x : ThreadLanes). All (λ y. All (λ pick. pick.kind ≡ kind_of x.script pick.apc) y.apcs.pending) x.facts) c.self.view_is
    (kinds_hold (lanes_in c.self.inside) c.self.invariant.sound)
