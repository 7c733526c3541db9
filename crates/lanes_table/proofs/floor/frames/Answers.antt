use Rattle.std.proofs.Common.{arith, subst, sym}
use Rattle.nt_event.specs.Frames.{Frames}
use Rattle.nt_frame.specs.Changes.{no_frames}
use Rattle.nt_frame.specs.Nesting.{AreNamedBelow}
use Rattle.nt_frame.proofs.Below.{below_more, below_start}
use Rattle.lanes_table.proofs.floor.frames.Goals as goal

pub begin-requires-clause-number : goal.begin-requires-clause-number
begin-requires-clause-number c =
    subst (λ (x : Frames). AreNamedBelow 7 x) (sym c.in_ok-frames.ensures.none) (below_more 0 7 (no_frames 1) (omega arith) (below_start 1))
