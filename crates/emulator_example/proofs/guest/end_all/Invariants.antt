use Rattle.nt_frame.specs.Nesting.{AreNamedBelow, frame_count}
use Rattle.emulator_example.proofs.guest.end_all.Given as goal

abbrev pub invariant-loop-frames : goal.invariant-loop-frames
invariant-loop-frames l = AreNamedBelow l.n l.frames

abbrev pub decreases-loop-frames : goal.decreases-loop-frames
decreases-loop-frames l = frame_count l.frames
