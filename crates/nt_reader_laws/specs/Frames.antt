-- In every run the events of a processor are calls of its frames.
use Rattle.nt_event.specs.Frames.{frames_of}
use Rattle.nt_event.specs.Step.{IsRun}
use Rattle.nt_event.specs.declared.events.Event.{Event}
use Rattle.nt_event.specs.declared.numbers.CpuNo.{CpuNo}
use Rattle.nt_event.specs.declared.scripts.Script.{Script}
use Rattle.nt_frame.specs.Calls.{left_by_all}
use Rattle.nt_frame.specs.Changes.{no_frames}
use Rattle.nt_frame.specs.EventCalls.{EachIsMade, calls_in}
use Rattle.nt_frame.specs.Nesting.{AreNested}
use Rattle.std.proofs.Common.{◌^◌}
use Rattle.std.specs.Prelude.{List, length, ℕ, ◌<◌, ◌≡◌}

-- in a run whose turn limit is a number of 32 bits, each event of a processor is one that it may make where its frames
-- are those of the history before; so its frames are what the calls for its events leave, one after another, beginning
-- with none. (Without the bound a thread could enter a region more often than 32 bits count.)
pub record AreCalls (s : Script) (p : CpuNo) (past : List Event) : Type 0 where
  pub made : EachIsMade s p past
  pub nested : AreNested (frames_of s p past)
  pub left : frames_of s p past ≡ left_by_all (calls_in s p past) (no_frames (length s.threads))

abbrev pub FramesAreCalls : Type 0
FramesAreCalls = (s : Script) (limit : ℕ) (p : CpuNo) (past : List Event) → IsRun s limit past → limit < 2 ^ 32 →
    AreCalls s p past
