-- What the frames of a processor hold and spin on.
use Rattle.std.specs.List.{list_any}
use Rattle.std.specs.Option.{option_map_or}
use Rattle.std.specs.Prelude.{Bool, List, Option, false, ◌==◌, ◌||◌}
use Rattle.nt_event.specs.declared.events.Event.{Event}
use Rattle.nt_event.specs.Frame.{Frame}
use Rattle.nt_event.specs.declared.frames.Held.{Held}
use Rattle.nt_event.specs.declared.numbers.CpuNo.{CpuNo}
use Rattle.nt_event.specs.declared.numbers.LockNo.{LockNo}
use Rattle.nt_event.specs.declared.scripts.Script.{Script}
use Rattle.nt_event.specs.Frames.{frames_of, own_frames, thread_part}

-- the lock is one of these
abbrev pub among : LockNo → List Held → Bool
among k hs = list_any (λ h. h.lock.0 == k.0) hs

-- tests of a frame by the locks that it holds and the one on which it spins
abbrev pub holds_lock : LockNo → List Held → Option Held → Bool
holds_lock k hs o = among k hs

abbrev pub spins_lock : LockNo → List Held → Option Held → Bool
spins_lock k hs o = option_map_or (λ h. h.lock.0 == k.0) o false

abbrev pub on_frame : (List Held → Option Held → Bool) → Frame → Bool
on_frame U f = U f.held f.spin

-- some frame of the processor, on its own part or the running thread's, passes the test
abbrev pub some_frame : (List Held → Option Held → Bool) → Script → CpuNo → List Event → Bool
some_frame U s p past =
    list_any (on_frame U) (own_frames p past) || list_any (on_frame U) (thread_part (frames_of s p past))
