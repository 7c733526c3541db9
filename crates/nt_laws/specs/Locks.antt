-- Who holds a spin lock, and who spins on it.
use Rattle.std.specs.List.{Contains}
use Rattle.std.specs.Prelude.{List, None, Some, [], true, ℕ, ◌↔◌, ◌≡◌, ◌⊎◌}
use Rattle.nt_event.specs.declared.events.Event.{Event}
use Rattle.nt_event.specs.declared.frames.Held.{Held}
use Rattle.nt_event.specs.declared.numbers.CpuNo.{CpuNo}
use Rattle.nt_event.specs.declared.numbers.LockNo.{LockNo}
use Rattle.nt_event.specs.declared.numbers.ThreadNo.{ThreadNo}
use Rattle.nt_event.specs.declared.scripts.Script.{Script}
use Rattle.nt_event.specs.Commands.{holds}
use Rattle.nt_event.specs.Frame.{Frame}
use Rattle.nt_event.specs.Frames.{frames_of, own_frames, running, thread_frames, thread_part}
use Rattle.nt_event.specs.Locks.{lock_of, spins_at}
use Rattle.nt_event.specs.Routines.{cpu_of}
use Rattle.nt_event.specs.Script.{has_cpu, has_lock}
use Rattle.nt_event.specs.Step.{IsRun}

-- ---- frames

-- the frame is open: it stands on the own part of a processor, or on a thread's part
abbrev pub IsOpen : Script → List Event → Frame → Type 0
IsOpen s past f = ((p : CpuNo) × Contains (own_frames p past) f) ⊎
    ((t : ThreadNo) × Contains (thread_frames s (cpu_of s t) t past) f)

-- it stands on the processor, or on the part of the thread that runs there
abbrev pub StandsOn : Script → CpuNo → List Event → Frame → Type 0
StandsOn s p past f = Contains (own_frames p past) f ⊎ Contains (thread_part (frames_of s p past)) f

-- the frame spins on the lock
abbrev pub SpinsOn : LockNo → Frame → Type 0
SpinsOn k f = (h : Held) × (f.spin ≡ Some h) × (h.lock ≡ k)

-- a frame of the processor holds the lock
abbrev pub ProcessorHolds : Script → CpuNo → LockNo → List Event → Type 0
ProcessorHolds s p k past = (f : Frame) × StandsOn s p past f × (holds k f ≡ true)

-- one spins on it
abbrev pub ProcessorSpins : Script → CpuNo → LockNo → List Event → Type 0
ProcessorSpins s p k past = (f : Frame) × StandsOn s p past f × SpinsOn k f

-- ---- laws

-- in a run a lock of the script is held by at most one open frame
abbrev pub AtMostOneFrameHolds : Type 0
AtMostOneFrameHolds = (s : Script) (limit : ℕ) (k : LockNo) (past : List Event) (f g : Frame) → IsRun s limit past →
    has_lock s k ≡ true → IsOpen s past f → IsOpen s past g → holds k f ≡ true → holds k g ≡ true → f ≡ g

-- in a run a frame of a thread that doesn't run holds no lock and spins on none
abbrev pub StoppedThreadsHoldNone : Type 0
StoppedThreadsHoldNone = (s : Script) (limit : ℕ) (t : ThreadNo) (past : List Event) (f : Frame) → IsRun s limit past →
    (running (cpu_of s t) past ≡ Some t → ⊥) → Contains (thread_frames s (cpu_of s t) t past) f →
    (f.held ≡ []) × (f.spin ≡ None)

-- in a run a processor spins on at most one lock
abbrev pub SpinsOnOneLock : Type 0
SpinsOnOneLock = (s : Script) (limit : ℕ) (p : CpuNo) (j k : LockNo) (past : List Event) → IsRun s limit past →
    ProcessorSpins s p j past → ProcessorSpins s p k past → j ≡ k

-- and on none that its own frames hold
abbrev pub SpinsOnNoLockOfItsOwn : Type 0
SpinsOnNoLockOfItsOwn = (s : Script) (limit : ℕ) (p : CpuNo) (k : LockNo) (past : List Event) → IsRun s limit past →
    ProcessorSpins s p k past → ProcessorHolds s p k past → ⊥

-- what the lane of the lock says of the processor is what its frames do
pub record LaneTells (s : Script) (p : CpuNo) (k : LockNo) (past : List Event) : Type 0 where
  pub holds : ((lock_of s k past).holder ≡ Some p) ↔ ProcessorHolds s p k past
  pub spins : (spins_at (lock_of s k past) p ≡ true) ↔ ProcessorSpins s p k past

-- in a run the lane of a lock of the script names the processor whose frame holds it, if any, and those that spin on it
abbrev pub LanesTellLocks : Type 0
LanesTellLocks = (s : Script) (limit : ℕ) (p : CpuNo) (k : LockNo) (past : List Event) → IsRun s limit past →
    has_cpu s p ≡ true → has_lock s k ≡ true → LaneTells s p k past
