-- Spin locks, by positions: which locks a frame holds, on which one it spins, and the level that it keeps with each.
use Rattle.std.specs.Prelude.{List, Option, Some, [], length, true, ℕ, ◌<◌, ◌∷◌, ◌↔◌, ◌≡◌, ◌≤◌, ◌⊎◌}
use Rattle.nt_event.specs.declared.commands.Command.TheVariants.{Acquire, Unlock}
use Rattle.nt_event.specs.declared.commands.Reply.TheVariants.{Done, Spin}
use Rattle.nt_event.specs.declared.events.Event.{Event}
use Rattle.nt_event.specs.declared.events.What.{What}
use Rattle.nt_event.specs.declared.events.What.TheVariants.{Call, Free}
use Rattle.nt_event.specs.declared.frames.Held.{Held}
use Rattle.nt_event.specs.declared.numbers.CpuNo.{CpuNo}
use Rattle.nt_event.specs.declared.numbers.LockNo.{LockNo}
use Rattle.nt_event.specs.declared.numbers.ThreadNo.{ThreadNo}
use Rattle.nt_event.specs.declared.scripts.Script.{Script}
use Rattle.nt_event.specs.Frame.{Frame}
use Rattle.nt_event.specs.Frames.{frames_of, innermost, own_frames, thread_frames}
use Rattle.nt_event.specs.Routines.{cpu_of}
use Rattle.nt_event.specs.Step.{IsRun}
use Rattle.nt_runs.specs.SomeFrame.{among}
use Rattle.nt_readings.specs.Positions.{At, EachAfter, Everywhere}
use Rattle.nt_readings.specs.Regions.{EachFrame, phase_of}
use Rattle.nt_event.specs.Families.{in_call}

-- ---- what an event does to a lock of its frame

-- the frame gets the lock
abbrev pub IsGet : ℕ → LockNo → What → Type 0
IsGet n k w = w ≡ Call n (Acquire k) Done

-- it finds the lock held by another frame, and spins
abbrev pub IsSpin : ℕ → LockNo → What → Type 0
IsSpin n k w = w ≡ Call n (Acquire k) Spin

-- it frees the lock, by a command or once its routine has ended
abbrev pub IsFreeing : ℕ → LockNo → What → Type 0
IsFreeing n k w = (w ≡ Call n (Unlock k) Done) ⊎ (w ≡ Free n k)

-- the frame calls a command
abbrev pub IsCallOf : ℕ → What → Type 0
IsCallOf n w = in_call (λ f c y. f ≡ n) ⊥ w

-- ---- holding and spinning

-- by event m the frame got the lock, and no later event of the frame frees it
abbrev pub HoldsSince : ℕ → LockNo → List Event → ℕ → Type 0
HoldsSince n k past m = (n < m) × At (λ e before. IsGet n k e.what) m past ×
    EachAfter (λ e before. IsFreeing n k e.what → ⊥) m past

-- event m is the last call of the frame in its present phase, and it spins on the lock by it
abbrev pub SpinsSince : ℕ → LockNo → List Event → ℕ → Type 0
SpinsSince n k past m = (phase_of n past < m) × At (λ e before. IsSpin n k e.what) m past ×
    EachAfter (λ e before. IsCallOf n e.what → ⊥) m past

abbrev pub IsHolding : ℕ → LockNo → List Event → Type 0
IsHolding n k past = (m : ℕ) × HoldsSince n k past m

abbrev pub IsSpinning : ℕ → LockNo → List Event → Type 0
IsSpinning n k past = (m : ℕ) × SpinsSince n k past m

-- ---- the level that is kept

-- the frame is the innermost one of the event's processor, and has this level just before the event
abbrev pub IsLevelBefore : Script → ℕ → ℕ → Event → List Event → Type 0
IsLevelBefore s n v e before = (f : Frame) × (innermost (frames_of s e.cpu before) ≡ Some f) × (f.name ≡ n) ×
    (f.level ≡ v)

-- a first try for the lock, at this level: the frame doesn't spin on it just before
abbrev pub IsFirstTry : Script → ℕ → LockNo → ℕ → Event → List Event → Type 0
IsFirstTry s n k v e before = (IsGet n k e.what ⊎ IsSpin n k e.what) × (IsSpinning n k before → ⊥) ×
    IsLevelBefore s n v e before

-- each call of the frame from event j to before event m spins on the lock
abbrev pub EachSpins : ℕ → LockNo → ℕ → ℕ → List Event → Type 0
EachSpins n k j m past =
    Everywhere (λ e before. j ≤ length before → length before < m → IsCallOf n e.what → IsSpin n k e.what) past

-- the level of just before the first of the tries of which event m is the last
abbrev pub IsKept : Script → ℕ → LockNo → ℕ → List Event → ℕ → Type 0
IsKept s n k v past m = (j : ℕ) × (j ≤ m) × At (IsFirstTry s n k v) j past × EachSpins n k j m past

-- the frame holds the lock, and keeps this level with it
abbrev pub IsKeptWith : Script → ℕ → LockNo → ℕ → List Event → Type 0
IsKeptWith s n k v past = (m : ℕ) × HoldsSince n k past m × IsKept s n k v past m

-- ---- the locks of a frame

-- these are held by the frame with the levels that it keeps, the one acquired last first, all acquired before event m
abbrev pub AreHeld : Script → ℕ → List Event → ℕ → List Held → Type 0
AreHeld s n past m [] = Unit {0}
AreHeld s n past m (h ∷ hs) = (i : ℕ) × (i < m) × HoldsSince n h.lock past i ×
    IsKept s n h.lock h.kept past i × AreHeld s n past i hs

-- what the events of the frame of this name tell of the locks that it holds, and of the one on which it spins
pub record LocksTold (s : Script) (past : List Event) (n : ℕ) (held : List Held) (spin : Option Held) : Type 0 where
  pub holds : (k : LockNo) → (among k held ≡ true) ↔ IsHolding n k past
  pub kept : AreHeld s n past (length past) held
  pub spins : (h : Held) → spin ≡ Some h → (m : ℕ) × SpinsSince n h.lock past m × IsKept s n h.lock h.kept past m
  pub spinning : (k : LockNo) → IsSpinning n k past → (h : Held) × (spin ≡ Some h) × (h.lock ≡ k)

abbrev pub LocksToldOf : Script → List Event → Frame → Type 0
LocksToldOf s past f = LocksTold s past f.name f.held f.spin

-- so of each open frame
pub record EachLocksTold (s : Script) (past : List Event) : Type 0 where
  pub own : (p : CpuNo) → EachFrame (LocksToldOf s past) (own_frames p past)
  pub threads : (t : ThreadNo) → EachFrame (LocksToldOf s past) (thread_frames s (cpu_of s t) t past)

-- in a run a frame holds a lock exactly where it got it and didn't free it since, and spins on one exactly where its
-- last call in its present phase spins on it; the level that it keeps is that of just before the first of the tries
abbrev pub LocksAreTold : Type 0
LocksAreTold = (s : Script) (limit : ℕ) (past : List Event) → IsRun s limit past → EachLocksTold s past
