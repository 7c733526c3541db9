-- What an open frame tells, by the events of its present phase: its level, its place, its phase and the wait that it
-- takes up.
use Rattle.std.specs.Prelude.{Bool, List, None, Option, Some, false, if◌then◌else◌, not, true, ℕ, ◌&&◌, ◌+◌, ◌<◌, ◌==◌}
use Rattle.std.specs.Prelude.{◌∷◌, ◌≡◌, ◌⊎◌}
use Rattle.nt_event.specs.declared.commands.Command.TheVariants.{Delay, Lower, Raise, StartWait}
use Rattle.nt_event.specs.declared.numbers.LockNo.{LockNo}
use Rattle.nt_event.specs.declared.commands.Reply.{Reply}
use Rattle.nt_event.specs.declared.commands.Reply.TheVariants.{Blocked, Done, Status}
use Rattle.nt_event.specs.declared.events.Event.{Event}
use Rattle.nt_event.specs.declared.events.What.{What}
use Rattle.nt_event.specs.declared.events.What.TheVariants.{Call, Normal, Rewait}
use Rattle.nt_event.specs.declared.frames.Again.{Again}
use Rattle.nt_event.specs.Frame.{Frame}
use Rattle.nt_event.specs.declared.numbers.CpuNo.{CpuNo}
use Rattle.nt_event.specs.declared.numbers.ThreadNo.{ThreadNo}
use Rattle.nt_event.specs.declared.scripts.Script.{Script}
use Rattle.nt_event.specs.Frames.{base_of, is_apc_body, own_frames, thread_frames, time}
use Rattle.nt_event.specs.Regions.{stand_at}
use Rattle.nt_event.specs.Routines.{cpu_of}
use Rattle.nt_event.specs.Step.{IsRun}
use Rattle.nt_event.specs.Replies.{is_spin}
use Rattle.nt_readings.specs.Locks.{IsFreeing, IsGet, IsKeptWith, IsSpin}
use Rattle.nt_readings.specs.Positions.{At, EachAfter}
use Rattle.nt_readings.specs.Regions.{EachFrame, count_after, phase_of}
use Rattle.nt_event.specs.Families.{in_call}

-- the frame calls a command, which it needn't try again
abbrev pub is_call_of : ℕ → What → Bool
is_call_of n w = in_call (λ f c y. (f == n) && not (is_spin y)) false w

-- the frame goes on to its normal routine
abbrev pub is_normal_of : ℕ → What → Bool
is_normal_of n (Normal f) = f == n
is_normal_of n w = false

-- the frame raises or lowers to this level, and the call is accepted
abbrev pub IsLevelCall : ℕ → ℕ → What → Type 0
IsLevelCall n v w = (w ≡ Call n (Raise v) Done) ⊎ (w ≡ Call n (Lower v) Done)

-- the event changes the level of the frame: an accepted `raise` or `lower`, a try for a lock, a lock that is freed
abbrev pub IsLevelEvent : ℕ → What → Type 0
IsLevelEvent n w = ((v : ℕ) × IsLevelCall n v w) ⊎
    (((k : LockNo) × (IsGet n k w ⊎ IsSpin n k w)) ⊎ ((k : LockNo) × IsFreeing n k w))

-- and to this one: that of the `raise` or `lower`, DISPATCH_LEVEL, or the one kept with the lock
abbrev pub LeavesLevel : Script → ℕ → ℕ → Event → List Event → Type 0
LeavesLevel s n v e before = IsLevelCall n v e.what ⊎
    (((v ≡ 2) × ((k : LockNo) × (IsGet n k e.what ⊎ IsSpin n k e.what))) ⊎
    ((k : LockNo) × IsFreeing n k e.what × IsKeptWith s n k v before))

-- a wait or delay answers with a status or blocks, where it isn't refused
abbrev pub is_wait_reply : Reply → Bool
is_wait_reply Blocked = true
is_wait_reply (Status status) = true
is_wait_reply y = false

-- the wait that the frame calls at this time, where the call isn't refused
abbrev pub wait_called : ℕ → ℕ → What → Option Again
wait_called n now (Call f (StartWait m a) y) =
    if f == n then (if is_wait_reply y then Some (record { mode = m; alertable = a; due = None }) else None) else None
wait_called n now (Call f (Delay m a units) y) =
    if f == n then (if is_wait_reply y then Some (record { mode = m; alertable = a; due = Some (now + units) })
    else None) else None
wait_called n now w = None

-- the level is the one to which the last such event of the present phase changed it, else the frame's base level in it
abbrev pub IsLeveled : Script → List Event → Frame → Type 0
IsLeveled s past f = ((f.level ≡ base_of f) ×
    EachAfter (λ e before. IsLevelEvent f.name e.what → ⊥) (phase_of f.name past) past) ⊎
    ((m : ℕ) × (phase_of f.name past < m) × At (LeavesLevel s f.name f.level) m past ×
    EachAfter (λ e before. IsLevelEvent f.name e.what → ⊥) m past)

-- the place is the count of the calls of the present phase that aren't tried again
abbrev pub IsPlaced : List Event → Frame → Type 0
IsPlaced past f = f.place ≡ count_after (is_call_of f.name) (phase_of f.name past) past

-- it is in its kernel routine exactly where it is an APC's and has no Normal
abbrev pub IsPhased : List Event → Frame → Type 0
IsPhased past f = (f.kernel_phase ≡ true → (is_apc_body f.body ≡ true) ×
    EachAfter (λ e before. is_normal_of f.name e.what ≡ false) f.name past) ×
    (is_apc_body f.body ≡ true → EachAfter (λ e before. is_normal_of f.name e.what ≡ false) f.name past →
    f.kernel_phase ≡ true)

-- the wait is the last one that the frame called in its present phase
abbrev pub IsLastWait : ℕ → Again → List Event → Type 0
IsLastWait n w past = (k : ℕ) × (phase_of n past < k) ×
    At (λ e before. wait_called n (time before) e.what ≡ Some w) k past ×
    EachAfter (λ e before. wait_called n (time before) e.what ≡ None) k past

-- a wait to take up is the last one that the frame called in its present phase, with that call's mode, kind and due
-- time
abbrev pub IsWaited : List Event → Frame → Type 0
IsWaited past f = (w : Again) → f.again ≡ Some w → IsLastWait f.name w past

pub record IsTold (s : Script) (past : List Event) (f : Frame) : Type 0 where
  pub level : IsLeveled s past f
  pub place : IsPlaced past f
  pub phase : IsPhased past f
  pub wait : IsWaited past f

-- in a run each open frame is told by the events of its present phase
pub record FramesTold (s : Script) (past : List Event) : Type 0 where
  pub own : (p : CpuNo) → EachFrame (IsTold s past) (own_frames p past)
  pub threads : (t : ThreadNo) → EachFrame (IsTold s past) (thread_frames s (cpu_of s t) t past)

abbrev pub FramesAreTold : Type 0
FramesAreTold = (s : Script) (limit : ℕ) (past : List Event) → IsRun s limit past → FramesTold s past

-- ---- waits that are taken up

-- in a run a Rewait takes up the last wait that its frame called in its present phase, with that call's mode, kind and
-- due time
abbrev pub WaitsAreTakenUpAsCalled : Type 0
WaitsAreTakenUpAsCalled = (s : Script) (limit : ℕ) (e : Event) (past : List Event) (n : ℕ) (y : Reply) →
    IsRun s limit (e ∷ past) → e.what ≡ Rewait n y → (w : Again) × ((stand_at s e.cpu past).again ≡ Some w) ×
    IsLastWait n w past
