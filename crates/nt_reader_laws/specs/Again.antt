-- The wait that a frame takes up again, by positions: the outcome of its last wait event.
use Rattle.nt_event.specs.Frames.{running, thread_frames}
use Rattle.nt_event.specs.Replies.{kernel_apc}
use Rattle.nt_event.specs.Routines.{cpu_of}
use Rattle.nt_event.specs.Step.{IsRun}
use Rattle.nt_event.specs.Waits.{is_of_thread}
use Rattle.nt_event.specs.declared.commands.Command.TheVariants.{Delay, StartWait}
use Rattle.nt_event.specs.declared.commands.Reply.TheVariants.{Blocked, Status}
use Rattle.nt_event.specs.declared.events.Event.{Event}
use Rattle.nt_event.specs.declared.events.What.{What}
use Rattle.nt_event.specs.declared.events.What.TheVariants.{Call, Rewait, Switch}
use Rattle.nt_event.specs.declared.numbers.ThreadNo.{ThreadNo}
use Rattle.nt_event.specs.declared.scripts.Script.{Script}
use Rattle.nt_readings.specs.Phases.{is_wait_reply}
use Rattle.nt_readings.specs.Positions.{At, EachAfter}
use Rattle.nt_readings.specs.Regions.{EachFrame, renews}
use Rattle.nt_reader_laws.specs.Waits.{takes_up}
use Rattle.std.specs.Prelude.{Bool, List, None, Option, Some, false, is_some, true, ℕ, ◌&&◌, ◌<◌, ◌==◌, ◌↔◌, ◌≡◌, ◌⊎◌}

-- the frame of this name calls a wait or delay that isn't refused, or takes one up
abbrev pub is_wait_event : ℕ → What → Bool
is_wait_event n (Call f (StartWait m a) y) = (f == n) && is_wait_reply y
is_wait_event n (Call f (Delay m a units) y) = (f == n) && is_wait_reply y
is_wait_event n (Rewait f y) = (f == n) && is_wait_reply y
is_wait_event n w = false

abbrev pub waits_by : Script → ThreadNo → ℕ → Event → Bool
waits_by s t n e = is_of_thread s t e && is_wait_event n e.what

-- the thread's frame of this name begins its phase anew
abbrev pub renews_by : Script → ThreadNo → ℕ → Event → Bool
renews_by s t n e = is_of_thread s t e && renews n e.what

-- event k is the last wait event of the frame in its present phase
abbrev pub IsLastWaitEvent : Script → ThreadNo → ℕ → ℕ → List Event → Type 0
IsLastWaitEvent s t n k past = (n < k) × At (λ e before. waits_by s t n e ≡ true) k past ×
    EachAfter (λ e before. (waits_by s t n e ≡ false) × (renews_by s t n e ≡ false)) k past

-- ---- outcomes

-- the status that a wait event answers at once
abbrev pub wait_status : What → Option ℕ
wait_status (Call f c (Status status)) = Some status
wait_status (Rewait f (Status status)) = Some status
wait_status w = None

-- or that it blocks
abbrev pub wait_blocks : What → Bool
wait_blocks (Call f c Blocked) = true
wait_blocks (Rewait f Blocked) = true
wait_blocks w = false

-- the status that a Switch carries
abbrev pub carried : What → Option ℕ
carried (Switch t status) = status
carried w = None

-- event m, the first after event k that takes the thread up, carries this status; `switches_carry_the_status` says that
-- it is the one with which the wait was ended
abbrev pub IsFirstTaken : Script → ThreadNo → ℕ → ℕ → List Event → Type 0
IsFirstTaken s t k status past = (m : ℕ) × (k < m) × At (λ e before. (takes_up s t e ≡ true) ×
    (carried e.what ≡ Some status) × EachAfter (λ e before. takes_up s t e ≡ false) k before) m past

-- the outcome of wait event k: the status that it answered, or, where it blocked, the one with which the thread was
-- taken up
abbrev pub IsOutcome : Script → ThreadNo → ℕ → ℕ → List Event → Type 0
IsOutcome s t k status past = At (λ e before. wait_status e.what ≡ Some status) k past ⊎
    (At (λ e before. wait_blocks e.what ≡ true) k past × IsFirstTaken s t k status past)

-- the frame's last wait event of its present phase has the outcome STATUS_KERNEL_APC
abbrev pub IsInterrupted : Script → ThreadNo → ℕ → List Event → Type 0
IsInterrupted s t n past = (k : ℕ) × IsLastWaitEvent s t n k past × IsOutcome s t k kernel_apc past

-- in a run, of a thread that runs: a frame of it has a wait to take up exactly where the last wait event of its present
-- phase had the outcome STATUS_KERNEL_APC. (It would refuse a wait that is taken up after another status, or that is
-- lost where an APC interrupted it at its call.)
abbrev pub WaitsAreTakenUpWhereInterrupted : Type 0
WaitsAreTakenUpWhereInterrupted = (s : Script) (limit : ℕ) (t : ThreadNo) (past : List Event) → IsRun s limit past →
    running (cpu_of s t) past ≡ Some t →
    EachFrame (λ f. (is_some f.again ≡ true) ↔ IsInterrupted s t f.name past) (thread_frames s (cpu_of s t) t past)
