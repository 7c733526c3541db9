-- Waits of a thread, by positions: the event by which it blocked, what ends the wait, and with which status.
use Rattle.nt_event.specs.Apcs.{deliverable, with_apc}
use Rattle.nt_event.specs.Lists.{when}
use Rattle.nt_event.specs.Regions.{stand_at}
use Rattle.nt_event.specs.Replies.{alerted, is_answer, is_user, kernel_apc, satisfied, user_apc}
use Rattle.nt_event.specs.Routines.{is_kernel_kind, owner_of}
use Rattle.nt_event.specs.Step.{IsRun}
use Rattle.nt_event.specs.Threads.{ThreadFacts, ended_status, is_alerted, is_gone, not_below, waiting}
use Rattle.nt_event.specs.Waits.{facts, is_of_thread, new_pick}
use Rattle.nt_event.specs.declared.commands.Command.TheVariants.{Alert, Delay, InsertApc, Release, StartWait}
use Rattle.nt_event.specs.declared.commands.Reply.TheVariants.{Blocked, Yes}
use Rattle.nt_event.specs.declared.commands.TimerKey.TheVariants.{Delay as OfDelay}
use Rattle.nt_event.specs.declared.events.Event.{Event}
use Rattle.nt_event.specs.declared.events.What.{What}
use Rattle.nt_event.specs.declared.events.What.TheVariants.{Call, Expire, Rewait, Switch}
use Rattle.nt_event.specs.declared.frames.Again.{Again}
use Rattle.nt_event.specs.declared.inserts.Pick.{Pick}
use Rattle.nt_event.specs.declared.jobs.Stand.{Stand}
use Rattle.nt_event.specs.declared.numbers.ThreadNo.{ThreadNo}
use Rattle.nt_event.specs.declared.scripts.Script.{Script}
use Rattle.nt_event.specs.declared.threads.Waiting.{Waiting}
use Rattle.nt_readings.specs.Frames.{ends_thread, is_switch_event}
use Rattle.nt_readings.specs.Positions.{At, EachAfter, Somewhere}
use Rattle.std.specs.Prelude.{Bool, List, None, Option, Some, false, if◌then◌else◌, is_some, length, not, option_map}
use Rattle.std.specs.Prelude.{true, ℕ, ◌&&◌, ◌==◌, ◌||◌, ◌↔◌, ◌∷◌, ◌≡◌}

-- ---- what blocks a thread

abbrev pub waiting_as : ℕ → Stand → Again → Waiting
waiting_as n st w =
    record {
      event = n;
      mode = w.mode;
      alertable = w.alertable;
      delay = is_some w.due;
      level = st.level;
      regions = st.regions;
    }

-- the wait in which the event of this number blocks, of a processor that stands so: a wait, a delay, or a wait that is
-- taken up again
abbrev pub blocked_in : ℕ → Stand → What → Option Waiting
blocked_in n st (Call f (StartWait m a) Blocked) =
    Some (waiting_as n st (record { mode = m; alertable = a; due = None }))
blocked_in n st (Call f (Delay m a units) Blocked) =
    Some (waiting_as n st (record { mode = m; alertable = a; due = Some units }))
blocked_in n st (Rewait f Blocked) = option_map (waiting_as n st) st.again
blocked_in n st w = None

-- the wait in which the event blocks the thread
abbrev pub blocks_in : Script → ThreadNo → Event → List Event → Option Waiting
blocks_in s t e before = when (is_of_thread s t e) (blocked_in (length before) (stand_at s e.cpu before) e.what)

-- ---- what ends a wait

-- the status with which an APC of this kind ends the wait: a kernel one where, with it among the pending ones, the
-- first is deliverable at the wait's level and in its regions, a user one where the wait is of user mode, and alertable
-- or the user-pending mark is set
abbrev pub apc_ends : Pick → ThreadFacts → Waiting → Option ℕ
apc_ends pick x w =
    if is_kernel_kind pick.kind
    then when (is_some (deliverable (with_apc pick x.apcs) w.regions w.level)) (Some kernel_apc)
    else when (is_user w.mode && (w.alertable || x.user_pending)) (Some user_apc)

-- the status with which the event of this number ends the wait of the thread, by its flags, mark and APCs before it: a
-- release, of no delay; an alert with the flag clear, of an alertable wait whose mode isn't below its own; an APC; the
-- expiry that names the event by which the delay blocked
abbrev pub ends_wait : Script → ThreadNo → ℕ → ThreadFacts → Waiting → What → Option ℕ
ends_wait s t n x w (Call f (Release u) y) = when ((is_answer y && (u.0 == t.0)) && not w.delay) (Some satisfied)
ends_wait s t n x w (Call f (Alert u m) y) =
    when ((is_answer y && (u.0 == t.0)) && (not (is_alerted m x) && (w.alertable && not_below w.mode m))) (Some alerted)
ends_wait s t n x w (Call f (InsertApc a) Yes) = when ((owner_of s a).0 == t.0) (apc_ends (new_pick s a n) x w)
ends_wait s t n x w (Expire (OfDelay u) from) =
    when ((u.0 == t.0) && (w.delay && (w.event == from))) (Some satisfied)
ends_wait s t n x w what = None

abbrev pub ends_it : Script → ThreadNo → Waiting → Event → List Event → Option ℕ
ends_it s t w e before = ends_wait s t (length before) (facts s t before) w e.what

-- ---- waiting, ended, gone

-- the thread blocked in the wait by the event that the wait names, and no later event ends it
abbrev pub IsWaiting : Script → ThreadNo → Waiting → List Event → Type 0
IsWaiting s t w past = At (λ e before. blocks_in s t e before ≡ Some w) w.event past ×
    EachAfter (λ e before. ends_it s t w e before ≡ None) w.event past

-- event m is the first that ended the wait, with this status
abbrev pub IsEndedBy : Script → ThreadNo → Waiting → ℕ → ℕ → List Event → Type 0
IsEndedBy s t w m status past =
    At (λ e before. IsWaiting s t w before × (ends_it s t w e before ≡ Some status)) m past

-- it takes the thread up
abbrev pub takes_up : Script → ThreadNo → Event → Bool
takes_up s t e = is_of_thread s t e && is_switch_event e.what

-- a wait of the thread was ended with this status, and it wasn't taken up since
abbrev pub IsEnded : Script → ThreadNo → ℕ → List Event → Type 0
IsEnded s t status past = (w : Waiting) × (m : ℕ) × IsEndedBy s t w m status past ×
    EachAfter (λ e before. takes_up s t e ≡ false) m past

-- it had its Gone
abbrev pub HasGone : ThreadNo → List Event → Type 0
HasGone t past = Somewhere (λ e before. ends_thread t e.what ≡ true) past

-- what a thread waits in, with which status its wait ended, and that it is gone
pub record WaitsRead (s : Script) (t : ThreadNo) (past : List Event) : Type 0 where
  pub waits : (w : Waiting) → (waiting (facts s t past) ≡ Some w) ↔ IsWaiting s t w past
  pub ended : (status : ℕ) → (ended_status (facts s t past) ≡ Some status) ↔ IsEnded s t status past
  pub gone : (is_gone (facts s t past) ≡ true) ↔ HasGone t past

-- in a run a thread waits exactly where an event blocked it and no later one ended the wait; it has the status of an
-- ended wait exactly where one was ended so and the thread was not taken up since; and it is gone exactly where it had
-- its Gone. (It would refuse a release that ends a delay, an alert that ends a wait of a mode below its own, an expiry
-- that ends a later delay.)
abbrev pub WaitsAreRead : Type 0
WaitsAreRead = (s : Script) (limit : ℕ) (t : ThreadNo) (past : List Event) → IsRun s limit past → WaitsRead s t past

-- in a run a Switch carries a status exactly where a wait of its thread was ended with it and the thread was not taken
-- up since
abbrev pub SwitchesCarryTheStatus : Type 0
SwitchesCarryTheStatus = (s : Script) (limit : ℕ) (t : ThreadNo) (e : Event) (past : List Event)
    (carried : Option ℕ) → IsRun s limit (e ∷ past) → e.what ≡ Switch t carried →
    (status : ℕ) → (carried ≡ Some status) ↔ IsEnded s t status past
