-- Keys that are set and the first due one, by positions in the history.
use Rattle.std.specs.Prelude.{Bool, List, None, Option, Some, false, length, option_and_then, true, ℕ, ◌&&◌, ◌+◌, ◌<◌}
use Rattle.std.specs.Prelude.{◌==◌, ◌↔◌, ◌≡◌, ◌≤◌, ◌⊎◌}
use Rattle.nt_event.specs.declared.commands.Command.TheVariants.{CancelTimer, Delay, SetTimer}
use Rattle.nt_event.specs.declared.commands.Reply.TheVariants.{Blocked, Yes}
use Rattle.nt_event.specs.declared.commands.TimerKey.{TimerKey}
use Rattle.nt_event.specs.declared.commands.TimerKey.TheVariants.{Delay as OfDelay, Timer as OfTimer}
use Rattle.nt_event.specs.declared.events.Event.{Event}
use Rattle.nt_event.specs.declared.events.What.{What}
use Rattle.nt_event.specs.declared.events.What.TheVariants.{Call, Expire, Rewait}
use Rattle.nt_event.specs.declared.frames.Again.{Again}
use Rattle.nt_event.specs.declared.inserts.Setting.{Setting}
use Rattle.nt_event.specs.declared.numbers.ThreadNo.{ThreadNo}
use Rattle.nt_event.specs.declared.numbers.TimerNo.{TimerNo}
use Rattle.nt_event.specs.declared.scripts.Script.{Script}
use Rattle.nt_event.specs.Frames.{time}
use Rattle.nt_event.specs.Regions.{stand_at}
use Rattle.nt_event.specs.Timers.{SetKey, delay_setting, first_due, timer_setting, timers_at}
use Rattle.nt_event.specs.Waits.{is_of_thread}
use Rattle.nt_event.specs.Replies.{is_answer}
use Rattle.nt_readings.specs.Positions.{At, EachAfter}

-- ---- timers

-- a `settimer` of it that is answered
abbrev pub sets_timer : TimerNo → What → Bool
sets_timer t (Call f (SetTimer x due period) y) = is_answer y && (x.0 == t.0)
sets_timer t w = false

-- a `canceltimer` of it with reply yes
abbrev pub cancels_timer : TimerNo → What → Bool
cancels_timer t (Call f (CancelTimer x) Yes) = x.0 == t.0
cancels_timer t w = false

-- its expiry
abbrev pub expires_timer : TimerNo → What → Bool
expires_timer t (Expire (OfTimer x) from) = x.0 == t.0
expires_timer t w = false

-- the due time and the period that a `settimer` names
abbrev pub named_due : What → ℕ
named_due (Call f (SetTimer x due period) y) = due
named_due w = 0

abbrev pub named_period : What → ℕ
named_period (Call f (SetTimer x due period) y) = period
named_period w = 0

-- p is the period of the timer's last `settimer`, since which it was not cancelled
abbrev pub IsPeriod : TimerNo → ℕ → List Event → Type 0
IsPeriod t p past = (m : ℕ) × At (λ e before. (sets_timer t e.what ≡ true) × (p ≡ named_period e.what)) m past ×
    EachAfter (λ e before. (sets_timer t e.what ≡ false) × (cancels_timer t e.what ≡ false)) m past

-- the event sets the timer so: a `settimer`, due its due time later, or its expiry with a period, due a period later
abbrev pub IsTimerSetBy : TimerNo → Setting → Event → List Event → Type 0
IsTimerSetBy t x e before = (x.number ≡ length before) ×
    (((sets_timer t e.what ≡ true) × (x.due ≡ time before + named_due e.what) × (x.period ≡ named_period e.what)) ⊎
    ((expires_timer t e.what ≡ true) × (0 < x.period) × IsPeriod t x.period before × (x.due ≡ time before + x.period)))

-- the event neither sets nor cancels nor expires the timer
abbrev pub LeavesTimer : TimerNo → Event → List Event → Type 0
LeavesTimer t e before = (sets_timer t e.what ≡ false) × (cancels_timer t e.what ≡ false) ×
    (expires_timer t e.what ≡ false)

-- the timer's last set event sets it so, and it was neither cancelled nor expired since
abbrev pub IsTimerSet : TimerNo → Setting → List Event → Type 0
IsTimerSet t x past = (n : ℕ) × At (IsTimerSetBy t x) n past × EachAfter (LeavesTimer t) n past

abbrev pub TimersAreSetLast : Type 0
TimersAreSetLast = (t : TimerNo) (x : Setting) (past : List Event) →
    (timer_setting t past ≡ Some x) ↔ IsTimerSet t x past

-- ---- delays

-- the due time of the delay in which the event blocks: a call of `delay`, or the wait that is taken up again
abbrev pub blocked_due : ℕ → Option Again → What → Option ℕ
blocked_due now again (Call f (Delay m a units) Blocked) = Some (now + units)
blocked_due now again (Rewait f Blocked) = option_and_then (λ w. w.due) again
blocked_due now again w = None

abbrev pub expires_delay : ThreadNo → What → Bool
expires_delay t (Expire (OfDelay u) from) = u.0 == t.0
expires_delay t w = false

abbrev pub due_blocked : Script → Event → List Event → Option ℕ
due_blocked s e before = blocked_due (time before) (stand_at s e.cpu before).again e.what

-- the thread blocks in a delay by the event, with this due time
abbrev pub IsDelaySetBy : Script → ThreadNo → Setting → Event → List Event → Type 0
IsDelaySetBy s t x e before = (x.number ≡ length before) × (x.period ≡ 0) × (is_of_thread s t e ≡ true) ×
    (due_blocked s e before ≡ Some x.due)

-- the thread doesn't block in a delay by the event, and its delay doesn't expire
abbrev pub LeavesDelay : Script → ThreadNo → Event → List Event → Type 0
LeavesDelay s t e before = (is_of_thread s t e ≡ true → due_blocked s e before ≡ None) ×
    (expires_delay t e.what ≡ false)

-- the thread's last delay that blocked has this due time, and it has not expired since
abbrev pub IsDelaySet : Script → ThreadNo → Setting → List Event → Type 0
IsDelaySet s t x past = (n : ℕ) × At (IsDelaySetBy s t x) n past × EachAfter (LeavesDelay s t) n past

abbrev pub DelaysAreSetLast : Type 0
DelaysAreSetLast = (s : Script) (t : ThreadNo) (x : Setting) (past : List Event) →
    (delay_setting s t past ≡ Some x) ↔ IsDelaySet s t x past

-- ---- the first due key

-- the key is one of the script's and is set so
abbrev pub IsKeySet : Script → List Event → TimerKey → Setting → Type 0
IsKeySet s past (OfTimer t) x = (t.0 < length s.timers) × IsTimerSet t x past
IsKeySet s past (OfDelay t) x = (t.0 < length s.threads) × IsDelaySet s t x past

abbrev pub IsNotLater : Setting → Setting → Type 0
IsNotLater a b = (a.due < b.due) ⊎ ((a.due ≡ b.due) × (a.number ≤ b.number))

-- what is answered as the first due key: a set key that is due, the least by due time and number of the set event among
-- these
abbrev pub IsFirstDueKey : Script → List Event → Option SetKey → Type 0
IsFirstDueKey s past None = (key : TimerKey) (x : Setting) → IsKeySet s past key x → time past < x.due
IsFirstDueKey s past (Some k) = IsKeySet s past k.key k.setting × (k.setting.due ≤ time past) ×
    ((key : TimerKey) (x : Setting) → IsKeySet s past key x → x.due ≤ time past → IsNotLater k.setting x)

-- the first due key is the least by due time and number of the set event of the keys that are set and due, and none
-- where none is
abbrev pub FirstDueKeyIsLeast : Type 0
FirstDueKeyIsLeast = (s : Script) (past : List Event) → IsFirstDueKey s past (first_due (timers_at s past))
