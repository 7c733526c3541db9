-- Time, timers and delays (Windows Internals, "Timer processing"; driver documentation, "KeSetTimerEx").
use Rattle.std.specs.List.{reduce}
use Rattle.std.specs.Prelude.{Bool, List, None, Option, Some, [], filter, get_or, if◌then◌else◌, is_some, length}
use Rattle.std.specs.Prelude.{nat_le, nat_lt, option_and_then, suc, ℕ, ◌&&◌, ◌++◌, ◌+◌, ◌==◌, ◌||◌, ◌∷◌}
use Rattle.nt_event.specs.declared.commands.TimerKey.{TimerKey}
use Rattle.nt_event.specs.declared.commands.TimerKey.TheVariants as keys
use Rattle.nt_event.specs.declared.events.Event.{Event}
use Rattle.nt_event.specs.declared.events.What.{What}
use Rattle.nt_event.specs.declared.frames.Again.{Again}
use Rattle.nt_event.specs.declared.inserts.Setting.{Setting}
use Rattle.nt_event.specs.declared.jobs.Stand.{Stand}
use Rattle.nt_event.specs.declared.numbers.ThreadNo.{ThreadNo}
use Rattle.nt_event.specs.declared.numbers.TimerNo.{TimerNo}
use Rattle.nt_event.specs.declared.scripts.Script.{Script}
use Rattle.nt_event.specs.Frames.{time, time_after}
use Rattle.nt_event.specs.Regions.{stand_at}
use Rattle.nt_event.specs.Waits.{is_of_thread}
use Rattle.nt_event.specs.Replies.{is_answer}
use Rattle.nt_event.specs.Lists.{table}
use Rattle.nt_event.specs.Numbers.{thread, timer}
use Rattle.nt_event.specs.Families.{DelaysIn, GivesWay, OwnCall, StartTimer, StopTimer, TestsAlert, TimerCall, WaitsIn}
use Rattle.nt_event.specs.Families.{by_own_call, by_timer_call, in_call, in_expiry, in_rewait}
use Rattle.nt_event.specs.declared.commands.Reply.{Reply}
use Rattle.nt_event.specs.Replies.{is_blocked, is_yes}

-- the time, and for each timer and each thread's delay that is set, when it is due
pub record Timers : Type 0 where
  pub now : ℕ
  pub timers : List (Option Setting)
  pub delays : List (Option Setting)

-- an expired timer with a period is set anew from the time of its expiry (profile)
abbrev pub renewed : ℕ → ℕ → Option Setting → Option Setting
renewed n now None = None
renewed n now (Some x) =
    if x.period == 0 then None else Some (record { due = now + x.period; number = n; period = x.period })

-- what a call leaves of a timer: a set, whichever its answer, or a cancel
abbrev pub timer_called : TimerNo → ℕ → ℕ → TimerCall → Reply → Option Setting → Option Setting
timer_called t n now (StartTimer x due period) y old =
    if is_answer y && (x.0 == t.0) then Some (record { due = now + due; number = n; period = period }) else old
timer_called t n now (StopTimer x) y old = if is_yes y && (x.0 == t.0) then None else old

abbrev pub timer_expired : TimerNo → ℕ → ℕ → TimerKey → Option Setting → Option Setting
timer_expired t n now (keys.Timer x) old = if x.0 == t.0 then renewed n now old else old
timer_expired t n now (keys.Delay u) old = old

-- what the event of this number leaves of a timer at this time
abbrev pub timer_after : TimerNo → ℕ → ℕ → What → Option Setting → Option Setting
timer_after t n now w old =
    in_call (λ f c y. by_timer_call (λ k. timer_called t n now k y old) old c)
    (in_expiry (λ key from. timer_expired t n now key old) old w) w

abbrev pub timer_setting : TimerNo → List Event → Option Setting
timer_setting t [] = None
timer_setting t (e ∷ past) = timer_after t (length past) (time past) e.what (timer_setting t past)

-- a delay is set by the event that blocked
abbrev pub delay_set : ℕ → Option ℕ → Option Setting → Option Setting
delay_set n None old = old
delay_set n (Some due) old = Some (record { due = due; number = n; period = 0 })

abbrev pub delay_called : ℕ → ℕ → OwnCall → Reply → Option Setting → Option Setting
delay_called n now (DelaysIn m a units) y old = if is_blocked y then delay_set n (Some (now + units)) old else old
delay_called n now (WaitsIn m a) y old = old
delay_called n now (TestsAlert m) y old = old
delay_called n now GivesWay y old = old

-- what an event that the thread makes leaves of its delay: a call at this time, or the wait that is taken up again
abbrev pub blocked_after : ℕ → ℕ → Option Again → What → Option Setting → Option Setting
blocked_after n now again w old =
    in_call (λ f c y. by_own_call (λ k. delay_called n now k y old) old c)
    (in_rewait (λ f y. if is_blocked y then delay_set n (option_and_then (λ w. w.due) again) old else old) old w) w

abbrev pub delay_expired : ThreadNo → TimerKey → Option Setting → Option Setting
delay_expired t (keys.Delay u) old = if u.0 == t.0 then None else old
delay_expired t (keys.Timer u) old = old

abbrev pub expired_delay : ThreadNo → What → Option Setting → Option Setting
expired_delay t w old = in_expiry (λ key from. delay_expired t key old) old w

abbrev pub delay_after : Script → ThreadNo → ℕ → ℕ → Option Again → Event → Option Setting → Option Setting
delay_after s t n now again e old =
    expired_delay t e.what (if is_of_thread s t e then blocked_after n now again e.what old else old)

abbrev pub delay_setting : Script → ThreadNo → List Event → Option Setting
delay_setting s t [] = None
delay_setting s t (e ∷ past) =
    delay_after s t (length past) (time past) (stand_at s e.cpu past).again e (delay_setting s t past)

abbrev pub timers_at : Script → List Event → Timers
timers_at s past =
    record {
      now = time past;
      timers = table (length s.timers) (λ t. timer_setting (timer t) past);
      delays = table (length s.threads) (λ t. delay_setting s (thread t) past);
    }

abbrev pub setting_in : List (Option Setting) → ℕ → Option Setting
setting_in xs n = get_or xs n None

-- what the event of this number leaves of the timers, where its processor stood so
abbrev pub timers_after : Script → ℕ → Stand → Event → Timers → Timers
timers_after s n st e x =
    record {
      now = time_after e.what x.now;
      timers = table (length s.timers) (λ t. timer_after (timer t) n x.now e.what (setting_in x.timers t));
      delays = table (length s.threads) (λ t. delay_after s (thread t) n x.now st.again e (setting_in x.delays t));
    }

-- ---- the first due key

pub record SetKey : Type 0 where
  pub key : TimerKey
  pub setting : Setting

-- the keys that are set, from this number on
abbrev pub keyed : (ℕ → TimerKey) → ℕ → List (Option Setting) → List SetKey
keyed key n [] = []
keyed key n (None ∷ xs) = keyed key (suc n) xs
keyed key n (Some x ∷ xs) = record { key = key n; setting = x } ∷ keyed key (suc n) xs

abbrev pub set_keys : Timers → List SetKey
set_keys x = keyed (λ n. keys.Timer (timer n)) 0 x.timers ++ keyed (λ n. keys.Delay (thread n)) 0 x.delays

-- a key is due where its due time is at most the time
abbrev pub is_due_key : ℕ → SetKey → Bool
is_due_key now x = nat_le x.setting.due now

-- profile: due timers expire by due time, then by the number of the set event
abbrev pub is_earlier : SetKey → SetKey → Bool
is_earlier a b =
    nat_lt a.setting.due b.setting.due || ((a.setting.due == b.setting.due) && nat_lt a.setting.number b.setting.number)

abbrev pub earlier : SetKey → SetKey → SetKey
earlier a b = if is_earlier b a then b else a

abbrev pub first_due : Timers → Option SetKey
first_due x = reduce earlier (filter (is_due_key x.now) (set_keys x))

abbrev pub is_set_timer : Timers → TimerNo → Bool
is_set_timer x t = is_some (setting_in x.timers t.0)
