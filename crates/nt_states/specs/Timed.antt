-- What an event leaves of the timers, as a change of the time or of one setting, and when it may be made.
use Rattle.std.specs.Prelude.{IfSome, None, Option, Some, length, option_and_then, option_map, ℕ, ◌+◌, ◌<◌, ◌≡◌}
use Rattle.std.specs.Prelude.{if◌then◌else◌}
use Rattle.nt_event.specs.declared.commands.Command.{Command}
use Rattle.nt_event.specs.declared.commands.Reply.{Reply}
use Rattle.nt_event.specs.declared.commands.Reply.TheVariants.{Blocked, Done, No, Yes, Refused, Spin, Status}
use Rattle.nt_event.specs.declared.commands.TimerKey.TheVariants.{Delay as OfDelay, Timer as OfTimer}
use Rattle.nt_event.specs.declared.events.Event.{Event}
use Rattle.nt_event.specs.declared.events.What.{What}
use Rattle.nt_event.specs.declared.jobs.Stand.{Stand}
use Rattle.nt_event.specs.declared.numbers.ThreadNo.{ThreadNo}
use Rattle.nt_event.specs.declared.scripts.Script.{Script}
use Rattle.nt_event.specs.Timers.{Timers}
use Rattle.nt_timer.specs.Laws.{IsMadeBy}
use Rattle.nt_timer.specs.Settings.{due_at, due_entry, expired, with_setting}
use Rattle.nt_event.specs.Families.{DelaysIn, GivesWay, OwnCall, StartTimer, StopTimer, TestsAlert, TimerCall, WaitsIn}
use Rattle.nt_event.specs.Families.{by_own_call, by_plain_call, by_timer_call, in_call, in_expiry, in_rewait}
use Rattle.nt_event.specs.Replies.{is_answer, is_blocked, is_yes}
use Rattle.nt_event.specs.Frames.{time_by}

-- the delay of a thread is set by the event of this number, where it has a due time
abbrev pub delayed : ℕ → Option ThreadNo → Option ℕ → Timers → Timers
delayed n (Some t) (Some due) x = with_setting (OfDelay t) (due_at due n 0) x
delayed n t due x = x

abbrev pub timer_timed : ℕ → TimerCall → Reply → Timers → Timers
timer_timed n (StartTimer t due period) y x =
    if is_answer y then with_setting (OfTimer t) (due_at (x.now + due) n period) x else x
timer_timed n (StopTimer t) y x = if is_yes y then with_setting (OfTimer t) None x else x

abbrev pub own_timed : ℕ → Option ThreadNo → OwnCall → Reply → Timers → Timers
own_timed n r (DelaysIn m a units) y x = if is_blocked y then delayed n r (Some (x.now + units)) x else x
own_timed n r (WaitsIn m a) y x = x
own_timed n r (TestsAlert m) y x = x
own_timed n r GivesWay y x = x

-- what a call in this thread leaves
abbrev pub call_timed : ℕ → Option ThreadNo → Command → Reply → Timers → Timers
call_timed n r c y x =
    by_timer_call (λ k. timer_timed n k y x)
    (by_plain_call (λ k. record x { now = time_by k y x.now }) (by_own_call (λ k. own_timed n r k y x) x c) c) c

-- what the event of this number leaves
abbrev pub timed : ℕ → Stand → Option ThreadNo → What → Timers → Timers
timed n st r w x =
    in_call (λ f c y. call_timed n r c y x)
    (in_rewait (λ f y. if is_blocked y then delayed n r (option_and_then (λ w. w.due) st.again) x else x)
    (in_expiry (λ key from. expired key n x) x w) w) w

-- ---- when it may be made

-- the thread that makes the event is one of the script's, on its own processor
pub record IsMaker (s : Script) (x : Timers) (e : Event) (t : ThreadNo) : Type 0 where
  pub made : IsMadeBy s t e
  pub named : t.0 < length x.delays

abbrev pub WhereBlocked : Reply → Type 0 → Type 0
WhereBlocked Blocked P = P
WhereBlocked Done P = Unit {0}
WhereBlocked Yes P = Unit {0}
WhereBlocked No P = Unit {0}
WhereBlocked (Status status) P = Unit {0}
WhereBlocked Spin P = Unit {0}
WhereBlocked (Refused why) P = Unit {0}

abbrev pub TimerIsThere : Timers → TimerCall → Type 0
TimerIsThere x (StartTimer t due period) = t.0 < length x.timers
TimerIsThere x (StopTimer t) = Unit {0}

abbrev pub OwnMayTime : Script → Timers → Event → OwnCall → Reply → Type 0
OwnMayTime s x e (DelaysIn m a units) y = WhereBlocked y (IfSome e.thread (IsMaker s x e))
OwnMayTime s x e (WaitsIn m a) y = Unit {0}
OwnMayTime s x e (TestsAlert m) y = Unit {0}
OwnMayTime s x e GivesWay y = Unit {0}

abbrev pub CallMayTime : Script → Timers → Event → Command → Reply → Type 0
CallMayTime s x e c y =
    by_timer_call (λ k. TimerIsThere x k) (by_own_call (λ k. OwnMayTime s x e k y) (Unit {0}) c) c

abbrev pub MayTime : Script → Timers → Event → What → Type 0
MayTime s x e w =
    in_call (λ f c y. CallMayTime s x e c y)
    (in_rewait (λ f y. WhereBlocked y (IfSome e.thread (IsMaker s x e)))
    (in_expiry (λ key from. option_map (λ k. k.0) (due_entry x) ≡ Some key) (Unit {0}) w) w) w
