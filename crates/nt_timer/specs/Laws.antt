-- Laws of timers: the order of expiries, over every list of calls, and over the events of the machine.
use Rattle.std.specs.Prelude.{Bool, List, MatchOption, None, Some, [], length, ℕ, ◌+◌, ◌<◌, ◌≡◌, ◌≤◌, ◌⊎◌, true}
use Rattle.nt_event.specs.declared.commands.Command.TheVariants.{CancelTimer, Clock, Delay, SetTimer}
use Rattle.nt_event.specs.declared.commands.Mode.{Mode}
use Rattle.nt_event.specs.declared.commands.Reply.{Reply}
use Rattle.nt_event.specs.declared.commands.Reply.TheVariants.{Blocked, Done, Yes}
use Rattle.nt_event.specs.declared.commands.TimerKey.{TimerKey}
use Rattle.nt_event.specs.declared.commands.TimerKey.TheVariants.{Delay as OfDelay, Timer as OfTimer}
use Rattle.nt_event.specs.declared.events.Event.{Event}
use Rattle.nt_event.specs.declared.events.What.TheVariants.{Call, Expire, Rewait}
use Rattle.nt_event.specs.declared.frames.Again.{Again}
use Rattle.nt_event.specs.declared.inserts.Setting.{Setting}
use Rattle.nt_event.specs.declared.jobs.Stand.{Stand}
use Rattle.nt_event.specs.declared.numbers.ThreadNo.{ThreadNo}
use Rattle.nt_event.specs.declared.numbers.TimerNo.{TimerNo}
use Rattle.nt_event.specs.declared.scripts.Script.{Script}
use Rattle.nt_event.specs.Timers.{SetKey, Timers, first_due, timers_after, timers_at}
use Rattle.nt_event.specs.Routines.{cpu_of}
use Rattle.nt_event.specs.Replies.{is_answer}
use Rattle.nt_event.specs.Numbers.{is_of}
use Rattle.nt_timer.specs.Changes.{Change, NumbersRise, after_changes}
use Rattle.nt_timer.specs.Settings.{due_at, expired, new_timers, setting_at, with_setting}

-- ---- the order of expiries

-- the second setting is due later, or at the same time by an event of no lesser number
abbrev pub IsNotEarlier : Setting → Setting → Type 0
IsNotEarlier a b = (a.due < b.due) ⊎ ((a.due ≡ b.due) × (a.number ≤ b.number))

-- the key is set and due, and no due key is earlier
pub record IsFirstDue (x : Timers) (k : SetKey) : Type 0 where
  pub is_set : setting_at k.key x ≡ Some k.setting
  pub due : k.setting.due ≤ x.now
  pub first : (key : TimerKey) (setting : Setting) → setting_at key x ≡ Some setting → setting.due ≤ x.now →
      IsNotEarlier k.setting setting

-- what is answered as the first due key is one, and there is none exactly where no set key is due
abbrev pub FirstDueIsFirst : Type 0
FirstDueIsFirst =
    (x : Timers) → MatchOption (first_due x) ((key : TimerKey) (setting : Setting) → setting_at key x ≡ Some setting →
    x.now < setting.due) (IsFirstDue x)

-- ---- over every list of calls

-- after a list of calls whose numbers rise, no two keys were set by the same event
abbrev pub NumbersTellKeys : Type 0
NumbersTellKeys =
    (timers threads : ℕ) (past : List Change) → NumbersRise past → (a b : TimerKey) (s t : Setting) →
    setting_at a (after_changes (new_timers timers threads) past) ≡ Some s →
    setting_at b (after_changes (new_timers timers threads) past) ≡ Some t → s.number ≡ t.number → a ≡ b

-- ---- over the events of the machine

-- the tables have a place for each timer and thread of the script
pub record IsSized (s : Script) (x : Timers) : Type 0 where
  pub timers : length x.timers ≡ length s.timers
  pub delays : length x.delays ≡ length s.threads

-- the event is one that the thread makes on its own processor
pub record IsMadeBy (s : Script) (t : ThreadNo) (e : Event) : Type 0 where
  pub thread : e.thread ≡ Some t
  pub cpu : is_of e (cpu_of s t) ≡ true

-- at the start the timers are as a new queue has them, and what an event leaves of them is what the call leaves
pub record TimerCallsAreEvents : Type 0 where
  pub start : (s : Script) → timers_at s [] ≡ new_timers (length s.timers) (length s.threads)
  pub set : (s : Script) (st : Stand) (e : Event) (x : Timers) (n f : ℕ) (t : TimerNo) (due period : ℕ) (y : Reply) →
      IsSized s x → e.what ≡ Call f (SetTimer t due period) y → is_answer y ≡ true →
      timers_after s n st e x ≡ with_setting (OfTimer t) (due_at (x.now + due) n period) x
  pub cancel : (s : Script) (st : Stand) (e : Event) (x : Timers) (n f : ℕ) (t : TimerNo) → IsSized s x →
      e.what ≡ Call f (CancelTimer t) Yes → timers_after s n st e x ≡ with_setting (OfTimer t) None x
  pub clock : (s : Script) (st : Stand) (e : Event) (x : Timers) (n f units : ℕ) → IsSized s x →
      e.what ≡ Call f (Clock units) Done → timers_after s n st e x ≡ record x { now = x.now + units }
  pub expire : (s : Script) (st : Stand) (e : Event) (x : Timers) (n from : ℕ) (key : TimerKey) → IsSized s x →
      e.what ≡ Expire key from → timers_after s n st e x ≡ expired key n x
  pub delay : (s : Script) (st : Stand) (e : Event) (x : Timers) (n f : ℕ) (t : ThreadNo) (m : Mode) (alertable : Bool)
      (units : ℕ) → IsSized s x → IsMadeBy s t e → e.what ≡ Call f (Delay m alertable units) Blocked →
      timers_after s n st e x ≡ with_setting (OfDelay t) (due_at (x.now + units) n 0) x
  pub rewait : (s : Script) (st : Stand) (e : Event) (x : Timers) (n f : ℕ) (t : ThreadNo) (w : Again) (due : ℕ) →
      IsSized s x → IsMadeBy s t e → e.what ≡ Rewait f Blocked → st.again ≡ Some w → w.due ≡ Some due →
      timers_after s n st e x ≡ with_setting (OfDelay t) (due_at due n 0) x
