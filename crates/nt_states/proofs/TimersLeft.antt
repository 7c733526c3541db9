-- What an event leaves of the timers is what the calls leave.
use Rattle.std.proofs.Common.{◌∙◌}
use Rattle.std.proofs.lemmas.Bool.{and_right}
use Rattle.std.specs.Prelude.{Bool, IfSome, None, Option, Some, cond, false, length, option_and_then, refl, true, ℕ, ◌+◌, ◌≡◌}
use Rattle.nt_event.specs.declared.commands.Command.{Command}
use Rattle.nt_event.specs.declared.commands.Command.TheVariants.{CancelTimer, Clock, Delay, SetTimer}
use Rattle.nt_event.specs.declared.commands.Mode.{Mode}
use Rattle.nt_event.specs.declared.commands.Reply.{Reply}
use Rattle.nt_event.specs.declared.commands.Reply.TheVariants.{Blocked, Done, No, Yes}
use Rattle.nt_event.specs.declared.events.Event.{Event}
use Rattle.nt_event.specs.declared.events.What.{What}
use Rattle.nt_event.specs.declared.events.What.TheVariants.{Call, Expire, Rewait}
use Rattle.nt_event.specs.declared.frames.Again.{Again}
use Rattle.nt_event.specs.declared.inserts.Setting.{Setting}
use Rattle.nt_event.specs.declared.jobs.Stand.{Stand}
use Rattle.nt_event.specs.declared.numbers.CpuNo.{CpuNo}
use Rattle.nt_event.specs.declared.numbers.ThreadNo.{ThreadNo}
use Rattle.nt_event.specs.declared.numbers.TimerNo.{TimerNo}
use Rattle.nt_event.specs.declared.scripts.Script.{Script}
use Rattle.nt_event.specs.Frames.{time_after}
use Rattle.nt_event.specs.Routines.{cpu_of}
use Rattle.nt_event.specs.Timers.{Timers, delay_after, setting_in, timer_after, timers_after}
use Rattle.nt_event.specs.Waits.{is_of_thread}
use Rattle.nt_event.specs.Numbers.{is_of, thread, timer}
use Rattle.nt_event.proofs.Tables.{length-table_from, table-self}
use Rattle.nt_timer.specs.Laws.{IsSized}
use Rattle.nt_timer.proofs.Events.{timer_calls_are_events}
use Rattle.nt_states.specs.Timed.{CallMayTime, IsMaker, MayTime, call_timed, delayed, timed}

abbrev event_of : CpuNo → Option ThreadNo → ℕ → What → Event
event_of p r k w = record { cpu = p; thread = r; level = k; what = w }

-- a choice between a value and itself is this value
either_way : {A : Type 0} (b : Bool) (x : A) → cond b x x ≡ x
either_way true x = refl
either_way false x = refl

module _ (s : Script) (st : Stand) (p : CpuNo) (k n : ℕ) (x : Timers) (size : IsSized s x) where
  -- the timers as they were
  stays : (r : Option ThreadNo) (w : What) → time_after w x.now ≡ x.now → ((t : TimerNo) (old : Option Setting) → timer_after t n x.now w old ≡ old) →
      ((t : ThreadNo) (old : Option Setting) → delay_after s t n x.now st.again (event_of p r k w) old ≡ old) → timers_after s n st (event_of p r k w) x ≡ x
  stays r w now one each =
      let a = table-self None (length s.timers) x.timers (λ t. timer_after (timer t) n x.now w (setting_in x.timers t)) size.timers
      (λ i l. one (timer i) (setting_in x.timers i)) in
      let b = table-self None (length s.threads) x.delays
      (λ t. delay_after s (thread t) n x.now st.again (event_of p r k w) (setting_in x.delays t)) size.delays
      (λ i l. each (thread i) (setting_in x.delays i)) in
      λ j. record { now = now j; timers = a j; delays = b j }

  -- an event that sets no delay
  unset : (r : Option ThreadNo) (w : What) (t : ThreadNo) (old : Option Setting) → cond (is_of_thread s t (event_of p r k w)) old old ≡ old
  unset r w t old = either_way (is_of_thread s t (event_of p r k w)) old

  -- no thread makes the event
  nobodys : (w : What) (t : ThreadNo) (set old : Option Setting) → cond (is_of_thread s t (event_of p None k w)) set old ≡ old
  nobodys w t set old = rw (and_right (is_of (event_of p None k w) (cpu_of s t)) false refl) refl

  by_delay : (r : Option ThreadNo) (f : ℕ) (m : Mode) (a : Bool) (units : ℕ) → IfSome r (IsMaker s x (event_of p r k (Call f (Delay m a units) Blocked))) →
      timers_after s n st (event_of p r k (Call f (Delay m a units) Blocked)) x ≡ delayed n r (Some (x.now + units)) x
  by_delay None f m a units h =
      stays None (Call f (Delay m a units) Blocked) refl (λ t old. refl) (λ t old. nobodys (Call f (Delay m a units) Blocked) t _ old)
  by_delay (Some t) f m a units h =
      timer_calls_are_events.delay s st (event_of p (Some t) k (Call f (Delay m a units) Blocked)) x n f t m a units size h.made refl

  by_call : (r : Option ThreadNo) (f : ℕ) (c : Command) (y : Reply) → CallMayTime s x (event_of p r k (Call f c y)) c y →
      timers_after s n st (event_of p r k (Call f c y)) x ≡ call_timed n r c y x
  by_call r f (SetTimer t due period) Yes h =
      timer_calls_are_events.set s st (event_of p r k (Call f (SetTimer t due period) Yes)) x n f t due period Yes size refl refl
  by_call r f (SetTimer t due period) No h =
      timer_calls_are_events.set s st (event_of p r k (Call f (SetTimer t due period) No)) x n f t due period No size refl refl
  by_call r f (SetTimer t due period) y h =
      stays r (Call f (SetTimer t due period) y) refl (λ t old. refl) (λ u old. unset r (Call f (SetTimer t due period) y) u old)
  by_call r f (CancelTimer t) Yes h =
      timer_calls_are_events.cancel s st (event_of p r k (Call f (CancelTimer t) Yes)) x n f t size refl
  by_call r f (CancelTimer t) y h =
      stays r (Call f (CancelTimer t) y) refl (λ t old. refl) (λ u old. unset r (Call f (CancelTimer t) y) u old)
  by_call r f (Clock units) Done h =
      timer_calls_are_events.clock s st (event_of p r k (Call f (Clock units) Done)) x n f units size refl
  by_call r f (Clock units) y h =
      stays r (Call f (Clock units) y) refl (λ t old. refl) (λ t old. unset r (Call f (Clock units) y) t old)
  by_call r f (Delay m a units) Blocked h = by_delay r f m a units h
  by_call r f (Delay m a units) y h =
      stays r (Call f (Delay m a units) y) refl (λ t old. refl) (λ t old. unset r (Call f (Delay m a units) y) t old)
  by_call r f c y h = stays r (Call f c y) refl (λ t old. refl) (λ t old. unset r (Call f c y) t old)

  by_rewait : (r : Option ThreadNo) (f : ℕ) (o : Option Again) → st.again ≡ o → IfSome r (IsMaker s x (event_of p r k (Rewait f Blocked))) →
      timers_after s n st (event_of p r k (Rewait f Blocked)) x ≡ delayed n r (option_and_then (λ w. w.due) o) x
  by_rewait None f o e h =
      stays None (Rewait f Blocked) refl (λ t old. refl) (λ t old. nobodys (Rewait f Blocked) t _ old) ∙ nobody (option_and_then (λ w. w.due) o)
    where
      nobody : (due : Option ℕ) → x ≡ delayed n None due x
      nobody None = refl
      nobody (Some due) = refl
  by_rewait (Some t) f None e h =
      stays (Some t) (Rewait f Blocked) refl (λ t old. refl) (λ u old. rw e (unset (Some t) (Rewait f Blocked) u old))
  by_rewait (Some t) f (Some w) e h = go w.due refl
    where
      go : (due : Option ℕ) → w.due ≡ due → timers_after s n st (event_of p (Some t) k (Rewait f Blocked)) x ≡ delayed n (Some t) due x
      go None d =
          stays (Some t) (Rewait f Blocked) refl (λ t old. refl) (λ u old. rw (e, d) (unset (Some t) (Rewait f Blocked) u old))
      go (Some due) d =
          timer_calls_are_events.rewait s st (event_of p (Some t) k (Rewait f Blocked)) x n f t w due size h.made refl e d

  by_what : (r : Option ThreadNo) (w : What) → MayTime s x (event_of p r k w) w → timers_after s n st (event_of p r k w) x ≡ timed n st r w x
  by_what r (Call f c y) h = by_call r f c y h
  by_what r (Rewait f Blocked) h = by_rewait r f st.again refl h
  by_what r (Rewait f y) h =
      stays r (Rewait f y) refl (λ t old. refl) (λ t old. unset r (Rewait f y) t old)
  by_what r (Expire key from) h =
      timer_calls_are_events.expire s st (event_of p r k (Expire key from)) x n from key size refl
  by_what r w h = stays r w refl (λ t old. refl) (λ t old. unset r w t old)

-- what an event that may be made leaves of the timers is what its calls leave
pub timers_left : (s : Script) (st : Stand) (e : Event) (n : ℕ) (x : Timers) → IsSized s x → MayTime s x e e.what → timers_after s n st e x
    ≡ timed n st e.thread e.what x
timers_left s st e n x size h = by_what s st e.cpu e.level n x size e.thread e.what h

-- the tables keep their places
pub sized_after : (s : Script) (st : Stand) (e : Event) (n : ℕ) (x : Timers) → IsSized s (timers_after s n st e x)
sized_after s st e n x = record {
  timers = length-table_from 0 (length s.timers) (λ t. timer_after (timer t) n x.now e.what (setting_in x.timers t));
  delays = length-table_from 0 (length s.threads) (λ t. delay_after s (thread t) n x.now st.again e (setting_in x.delays t));
}
