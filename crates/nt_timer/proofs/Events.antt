-- What the events of the machine leave of the timers is what the calls leave.
use Rattle.std.proofs.Common.{◌≡◌, ◌+◌, Bool, true, false, List, ◌∷◌, Option, Some, None, ℕ, ap, cond, eqb, length, replicate, refl, set}
use Rattle.std.proofs.Common.{subst, suc, sym, zero, ◌∙◌}
use Rattle.nt_event.specs.declared.commands.Command.TheVariants.{CancelTimer, Clock, Delay, SetTimer}
use Rattle.nt_event.specs.declared.commands.Mode.{Mode}
use Rattle.nt_event.specs.declared.commands.Reply.{Reply}
use Rattle.nt_event.specs.declared.commands.Reply.TheVariants.{Blocked, Done, Yes}
use Rattle.nt_event.specs.declared.commands.TimerKey.{TimerKey}
use Rattle.nt_event.specs.declared.commands.TimerKey.TheVariants.{Delay as OfDelay, Timer as OfTimer}
use Rattle.nt_event.specs.declared.events.Event.{Event}
use Rattle.nt_event.specs.declared.events.What.{What}
use Rattle.nt_event.specs.declared.events.What.TheVariants.{Call, Expire, Rewait}
use Rattle.nt_event.specs.declared.frames.Again.{Again}
use Rattle.nt_event.specs.declared.inserts.Setting.{Setting}
use Rattle.nt_event.specs.declared.jobs.Stand.{Stand}
use Rattle.nt_event.specs.declared.numbers.ThreadNo.{ThreadNo}
use Rattle.nt_event.specs.declared.numbers.TimerNo.{TimerNo}
use Rattle.nt_event.specs.declared.scripts.Script.{Script}
use Rattle.nt_event.specs.Timers.{Timers, blocked_after, delay_after, expired_delay, renewed, setting_in, timer_after, timers_after}
use Rattle.nt_event.specs.Waits.{is_of_thread}
use Rattle.nt_event.specs.Replies.{is_answer}
use Rattle.nt_event.specs.Numbers.{is_of, thread, timer}
use Rattle.nt_event.specs.Lists.{table, table_from}
use Rattle.nt_event.proofs.Booleans.{either_way}
use Rattle.nt_event.proofs.Tables.{table-self}
use Rattle.nt_event.proofs.Written.{table_set}
use Rattle.nt_timer.specs.Laws.{IsMadeBy, IsSized, TimerCallsAreEvents}
use Rattle.nt_timer.specs.Settings.{due_at, expired, with_setting}
use Rattle.nt_event.specs.Frames.{time_after}
use Rattle.nt_event.specs.Routines.{cpu_of}
use Rattle.std.proofs.lemmas.Bool.{and_right, eqb-true}

-- ---- one table at a time: with e.what known

-- the timers as they were, where the event leaves each of them
timers_stay : (s : Script) (e : Event) (x : Timers) (n : ℕ) (w : What) → IsSized s x → e.what ≡ w →
    ((t : TimerNo) (now : ℕ) (old : Option Setting) → timer_after t n now w old ≡ old) →
    table (length s.timers) (λ t. timer_after (timer t) n x.now e.what (setting_in x.timers t)) ≡ x.timers
timers_stay s e x n w size h stays =
    table-self None (length s.timers) x.timers (λ t. timer_after (timer t) n x.now e.what (setting_in x.timers t)) size.timers
    (λ i l. rw h (stays (timer i) x.now (setting_in x.timers i)))

-- the delays as they were, where the event leaves each of them, whoever makes it
delays_stay : (s : Script) (st : Stand) (e : Event) (x : Timers) (n : ℕ) (w : What) → IsSized s x → e.what ≡ w →
    ((t : ThreadNo) (old : Option Setting) → expired_delay t w old ≡ old) →
    ((now : ℕ) (again : Option Again) (old : Option Setting) → blocked_after n now again w old ≡ old) →
    table (length s.threads) (λ t. delay_after s (thread t) n x.now st.again e (setting_in x.delays t)) ≡ x.delays
delays_stay s st e x n w size h left made =
    table-self None (length s.threads) x.delays (λ t. delay_after s (thread t) n x.now st.again e (setting_in x.delays t)) size.delays (λ i l. one i)
  where
    one : (i : ℕ) → delay_after s (thread i) n x.now st.again e (setting_in x.delays i) ≡ setting_in x.delays i
    one i =
        rw h (left (thread i) (cond (is_of_thread s (thread i) e) (blocked_after n x.now st.again w (setting_in x.delays i)) (setting_in x.delays i))
        ∙ ap (λ (o : Option Setting). cond (is_of_thread s (thread i) e) o (setting_in x.delays i)) (made x.now st.again (setting_in x.delays i))
        ∙ either_way (is_of_thread s (thread i) e) (setting_in x.delays i))

-- the delay that a thread's own event sets
delays_set : (s : Script) (st : Stand) (e : Event) (x : Timers) (n due : ℕ) (t : ThreadNo) (w : What) → IsSized s x → IsMadeBy s t e → e.what ≡ w →
    ((u : ThreadNo) (old : Option Setting) → expired_delay u w old ≡ old) → ((old : Option Setting) → blocked_after n x.now st.again w old ≡ due_at due n 0) →
    table (length s.threads) (λ u. delay_after s (thread u) n x.now st.again e (setting_in x.delays u)) ≡ set x.delays t.0 (due_at due n 0)
delays_set s st e x n due t w size made h left sets =
    table_set x.delays (length s.threads) t.0 (due_at due n 0) None (λ u. delay_after s (thread u) n x.now st.again e
    (setting_in x.delays u)) size.delays mine others
  where
    mine : (i : ℕ) → eqb t.0 i ≡ true → delay_after s (thread i) n x.now st.again e (setting_in x.delays i) ≡ due_at due n 0
    mine i same =
        let at : t.0 ≡ i = eqb-true t.0 i same in
        let cpu : is_of e (cpu_of s (thread i)) ≡ true = subst (λ (k : ℕ). is_of e (cpu_of s (thread k)) ≡ true) at made.cpu in
        rw (h, made.thread, same, cpu) (left (thread i) (blocked_after n x.now st.again w (setting_in x.delays i)) ∙ sets (setting_in x.delays i))

    others : (i : ℕ) → eqb t.0 i ≡ false → delay_after s (thread i) n x.now st.again e (setting_in x.delays i) ≡ setting_in x.delays i
    others i apart =
        let not_by : is_of_thread s (thread i) e ≡ false = rw (made.thread, apart) (and_right (is_of e (cpu_of s (thread i))) false refl) in
        rw (h, not_by) (left (thread i) (setting_in x.delays i))

-- the delay that expires
delay_expired : (s : Script) (st : Stand) (e : Event) (x : Timers) (n from : ℕ) (t : ThreadNo) → IsSized s x → e.what ≡ Expire (OfDelay t) from →
    table (length s.threads) (λ u. delay_after s (thread u) n x.now st.again e (setting_in x.delays u)) ≡ set x.delays t.0 None
delay_expired s st e x n from t size h =
    table_set x.delays (length s.threads) t.0 None None (λ u. delay_after s (thread u) n x.now st.again e (setting_in x.delays u)) size.delays
    (λ i k. rw (h, k)) (λ i k. rw (h, k) (either_way (is_of_thread s (thread i) e) (setting_in x.delays i)))

-- ---- the events

-- if an event changes the setting of one timer alone, it leaves the timers with this one written
timer_set : (s : Script) (e : Event) (x : Timers) (n : ℕ) (t : TimerNo) (v : Option Setting) (w : What) → IsSized s x → e.what ≡ w →
    ((i : ℕ) → eqb t.0 i ≡ true → timer_after (timer i) n x.now w (setting_in x.timers i) ≡ v) →
    ((i : ℕ) → eqb t.0 i ≡ false → timer_after (timer i) n x.now w (setting_in x.timers i) ≡ setting_in x.timers i) →
    table (length s.timers) (λ i. timer_after (timer i) n x.now e.what (setting_in x.timers i)) ≡ set x.timers t.0 v
timer_set s e x n t v w size h same other =
    table_set x.timers (length s.timers) t.0 v None (λ i. timer_after (timer i) n x.now e.what (setting_in x.timers i)) size.timers (λ i k. rw h (same i k))
    (λ i k. rw h (other i k))

-- an event whose kind leaves the time as it was leaves the time as it was
time_stays : (e : Event) (w : What) (now : ℕ) → e.what ≡ w → time_after w now ≡ now → time_after e.what now ≡ now
time_stays e w now h k = rw h k

-- setting a timer with an answer leaves this timer set for its due time and period
set_event : (s : Script) (st : Stand) (e : Event) (x : Timers) (n f : ℕ) (t : TimerNo) (due period : ℕ) (y : Reply) → IsSized s x →
    e.what ≡ Call f (SetTimer t due period) y → is_answer y ≡ true → timers_after s n st e x ≡ with_setting (OfTimer t) (due_at (x.now + due) n period) x
set_event s st e x n f t due period y size h answer =
    let w : What = Call f (SetTimer t due period) y in
    let timers = timer_set s e x n t (due_at (x.now + due) n period) w size h (λ i k. rw (answer, k)) (λ i k. rw (answer, k)) in
    let delays = delays_stay s st e x n w size h (λ u old. refl) (λ now again old. refl) in
    λ i. record { now = time_stays e w x.now h refl i; timers = timers i; delays = delays i }

-- cancelling a timer that is set leaves this timer without a setting
cancel_event : (s : Script) (st : Stand) (e : Event) (x : Timers) (n f : ℕ) (t : TimerNo) → IsSized s x → e.what ≡ Call f (CancelTimer t) Yes →
    timers_after s n st e x ≡ with_setting (OfTimer t) None x
cancel_event s st e x n f t size h =
    let w : What = Call f (CancelTimer t) Yes in
    let timers = timer_set s e x n t None w size h (λ i k. rw k) (λ i k. rw k) in
    let delays = delays_stay s st e x n w size h (λ u old. refl) (λ now again old. refl) in
    λ i. record { now = time_stays e w x.now h refl i; timers = timers i; delays = delays i }

-- an advance of the clock leaves the time later by these units and the settings as they were
clock_event : (s : Script) (st : Stand) (e : Event) (x : Timers) (n f units : ℕ) → IsSized s x → e.what ≡ Call f (Clock units) Done →
    timers_after s n st e x ≡ record x { now = x.now + units }
clock_event s st e x n f units size h =
    let w : What = Call f (Clock units) Done in
    let now : time_after e.what x.now ≡ x.now + units = rw h in
    let timers = timers_stay s e x n w size h (λ t now old. refl) in
    let delays = delays_stay s st e x n w size h (λ u old. refl) (λ now again old. refl) in
    λ i. record { now = now i; timers = timers i; delays = delays i }

-- the expiry of a key leaves what the expiry call leaves
expire_event : (s : Script) (st : Stand) (e : Event) (x : Timers) (n from : ℕ) (key : TimerKey) → IsSized s x → e.what ≡ Expire key from →
    timers_after s n st e x ≡ expired key n x
expire_event s st e x n from (OfTimer t) size h =
    let w : What = Expire (OfTimer t) from in
    let timers = timer_set s e x n t (renewed n x.now (setting_in x.timers t.0)) w size h
    (λ i k. rw k (ap (λ (j : ℕ). renewed n x.now (setting_in x.timers j)) (sym (eqb-true t.0 i k)))) (λ i k. rw k) in
    let delays = delays_stay s st e x n w size h (λ u old. refl) (λ now again old. refl) in
    λ i. record { now = time_stays e w x.now h refl i; timers = timers i; delays = delays i }
expire_event s st e x n from (OfDelay t) size h =
    let w : What = Expire (OfDelay t) from in
    let timers = timers_stay s e x n w size h (λ t now old. refl) in
    let delays = delay_expired s st e x n from t size h in
    λ i. record { now = time_stays e w x.now h refl i; timers = timers i; delays = delays i }

-- a delay that blocks leaves the thread's delay set for its due time, without a period
delay_event : (s : Script) (st : Stand) (e : Event) (x : Timers) (n f : ℕ) (t : ThreadNo) (m : Mode) (alertable : Bool) (units : ℕ) → IsSized s x →
    IsMadeBy s t e → e.what ≡ Call f (Delay m alertable units) Blocked → timers_after s n st e x ≡ with_setting (OfDelay t) (due_at (x.now + units) n 0) x
delay_event s st e x n f t m alertable units size made h =
    let w : What = Call f (Delay m alertable units) Blocked in
    let timers = timers_stay s e x n w size h (λ t now old. refl) in
    let delays = delays_set s st e x n (x.now + units) t w size made h (λ u old. refl) (λ old. refl) in
    λ i. record { now = time_stays e w x.now h refl i; timers = timers i; delays = delays i }

-- a delay taken up again that blocks leaves the thread's delay set for its old due time
rewait_event : (s : Script) (st : Stand) (e : Event) (x : Timers) (n f : ℕ) (t : ThreadNo) (again : Again) (due : ℕ) → IsSized s x → IsMadeBy s t e →
    e.what ≡ Rewait f Blocked → st.again ≡ Some again → again.due ≡ Some due → timers_after s n st e x ≡ with_setting (OfDelay t) (due_at due n 0) x
rewait_event s st e x n f t again due size made h kept at =
    let w : What = Rewait f Blocked in
    let timers = timers_stay s e x n w size h (λ t now old. refl) in
    let delays = delays_set s st e x n due t w size made h (λ u old. refl) (λ old. rw (kept, at)) in
    λ i. record { now = time_stays e w x.now h refl i; timers = timers i; delays = delays i }

-- a table with no setting at each place is the list of that many absent settings
nothing_from : (k n : ℕ) → table_from {A = Option Setting} k n (λ i. None) ≡ replicate n None
unfolding table_from
nothing_from k zero = refl
nothing_from k (suc n) = ap (λ (xs : List (Option Setting)). None ∷ xs) (nothing_from (suc k) n)

-- the timers start as new, and each event that sets, cancels, expires or advances leaves what its call leaves
pub timer_calls_are_events : TimerCallsAreEvents
timer_calls_are_events =
    record {
      start = λ s. λ i. record { now = 0; timers = nothing_from 0 (length s.timers) i; delays = nothing_from 0 (length s.threads) i };
      set = set_event;
      cancel = cancel_event;
      clock = clock_event;
      expire = expire_event;
      delay = delay_event;
      rewait = rewait_event;
    }
