-- A due key is owed: by induction over the run; and at the close one is left only where a processor is cut.
use Rattle.std.proofs.Common.{ap, arith, inl, inr, subst, ◌∙◌}
use Rattle.std.specs.Prelude.{Bool, List, None, Option, Some, [], false, if◌then◌else◌, length, nat_lt, option_and_then, refl, true, ℕ, ◌&&◌, ◌+◌, ◌==◌, ◌∷◌}
use Rattle.std.specs.Prelude.{◌≡◌, ◌≤◌, ◌⊎◌}
use Rattle.nt_event.specs.declared.commands.Command.TheVariants.{CancelTimer, Clock, Delay, SetTimer}
use Rattle.nt_event.specs.declared.commands.Reply.{Reply}
use Rattle.nt_event.specs.declared.commands.Reply.TheVariants.{Blocked, Done, Yes}
use Rattle.nt_event.specs.declared.commands.TimerKey.{TimerKey}
use Rattle.nt_event.specs.declared.commands.TimerKey.TheVariants.{Delay as OfDelay, Timer as OfTimer}
use Rattle.nt_event.specs.declared.events.Event.{Event}
use Rattle.nt_event.specs.declared.events.What.{What}
use Rattle.nt_event.specs.declared.events.What.TheVariants.{Call, Expire, Rewait}
use Rattle.nt_event.specs.declared.frames.Again.{Again}
use Rattle.nt_event.specs.declared.inserts.Setting.{Setting}
use Rattle.nt_event.specs.declared.numbers.CpuNo.{CpuNo}
use Rattle.nt_event.specs.declared.numbers.ThreadNo.{ThreadNo}
use Rattle.nt_event.specs.declared.numbers.TimerNo.{TimerNo}
use Rattle.nt_event.specs.declared.scripts.Script.{Script}
use Rattle.nt_event.specs.Frames.{time, time_after}
use Rattle.nt_event.specs.Lanes.{lanes_at}
use Rattle.nt_event.specs.Own.{own_of}
use Rattle.nt_event.specs.Regions.{owes_sweep, stand_at}
use Rattle.nt_event.specs.Robin.{is_settled}
use Rattle.nt_event.specs.Step.{IsRun, is_cut}
use Rattle.nt_event.specs.Timers.{SetKey, blocked_after, delay_set, delay_setting, expired_delay, first_due, timer_after, timer_setting, timers_at}
use Rattle.nt_event.specs.Waits.{is_of_thread}
use Rattle.nt_event.specs.Replies.{is_answer}
use Rattle.nt_runs.proofs.Known.{Known, KnownRewait, again_known, legal_known}
use Rattle.nt_event.proofs.Options.{both}
use Rattle.nt_runs.proofs.Turns.{is_next}
use Rattle.nt_close.specs.Close.{IsClosed, IsOwed, IsWanted}
use Rattle.nt_close.proofs.AtRest.{IsAtRest, closed_either, closed_rests, no_sweep, none_wanted_13}
use Rattle.nt_close.proofs.DueKeys.{IsDueAt, clock_owes, delay_blocks, due_before, expiry_owes, first_is_due, has_key, rewait_blocks, set_owes}
use Rattle.nt_event.specs.Jobs.{rests, spins_still}

-- ---- timers

-- case: the key is that of a timer; if it is due after an event, some processor wants the clock or owes a sweep
timer_step : (s : Script) (limit : ℕ) (t : TimerNo) (x : Setting) (e : Event) (past : List Event) → IsRun s limit (e ∷ past) → has_key s (OfTimer t) ≡ true →
    (IsDueAt s (OfTimer t) past → IsOwed s past) → timer_setting t (e ∷ past) ≡ Some x → x.due ≤ time (e ∷ past) → IsOwed s (e ∷ past)
timer_step s limit t x e past r has ih h d = go e.what refl h d
  where
    before : timer_setting t past ≡ Some x → x.due ≤ time past → IsOwed s (e ∷ past)
    before h d =
        let k : IsDueAt s (OfTimer t) past = record { has = has; setting = x; is_set = h; due = d } in
        due_before s limit (OfTimer t) e past r.0 k (ih k)

    set : (f due period : ℕ) (u : TimerNo) (y : Reply) (b : Bool) → (is_answer y && (u.0 == t.0)) ≡ b → e.what ≡ Call f (SetTimer u due period) y →
        (if b then Some (record { due = time past + due; number = length past; period = period }) else timer_setting t past) ≡ Some x → x.due ≤ time past →
        IsOwed s (e ∷ past)
    set f due period u y true q i h d =
        let same : time past + due ≡ x.due = at_due (record { due = time past + due; number = length past; period = period }) x h in
        set_owes s limit e past f due period u y r.0 i (both (is_answer y) (u.0 == t.0) q).0 (omega (arith, same, d))
      where
        at_due : (a b : Setting) → ◌≡◌ {A = Option Setting} (Some a) (Some b) → a.due ≡ b.due
        at_due a b h = let s : a ≡ b = cc in ap (λ (a : Setting). a.due) s
    set f due period u y false q i h d = before h d

    cancelled : (b : Bool) → (if b then None else timer_setting t past) ≡ Some x → x.due ≤ time past → IsOwed s (e ∷ past)
    cancelled true h d = cc
    cancelled false h d = before h d

    go : (w : What) → e.what ≡ w → timer_after t (length past) (time past) w (timer_setting t past) ≡ Some x → x.due ≤ time_after w (time past) →
        IsOwed s (e ∷ past)
    go (Call f (SetTimer u due period) y) i h d =
        set f due period u y (is_answer y && (u.0 == t.0)) refl i h d
    go (Call f (CancelTimer u) Yes) i h d = cancelled (u.0 == t.0) h d
    go (Call f (Clock units) Done) i h d = clock_owes s limit e past f units r i
    go (Expire key from) i h d = expiry_owes s limit e past key from r.0 i
    go w i h d = before h d

-- ---- delays

-- case: the key is that of a delay; if it is due after an event, some processor wants the clock or owes a sweep
delay_step : (s : Script) (limit : ℕ) (t : ThreadNo) (x : Setting) (e : Event) (past : List Event) → IsRun s limit (e ∷ past) → has_key s (OfDelay t) ≡ true →
    (IsDueAt s (OfDelay t) past → IsOwed s past) → delay_setting s t (e ∷ past) ≡ Some x → x.due ≤ time (e ∷ past) → IsOwed s (e ∷ past)
delay_step s limit t x e past r has ih h d = go e.what refl h d
  where
    before : delay_setting s t past ≡ Some x → x.due ≤ time past → IsOwed s (e ∷ past)
    before h d =
        let k : IsDueAt s (OfDelay t) past = record { has = has; setting = x; is_set = h; due = d } in
        due_before s limit (OfDelay t) e past r.0 k (ih k)

    its_due : (a b : Setting) → ◌≡◌ {A = Option Setting} (Some a) (Some b) → a.due ≡ b.due
    its_due a b h = let s : a ≡ b = cc in ap (λ (a : Setting). a.due) s

    either : (b : Bool) (old : Option Setting) → (if b then old else old) ≡ Some x → old ≡ Some x
    either true old h = h
    either false old h = h

    delayed : (f units : ℕ) (a : Bool) (b : Bool) → (time past + units ≤ time past → IsOwed s (e ∷ past)) →
        (if b then Some (record { due = time past + units; number = length past; period = 0 }) else delay_setting s t past) ≡ Some x → x.due ≤ time past →
        IsOwed s (e ∷ past)
    delayed f units a true k h d =
        let same : time past + units ≡ x.due = its_due (record { due = time past + units; number = length past; period = 0 }) x h in
        k (omega (arith, same, d))
    delayed f units a false k h d = before h d

    rewaited : (f : ℕ) (b : Bool) → KnownRewait e.cpu (own_of s e.cpu past) (lanes_at s past) f Blocked →
        (if b then delay_set (length past) (option_and_then (λ w. w.due) (stand_at s e.cpu past).again) (delay_setting s t past) else delay_setting s t past)
        ≡ Some x → x.due ≤ time past → IsOwed s (e ∷ past)
    rewaited f false k h d = before h d
    rewaited f true k h d =
        due_so k.wait.due refl (subst (λ (o : Option Again). delay_set (length past) (option_and_then (λ w. w.due) o) (delay_setting s t past) ≡ Some x)
        (again_known e.cpu (own_of s e.cpu past) k.frame k.goes_on ∙ k.again) h)
      where
        due_so : (o : Option ℕ) → k.wait.due ≡ o → delay_set (length past) o (delay_setting s t past) ≡ Some x → IsOwed s (e ∷ past)
        due_so None q h = before h d
        due_so (Some due) q h =
            let same : due ≡ x.due = its_due (record { due = due; number = length past; period = 0 }) x h in
            rewait_blocks s e past f due k q (omega (arith, same, d))

    go : (w : What) → e.what ≡ w → expired_delay t w (if is_of_thread s t e
        then blocked_after (length past) (time past) (stand_at s e.cpu past).again w (delay_setting s t past) else delay_setting s t past) ≡ Some x →
        x.due ≤ time_after w (time past) → IsOwed s (e ∷ past)
    go (Call f (Delay m a units) Blocked) i h d =
        delayed f units a (is_of_thread s t e) (λ l. delay_blocks s limit e past f m a units r.0 i l) h d
    go (Rewait f Blocked) i h d =
        rewaited f (is_of_thread s t e) (subst (λ (w : What). is_next w ≡ true → Known s e.cpu (own_of s e.cpu past) (lanes_at s past) w) i
        (legal_known s limit e past r.0) refl) h d
    go (Call f (Clock units) Done) i h d = clock_owes s limit e past f units r i
    go (Expire key from) i h d = expiry_owes s limit e past key from r.0 i
    go w i h d = before (either (is_of_thread s t e) (delay_setting s t past) h) d

-- ---- in a run

-- in a run each due key, not only the first, is owed: some processor wants the clock or owes a sweep
due_owed : (s : Script) (limit : ℕ) (key : TimerKey) (past : List Event) → IsRun s limit past → IsDueAt s key past → IsOwed s past
due_owed s limit (OfTimer t) [] r k = let h = k.is_set in cc
due_owed s limit (OfDelay t) [] r k = let h = k.is_set in cc
due_owed s limit (OfTimer t) (e ∷ past) r k =
    timer_step s limit t k.setting e past r k.has (λ i. due_owed s limit (OfTimer t) past r.1 i) k.is_set k.due
due_owed s limit (OfDelay t) (e ∷ past) r k =
    delay_step s limit t k.setting e past r k.has (λ i. due_owed s limit (OfDelay t) past r.1 i) k.is_set k.due

-- in a run, while a key is due, some processor wants the clock interrupt or owes a sweep
pub a_due_key_is_owed : (s : Script) (limit : ℕ) (k : SetKey) (past : List Event) → IsRun s limit past → first_due (timers_at s past) ≡ Some k → IsOwed s past
a_due_key_is_owed s limit k past r h = due_owed s limit k.key past r (first_is_due s past k h)

-- ---- at the close

-- in a settled run no key is left due if no processor is cut or spins still
pub no_due_key_is_left : (s : Script) (limit : ℕ) (past : List Event) → IsRun s limit past → is_settled s limit past ≡ true →
    ((p : CpuNo) → nat_lt p.0 s.cpus ≡ true → (is_cut limit (own_of s p past) ≡ false) × (spins_still (own_of s p past) ≡ false)) →
    first_due (timers_at s past) ≡ None
no_due_key_is_left s limit past r settled uncut = go (first_due (timers_at s past)) refl
  where
    closed : (p : CpuNo) → nat_lt p.0 s.cpus ≡ true → IsClosed s limit p past
    closed p h = record { run = r; settled = settled; named = h; uncut = (uncut p h).0 }

    no : {A : Type 0} (b : Bool) → b ≡ true → b ≡ false → A
    no b x y = cc

    rest : (p : CpuNo) → nat_lt p.0 s.cpus ≡ true → IsAtRest s p past
    rest p h = go (closed_either s limit p past (closed p h))
      where
        go : (rests (own_of s p past) ≡ true) ⊎ (spins_still (own_of s p past) ≡ true) → IsAtRest s p past
        go (inl q) = closed_rests s limit p past (closed p h) q
        go (inr q) = no (spins_still (own_of s p past)) q (uncut p h).1

    none : IsOwed s past → ⊥
    none k = why k.why
      where
        why : IsWanted s k.cpu 13 past ⊎ (owes_sweep k.cpu past ≡ true) → ⊥
        why (inl w) = none_wanted_13 s k.cpu past (rest k.cpu k.named) w
        why (inr w) =
            no (owes_sweep k.cpu past) w (no_sweep s k.cpu past (rest k.cpu k.named))

    go : (o : Option SetKey) → first_due (timers_at s past) ≡ o → first_due (timers_at s past) ≡ None
    go None e = e
    go (Some k) e = absurd (none (a_due_key_is_owed s limit k past r e))
