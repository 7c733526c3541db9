-- After calls whose numbers rise, no two keys were set by the same event.
use Rattle.std.proofs.Common.{◌≡◌, ◌<◌, ◌⊎◌, ◌≤◌, ◌+◌, Bool, true, false, List, [], ◌∷◌, Option, Some, None, ℕ, ap, arith, cond, eqb, inl, inr, length, refl}
use Rattle.std.proofs.Common.{replicate, set, subst, suc, sym, zero, ◌∙◌}
use Rattle.nt_event.specs.declared.commands.TimerKey.{TimerKey}
use Rattle.nt_event.specs.declared.commands.TimerKey.TheVariants.{Delay as OfDelay, Timer as OfTimer}
use Rattle.nt_event.specs.declared.inserts.Setting.{Setting}
use Rattle.nt_event.specs.Timers.{Timers, renewed, setting_in}
use Rattle.nt_event.specs.Numbers.{thread, timer}
use Rattle.nt_timer.specs.Changes.{Advanced, Cancelled, Change, Delayed, Expired, NumberedBelow, Set, after_changes}
use Rattle.nt_timer.specs.Laws.{NumbersTellKeys}
use Rattle.nt_timer.specs.Settings.{due_at, new_timers, setting_after, setting_at, with_setting}
use Rattle.std.proofs.lemmas.Bool.{cases_lt, eqb-false, eqb-true}
use Rattle.std.proofs.lemmas.List.{get_or-set_other, get_or-set_same, get_or_past, length-set}

-- ---- what is read after a write

-- what is read at a place that was written is what was written
written_here : (xs : List (Option Setting)) (t : ℕ) (o : Option Setting) (s : Setting) → setting_in (set xs t o) t ≡ Some s →
    (t < length xs) ⊎ (length xs ≤ t) → o ≡ Some s
written_here xs t o s h (inl less) = sym (get_or-set_same xs t o None less) ∙ h
written_here xs t o s h (inr past) =
    let none : setting_in (set xs t o) t ≡ None = get_or_past (set xs t o) t None (omega (arith, length-set xs t o)) in
    let e : None ≡ Some s = sym none ∙ h in cc

-- what is read after one place was written is what was written there, or was in the list before
written : (xs : List (Option Setting)) (t u : ℕ) (o : Option Setting) (s : Setting) → setting_in (set xs t o) u ≡ Some s → (b : Bool) → eqb u t ≡ b →
    ((u ≡ t) × (o ≡ Some s)) ⊎ (setting_in xs u ≡ Some s)
written xs t u o s h false e = inr (sym (get_or-set_other xs t u o None (eqb-false u t e)) ∙ h)
written xs t u o s h true e =
    let at : u ≡ t = eqb-true u t e in
    let here : setting_in (set xs t o) t ≡ Some s = subst (λ (k : ℕ). setting_in (set xs t o) k ≡ Some s) at h in
    inl (at, written_here xs t o s here (cases_lt t (length xs)))

-- the setting of a key after a write is the one that was written there, or as it was
pub setting_written : (key c : TimerKey) (o : Option Setting) (x : Timers) (s : Setting) → setting_at c (with_setting key o x) ≡ Some s →
    ((c ≡ key) × (o ≡ Some s)) ⊎ (setting_at c x ≡ Some s)
setting_written (OfTimer t) (OfTimer u) o x s h =
    elim (written x.timers t.0 u.0 o s h (eqb u.0 t.0) refl) [
      | inl w ↦ inl (ap (λ (n : ℕ). OfTimer (timer n)) w.0, w.1)
      | inr old ↦ inr old
    ]
setting_written (OfDelay t) (OfDelay u) o x s h =
    elim (written x.delays t.0 u.0 o s h (eqb u.0 t.0) refl) [
      | inl w ↦ inl (ap (λ (n : ℕ). OfDelay (thread n)) w.0, w.1)
      | inr old ↦ inr old
    ]
setting_written (OfTimer t) (OfDelay u) o x s h = inr h
setting_written (OfDelay t) (OfTimer u) o x s h = inr h

-- ---- numbers

-- a setting that is made for a due time has its event's number
due_number : (due n period : ℕ) (s : Setting) → due_at due n period ≡ Some s → s.number ≡ n
due_number due n period s h = cc

-- a setting that is renewed after an expiry has its event's number
renewed_number : (n now : ℕ) (old : Option Setting) (s : Setting) → renewed n now old ≡ Some s → s.number ≡ n
renewed_number n now None s h = absurd (cc)
renewed_number n now (Some x) s h = go (eqb x.period 0) h
  where
    go : (b : Bool) → cond b None (due_at (now + x.period) n x.period) ≡ Some s → s.number ≡ n
    go true h = absurd (cc)
    go false h = due_number (now + x.period) n x.period s h

-- the setting that a key has after an event that sets it has this event's number
after_number : (key : TimerKey) (n : ℕ) (x : Timers) (s : Setting) → setting_after key n x ≡ Some s → s.number ≡ n
after_number (OfTimer t) n x s h = renewed_number n x.now (setting_in x.timers t.0) s h
after_number (OfDelay t) n x s h = absurd (cc)

-- no place of a list of absent settings has a setting
nothing_set : (k i : ℕ) → setting_in (replicate k None) i ≡ None
nothing_set zero i = refl
nothing_set (suc k) zero = refl
nothing_set (suc k) (suc i) = nothing_set k i

-- no key is set in new timers
none_new : (timers threads : ℕ) (key : TimerKey) (s : Setting) → setting_at key (new_timers timers threads) ≡ Some s → ⊥
none_new timers threads (OfTimer t) s h =
    let e : None ≡ Some s = sym (nothing_set timers t.0) ∙ h in cc
none_new timers threads (OfDelay t) s h =
    let e : None ≡ Some s = sym (nothing_set threads t.0) ∙ h in cc

-- what a write leaves has the number of the write, where it is new
new_or_old : (key c : TimerKey) (o : Option Setting) (m : ℕ) (x : Timers) (s : Setting) → ((z : Setting) → o ≡ Some z → z.number ≡ m) →
    setting_at c (with_setting key o x) ≡ Some s → ((c ≡ key) × (s.number ≡ m)) ⊎ (setting_at c x ≡ Some s)
new_or_old key c o m x s n h =
    elim (setting_written key c o x s h) [ inl w ↦ inl (w.0, n s w.1) | inr old ↦ inr old ]

-- settings' numbers stay below a bound after a setting of a number below it is written
below_write : (key c : TimerKey) (o : Option Setting) (m n : ℕ) (x : Timers) (s : Setting) → ((z : Setting) → o ≡ Some z → z.number ≡ m) → m < n →
    (setting_at c x ≡ Some s → s.number < n) → setting_at c (with_setting key o x) ≡ Some s → s.number < n
below_write key c o m n x s numbered less rest h =
    elim (new_or_old key c o m x s numbered h) [ inl w ↦ omega (arith, w.1) | inr old ↦ rest old ]

-- a key that is set after a key's setting was removed was set before
removed : (key c : TimerKey) (x : Timers) (s : Setting) → setting_at c (with_setting key None x) ≡ Some s → setting_at c x ≡ Some s
removed key c x s h =
    elim (setting_written key c None x s h) [ inl w ↦ absurd (let e : None ≡ Some s = w.1 in cc) | inr old ↦ old ]

-- a key that is set after the time changed was set before
same_settings : (c : TimerKey) (x : Timers) (now : ℕ) (s : Setting) → setting_at c (record x { now = now }) ≡ Some s → setting_at c x ≡ Some s
same_settings (OfTimer t) x now s h = h
same_settings (OfDelay t) x now s h = h

-- every setting has a number below one that is above those of the changes
pub numbers_below : (timers threads n : ℕ) (past : List Change) → NumberedBelow n past → (c : TimerKey) (s : Setting) →
    setting_at c (after_changes (new_timers timers threads) past) ≡ Some s → s.number < n
numbers_below timers threads n [] h c s at = absurd (none_new timers threads c s at)
numbers_below timers threads n (Set t due period m ∷ past) h c s at =
    let x : Timers = after_changes (new_timers timers threads) past in
    below_write (OfTimer t) c (due_at (x.now + due) m period) m n x s (λ z e. due_number (x.now + due) m period z e) h.0
    (numbers_below timers threads n past h.1 c s) at
numbers_below timers threads n (Cancelled t ∷ past) h c s at =
    numbers_below timers threads n past h c s (removed (OfTimer t) c (after_changes (new_timers timers threads) past) s at)
numbers_below timers threads n (Delayed t due m ∷ past) h c s at =
    let x : Timers = after_changes (new_timers timers threads) past in
    below_write (OfDelay t) c (due_at due m 0) m n x s (λ z e. due_number due m 0 z e) h.0 (numbers_below timers threads n past h.1 c s) at
numbers_below timers threads n (Advanced units ∷ past) h c s at =
    let x : Timers = after_changes (new_timers timers threads) past in
    numbers_below timers threads n past h c s (same_settings c x (x.now + units) s at)
numbers_below timers threads n (Expired key m ∷ past) h c s at =
    let x : Timers = after_changes (new_timers timers threads) past in
    below_write key c (setting_after key m x) m n x s (λ z e. after_number key m x z e) h.0 (numbers_below timers threads n past h.1 c s) at

-- two keys with one number are one, after a write whose number is above those before
one_write : (key a b : TimerKey) (o : Option Setting) (m : ℕ) (x : Timers) (s t : Setting) → ((z : Setting) → o ≡ Some z → z.number ≡ m) →
    ((c : TimerKey) (z : Setting) → setting_at c x ≡ Some z → z.number < m) → (setting_at a x ≡ Some s → setting_at b x ≡ Some t → a ≡ b) →
    s.number ≡ t.number → setting_at a (with_setting key o x) ≡ Some s → setting_at b (with_setting key o x) ≡ Some t → a ≡ b
one_write key a b o m x s t numbered below rest same at to =
    go (new_or_old key a o m x s numbered at) (new_or_old key b o m x t numbered to)
  where
    go : ((a ≡ key) × (s.number ≡ m)) ⊎ (setting_at a x ≡ Some s) → ((b ≡ key) × (t.number ≡ m)) ⊎ (setting_at b x ≡ Some t) → a ≡ b
    go (inl v) (inl w) = v.0 ∙ sym w.0
    go (inl v) (inr old) = absurd (let l = below b t old in omega (arith, l, v.1))
    go (inr old) (inl w) = absurd (let l = below a s old in omega (arith, l, w.1))
    go (inr old) (inr older) = rest old older

-- after calls whose numbers rise, two keys that were set by the same event are the same key
pub numbers_tell_keys : NumbersTellKeys
numbers_tell_keys timers threads [] h a b s t at to e = absurd (none_new timers threads a s at)
numbers_tell_keys timers threads (Set u due period m ∷ past) h a b s t at to e =
    let x : Timers = after_changes (new_timers timers threads) past in
    one_write (OfTimer u) a b (due_at (x.now + due) m period) m x s t (λ z k. due_number (x.now + due) m period z k) (numbers_below timers threads m past h.0)
    (λ old older. numbers_tell_keys timers threads past h.1 a b s t old older e) e at to
numbers_tell_keys timers threads (Cancelled u ∷ past) h a b s t at to e =
    let x : Timers = after_changes (new_timers timers threads) past in
    numbers_tell_keys timers threads past h a b s t (removed (OfTimer u) a x s at) (removed (OfTimer u) b x t to) e
numbers_tell_keys timers threads (Delayed u due m ∷ past) h a b s t at to e =
    let x : Timers = after_changes (new_timers timers threads) past in
    one_write (OfDelay u) a b (due_at due m 0) m x s t (λ z k. due_number due m 0 z k) (numbers_below timers threads m past h.0)
    (λ old older. numbers_tell_keys timers threads past h.1 a b s t old older e) e at to
numbers_tell_keys timers threads (Advanced units ∷ past) h a b s t at to e =
    let x : Timers = after_changes (new_timers timers threads) past in
    numbers_tell_keys timers threads past h a b s t (same_settings a x (x.now + units) s at) (same_settings b x (x.now + units) t to) e
numbers_tell_keys timers threads (Expired key m ∷ past) h a b s t at to e =
    let x : Timers = after_changes (new_timers timers threads) past in
    one_write key a b (setting_after key m x) m x s t (λ z k. after_number key m x z k) (numbers_below timers threads m past h.0)
    (λ old older. numbers_tell_keys timers threads past h.1 a b s t old older e) e at to
