-- The key that comes first by its number too is the first due key.
use Rattle.std.proofs.Common.{◌≡◌, ◌⊎◌, ◌<◌, ◌≤◌, ◌+◌, ◌-◌, ◌++◌, Bool, true, false, List, [], ◌∷◌, Option, Some, None, ℕ, ◌&&◌, ap, arith, cond, drop, eqb}
use Rattle.std.proofs.Common.{inl, inr, ltb}
use Rattle.std.proofs.Common.{refl, subst, suc, sym, take, ◌∙◌}
use Rattle.nt_event.specs.declared.commands.TimerKey.{TimerKey}
use Rattle.nt_event.specs.declared.commands.TimerKey.TheVariants.{Delay as OfDelay, Timer as OfTimer}
use Rattle.nt_event.specs.declared.inserts.Setting.{Setting}
use Rattle.nt_event.specs.Timers.{SetKey, Timers, earlier, first_due, is_due_key, is_earlier, keyed, set_keys, setting_in}
use Rattle.nt_event.specs.Numbers.{thread, timer}
use Rattle.nt_timer.specs.declared.due.DueKey.{DueKey}
use Rattle.nt_timer.specs.Due.{IsBefore}
use Rattle.nt_timer.specs.Keys.{index_of, key_of}
use Rattle.nt_timer.specs.Laws.{IsNotEarlier}
use Rattle.nt_timer.specs.Settings.{IsNumbered, due_entry, setting_at}
use Rattle.nt_timer.specs.Wheel.{IsFirstKey, due_key}
use Rattle.nt_timer.proofs.Among.{Among, filter_among, keyed_placed, reduce_among, set_key_is_set}
use Rattle.nt_timer.proofs.DueLists.{before_trans, not_both}
use Rattle.nt_timer.proofs.Order.{after, due_among, reduce_none}
use Rattle.std.specs.List.{filter, fold, reduce}
use Rattle.std.proofs.lemmas.Bool.{and_parts, cases_lt, eqb-true, leb-true, ltb-true, or_cases, lt-ltb, le-ltb}
use Rattle.std.proofs.lemmas.List.{get_or-drop, get_or-take, get_or_past, length-take}

-- ---- keys by number

-- the keys of these timers and delays, in a table by number
abbrev pub timers_of : ℕ → ℕ → List (Option Setting) → Timers
timers_of now timers settings = record { now = now; timers = take timers settings; delays = drop timers settings }

-- the key that is made from an index of the table has that index
pub index_of_key : (timers i : ℕ) → index_of timers (key_of timers i) ≡ i
index_of_key timers i = go (cases_lt i timers)
  where
    go : (i < timers) ⊎ (timers ≤ i) → index_of timers (key_of timers i) ≡ i
    go (inl less) = rw (lt-ltb i timers less) refl
    go (inr most) = rw (le-ltb i timers most) (omega arith)

-- the key that is made from an index has the setting that the table has there
pub setting_of_key : (now timers i : ℕ) (settings : List (Option Setting)) →
    setting_at (key_of timers i) (timers_of now timers settings) ≡ setting_in settings i
setting_of_key now timers i settings = go (cases_lt i timers)
  where
    go : (i < timers) ⊎ (timers ≤ i) → setting_at (key_of timers i) (timers_of now timers settings) ≡ setting_in settings i
    go (inl less) = rw (lt-ltb i timers less) (get_or-take timers settings i None less)
    go (inr most) =
        let e : timers + (i - timers) ≡ i = omega arith in
        rw (le-ltb i timers most) (get_or-drop timers settings (i - timers) None ∙ ap (setting_in settings) e)

-- a key that is set has its setting in the table at the key's index
pub setting_by_index : (now timers : ℕ) (settings : List (Option Setting)) (key : TimerKey) (s : Setting) →
    setting_at key (timers_of now timers settings) ≡ Some s → setting_in settings (index_of timers key) ≡ Some s
setting_by_index now timers settings (OfTimer t) s h = go (cases_lt t.0 timers)
  where
    go : (t.0 < timers) ⊎ (timers ≤ t.0) → setting_in settings t.0 ≡ Some s
    go (inl less) = sym (get_or-take timers settings t.0 None less) ∙ h
    go (inr most) =
        absurd
        (let none : setting_in (take timers settings) t.0 ≡ None =
        get_or_past (take timers settings) t.0 None (omega (arith, length-take timers settings)) in
        cc)
setting_by_index now timers settings (OfDelay t) s h = sym (get_or-drop timers settings t.0 None) ∙ h

-- ---- keys in the order of their numbers

abbrev Rises : ℕ → List SetKey → Type 0
Rises timers [] = Unit {0}
Rises timers (k ∷ ks) = ((m : SetKey) → Among m ks → index_of timers k.key < index_of timers m.key) × Rises timers ks

-- a key among two lists of set keys appended is among the first or among the second
among_either : (k : SetKey) (xs ys : List SetKey) → Among k (xs ++ ys) → Among k xs ⊎ Among k ys
among_either k [] ys at = inr at
among_either k (x ∷ xs) ys (inl e) = inl (inl e)
among_either k (x ∷ xs) ys (inr at) = elim (among_either k xs ys at) [ inl here ↦ inl (inr here) | inr there ↦ inr there ]

-- key numbers rise along two lists appended, if they rise in each and those of the first are below the second's
append_rises : (timers : ℕ) (xs ys : List SetKey) → Rises timers xs → Rises timers ys → ((a b : SetKey) → Among a xs → Among b ys →
    index_of timers a.key < index_of timers b.key) → Rises timers (xs ++ ys)
append_rises timers [] ys a b across = b
append_rises timers (x ∷ xs) ys a b across = (
  λ m at. elim (among_either m xs ys at) [ inl here ↦ a.0 m here | inr there ↦ across x m (inl refl) there ],
  append_rises timers xs ys a.1 b (λ p q at there. across p q (inr at) there),
)

-- case: one key in front; key numbers that rise along a list rise along what a filter keeps
filter_step : (timers : ℕ) (p : SetKey → Bool) (x : SetKey) (xs : List SetKey) → Rises timers (x ∷ xs) → Rises timers (filter p xs) → (t : Bool) →
    Rises timers (cond t (x ∷ filter p xs) (filter p xs))
filter_step timers p x xs h rest true = (λ m at. h.0 m (filter_among p m xs at).0, rest)
filter_step timers p x xs h rest false = rest

-- key numbers that rise along a list rise along the filtered list
filter_rises : (timers : ℕ) (p : SetKey → Bool) (xs : List SetKey) → Rises timers xs → Rises timers (filter p xs)
filter_rises timers p [] h = tt
filter_rises timers p (x ∷ xs) h = filter_step timers p x xs h (filter_rises timers p xs h.1) (p x)

-- the keys of a table, numbered from `base` on
keyed_rises : (timers base : ℕ) (key : ℕ → TimerKey) (n : ℕ) (xs : List (Option Setting)) → ((i : ℕ) → index_of timers (key i) ≡ base + i) →
    Rises timers (keyed key n xs)
keyed_rises timers base key n [] h = tt
keyed_rises timers base key n (None ∷ xs) h = keyed_rises timers base key (suc n) xs h
keyed_rises timers base key n (Some s ∷ xs) h = (
  λ m at.
      let x = keyed_placed key (suc n) xs m at in
      let e : index_of timers m.key ≡ base + (suc n + x.place) = ap (index_of timers) x.named ∙ h (suc n + x.place) in
      let d = h n in omega arith,
  keyed_rises timers base key (suc n) xs h,
)

-- the key number of a timer is below the number of timers
timer_below : (timers : ℕ) (settings : List (Option Setting)) (k : SetKey) → Among k (keyed (λ n. OfTimer (timer n)) 0 (take timers settings)) →
    index_of timers k.key < timers
timer_below timers settings k at =
    let x = keyed_placed (λ n. OfTimer (timer n)) 0 (take timers settings) k at in
    let e : index_of timers k.key ≡ 0 + x.place = ap (index_of timers) x.named in
    elim (cases_lt x.place timers) [
      | inl less ↦ omega arith
      | inr most ↦ absurd (let none : setting_in (take timers settings) x.place ≡ None =
          get_or_past (take timers settings) x.place None (omega (arith, length-take timers settings)) in let some = x.setting in cc)
    ]

-- the key number of a delay is at least the number of timers
delay_above : (timers : ℕ) (xs : List (Option Setting)) (k : SetKey) → Among k (keyed (λ n. OfDelay (thread n)) 0 xs) → timers ≤ index_of timers k.key
delay_above timers xs k at =
    let x = keyed_placed (λ n. OfDelay (thread n)) 0 xs k at in
    let e : index_of timers k.key ≡ timers + (0 + x.place) = ap (index_of timers) x.named in omega arith

-- key numbers rise along the list of all set keys
keys_rise : (now timers : ℕ) (settings : List (Option Setting)) → Rises timers (set_keys (timers_of now timers settings))
keys_rise now timers settings =
    append_rises timers (keyed (λ n. OfTimer (timer n)) 0 (take timers settings)) (keyed (λ n. OfDelay (thread n)) 0 (drop timers settings))
    (keyed_rises timers 0 (λ n. OfTimer (timer n)) 0 (take timers settings) (λ i. omega arith))
    (keyed_rises timers timers (λ n. OfDelay (thread n)) 0 (drop timers settings) (λ i. refl))
    (λ a b at there.
    let p = timer_below timers settings a at in let q = delay_above timers (drop timers settings) b there in omega arith)

-- ---- the first of keys in order

abbrev entry : ℕ → SetKey → DueKey
entry timers k = due_key (index_of timers k.key) k.setting

-- a key that tests as earlier than another is before it as an entry
entry_before : (timers : ℕ) (a b : SetKey) → is_earlier b a ≡ true → IsBefore (entry timers b) (entry timers a)
entry_before timers a b h =
    elim (or_cases (ltb b.setting.due a.setting.due) (eqb b.setting.due a.setting.due && ltb b.setting.number a.setting.number) h) [
      | inl less ↦ inl (ltb-true b.setting.due a.setting.due less)
      | inr rest ↦ let p = and_parts (eqb b.setting.due a.setting.due) (ltb b.setting.number a.setting.number) rest in
          inr (eqb-true b.setting.due a.setting.due p.0, inl (ltb-true b.setting.number a.setting.number p.1))
    ]

-- of two keys by rising number, the first is before the other as an entry if the other isn't earlier
entry_after : (timers : ℕ) (a b : SetKey) → index_of timers a.key < index_of timers b.key → IsNotEarlier a.setting b.setting →
    IsBefore (entry timers a) (entry timers b)
entry_after timers a b less (inl late) = inl late
entry_after timers a b less (inr tie) =
    elim (cases_lt a.setting.number b.setting.number) [
      | inl lower ↦ inr (tie.0, inl lower)
      | inr upper ↦ inr (tie.0, inr (let t = tie.1 in omega arith, less))
    ]

abbrev IsLeast : ℕ → SetKey → SetKey → Type 0
IsLeast timers m k = (k ≡ m) ⊎ IsBefore (entry timers m) (entry timers k)

-- an entry that is least against another is least against each that comes after the other
least_over : (timers : ℕ) (m a b : SetKey) → IsLeast timers m a → IsBefore (entry timers a) (entry timers b) → IsLeast timers m b
least_over timers m a b (inl e) h = inr (subst (λ (z : SetKey). IsBefore (entry timers z) (entry timers b)) e h)
least_over timers m a b (inr p) h = inr (before_trans (entry timers m) (entry timers a) (entry timers b) p h)

-- if numbers rise along a list, they rise with the first two keys replaced by either of them
best_rises : (timers : ℕ) (b z : SetKey) (zs : List SetKey) → Rises timers (b ∷ z ∷ zs) → (t : Bool) → Rises timers (cond t z b ∷ zs)
best_rises timers b z zs h true = h.1
best_rises timers b z zs h false = (λ m at. h.0 m (inr at), h.1.1)

-- what is least against the earlier of two keys is least against both
two_least : (timers : ℕ) (m b z : SetKey) → index_of timers b.key < index_of timers z.key → (t : Bool) → is_earlier z b ≡ t → IsLeast timers m (cond t z b) →
    IsLeast timers m b × IsLeast timers m z
two_least timers m b z less true e h = (least_over timers m z b h (entry_before timers b z e), h)
two_least timers m b z less false e h = (h, least_over timers m b z h (entry_after timers b z less (after b z e)))

-- the earliest of keys with rising numbers, starting from one, is before each other one as an entry
fold_least : (timers : ℕ) (b : SetKey) (ks : List SetKey) (k : SetKey) → Rises timers (b ∷ ks) → Among k (b ∷ ks) → IsLeast timers (fold earlier b ks) k
fold_least timers b [] k h (inl e) = inl e
fold_least timers b [] k h (inr at) = absurd at
fold_least timers b (z ∷ zs) k h (inl e) =
    let rest = fold_least timers (earlier b z) zs (earlier b z) (best_rises timers b z zs h (is_earlier z b)) (inl refl) in
    let two = two_least timers (fold earlier (earlier b z) zs) b z (h.0 z (inl refl)) (is_earlier z b) refl rest in
    subst (λ (x : SetKey). IsLeast timers (fold earlier (earlier b z) zs) x) (sym e) two.0
fold_least timers b (z ∷ zs) k h (inr (inl e)) =
    let rest = fold_least timers (earlier b z) zs (earlier b z) (best_rises timers b z zs h (is_earlier z b)) (inl refl) in
    let two = two_least timers (fold earlier (earlier b z) zs) b z (h.0 z (inl refl)) (is_earlier z b) refl rest in
    subst (λ (x : SetKey). IsLeast timers (fold earlier (earlier b z) zs) x) (sym e) two.1
fold_least timers b (z ∷ zs) k h (inr (inr at)) =
    fold_least timers (earlier b z) zs k (best_rises timers b z zs h (is_earlier z b)) (inr at)

-- the earliest of a list of keys with rising numbers is before each other key as an entry
reduce_first : (timers : ℕ) (ks : List SetKey) (m k : SetKey) → Rises timers ks → reduce earlier ks ≡ Some m → Among k ks → IsLeast timers m k
reduce_first timers [] m k h e at = absurd at
reduce_first timers (x ∷ xs) m k h e at =
    let same : fold earlier x xs ≡ m = cc in
    subst (λ (z : SetKey). IsLeast timers z k) same (fold_least timers x xs k h at)

-- ---- the first due key by number

-- the key that is first by due time, event and key number is the first due key of the timers
first_among : (now timers : ℕ) (settings : List (Option Setting)) (e : DueKey) → IsFirstKey now settings e → (o : Option SetKey) →
    first_due (timers_of now timers settings) ≡ o → (s : Setting) → setting_in settings e.key ≡ Some s → e ≡ due_key e.key s → s.due ≤ now →
    o ≡ Some (record { key = key_of timers e.key; setting = s })
first_among now timers settings e x None h s at same r =
    absurd (reduce_none (filter (is_due_key now) (set_keys (timers_of now timers settings))) (record { key = key_of timers e.key; setting = s }) h
    (due_among (timers_of now timers settings) (key_of timers e.key) s (setting_of_key now timers e.key settings ∙ at) r))
first_among now timers settings e x (Some m) h s at same r =
    let view : Timers = timers_of now timers settings in
    let k : SetKey = record { key = key_of timers e.key; setting = s } in
    let among : Among k (filter (is_due_key now) (set_keys view)) =
    due_among view (key_of timers e.key) s (setting_of_key now timers e.key settings ∙ at) r in
    let own : entry timers k ≡ e = ap (λ (n : ℕ). due_key n s) (index_of_key timers e.key) ∙ sym same in
    let m_in = filter_among (is_due_key now) m (set_keys view) (reduce_among (filter (is_due_key now) (set_keys view)) m h) in
    let m_set : setting_in settings (index_of timers m.key) ≡ Some m.setting =
    setting_by_index now timers settings m.key m.setting (set_key_is_set view m m_in.0) in
    let m_due : m.setting.due ≤ now = leb-true m.setting.due now m_in.1 in
    elim (reduce_first timers (filter (is_due_key now) (set_keys view)) m k
    (filter_rises timers (is_due_key now) (set_keys view) (keys_rise now timers settings)) h among) [
      | inl is ↦ ap (λ (z : SetKey). Some z) (sym is)
      | inr before ↦ absurd (wrong (index_of timers m.key) m.setting m_set m_due (subst (λ (z : DueKey). IsBefore (entry timers m) z) own before))
    ]
  where
    wrong : (i : ℕ) (t : Setting) → setting_in settings i ≡ Some t → t.due ≤ now → IsBefore (due_key i t) e → ⊥
    wrong i t at_i due b = elim (x.first i t at_i due) [
      | inl is ↦
          let here : setting_in settings e.key ≡ Some t = ap (setting_in settings) (sym is) ∙ at_i in
          let one : t ≡ s = cc in
          let self : due_key i t ≡ e = ap (λ (n : ℕ). due_key n t) is ∙ ap (λ (z : Setting). due_key e.key z) one ∙ sym same in
          not_both e e (subst (λ (z : DueKey). IsBefore z e) self b) (subst (λ (z : DueKey). IsBefore z e) self b)
      | inr c ↦ not_both e (due_key i t) c b
    ]

-- the first due key of the table is the due key that is answered, with the number of the event that set it
pub first_due_is : (now timers : ℕ) (settings : List (Option Setting)) (e : DueKey) → IsFirstKey now settings e →
    due_entry (timers_of now timers settings) ≡ Some (key_of timers e.key, e.number)
first_due_is now timers settings e x =
    let h = first_among now timers settings e x (first_due (timers_of now timers settings)) refl x.setting x.set x.same x.reached in
    let n : x.setting.number ≡ e.number = ap (λ (z : DueKey). z.number) (sym x.same) in
    rw (h, n) refl

-- if no key that is set is due, there is no first due key
none_first : (now timers : ℕ) (settings : List (Option Setting)) → ((k : ℕ) (s : Setting) → setting_in settings k ≡ Some s → now < s.due) →
    (o : Option SetKey) → first_due (timers_of now timers settings) ≡ o → o ≡ None
none_first now timers settings h None e = refl
none_first now timers settings h (Some m) e =
    let view : Timers = timers_of now timers settings in
    let at = filter_among (is_due_key now) m (set_keys view) (reduce_among (filter (is_due_key now) (set_keys view)) m e) in
    let set = setting_by_index now timers settings m.key m.setting (set_key_is_set view m at.0) in
    let late = h (index_of timers m.key) m.setting set in
    let due = leb-true m.setting.due now at.1 in absurd (omega arith)

-- if no key that the table sets is due, no due key is answered
pub none_due_is : (now timers : ℕ) (settings : List (Option Setting)) → ((k : ℕ) (s : Setting) → setting_in settings k ≡ Some s → now < s.due) →
    due_entry (timers_of now timers settings) ≡ None
none_due_is now timers settings h =
    rw (none_first now timers settings h (first_due (timers_of now timers settings)) refl) refl

-- the thread of a delay that is set has a number below 65536
pub delay_number : (timers k : ℕ) (s : Setting) (settings : List (Option Setting)) → IsNumbered (drop timers settings) → setting_in settings k ≡ Some s →
    timers ≤ k → k - timers < 65536
delay_number timers k s settings numbered at most =
    elim (cases_lt (k - timers) 65536) [
      | inl less ↦ less
      | inr far ↦
          let e : timers + (k - timers) ≡ k = omega arith in
          let none : setting_in settings k ≡ None =
          ap (setting_in settings) (sym e) ∙ sym (get_or-drop timers settings (k - timers) None) ∙ numbered (k - timers) far in
          absurd (cc)
    ]
