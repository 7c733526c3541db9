-- The first due key is one of the keys that are set.
use Rattle.std.proofs.Common.{◌≡◌, ◌⊎◌, ◌+◌, ◌++◌, Bool, true, false, List, [], ◌∷◌, Option, Some, None, ℕ, add-zero, ap, arith, cond, inl, inr, option_map}
use Rattle.std.proofs.Common.{refl, subst, suc, sym, zero, ◌∙◌}
use Rattle.nt_event.specs.declared.commands.TimerKey.{TimerKey}
use Rattle.nt_event.specs.declared.commands.TimerKey.TheVariants.{Delay as OfDelay, Timer as OfTimer}
use Rattle.nt_event.specs.declared.inserts.Setting.{Setting}
use Rattle.nt_event.specs.Timers.{SetKey, Timers, earlier, first_due, is_due_key, is_earlier, keyed, set_keys, setting_in}
use Rattle.nt_event.specs.Numbers.{thread, timer}
use Rattle.nt_timer.specs.Settings.{due_entry, setting_at}
use Rattle.std.specs.List.{filter, fold, reduce}

abbrev pub Among : SetKey → List SetKey → Type 0
Among k [] = ⊥
Among k (x ∷ xs) = (k ≡ x) ⊎ Among k xs

-- ---- what a reduce and a filter give

-- a choice between two keys is one of the two
either_one : (t : Bool) (a b : SetKey) → (cond t b a ≡ a) ⊎ (cond t b a ≡ b)
either_one true a b = inr refl
either_one false a b = inl refl

-- the earliest of a list of keys, starting from one, is that one or in the list
fold_among : (b : SetKey) (ks : List SetKey) → Among (fold earlier b ks) (b ∷ ks)
fold_among b [] = inl refl
fold_among b (k ∷ ks) = go (either_one (is_earlier k b) b k) (fold_among (earlier b k) ks)
  where
    go : (earlier b k ≡ b) ⊎ (earlier b k ≡ k) → Among (fold earlier (earlier b k) ks) (earlier b k ∷ ks) → Among (fold earlier (earlier b k) ks) (b ∷ k ∷ ks)
    go (inl e) (inl h) = inl (h ∙ e)
    go (inr e) (inl h) = inr (inl (h ∙ e))
    go e (inr h) = inr (inr h)

-- the earliest key of a list of keys is in that list
pub reduce_among : (ks : List SetKey) (k : SetKey) → reduce earlier ks ≡ Some k → Among k ks
reduce_among [] k h = absurd (cc)
reduce_among (x ∷ xs) k h =
    let e : fold earlier x xs ≡ k = cc in subst (λ (z : SetKey). Among z (x ∷ xs)) e (fold_among x xs)

-- case: one key in front; a key that a filter keeps is in the list and passes the test
passed : (p : SetKey → Bool) (k x : SetKey) (xs : List SetKey) → (Among k (filter p xs) → Among k xs × (p k ≡ true)) → Among k (filter p (x ∷ xs)) →
    (t : Bool) → p x ≡ t → Among k (x ∷ xs) × (p k ≡ true)
passed p k x xs rest at true h = go (rw h at at)
  where
    go : Among k (x ∷ filter p xs) → Among k (x ∷ xs) × (p k ≡ true)
    go (inl e) = (inl e, rw e h)
    go (inr later) = let r = rest later in (inr r.0, r.1)
passed p k x xs rest at false h = let r = rest (rw h at at) in (inr r.0, r.1)

-- a key that a filter keeps is in the list and passes the filter's test
pub filter_among : (p : SetKey → Bool) (k : SetKey) (xs : List SetKey) → Among k (filter p xs) → Among k xs × (p k ≡ true)
filter_among p k [] at = absurd at
filter_among p k (x ∷ xs) at = passed p k x xs (filter_among p k xs) at (p x) refl

-- a key in two lists appended is in one of them
append_among : (k : SetKey) (xs ys : List SetKey) → Among k (xs ++ ys) → Among k xs ⊎ Among k ys
append_among k [] ys at = inr at
append_among k (x ∷ xs) ys (inl e) = inl (inl e)
append_among k (x ∷ xs) ys (inr at) =
    elim (append_among k xs ys at) [ inl here ↦ inl (inr here) | inr there ↦ inr there ]

-- ---- keys of a table

-- the key's setting stands at the place that names it
pub record IsPlaced (key : ℕ → TimerKey) (n : ℕ) (xs : List (Option Setting)) (k : SetKey) : Type 0 where
  pub place : ℕ
  pub named : k.key ≡ key (n + place)
  pub setting : setting_in xs place ≡ Some k.setting

-- a key placed by the rest of a table is placed by the table, one place later
later : (key : ℕ → TimerKey) (n : ℕ) (x : Option Setting) (xs : List (Option Setting)) (k : SetKey) → IsPlaced key (suc n) xs k → IsPlaced key n (x ∷ xs) k
later key n x xs k h =
    let e : suc n + h.place ≡ n + suc h.place = omega arith in
    record { place = suc h.place; named = h.named ∙ ap key e; setting = h.setting }

-- a key that is listed from a table of settings has its setting in the table at the place that names it
pub keyed_placed : (key : ℕ → TimerKey) (n : ℕ) (xs : List (Option Setting)) (k : SetKey) → Among k (keyed key n xs) → IsPlaced key n xs k
keyed_placed key n [] k at = absurd at
keyed_placed key n (None ∷ xs) k at = later key n None xs k (keyed_placed key (suc n) xs k at)
keyed_placed key n (Some x ∷ xs) k (inl e) =
    record { place = zero; named = rw (e, add-zero n); setting = rw e }
keyed_placed key n (Some x ∷ xs) k (inr at) = later key n (Some x) xs k (keyed_placed key (suc n) xs k at)

-- a key among those that are set has that setting
pub set_key_is_set : (x : Timers) (k : SetKey) → Among k (set_keys x) → setting_at k.key x ≡ Some k.setting
set_key_is_set x k at = go (append_among k (keyed (λ n. OfTimer (timer n)) 0 x.timers) (keyed (λ n. OfDelay (thread n)) 0 x.delays) at)
  where
    go : Among k (keyed (λ n. OfTimer (timer n)) 0 x.timers) ⊎ Among k (keyed (λ n. OfDelay (thread n)) 0 x.delays) → setting_at k.key x ≡ Some k.setting
    go (inl at) =
        let h = keyed_placed (λ n. OfTimer (timer n)) 0 x.timers k at in
        let e : 0 + h.place ≡ h.place = omega arith in rw (h.named, e) h.setting
    go (inr at) =
        let h = keyed_placed (λ n. OfDelay (thread n)) 0 x.delays k at in
        let e : 0 + h.place ≡ h.place = omega arith in rw (h.named, e) h.setting

-- the first due key is set and due
pub first_due_among : (x : Timers) (k : SetKey) → first_due x ≡ Some k → Among k (set_keys x) × (is_due_key x.now k ≡ true)
first_due_among x k h =
    filter_among (is_due_key x.now) k (set_keys x) (reduce_among (filter (is_due_key x.now) (set_keys x)) k h)

-- ---- what expires

-- the key of the first due entry is the key of the first due setting
first_key : (x : Timers) (key : TimerKey) (o : Option SetKey) → first_due x ≡ o →
    option_map (λ (e : TimerKey × ℕ). e.0) (option_map (λ (k : SetKey). (k.key, k.setting.number)) o) ≡ Some key →
    (k : SetKey) × (first_due x ≡ Some k) × (k.key ≡ key)
first_key x key None h e = absurd (cc)
first_key x key (Some k) h e = (k, h, (let same : k.key ≡ key = cc in same))

-- if a due key is answered, it is the first due key, and is set as that says
pub due_setting : (x : Timers) (key : TimerKey) → option_map (λ (e : TimerKey × ℕ). e.0) (due_entry x) ≡ Some key →
    (k : SetKey) × (first_due x ≡ Some k) × (k.key ≡ key) × (setting_at key x ≡ Some k.setting)
due_setting x key h =
    let r = first_key x key (first_due x) refl h in
    (r.0, r.1, r.2, ap (λ (k : TimerKey). setting_at k x) (sym r.2) ∙ set_key_is_set x r.0 (first_due_among x r.0 r.1).0)

-- the key that expires is set
pub due_is_set : (x : Timers) (key : TimerKey) → option_map (λ (e : TimerKey × ℕ). e.0) (due_entry x) ≡ Some key → setting_at key x ≡ None → ⊥
due_is_set x key h none = let r = due_setting x key h in let e : Some r.0.setting ≡ None = sym r.3 ∙ none in cc

-- and its number is that of its setting
pub due_entry_is : (x : Timers) (key : TimerKey) (old : Setting) → option_map (λ (e : TimerKey × ℕ). e.0) (due_entry x) ≡ Some key →
    setting_at key x ≡ Some old → due_entry x ≡ Some (key, old.number)
due_entry_is x key old h at =
    let r = due_setting x key h in
    let e : Some r.0.setting ≡ Some old = sym r.3 ∙ at in
    let same : r.0.setting ≡ old = cc in
    rw (r.1, r.2, same)
