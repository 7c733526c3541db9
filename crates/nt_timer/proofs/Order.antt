-- The first due key comes before every other due key.
use Rattle.std.proofs.Common.{◌≡◌, ◌≤◌, ◌<◌, ◌⊎◌, ◌&&◌, ◌+◌, ◌++◌, Bool, true, false, List, [], ◌∷◌, Option, Some, None, ℕ, ap, arith, cond, eqb, ltb, inl, inr}
use Rattle.std.proofs.Common.{refl, subst, suc, sym, zero, ◌∙◌}
use Rattle.nt_event.specs.declared.commands.TimerKey.{TimerKey}
use Rattle.nt_event.specs.declared.commands.TimerKey.TheVariants.{Delay as OfDelay, Timer as OfTimer}
use Rattle.nt_event.specs.declared.inserts.Setting.{Setting}
use Rattle.nt_event.specs.Timers.{SetKey, Timers, earlier, first_due, is_due_key, is_earlier, keyed, set_keys, setting_in}
use Rattle.nt_event.specs.Numbers.{thread, timer}
use Rattle.nt_timer.specs.Laws.{FirstDueIsFirst, IsFirstDue, IsNotEarlier}
use Rattle.nt_timer.specs.Settings.{setting_at}
use Rattle.nt_timer.proofs.Among.{Among, first_due_among, set_key_is_set}
use Rattle.std.specs.List.{filter, fold, reduce}
use Rattle.std.specs.Option.{MatchOption}
use Rattle.std.proofs.lemmas.Bool.{and_cases, and_parts, eqb-false, eqb-true, le-leb, leb-true, ltb-false, ltb-true, or_cases, or_parts, cases_lt, false≢true}

-- ---- earlier or not

-- if a second setting isn't earlier than a first, nor a third than the second, the third isn't than the first
not_earlier_trans : (a b c : Setting) → IsNotEarlier a b → IsNotEarlier b c → IsNotEarlier a c
not_earlier_trans a b c (inl p) (inl q) = inl (omega arith)
not_earlier_trans a b c (inl p) (inr q) = inl (omega (arith, q.0))
not_earlier_trans a b c (inr p) (inl q) = inl (omega (arith, p.0))
not_earlier_trans a b c (inr p) (inr q) = inr (omega (arith, p.0, q.0), omega (arith, p.1, q.1))

-- if a key tests as earlier than another, the other's setting isn't earlier than its own
before : (a b : SetKey) → is_earlier b a ≡ true → IsNotEarlier b.setting a.setting
before a b h =
    elim (or_cases (ltb b.setting.due a.setting.due) (eqb b.setting.due a.setting.due && ltb b.setting.number a.setting.number) h) [
      | inl less ↦ inl (ltb-true b.setting.due a.setting.due less)
      | inr rest ↦ let p = and_parts (eqb b.setting.due a.setting.due) (ltb b.setting.number a.setting.number) rest in
          let less = ltb-true b.setting.number a.setting.number p.1 in inr (eqb-true b.setting.due a.setting.due p.0, omega arith)
    ]

-- a setting due no sooner than another isn't earlier, if it has no lower number at the same due time
not_less : (a b : Setting) → (eqb b.due a.due && ltb b.number a.number) ≡ false → a.due ≤ b.due → (a.due < b.due) ⊎ (b.due ≤ a.due) → IsNotEarlier a b
not_less a b h least (inl less) = inl less
not_less a b h least (inr most) =
    elim (and_cases (eqb b.due a.due) (ltb b.number a.number) h) [
      | inl apart ↦ absurd (eqb-false b.due a.due apart (omega arith))
      | inr number ↦ let n = ltb-false b.number a.number number in inr (omega arith, n)
    ]

-- if the test says that a key isn't earlier than another, its setting isn't earlier either
pub after : (a b : SetKey) → is_earlier b a ≡ false → IsNotEarlier a.setting b.setting
after a b h =
    let p = or_parts (ltb b.setting.due a.setting.due) (eqb b.setting.due a.setting.due && ltb b.setting.number a.setting.number) h in
    not_less a.setting b.setting p.1 (ltb-false b.setting.due a.setting.due p.0) (cases_lt a.setting.due b.setting.due)

-- a setting isn't earlier than itself
itself : (a : Setting) → IsNotEarlier a a
itself a = inr (refl, omega arith)

-- of a choice by the test of the earlier, the first key isn't earlier than the chosen one
earlier_left : (a b : SetKey) (t : Bool) → is_earlier b a ≡ t → IsNotEarlier (cond t b a).setting a.setting
earlier_left a b true h = before a b h
earlier_left a b false h = itself a.setting

-- of a choice by the test of the earlier, the second key isn't earlier than the chosen one
earlier_right : (a b : SetKey) (t : Bool) → is_earlier b a ≡ t → IsNotEarlier (cond t b a).setting b.setting
earlier_right a b true h = itself b.setting
earlier_right a b false h = after a b h

-- ---- the least of a list

-- no key of a list is earlier than the earliest of the list, starting from one
fold_least : (b : SetKey) (ks : List SetKey) (k : SetKey) → Among k (b ∷ ks) → IsNotEarlier (fold earlier b ks).setting k.setting
fold_least b [] k (inl e) = rw e (itself b.setting)
fold_least b [] k (inr at) = absurd at
fold_least b (z ∷ zs) k (inl e) =
    rw e (not_earlier_trans (fold earlier (earlier b z) zs).setting (earlier b z).setting b.setting (fold_least (earlier b z) zs (earlier b z) (inl refl))
    (earlier_left b z (is_earlier z b) refl))
fold_least b (z ∷ zs) k (inr (inl e)) =
    rw e (not_earlier_trans (fold earlier (earlier b z) zs).setting (earlier b z).setting z.setting (fold_least (earlier b z) zs (earlier b z) (inl refl))
    (earlier_right b z (is_earlier z b) refl))
fold_least b (z ∷ zs) k (inr (inr at)) = fold_least (earlier b z) zs k (inr at)

-- no key of a list is earlier than what its reduction to the earliest gives
reduce_least : (ks : List SetKey) (k y : SetKey) → reduce earlier ks ≡ Some k → Among y ks → IsNotEarlier k.setting y.setting
reduce_least [] k y h at = absurd at
reduce_least (x ∷ xs) k y h at =
    let e : fold earlier x xs ≡ k = cc in
    subst (λ (z : SetKey). IsNotEarlier z.setting y.setting) e (fold_least x xs y at)

-- if no earliest key is found in a list, no key is in it
pub reduce_none : (ks : List SetKey) (y : SetKey) → reduce earlier ks ≡ None → Among y ks → ⊥
reduce_none [] y h at = at
reduce_none (x ∷ xs) y h at = cc

-- ---- what is set is among the keys

-- case: one key in front; a key of the list that passes a test is kept by the filter
kept : (p : SetKey → Bool) (k x : SetKey) (xs : List SetKey) → p k ≡ true → (Among k xs → Among k (filter p xs)) → Among k (x ∷ xs) → (t : Bool) → p x ≡ t →
    Among k (filter p (x ∷ xs))
kept p k x xs h rest (inl e) true t = rw t (inl e)
kept p k x xs h rest (inl e) false t = absurd (false≢true (sym t ∙ ap p (sym e) ∙ h))
kept p k x xs h rest (inr at) true t = rw t (inr (rest at))
kept p k x xs h rest (inr at) false t = rw t (rest at)

-- a key of a list that passes a test is among the filtered keys
among_filter : (p : SetKey → Bool) (k : SetKey) (xs : List SetKey) → p k ≡ true → Among k xs → Among k (filter p xs)
among_filter p k [] h at = at
among_filter p k (x ∷ xs) h at = kept p k x xs h (among_filter p k xs h) at (p x) refl

-- a key of a list is among this list with another appended
among_left : (k : SetKey) (xs ys : List SetKey) → Among k xs → Among k (xs ++ ys)
among_left k [] ys at = absurd at
among_left k (x ∷ xs) ys (inl e) = inl e
among_left k (x ∷ xs) ys (inr at) = inr (among_left k xs ys at)

-- a key of a list is among this list appended to another
among_right : (k : SetKey) (xs ys : List SetKey) → Among k ys → Among k (xs ++ ys)
among_right k [] ys at = at
among_right k (x ∷ xs) ys at = inr (among_right k xs ys at)

-- a setting at a place of a table is among the keys listed from the table
placed_among : (key : ℕ → TimerKey) (n m i : ℕ) (xs : List (Option Setting)) (x : Setting) → n + i ≡ m → setting_in xs i ≡ Some x →
    Among (record { key = key m; setting = x }) (keyed key n xs)
placed_among key n m i [] x e h = cc
placed_among key n m zero (None ∷ xs) x e h = absurd (cc)
placed_among key n m zero (Some y ∷ xs) x e h =
    let same : y ≡ x = cc in
    let place : n ≡ m = omega arith in
    inl (λ j. record { key = key (sym place j); setting = sym same j })
placed_among key n m (suc i) (None ∷ xs) x e h = placed_among key (suc n) m i xs x (omega arith) h
placed_among key n m (suc i) (Some y ∷ xs) x e h = inr (placed_among key (suc n) m i xs x (omega arith) h)

-- a key that has a setting is among the set keys
set_among : (x : Timers) (key : TimerKey) (setting : Setting) → setting_at key x ≡ Some setting → Among (record { key = key; setting = setting }) (set_keys x)
set_among x (OfTimer t) setting h =
    among_left (record { key = OfTimer t; setting = setting }) (keyed (λ n. OfTimer (timer n)) 0 x.timers) (keyed (λ n. OfDelay (thread n)) 0 x.delays)
    (placed_among (λ n. OfTimer (timer n)) 0 t.0 t.0 x.timers setting (omega arith) h)
set_among x (OfDelay t) setting h =
    among_right (record { key = OfDelay t; setting = setting }) (keyed (λ n. OfTimer (timer n)) 0 x.timers) (keyed (λ n. OfDelay (thread n)) 0 x.delays)
    (placed_among (λ n. OfDelay (thread n)) 0 t.0 t.0 x.delays setting (omega arith) h)

-- a set key whose due time is reached is among the due keys
pub due_among : (x : Timers) (key : TimerKey) (setting : Setting) → setting_at key x ≡ Some setting → setting.due ≤ x.now →
    Among (record { key = key; setting = setting }) (filter (is_due_key x.now) (set_keys x))
due_among x key setting h due =
    among_filter (is_due_key x.now) (record { key = key; setting = setting }) (set_keys x) (le-leb setting.due x.now due) (set_among x key setting h)

-- ---- the first due key

-- the time is before a due time that isn't at most the time
not_due : (due now : ℕ) → (due ≤ now → ⊥) → (now < due) ⊎ (due ≤ now) → now < due
not_due due now h (inl less) = less
not_due due now h (inr most) = absurd (h most)

-- the first due key is set, due and no later than any other due key; if there is none, no key is due
found : (x : Timers) (o : Option SetKey) → first_due x ≡ o → MatchOption o
    ((key : TimerKey) (setting : Setting) → setting_at key x ≡ Some setting → x.now < setting.due) (IsFirstDue x)
found x None e =
    λ key setting h. not_due setting.due x.now (λ due. reduce_none (filter (is_due_key x.now) (set_keys x)) (record { key = key; setting = setting }) e
    (due_among x key setting h due)) (cases_lt x.now setting.due)
found x (Some k) e =
    let at = first_due_among x k e in
    record {
      is_set = set_key_is_set x k at.0;
      due = leb-true k.setting.due x.now at.1;
      first = λ key setting h due. reduce_least (filter (is_due_key x.now) (set_keys x)) k (record { key = key; setting = setting }) e
          (due_among x key setting h due);
    }

-- the answered first due key is due and no due key is earlier, and if none is answered no set key is due
pub first_due_is_first : FirstDueIsFirst
first_due_is_first x = found x (first_due x) refl
