-- Lists of set keys in order: what they have of a key, where one key is taken out or put in anew.
use Rattle.std.proofs.Common.{ap, arith, cond, sym, ◌∙◌}
use Rattle.std.proofs.lemmas.Bool.{eq-eqb, eqb-true, lt-ltb, ltb-false, ltb-true}
use Rattle.std.specs.Prelude.{Bool, List, None, Option, Some, [], false, filter, find, map, nat_lt, not, option_map, refl, true, ℕ, ◌<◌, ◌==◌}
use Rattle.std.specs.Prelude.{◌∷◌, ◌≡◌, ◌≤◌, ◌&&◌, ◌||◌}
use Rattle.nt_event.specs.declared.commands.TimerKey.{TimerKey}
use Rattle.nt_event.specs.declared.commands.TimerKey.TheVariants.{Delay as OfDelay, Timer as OfTimer}
use Rattle.nt_event.specs.declared.inserts.Setting.{Setting}
use Rattle.nt_event.specs.Timers.{SetKey, is_earlier}
use Rattle.nt_alike.specs.Lists.{Each}
use Rattle.nt_alike.proofs.Mapped.{filter_map, find_map}
use Rattle.nt_shade_dpcs.specs.declared.timers.ShadeKey.{ShadeKey}
use Rattle.nt_shade_dpcs.specs.Keys.{placed, same_key, unset, without_key}
use Rattle.nt_shade_dpcs.specs.Timers.{AreInOrder, setting_among, shade_key}

-- ---- keys

-- timer keys that the comparison calls the same are equal
pub same_is : (a b : TimerKey) → same_key a b ≡ true → a ≡ b
same_is (OfTimer t) (OfTimer u) h = ap (λ (n : ℕ). OfTimer (record { 0 = n })) (eqb-true t.0 u.0 h)
same_is (OfDelay t) (OfDelay u) h = ap (λ (n : ℕ). OfDelay (record { 0 = n })) (eqb-true t.0 u.0 h)
same_is (OfTimer t) (OfDelay u) h = cc
same_is (OfDelay t) (OfTimer u) h = cc

-- the comparison of timer keys calls each key the same as itself
pub same_self : (a : TimerKey) → same_key a a ≡ true
same_self (OfTimer t) = eq-eqb t.0 t.0 refl
same_self (OfDelay t) = eq-eqb t.0 t.0 refl

-- the comparison of timer keys is symmetric
pub same_turned : (a b : TimerKey) → same_key a b ≡ same_key b a
same_turned (OfTimer t) (OfTimer u) = grind arith
same_turned (OfDelay t) (OfDelay u) = grind arith
same_turned (OfTimer t) (OfDelay u) = refl
same_turned (OfDelay t) (OfTimer u) = refl

-- ---- what holds of each

-- what follows from a property of each element of a list holds of each element
pub each_as : {A : Type 0} {P Q : A → Type 0} → ((x : A) → P x → Q x) → (xs : List A) → Each P xs → Each Q xs
each_as f [] h = tt
each_as f (x ∷ xs) h = (f x h.0, each_as f xs h.1)

-- what holds of an element and of a list holds of the list with or without that element in front
kept_if : {A : Type 0} (P : A → Type 0) (b : Bool) (x : A) (ys : List A) → P x → Each P ys → Each P (cond b (x ∷ ys) ys)
kept_if P true x ys p h = (p, h)
kept_if P false x ys p h = h

-- what holds of all elements of a list holds of those that are kept by a test
each_kept : {A : Type 0} (P : A → Type 0) (q : A → Bool) (xs : List A) → Each P xs → Each P (filter q xs)
each_kept P q [] h = tt
each_kept P q (x ∷ xs) h = kept_if P (q x) x (filter q xs) h.0 (each_kept P q xs h.1)

-- what holds of all set keys of two lists holds of all of the one chosen
each_either : (P : SetKey → Type 0) (b : Bool) (xs ys : List SetKey) → Each P xs → Each P ys → Each P (cond b xs ys)
each_either P true xs ys h k = h
each_either P false xs ys h k = k

-- what holds of all set keys of a list and of a new one holds of all with the new one placed by its due time
each_placed : (P : SetKey → Type 0) (v : SetKey) (xs : List SetKey) → P v → Each P xs → Each P (placed (λ x. x.setting.due) v xs)
each_placed P v [] p h = (p, tt)
each_placed P v (x ∷ xs) p h =
    each_either P (nat_lt v.setting.due x.setting.due) (v ∷ x ∷ xs) (x ∷ placed (λ x. x.setting.due) v xs) (p, h) (h.0, each_placed P v xs p h.1)

-- ---- a key is taken out

abbrev pub taken_out : TimerKey → List SetKey → List SetKey
taken_out k xs = without_key (λ x. x.key) k xs

-- a list of set keys in order stays in order when a key is taken out
pub out_order : (k : TimerKey) (xs : List SetKey) → AreInOrder xs → AreInOrder (taken_out k xs)
out_order k [] h = tt
out_order k (x ∷ xs) h = go (not (same_key k x.key)) (out_order k xs h.1)
  where
    go : (b : Bool) → AreInOrder (taken_out k xs) → AreInOrder (cond b (x ∷ taken_out k xs) (taken_out k xs))
    go true rest = (each_kept (λ (y : SetKey). is_earlier x y ≡ true) (λ (y : SetKey). not (same_key k y.key)) xs h.0, rest)
    go false rest = rest

-- a key that was taken out of a list of set keys has no setting there
pub out_gone : (k : TimerKey) (xs : List SetKey) → setting_among k (taken_out k xs) ≡ None
out_gone k [] = refl
out_gone k (x ∷ xs) = go (same_key k x.key) refl (out_gone k xs)
  where
    go : (b : Bool) → same_key k x.key ≡ b → setting_among k (taken_out k xs) ≡ None →
        setting_among k (cond (not b) (x ∷ taken_out k xs) (taken_out k xs)) ≡ None
    go true e rest = rest
    go false e rest = rw e rest

-- taking a key out of a list leaves the setting of each other key as it was
pub out_others : (k j : TimerKey) (xs : List SetKey) → same_key k j ≡ false → setting_among j (taken_out k xs) ≡ setting_among j xs
out_others k j [] h = refl
out_others k j (x ∷ xs) h = go (same_key k x.key) (same_key j x.key) refl refl (out_others k j xs h)
  where
    go : (b c : Bool) → same_key k x.key ≡ b → same_key j x.key ≡ c → setting_among j (taken_out k xs) ≡ setting_among j xs →
        setting_among j (cond (not b) (x ∷ taken_out k xs) (taken_out k xs))
        ≡ option_map (λ (y : SetKey). y.setting) (cond c (Some x) (find (λ (y : SetKey). same_key j y.key) xs))
    go true false e f rest = rest
    go false true e f rest = rw f refl
    go false false e f rest = rw f rest
    go true true e f rest =
        let a : k ≡ x.key = same_is k x.key e in
        let b : j ≡ x.key = same_is j x.key f in
        let c : true ≡ false = sym (same_self x.key) ∙ (ap (λ (z : TimerKey). same_key z x.key) (sym a) ∙ ap (same_key k) (sym b) ∙ h) in cc

-- ---- a key is put in

abbrev pub put_in : SetKey → List SetKey → List SetKey
put_in v xs = placed (λ x. x.setting.due) v xs

-- a key put into a list that did not have it has the setting that was put in
pub in_found : (v : SetKey) (xs : List SetKey) → setting_among v.key xs ≡ None → setting_among v.key (put_in v xs) ≡ Some v.setting
in_found v [] h = rw (same_self v.key) refl
in_found v (x ∷ xs) h = go (same_key v.key x.key) (nat_lt v.setting.due x.setting.due) refl h (in_found v xs)
  where
    go : (b c : Bool) → same_key v.key x.key ≡ b →
        option_map (λ (y : SetKey). y.setting) (cond b (Some x) (find (λ (y : SetKey). same_key v.key y.key) xs)) ≡ None →
        (setting_among v.key xs ≡ None → setting_among v.key (put_in v xs) ≡ Some v.setting) →
        setting_among v.key (cond c (v ∷ x ∷ xs) (x ∷ put_in v xs)) ≡ Some v.setting
    go true c e h rest = cc
    go false true e h rest = rw (same_self v.key) refl
    go false false e h rest = rw e (rest h)

-- putting a key into a list leaves the setting of each other key as it was
pub in_others : (v : SetKey) (j : TimerKey) (xs : List SetKey) → same_key v.key j ≡ false → setting_among j (put_in v xs) ≡ setting_among j xs
in_others v j [] h = rw (same_turned j v.key, h) refl
in_others v j (x ∷ xs) h = go (nat_lt v.setting.due x.setting.due) (same_key j x.key) (in_others v j xs h)
  where
    found : Bool → List SetKey → Option Setting
    found b ys = option_map (λ (y : SetKey). y.setting) (cond b (Some x) (find (λ (y : SetKey). same_key j y.key) ys))

    next : (b : Bool) → setting_among j (put_in v xs) ≡ setting_among j xs → found b (put_in v xs) ≡ found b xs
    next true rest = refl
    next false rest = rest

    go : (c b : Bool) → setting_among j (put_in v xs) ≡ setting_among j xs →
        setting_among j (cond c (v ∷ x ∷ xs) (x ∷ put_in v xs)) ≡ setting_among j (x ∷ xs)
    go true b rest = rw (same_turned j v.key, h) refl
    go false b rest = next (same_key j x.key) rest

-- what expires before another isn't due later
due_le : (a b : SetKey) → is_earlier a b ≡ true → a.setting.due ≤ b.setting.due
due_le a b h = go (nat_lt a.setting.due b.setting.due) (a.setting.due == b.setting.due) refl refl h
  where
    go : (t u : Bool) → nat_lt a.setting.due b.setting.due ≡ t → (a.setting.due == b.setting.due) ≡ u →
        (t || (u && nat_lt a.setting.number b.setting.number)) ≡ true → a.setting.due ≤ b.setting.due
    go true u e f h = let l = ltb-true a.setting.due b.setting.due e in omega (arith, l)
    go false true e f h = let l = eqb-true a.setting.due b.setting.due f in omega (arith, l)
    go false false e f h = cc

-- a key that is due before another is earlier
due_lt : (a b : SetKey) → a.setting.due < b.setting.due → is_earlier a b ≡ true
due_lt a b h = rw (lt-ltb a.setting.due b.setting.due h) refl

-- a key that is due no later and has the smaller number is earlier
due_then : (a b : SetKey) → a.setting.due ≤ b.setting.due → a.setting.number < b.setting.number → is_earlier a b ≡ true
due_then a b h k = go (nat_lt a.setting.due b.setting.due) refl
  where
    go : (t : Bool) → nat_lt a.setting.due b.setting.due ≡ t → (t || ((a.setting.due == b.setting.due) && nat_lt a.setting.number b.setting.number)) ≡ true
    go true e = refl
    go false e =
        let l = ltb-false a.setting.due b.setting.due e in
        rw (eq-eqb a.setting.due b.setting.due (omega (arith, l, h)), lt-ltb a.setting.number b.setting.number k) refl

-- a list in order stays in order when a key is put in with a number above all of the list
pub in_order : (v : SetKey) (xs : List SetKey) → Each (λ y. y.setting.number < v.setting.number) xs → AreInOrder xs → AreInOrder (put_in v xs)
in_order v [] o h = (tt, tt)
in_order v (x ∷ xs) o h = go (nat_lt v.setting.due x.setting.due) refl (in_order v xs o.1 h.1)
  where
    go : (b : Bool) → nat_lt v.setting.due x.setting.due ≡ b → AreInOrder (put_in v xs) → AreInOrder (cond b (v ∷ x ∷ xs) (x ∷ put_in v xs))
    go true e rest =
        let l = ltb-true v.setting.due x.setting.due e in
        ((due_lt v x l, each_as (λ (y : SetKey) (k : is_earlier x y ≡ true). due_lt v y (let m = due_le x y k in omega (arith, l, m))) xs h.0), h)
    go false e rest =
        let l = ltb-false v.setting.due x.setting.due e in
        (each_placed (λ (y : SetKey). is_earlier x y ≡ true) v xs (due_then x v l o.0) h.0, rest)

-- what holds of each set key still holds of each when a key is taken out
pub out_each : (P : SetKey → Type 0) (k : TimerKey) (xs : List SetKey) → Each P xs → Each P (taken_out k xs)
out_each P k xs h = each_kept P (λ (y : SetKey). not (same_key k y.key)) xs h

-- what holds of each set key and of a new one holds of each when the new one is put in
pub in_each : (P : SetKey → Type 0) (v : SetKey) (xs : List SetKey) → P v → Each P xs → Each P (put_in v xs)
in_each P v xs p h = each_placed P v xs p h

-- ---- the same of what a shade has

-- taking a key out of a list and then dropping the numbers is the same as doing so the other way round
pub shade_out : (k : TimerKey) (xs : List SetKey) → unset k (map shade_key xs) ≡ map shade_key (taken_out k xs)
shade_out k xs = filter_map shade_key (λ (x : SetKey). not (same_key k x.key)) (λ (x : ShadeKey). not (same_key k x.key)) (λ x. refl) xs

-- putting a key into a list and then dropping the numbers is the same as doing so the other way round
pub shade_in : (v : SetKey) (xs : List SetKey) → placed (λ (x : ShadeKey). x.due) (shade_key v) (map shade_key xs) ≡ map shade_key (put_in v xs)
shade_in v [] = refl
shade_in v (x ∷ xs) = go (nat_lt v.setting.due x.setting.due) (shade_in v xs)
  where
    go : (b : Bool) → placed (λ (x : ShadeKey). x.due) (shade_key v) (map shade_key xs) ≡ map shade_key (put_in v xs) →
        cond b (shade_key v ∷ shade_key x ∷ map shade_key xs) (shade_key x ∷ placed (λ (x : ShadeKey). x.due) (shade_key v) (map shade_key xs))
        ≡ map shade_key (cond b (v ∷ x ∷ xs) (x ∷ put_in v xs))
    go true rest = refl
    go false rest = ap (λ (ys : List ShadeKey). shade_key x ∷ ys) rest

-- a key is found in the list without numbers exactly where it is found in the list with them
pub shade_found : (k : TimerKey) (xs : List SetKey) →
    find (λ (x : ShadeKey). same_key k x.key) (map shade_key xs) ≡ option_map shade_key (find (λ (x : SetKey). same_key k x.key) xs)
shade_found k xs = find_map shade_key (λ (x : SetKey). same_key k x.key) (λ (x : ShadeKey). same_key k x.key) (λ x. refl) xs
