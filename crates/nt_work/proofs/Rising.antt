-- Pending inserts, whose numbers rise: an event that uses up one by its number uses up no other.
use Rattle.std.proofs.Common.{◌≡◌, ◌∙◌, ℕ, zero, suc, ◌+◌, ◌<◌, Bool, true, false, List, [], ◌∷◌, ◌++◌, length, get_or, take, drop, refl, sym, ap, subst}
use Rattle.std.proofs.Common.{arith, ne_eqb}
use Rattle.std.specs.Prelude.{filter, ◌&&◌, not, if◌then◌else◌}
use mathlib.Core.Logic.{dite}
use native.Mathlib.Decide.{ℕ_discrete}
use Rattle.nt_work.specs.declared.change.Change.TheVariants.{Takes}
use Rattle.nt_work.specs.declared.change.Insert.{Insert}
use Rattle.nt_work.specs.Changes.{AreOver, RiseBelow, same_thing, stays_by, thing_of, uses}

-- inserts over a number stay so after one more over it is added at the end
over_one : (n : ℕ) (xs : List Insert) (y : Insert) → AreOver n xs → n < y.number → AreOver n (xs ++ y ∷ [])
over_one n [] y h lt = (lt, tt)
over_one n (x ∷ xs) y h lt = (h.0, over_one n xs y h.1 lt)

-- inserts over a number stay so after an optional one over it is put in front
over_pick : (n : ℕ) (x : Insert) (ys : List Insert) → n < x.number → AreOver n ys → (b : Bool) → AreOver n (if b then x ∷ ys else ys)
over_pick n x ys lt h true = (lt, h)
over_pick n x ys lt h false = h

-- inserts over a number that pass a test are over it too
over_some : (n : ℕ) (p : Insert → Bool) (xs : List Insert) → AreOver n xs → AreOver n (filter p xs)
over_some n p [] h = tt
over_some n p (x ∷ xs) h = over_pick n x (filter p xs) h.0 (over_some n p xs h.1) (p x)

-- inserts whose numbers rise below a bound do so below the next bound
pub rise_on : (n : ℕ) (xs : List Insert) → RiseBelow n xs → RiseBelow (n + 1) xs
rise_on n [] h = tt
rise_on n (x ∷ xs) h = let lt = h.0 in (omega (arith, lt), h.1, rise_on n xs h.2)

-- an insert of the number n put behind rising ones below n leaves them rising below the next number
pub rise_one : (n : ℕ) (xs : List Insert) (y : Insert) → RiseBelow n xs → y.number ≡ n → RiseBelow (n + 1) (xs ++ y ∷ [])
rise_one n [] y h e = (omega (arith, e), tt, tt)
rise_one n (x ∷ xs) y h e =
    let lt = h.0 in (omega (arith, lt), over_one x.number xs y h.1 (omega (arith, lt, e)), rise_one n xs y h.2 e)

-- the inserts that a test picks from rising ones rise below the same bound
pub rise_some : (n : ℕ) (p : Insert → Bool) (xs : List Insert) → RiseBelow n xs → RiseBelow n (filter p xs)
rise_some n p [] h = tt
rise_some n p (x ∷ xs) h = pick (p x) (filter p xs) (over_some x.number p xs h.1) (rise_some n p xs h.2)
  where
    pick : (b : Bool) (ys : List Insert) → AreOver x.number ys → RiseBelow n ys → RiseBelow n (if b then x ∷ ys else ys)
    pick true ys o r = (h.0, o, r)
    pick false ys o r = r

-- one of another number stays
stays_else : (t y : Insert) → t.number < y.number → stays_by (Takes t) y ≡ true
stays_else t y lt =
    ap (λ (b : Bool). not (same_thing (thing_of t.object) (thing_of y.object) && b)) (ne_eqb t.number y.number (λ e. absurd (omega (arith, e, lt))))
    ∙ no (same_thing (thing_of t.object) (thing_of y.object))
  where
    no : (b : Bool) → not (b && false) ≡ true
    no true = refl
    no false = refl

-- taking an insert leaves all those of greater number in the list
later_stay : (t : Insert) (ys : List Insert) → AreOver t.number ys → filter (stays_by (Takes t)) ys ≡ ys
later_stay t [] h = refl
later_stay t (y ∷ ys) h =
    ap (λ (b : Bool). if b then y ∷ filter (stays_by (Takes t)) ys else filter (stays_by (Takes t)) ys) (stays_else t y h.0)
    ∙ ap (λ (zs : List Insert). y ∷ zs) (later_stay t ys h.1)

-- if taking an insert uses up none at any place of a list, filtering by what stays leaves the list as it is
pub all_stay : (t : Insert) (xs : List Insert) → ((j : ℕ) (d : Insert) → j < length xs → stays_by (Takes t) (get_or xs j d) ≡ true) →
    xs ≡ filter (stays_by (Takes t)) xs
all_stay t [] h = refl
all_stay t (x ∷ xs) h =
    ap (λ (zs : List Insert). x ∷ zs) (all_stay t xs (λ j d lt. h (suc j) d (omega (arith, lt))))
    ∙ ap (λ (b : Bool). if b then x ∷ filter (stays_by (Takes t)) xs else filter (stays_by (Takes t)) xs) (sym (h zero x (omega arith)))

-- an insert that the taking of another uses up has that other's number
used_number : (t x : Insert) → uses (Takes t) (thing_of x.object) x.number ≡ true → t.number ≡ x.number
used_number t x used =
    dite (ℕ_discrete t.number x.number) (λ e. e)
    (λ ne.
    let is : (same_thing (thing_of t.object) (thing_of x.object) && false) ≡ true =
    ap (λ (b : Bool). same_thing (thing_of t.object) (thing_of x.object) && b) (sym (ne_eqb t.number x.number ne)) ∙ used in
    absurd (no (same_thing (thing_of t.object) (thing_of x.object)) is))
  where
    no : (b : Bool) → (b && false) ≡ true → ⊥
    no true e = absurd cc
    no false e = absurd cc

-- if taking uses up the insert at a place and none before it, removing that place is filtering by what stays
pub away_one : (t : Insert) (n : ℕ) (xs : List Insert) (k : ℕ) (d : Insert) → RiseBelow n xs → k < length xs →
    ((j : ℕ) (e : Insert) → j < k → stays_by (Takes t) (get_or xs j e) ≡ true) →
    uses (Takes t) (thing_of (get_or xs k d).object) (get_or xs k d).number ≡ true → take k xs ++ drop (suc k) xs ≡ filter (stays_by (Takes t)) xs
away_one t n [] k d rise lt before used = absurd (omega (arith, lt))
away_one t n (x ∷ xs) zero d rise lt before used =
    let same : x.number ≡ t.number = sym (used_number t x used) in
    sym (ap (λ (b : Bool). if not b then x ∷ filter (stays_by (Takes t)) xs else filter (stays_by (Takes t)) xs) used
    ∙ later_stay t xs (subst (λ (m : ℕ). AreOver m xs) same rise.1))
away_one t n (x ∷ xs) (suc k) d rise lt before used =
    ap (λ (zs : List Insert). x ∷ zs) (away_one t n xs k d rise.2 (omega (arith, lt)) (λ j e less. before (suc j) e (omega (arith, less))) used)
    ∙ ap (λ (b : Bool). if b then x ∷ filter (stays_by (Takes t)) xs else filter (stays_by (Takes t)) xs) (sym (before zero x (omega arith)))
