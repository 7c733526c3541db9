-- Interrupt routines that are for different pairs of processor and level.
use Rattle.std.proofs.Common.{◌≡◌, ℕ, Bool, true, false, cond, List, [], ◌∷◌, ◌++◌, Some, refl, sym, ◌∙◌, arith}
use Rattle.std.specs.Prelude.{◌==◌, ◌||◌, not, find, option_map, is_none}
use Rattle.std.specs.List.{list_any}
use Rattle.std.proofs.lemmas.Bool.{and_parts, and_from, or_parts, or_from, not_from_false, not-true}
use Rattle.std.proofs.lemmas.List.Folds.{list_any-append}
use Rattle.nt_event.specs.declared.scripts.Isr.{Isr}
use Rattle.nt_event.specs.declared.numbers.CpuNo.{CpuNo}
use Rattle.nt_event.specs.Script.{is_isr_of, isr_of, stands_in, isrs_differ}

-- no line before declares the pair
pub none_is : (xs : List Isr) (p : CpuNo) (level : ℕ) → is_none (isr_of xs p level) ≡ not (stands_in xs p level)
none_is [] p level = refl
none_is (x ∷ xs) p level = go (is_isr_of p level x) (none_is xs p level)
  where
    go : (b : Bool) → is_none (option_map (λ (i : Isr). i.routine) (find (is_isr_of p level) xs)) ≡ not (list_any (is_isr_of p level) xs) →
        is_none (option_map (λ (i : Isr). i.routine) (cond b (Some x) (find (is_isr_of p level) xs))) ≡ not (b || list_any (is_isr_of p level) xs)
    go true e = refl
    go false e = e

-- the test for equal numbers does not depend on their order
eqb_sym : (a b : ℕ) → (a == b) ≡ (b == a)
eqb_sym a b = grind arith

-- if one interrupt routine is for the pair of another, the other is for the pair of the one
same_pair : (x y : Isr) → is_isr_of x.cpu x.level y ≡ is_isr_of y.cpu y.level x
same_pair x y = rw (eqb_sym y.cpu.0 x.cpu.0, eqb_sym y.level x.level) refl

-- a test holds of some member of a list exactly if it holds of the first or of some later one
one_any : {A : Type 0} (p : A → Bool) (x : A) (xs : List A) → list_any p (x ∷ xs) ≡ (p x || list_any p xs)
one_any p x xs = refl

-- a pair that stands among different ones stands not before
apart_at : (xs : List Isr) (x : Isr) (more : List Isr) → isrs_differ (xs ++ x ∷ more) ≡ true → stands_in xs x.cpu x.level ≡ false
apart_at [] x more e = refl
apart_at (y ∷ ys) x more e =
    let b = and_parts (not (stands_in (ys ++ x ∷ more) y.cpu y.level)) (isrs_differ (ys ++ x ∷ more)) e in
    let none : stands_in (ys ++ x ∷ more) y.cpu y.level ≡ false = not-true _ b.0 in
    let parts = or_parts (stands_in ys y.cpu y.level) (stands_in (x ∷ more) y.cpu y.level)
    (sym (list_any-append (is_isr_of y.cpu y.level) ys (x ∷ more)) ∙ none) in
    let here = or_parts (is_isr_of y.cpu y.level x) (stands_in more y.cpu y.level) parts.1 in
    or_from (is_isr_of x.cpu x.level y) (stands_in ys x.cpu x.level) (same_pair x y ∙ here.0) (apart_at ys x more b.1)

-- if all interrupt routines are for different pairs, none before one of them is for its pair
pub no_pair : (xs : List Isr) (x : Isr) (more : List Isr) → isrs_differ (xs ++ x ∷ more) ≡ true → is_none (isr_of xs x.cpu x.level) ≡ true
no_pair xs x more e = none_is xs x.cpu x.level ∙ not_from_false (stands_in xs x.cpu x.level) (apart_at xs x more e)

-- a new pair behind different ones
pub one_apart : (xs : List Isr) (x : Isr) → isrs_differ xs ≡ true → is_none (isr_of xs x.cpu x.level) ≡ true → isrs_differ (xs ++ x ∷ []) ≡ true
one_apart xs x e none = go xs e (not-true (stands_in xs x.cpu x.level) (sym (none_is xs x.cpu x.level) ∙ none))
  where
    go : (ys : List Isr) → isrs_differ ys ≡ true → stands_in ys x.cpu x.level ≡ false → isrs_differ (ys ++ x ∷ []) ≡ true
    go [] e n = refl
    go (y ∷ ys) e n =
        let b = and_parts (not (stands_in ys y.cpu y.level)) (isrs_differ ys) e in
        let p = or_parts (is_isr_of x.cpu x.level y) (stands_in ys x.cpu x.level) n in
        let there : stands_in (ys ++ x ∷ []) y.cpu y.level ≡ false = list_any-append (is_isr_of y.cpu y.level) ys (x ∷ [])
        ∙ or_from (stands_in ys y.cpu y.level) (stands_in (x ∷ []) y.cpu y.level) (not-true (stands_in ys y.cpu y.level) b.0)
        (or_from (is_isr_of y.cpu y.level x) false (sym (same_pair x y) ∙ p.0) refl) in
        and_from (not (stands_in (ys ++ x ∷ []) y.cpu y.level)) (isrs_differ (ys ++ x ∷ [])) (not_from_false _ there) (go ys b.1 p.1)
