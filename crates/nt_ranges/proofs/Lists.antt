-- What holds of each element: of a list in the other order, of what follows, and of what a table tells.
use Rattle.std.proofs.Common.{arith, subst, sym}
use Rattle.std.proofs.lemmas.Bool.Decides.{nat_tests}
use Rattle.std.proofs.lemmas.List.{get_or_past, reverse-append, reverse-reverse}
use Rattle.std.proofs.lemmas.Option.{get_or_from_slice_get, slice_get_within}
use Rattle.std.specs.List.{AllByRecursion}
use Rattle.std.specs.Prelude.{Bool, List, Some, [], false, get_or, length, nat_lt, refl, reverse, slice_get, true, ℕ, ◌<◌, ◌∷◌, ◌≡◌, ◌≤◌}
use Rattle.nt_event.specs.Lists.{table}
use Rattle.nt_event.proofs.Tables.{get_or-table, length-table_from}
use Rattle.nt_script.proofs.Kept.{all_more}
use Rattle.nt_script.proofs.Printed.{all_at}

-- what holds of each element of a list holds of each element of the list in the other order
pub all_reversed : {X : Type 0} (P : X → Type 0) (xs : List X) → AllByRecursion P xs → AllByRecursion P (reverse xs)
all_reversed P [] h = tt
all_reversed P (x ∷ xs) h =
    subst (AllByRecursion P) (sym (reverse-append (x ∷ []) xs)) (all_more P (reverse xs) x (all_reversed P xs h.1) h.0)

-- what holds of each element of the list in the other order holds of each element of the list
pub all_in_order : {X : Type 0} (P : X → Type 0) (xs : List X) → AllByRecursion P (reverse xs) → AllByRecursion P xs
all_in_order P xs h = subst (AllByRecursion P) (reverse-reverse xs) (all_reversed P (reverse xs) h)

-- if one property gives another, it does so for each element of a list
pub all_then : {X : Type 0} (P Q : X → Type 0) → ((x : X) → P x → Q x) → (xs : List X) → AllByRecursion P xs → AllByRecursion Q xs
all_then P Q f [] h = tt
all_then P Q f (x ∷ xs) h = (f x h.0, all_then P Q f xs h.1)

-- what holds of each value of a function and of the default holds of what its table tells
pub of_table : {A : Type 0} (P : A → Type 0) (n i : ℕ) (f : ℕ → A) (d : A) → P d → ((k : ℕ) → P (f k)) → P (get_or (table n f) i d)
of_table {A} P n i f d h k = go (nat_lt i n) refl
  where
    go : (b : Bool) → nat_lt i n ≡ b → P (get_or (table n f) i d)
    go true l =
        let within : i < n = grind (arith, nat_tests) in
        subst P (sym (get_or-table {A = A} n i f d within)) (k i)
    go false l =
        let past : length (table n f) ≤ i = (let e = length-table_from {A = A} 0 n f in grind (arith, nat_tests)) in
        subst P (sym (get_or_past (table n f) i d past)) h

-- what holds of each element of a list holds of the one that is found at a place
pub each_at : {X : Type 0} (P : X → Type 0) (xs : List X) (i : ℕ) (x : X) → AllByRecursion P xs → slice_get xs i ≡ Some x → P x
each_at P xs i x h e =
    subst P (get_or_from_slice_get xs i x x e) (all_at P xs h i x (slice_get_within xs i x e))
