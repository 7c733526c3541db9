-- Lists of which one place is written: their elements, also through a map, and the table that such a list is.
use Rattle.std.proofs.Common.{Bool, List, [], arith, eqb, false, get_or, length, map, refl, set, suc, sym, true, zero, ℕ, ◌<◌, ◌∙◌, ◌∷◌, ◌≡◌}
use Rattle.std.proofs.lemmas.Bool.{eqb-false, eqb-true}
use Rattle.std.proofs.lemmas.Grind.{get_or-set_at}
use Rattle.std.proofs.lemmas.List.{get_or-set_other, length-set}
use Rattle.nt_event.specs.Lists.{table}
use Rattle.nt_event.proofs.Tables.{table-self}

-- the place that was written has what was written
pub read_same : {A : Type 0} (xs : List A) (i j : ℕ) (v d : A) → eqb i j ≡ true → i < length xs → get_or (set xs i v) j d ≡ v
read_same xs i j v d e l = get_or-set_at xs i j v d (sym (eqb-true i j e)) l

-- another one is as before
pub read_other : {A : Type 0} (xs : List A) (i j : ℕ) (v d : A) → eqb i j ≡ false → get_or (set xs i v) j d ≡ get_or xs j d
read_other xs i j v d e = get_or-set_other xs i j v d (λ k. eqb-false i j e (sym k))

-- an element of a mapped list, also past its end
pub read_map : {A B : Type 0} (f : A → B) (xs : List A) (i : ℕ) (d : A) → get_or (map f xs) i (f d) ≡ f (get_or xs i d)
read_map f [] i d = refl
read_map f (x ∷ xs) zero d = refl
read_map f (x ∷ xs) (suc i) d = read_map f xs i d

-- ---- tables in which one place changes

-- a function with the new value at one place and the list's elements at the others gives the written list
set_reads : {A : Type 0} (xs : List A) (t i : ℕ) (v d : A) (f : ℕ → A) → i < length xs → (eqb t i ≡ true → f i ≡ v) → (eqb t i ≡ false → f i ≡ get_or xs i d) →
    (b : Bool) → eqb t i ≡ b →
    f i ≡ get_or (set xs t v) i d
set_reads xs t i v d f h same other true e = same e ∙ sym (read_same xs t i v d e (let at = eqb-true t i e in omega arith))
set_reads xs t i v d f h same other false e = other e ∙ sym (read_other xs t i v d e)

-- a table whose elements are those of the list but at t is the list with that place written
pub table_set : {A : Type 0} (xs : List A) (n t : ℕ) (v d : A) (f : ℕ → A) → length xs ≡ n → ((i : ℕ) → eqb t i ≡ true → f i ≡ v) →
    ((i : ℕ) → eqb t i ≡ false → f i ≡ get_or xs i d) →
    table n f ≡ set xs t v
table_set xs n t v d f l same other =
    table-self d n (set xs t v) f (length-set xs t v ∙ l) (λ i h. set_reads xs t i v d f (omega arith) (same i) (other i) (eqb t i) refl)
