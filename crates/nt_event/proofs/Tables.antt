-- Tables: their elements, and when two are equal.
use Rattle.std.proofs.Common.{add-one, add-zero, ap, arith, sym, ◌∙◌}
use Rattle.std.proofs.lemmas.Grind.{same_number_lists}
use Rattle.std.specs.Prelude.{List, [], get_or, length, refl, suc, zero, ℕ, ◌+◌, ◌++◌, ◌<◌, ◌∷◌, ◌≡◌}
use Rattle.nt_event.specs.Lists.{table, table_from}

-- the entry at a place of a table that starts at an offset is the function's value at the offset plus the place
pub get_or-table_from : {A : Type 0} (k n i : ℕ) (f : ℕ → A) (d : A) → i < n → get_or (table_from k n f) i d ≡ f (k + i)
unfolding table_from
get_or-table_from k zero i f d h = absurd (omega arith)
get_or-table_from k (suc n) zero f d h = ap f (omega arith)
get_or-table_from k (suc n) (suc i) f d h =
    get_or-table_from (suc k) n i f d (omega arith) ∙ ap f (omega arith)

-- the entry at a place of a table is the function's value there
pub get_or-table : {A : Type 0} (n i : ℕ) (f : ℕ → A) (d : A) → i < n → get_or (table n f) i d ≡ f i
get_or-table n i f d h = get_or-table_from 0 n i f d h ∙ ap f (omega arith)

-- two tables that start at the same offset are equal if their functions agree at each of their places
pub table_from-same : {A : Type 0} (k n : ℕ) (f g : ℕ → A) → ((i : ℕ) → i < n → f (k + i) ≡ g (k + i)) → table_from k n f ≡ table_from k n g
unfolding table_from
table_from-same k zero f g h = refl
table_from-same {A} k (suc n) f g h =
    let here : f k ≡ g k = rw add-zero at (h 0 (omega arith)) in
    let rest : table_from (suc k) n f ≡ table_from (suc k) n g = table_from-same (suc k) n f g (λ i l. next i l) in
    cc
  where
    next : (i : ℕ) → i < n → f (suc k + i) ≡ g (suc k + i)
    next i l = let e : k + suc i ≡ suc k + i = omega arith in rw e at (h (suc i) (omega arith))

-- two tables of the same length are equal if their functions agree at each place
pub table-same : {A : Type 0} (n : ℕ) (f g : ℕ → A) → ((i : ℕ) → i < n → f i ≡ g i) → table n f ≡ table n g
table-same n f g h = table_from-same 0 n f g (λ i l. let e : 0 + i ≡ i = omega arith in rw e (h i l))

-- a table that starts at an offset has as many entries as it was asked for
pub length-table_from : {A : Type 0} (k n : ℕ) (f : ℕ → A) → length (table_from k n f) ≡ n
unfolding table_from
length-table_from k zero f = refl
length-table_from k (suc n) f = ap suc (length-table_from (suc k) n f)

-- a list whose elements are those of a function is its table
pub is_table : (xs : List ℕ) (n : ℕ) (f : ℕ → ℕ) → length xs ≡ n → ((i : ℕ) → i < n → get_or xs i 0 ≡ f i) → xs ≡ table n f
is_table xs n f l h =
    same_number_lists xs (table n f) (l ∙ sym (length-table_from 0 n f)) (λ i k. let j : i < n = omega (arith, l) in h i j ∙ sym (get_or-table n i f 0 j))

-- the table of a list's elements is the list
pub table_from-self : {A : Type 0} (d : A) (k : ℕ) (xs : List A) (f : ℕ → A) → ((i : ℕ) → i < length xs → f (k + i) ≡ get_or xs i d) →
    table_from k (length xs) f ≡ xs
unfolding table_from
table_from-self d k [] f h = refl
table_from-self {A} d k (x ∷ xs) f h =
    let here : f k ≡ x = rw add-zero at (h 0 (omega arith)) in
    let rest : table_from (suc k) (length xs) f ≡ xs = table_from-self d (suc k) xs f
    (λ i l. let a : suc k + i ≡ k + suc i = omega arith in rw a (h (suc i) (omega arith))) in
    cc

-- a table of a list's length whose function gives the list's entries is the list
pub table-self : {A : Type 0} (d : A) (n : ℕ) (xs : List A) (f : ℕ → A) → length xs ≡ n → ((i : ℕ) → i < n → f i ≡ get_or xs i d) → table n f ≡ xs
table-self d n xs f l h =
    rw (← l) (table_from-self d 0 xs f (λ i k. let a : 0 + i ≡ i = omega arith in rw a (h i (omega arith))))

-- a table with one element more is the table and that element
table_from_more : {A : Type 0} (k n : ℕ) (f : ℕ → A) → table_from k (suc n) f ≡ table_from k n f ++ f (k + n) ∷ []
unfolding table_from
table_from_more {A} k zero f = let e : k + 0 ≡ k = omega arith in ap (λ (i : ℕ). f i ∷ []) (sym e)
table_from_more {A} k (suc n) f =
    let e : suc k + n ≡ k + suc n = omega arith in
    ap (λ (xs : List A). f k ∷ xs) (table_from_more (suc k) n f ∙ ap (λ (i : ℕ). table_from (suc k) n f ++ f i ∷ []) e)

-- a table with one more place is the table with one more value at its end
pub table_more : {A : Type 0} (n : ℕ) (f : ℕ → A) → table (n + 1) f ≡ table n f ++ f n ∷ []
table_more {A} n f =
    ap (λ (i : ℕ). table i f) (add-one n)
    ∙ (table_from_more 0 n f ∙ ap (λ (i : ℕ). table n f ++ f i ∷ []) (omega arith))

-- a table with one more value at its end is the table with one more place
pub more_table : {A : Type 0} (n : ℕ) (f : ℕ → A) → table n f ++ f n ∷ [] ≡ table (n + 1) f
more_table n f = sym (table_more n f)

-- a table with no places is the empty list
pub table_none : {A : Type 0} (f : ℕ → A) → table 0 f ≡ []
unfolding table_from
table_none f = refl

-- a table that grew by its next element
pub table_grown : {A : Type 0} (n : ℕ) (f : ℕ → A) (xs ys : List A) (x : A) → ys ≡ xs ++ x ∷ [] → xs ≡ table n f → x ≡ f n → ys ≡ table (n + 1) f
table_grown {A} n f xs ys x a b c =
    a
    ∙ (ap (λ (zs : List A). zs ++ x ∷ []) b
    ∙ (ap (λ (z : A). table n f ++ z ∷ []) c ∙ sym (table_more n f)))
