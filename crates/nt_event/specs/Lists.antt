-- Lists and tables: what stands first, a table of the values of a function, and what is read of a list of numbers.
use Rattle.std.specs.Prelude.{Bool, List, None, Option, Some, [], false, get_or, suc, true, zero, ℕ, ◌∷◌}

-- the answer, where the test holds
abbrev pub when : {A : Type 0} → Bool → Option A → Option A
when true x = x
when false x = None

abbrev pub is_null : {A : Type 0} → List A → Bool
is_null [] = true
is_null (x ∷ xs) = false

abbrev pub head_of : {A : Type 0} → List A → Option A
head_of [] = None
head_of (x ∷ xs) = Some x

abbrev pub tail_of : {A : Type 0} → List A → List A
tail_of [] = []
tail_of (x ∷ xs) = xs

-- f k, f (k + 1) and so on, n of them
unfoldable pub table_from : {A : Type 0} → ℕ → ℕ → (ℕ → A) → List A
table_from k zero f = []
table_from k (suc n) f = f k ∷ table_from (suc k) n f

-- f 0 to f (n - 1)
abbrev pub table : {A : Type 0} → ℕ → (ℕ → A) → List A
table n f = table_from 0 n f

abbrev pub value_at : List ℕ → ℕ → ℕ
value_at xs c = get_or xs c 0
