-- Lists that are put one behind the other.
use Rattle.std.specs.Prelude.{List, None, Option, Some, [], suc, zero, ℕ, ◌++◌, ◌∷◌}

-- the item, where there is one
abbrev pub as_list : {A : Type 0} → Option A → List A
as_list None = []
as_list (Some x) = x ∷ []

-- f 0 to f (n - 1), one behind the other
abbrev pub joined : {A : Type 0} → ℕ → (ℕ → List A) → List A
joined zero f = []
joined (suc n) f = joined n f ++ f n

-- f of each element, one behind the other
abbrev pub along : {A B : Type 0} → (A → List B) → List A → List B
along f [] = []
along f (x ∷ xs) = f x ++ along f xs
