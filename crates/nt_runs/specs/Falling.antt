-- Lists whose elements have falling numbers.
use Rattle.std.specs.Prelude.{List, [], ℕ, ◌<◌, ◌∷◌}

-- the numbers fall, from below the bound
abbrev pub Falls : {A : Type 0} → (A → ℕ) → ℕ → List A → Type 0
Falls number n [] = Unit {0}
Falls number n (x ∷ xs) = (number x < n) × Falls number (number x) xs
