-- What holds of one of a list, and what holds of each.
use Rattle.std.specs.Prelude.{List, [], ◌∷◌, ◌⊎◌}

-- it holds of one of them
abbrev pub Among : {S : Type 0} → (S → Type 0) → List S → Type 0
Among P [] = ⊥
Among P (x ∷ xs) = P x ⊎ Among P xs

-- it holds of each of them
abbrev pub Each : {S : Type 0} → (S → Type 0) → List S → Type 0
Each P [] = Unit {0}
Each P (x ∷ xs) = P x × Each P xs
