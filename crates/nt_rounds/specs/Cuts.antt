-- How one list keeps several lists, one behind the other.
use Rattle.std.specs.Prelude.{List, [], slice_range, suc, zero, ℕ, ◌∷◌, ◌≤◌}

-- the parts of a list: the first begins here, each ends at its end, and the next begins there
abbrev pub cut : List ℕ → ℕ → List ℕ → List (List ℕ)
cut all from [] = []
cut all from (e ∷ ends) = slice_range all from e ∷ cut all e ends

-- where the last part ends
abbrev pub last_end : ℕ → List ℕ → ℕ
last_end from [] = from
last_end from (e ∷ ends) = last_end e ends

-- where the part of this number begins
abbrev pub start_of : ℕ → List ℕ → ℕ → ℕ
start_of from [] n = from
start_of from (e ∷ ends) zero = from
start_of from (e ∷ ends) (suc n) = start_of e ends n

-- no part ends before it begins, and the last one ends within so many
abbrev pub AreEnds : ℕ → List ℕ → ℕ → Type 0
AreEnds from [] size = from ≤ size
AreEnds from (e ∷ ends) size = (from ≤ e) × AreEnds e ends size
