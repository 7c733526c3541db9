-- What is known while depths are looked for. A depth is less than the number of states, so this number stands for one
-- that is not known.
use Rattle.std.specs.Prelude.{Contains, List, get_or, length, nat_lt, ℕ, ◌+◌, ◌<◌, ◌≡◌, ◌≤◌, ◌⊎◌}
use Rattle.std.specs.List.{count_by}
use Rattle.nt_rounds.specs.Depths.{IsDepth, Leads}

-- the depth of this state is not known
abbrev pub IsUnknown : List ℕ → ℕ → Type 0
IsUnknown depths n = length depths ≤ get_or depths n 0

-- how many numbers of a list are less than its length
abbrev pub known_count : List ℕ → ℕ
known_count xs = count_by (λ x. nat_lt x (length xs)) xs

-- so far depths are known of so many states, and what is known is right
pub record AreKnown (closed : List (List ℕ)) (depths : List ℕ) (count : ℕ) : Type 0 where
  pub states : length depths ≡ length closed
  pub counted : known_count depths ≡ count
  pub small : (n : ℕ) → n < length depths → get_or depths n 0 < length depths → get_or depths n 0 < count
  pub right : (n : ℕ) → n < length depths → get_or depths n 0 < length depths → IsDepth closed depths n

-- a depth for a state that leads to these: their depths are known, and it is as far as one can go from there
pub record IsOver (depths states : List ℕ) (depth : ℕ) : Type 0 where
  pub bound : depth ≤ length depths
  pub above : (m : ℕ) → Contains states m → get_or depths m 0 < depth
  pub reached : (depth ≡ 0) ⊎ ((m : ℕ) × Contains states m × (depth ≡ get_or depths m 0 + 1))

-- where the depth of this state is not known, it leads to a state of which it isn't known either
abbrev pub IsStuck : List (List ℕ) → List ℕ → ℕ → Type 0
IsStuck closed depths n = IsUnknown depths n → (m : ℕ) × Leads closed n m × IsUnknown depths m
