-- What depths and rounds mean for paths of any number of steps.
use Rattle.std.specs.Prelude.{All, List, [], get_or, length, ℕ, ◌<◌, ◌∷◌, ◌≡◌, ◌≤◌}
use Rattle.nt_rounds.specs.Depths.{AreDepths, IsInside, IsRound, Leads}

-- from this state one can go along these, one after another
abbrev pub Goes : List (List ℕ) → ℕ → List ℕ → Type 0
Goes closed n [] = Unit {0}
Goes closed n (m ∷ path) = Leads closed n m × Goes closed m path

-- a longest path from this state has so many steps
pub record IsLongest (closed : List (List ℕ)) (n steps : ℕ) : Type 0 where
  pub none : (path : List ℕ) → Goes closed n path → length path ≤ steps
  pub some : (path : List ℕ) × Goes closed n path × (length path ≡ steps)

-- the depth of each state is the number of steps of a longest path
abbrev pub DepthsAreOfLongestPaths : Type 0
DepthsAreOfLongestPaths = (closed : List (List ℕ)) (depths : List ℕ) → IsInside closed → AreDepths closed depths →
    (n : ℕ) → n < length closed → IsLongest closed n (get_or depths n 0)

-- from each state of a round there is a path of any number of steps
abbrev pub RoundsGoOn : Type 0
RoundsGoOn = (closed : List (List ℕ)) (states : List ℕ) → IsRound closed states → (steps : ℕ) →
    All (λ n. (path : List ℕ) × Goes closed n path × (length path ≡ steps)) states
