-- Rings of nodes that are linked both ways.
use Rattle.std.specs.Prelude.{List, length, slice_index, ℕ, ◌<◌, ◌≡◌, ◌≤◌, ◌⊎◌}
use Rattle.nt_timer.specs.declared.rings.TheConstants.{HEADS}

-- so many nodes, each alone
pub record IsAlone (count : ℕ) (xs : List ℕ) : Type 0 where
  pub all : length xs ≡ count
  pub each : (i : ℕ) → i < count → slice_index xs i ≡ i

-- a node other than a head, in the ring of the head
pub record IsOfRing (home : List ℕ) (head : ℕ) (node : ℕ) : Type 0 where
  pub other : HEADS ≤ node
  pub below : node < length home
  pub here : slice_index home node ≡ head

-- what holds of each node: the links lead back, the ring is one, and a walk back ends at the home
pub record IsNode (count : ℕ) (next previous home rank : ℕ → ℕ) (i : ℕ) : Type 0 where
  pub next_below : next i < count
  pub previous_below : previous i < count
  pub forth : next (previous i) ≡ i
  pub back : previous (next i) ≡ i
  pub same : home (next i) ≡ home i
  pub head : i < HEADS → home i ≡ i
  pub other : (home i ≡ i) ⊎ (home i < HEADS)
  pub falls : (i ≡ home i) ⊎ (rank (previous i) < rank i)

abbrev pub IsLinkage : ℕ → (ℕ → ℕ) → (ℕ → ℕ) → (ℕ → ℕ) → (ℕ → ℕ) → Type 0
IsLinkage count next previous home rank = (i : ℕ) → i < count → IsNode count next previous home rank i

-- lists of links; the rank of a node, which falls on the way back to its home, shows that the way ends
pub record AreLinked (next previous home : List ℕ) : Type 0 where
  pub next_all : length next ≡ length home
  pub previous_all : length previous ≡ length home
  pub rank : ℕ → ℕ
  pub nodes : IsLinkage (length home) (slice_index next) (slice_index previous) (slice_index home) rank
