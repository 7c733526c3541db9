-- How far states can go, and what a round is.
use Rattle.std.specs.Prelude.{All, Contains, List, [], get_or, length, ℕ, ◌+◌, ◌-◌, ◌<◌, ◌≡◌, ◌⊎◌}
use Rattle.nt_rounds.specs.declared.outcome.Depths.{Depths}
use Rattle.nt_rounds.specs.declared.outcome.Depths.TheVariants.{Finite, Round}

-- the one state leads to the other
abbrev pub Leads : List (List ℕ) → ℕ → ℕ → Type 0
Leads closed n m = Contains (get_or closed n []) m

-- each state that a closed one leads to is closed too
abbrev pub IsInside : List (List ℕ) → Type 0
IsInside closed = (n m : ℕ) → Leads closed n m → m < length closed

-- a state goes further than each one that it leads to, and if it can go at all, one step further than some of these
pub record IsDepth (closed : List (List ℕ)) (depths : List ℕ) (n : ℕ) : Type 0 where
  pub above : (m : ℕ) → Leads closed n m → get_or depths m 0 < get_or depths n 0
  pub reached : (get_or depths n 0 ≡ 0) ⊎
      ((m : ℕ) × Leads closed n m × (get_or depths n 0 ≡ get_or depths m 0 + 1))

-- of each closed state how far it can go
pub record AreDepths (closed : List (List ℕ)) (depths : List ℕ) : Type 0 where
  pub count : length depths ≡ length closed
  pub each : (n : ℕ) → n < length closed → IsDepth closed depths n

-- each of these states leads to the next one, and the last to the first
pub record IsRound (closed : List (List ℕ)) (states : List ℕ) : Type 0 where
  pub some : 0 < length states
  pub inside : All (λ n. n < length closed) states
  pub on : (i : ℕ) → i + 1 < length states → Leads closed (get_or states i 0) (get_or states (i + 1) 0)
  pub back : Leads closed (get_or states (length states - 1) 0) (get_or states 0 0)

-- this holds of the depths, if there are any
abbrev pub IfFinite : Depths → (List ℕ → Type 0) → Type 0
IfFinite (Finite depths) P = P depths.items
IfFinite (Round states) P = Unit {0}

-- this holds of the states of the round, if there is one
abbrev pub IfRound : Depths → (List ℕ → Type 0) → Type 0
IfRound (Finite depths) P = Unit {0}
IfRound (Round states) P = P states.items
