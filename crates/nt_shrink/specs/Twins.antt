-- Neighbouring places of a list, of which one is as good as the other.
use Rattle.std.specs.Prelude.{Bool, List, Option, Some, false, get_or, map, true, ℕ, ◌+◌, ◌≡◌}
use Rattle.nt_event.specs.declared.events.Turn.{Turn}
use Rattle.nt_event.specs.declared.numbers.CpuNo.{CpuNo}
use Rattle.nt_shrink.specs.Shorter.{turn_without, value_without, without}

-- both are the same processor
abbrev pub AreSame : Option CpuNo → Option CpuNo → Type 0
AreSame a b = (p : CpuNo) × ((a ≡ Some p) × (b ≡ Some p))

-- the place is a twin of the one before it
abbrev pub IsTwin : List Bool → ℕ → Type 0
IsTwin twins place = get_or twins place false ≡ true

-- the places that are still twins were twins, and this holds of the places before them
abbrev pub StayTwins : (ℕ → Type 0) → List Bool → List Bool → Type 0
StayTwins P old new = (at : ℕ) → IsTwin new (at + 1) → IsTwin old (at + 1) × P at

-- a later value, some values or a turn are the same without the place as without the next one
abbrev pub IsSameValue : ℕ → ℕ → Type 0
IsSameValue value at = value_without at value ≡ value_without (at + 1) value

abbrev pub AreSameValues : List ℕ → ℕ → Type 0
AreSameValues values at = map (value_without at) values ≡ map (value_without (at + 1)) values

abbrev pub IsSameTurn : Turn → ℕ → Type 0
IsSameTurn turn at = turn_without at turn ≡ turn_without (at + 1) turn

-- the list without a twin is the list without the place before it
abbrev pub AreTwins : List Turn → List Bool → Type 0
AreTwins list twins = (at : ℕ) → IsTwin twins (at + 1) → without at list ≡ without (at + 1) list
