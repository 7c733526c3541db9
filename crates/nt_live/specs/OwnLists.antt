-- The lists of the events that workers made, with their numbers.
use Rattle.std.specs.Prelude.{List, [], ℕ, ◌++◌, ◌∷◌}
use Rattle.nt_event.specs.declared.events.Event.{Event}

-- what contracts see of a list while it is made: the numbers and events, and for how many there is room
pub record OwnEvents : Type 0 where
  pub pairs : List (ℕ × Event)
  pub room : ℕ

-- the numbers and events of lists, one list after another
abbrev pub all_pairs : List (List (ℕ × Event)) → List (ℕ × Event)
all_pairs [] = []
all_pairs (list ∷ lists) = list ++ all_pairs lists
