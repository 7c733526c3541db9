-- What a look may find: of each class nothing, or one of some values.
use Rattle.std.specs.List.{list_any}
use Rattle.std.specs.Prelude.{Bool, List, map, nat_lt, set, ℕ, ◌∷◌}
use Rattle.nt_event.specs.declared.events.Rises.{Rises}

-- what a look found, but of this class this value
abbrev pub with_value : ℕ → Rises → ℕ → Rises
with_value c r v = record { value = set r.value c v }

-- what a look found, as it is and with each of these values of the class
abbrev pub with_values : ℕ → List ℕ → Rises → List Rises
with_values c values r = r ∷ map (with_value c r) values

-- whether it found anything
abbrev pub finds : Rises → Bool
finds r = list_any (nat_lt 0) r.value
