-- Whether the values of a look were asked for, as a floor tells it.
use Rattle.std.specs.Prelude.{Bool, List, [], suc, true, ℕ, ◌&&◌, ◌-◌, ◌==◌, ◌||◌, ◌∷◌}
use Rattle.nt_event.specs.declared.numbers.CpuNo.{CpuNo}
use Rattle.nt_floor.specs.Views.{View}

-- each value from this class on that rises is one more than the number of an event that was marked for its class
abbrev pub are_marked : View → CpuNo → ℕ → List ℕ → Bool
are_marked v p k [] = true
are_marked v p k (x ∷ xs) = ((x == 0) || v.marked (x - 1) p k) && are_marked v p (suc k) xs
