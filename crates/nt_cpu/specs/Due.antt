-- Which request is due.
use Rattle.std.specs.Prelude.{Bool, List, None, Option, Some, find, if◌then◌else◌, nat_lt, ℕ}
use Rattle.nt_event.specs.Classes.{interrupt_classes}
use Rattle.nt_event.specs.Lists.{value_at}

-- a request of the class was noticed and not served
abbrev pub is_unserved : List ℕ → List ℕ → ℕ → Bool
is_unserved seen served c = nat_lt (value_at served c) (value_at seen c)

-- the greatest class of an interrupt that was noticed and not served
abbrev pub greatest_due : List ℕ → List ℕ → Option ℕ
greatest_due seen served = find (is_unserved seen served) interrupt_classes

-- a class, where it is above the level
abbrev pub above_level : ℕ → Option ℕ → Option ℕ
above_level level None = None
above_level level (Some c) = if nat_lt level c then Some c else None
