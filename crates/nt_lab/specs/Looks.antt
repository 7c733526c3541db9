-- Turns whose looks tell a value of each class.
use Rattle.std.specs.Prelude.{List, length, ◌≡◌}
use Rattle.std.specs.List.{AllByRecursion}
use Rattle.nt_event.specs.declared.events.Turn.{Turn}
use Rattle.nt_event.specs.declared.events.Turn.TheVariants.{Look, Next, Switch}
use Rattle.nt_event.specs.Classes.{class_count}

-- the turn has a value for each class, where it is a look
abbrev pub TurnIsWhole : Turn → Type 0
TurnIsWhole (Next p) = Unit {0}
TurnIsWhole (Look p rises) = length rises.value ≡ class_count
TurnIsWhole (Switch p t) = Unit {0}

abbrev pub TurnsAreWhole : List Turn → Type 0
TurnsAreWhole list = AllByRecursion TurnIsWhole list
