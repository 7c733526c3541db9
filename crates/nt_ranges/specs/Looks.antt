-- Looks that tell a value of each class.
use Rattle.std.specs.Prelude.{List, length, reverse, ℕ, ◌≡◌}
use Rattle.std.specs.List.{AllByRecursion}
use Rattle.nt_event.specs.declared.events.Event.{Event}
use Rattle.nt_event.specs.declared.events.Turn.{Turn}
use Rattle.nt_event.specs.declared.events.What.{What}
use Rattle.nt_event.specs.declared.scripts.Script.{Script}
use Rattle.nt_event.specs.Classes.{class_count}
use Rattle.nt_event.specs.Robin.{IsRobin}
use Rattle.nt_event.specs.Step.{turns}
use Rattle.nt_script.specs.declared.walk.Input.{Input}
use Rattle.nt_log.specs.Schedules.{TurnIsPlain}
use Rattle.nt_event.specs.Families.{in_look}

-- a look has a value for each class
abbrev pub LookIsWhole : What → Type 0
LookIsWhole w = in_look (λ rises. length rises.value ≡ class_count) (Unit {0}) w

abbrev pub LooksAreWhole : List Event → Type 0
LooksAreWhole events = AllByRecursion (λ e. LookIsWhole e.what) events

-- a robin run's looks are whole: the rule tells a value of each class
abbrev pub ARobinRunLooksWhole : Type 0
ARobinRunLooksWhole = (s : Script) (limit : ℕ) (past : List Event) → IsRobin s limit past →
    LooksAreWhole (reverse past)

-- so are those of a run whose turns are plain, as those of a schedule that was read
abbrev pub AReplayLooksWhole : Type 0
AReplayLooksWhole = (input : Input) (past : List Event) (list : List Turn) → turns past ≡ list →
    AllByRecursion (TurnIsPlain input) list → LooksAreWhole (reverse past)
