-- Laws of traces and of shrunk lists, each the contract of a function in laws.rt.
use Rattle.std.specs.Prelude.{List, Ok, true, ℕ, ◌↔◌, ◌≡◌}
use Rattle.nt_event.specs.declared.events.Event.{Event}
use Rattle.nt_event.specs.declared.events.Turn.{Turn}
use Rattle.nt_event.specs.declared.scripts.Script.{Script}
use Rattle.nt_event.specs.Step.{IsRun, turns}
use Rattle.nt_shrink.specs.declared.goals.Goal.{Goal}
use Rattle.nt_shrink.specs.Goals.{delivers}
use Rattle.nt_shrink.specs.Spare.{NoneSpare, greatest_spare, left_out, shrunk}
use Rattle.nt_shrink.specs.Traces.{is_delivered, traced}

-- a list of turns gives a history exactly where it is a run with these turns
abbrev pub TracesAreRuns : Type 0
TracesAreRuns = (s : Script) (limit : ℕ) (list : List Turn) (past : List Event) →
    (traced s limit list ≡ Ok past) ↔ (IsRun s limit past × (turns past ≡ list))

-- the turns are those of a run that delivers the request
abbrev pub IsDelivery : Script → ℕ → Goal → List Turn → Type 0
IsDelivery s limit g list =
    (past : List Event) × (IsRun s limit past × (turns past ≡ list) × (delivers g past ≡ true))

-- the shrunk list is the list itself where no place is spare, and else that of the list without its greatest spare
-- place
abbrev pub ShrunkByTheGreatest : Type 0
ShrunkByTheGreatest = (s : Script) (limit : ℕ) (g : Goal) (list : List Turn) →
    shrunk s limit g list ≡ left_out list (greatest_spare s limit g list) (shrunk s limit g)

-- the shrunk list of turns that deliver the request: they deliver it, and no turn can be left out
abbrev pub ShrunkDelivers : Type 0
ShrunkDelivers = (s : Script) (limit : ℕ) (g : Goal) (list : List Turn) → is_delivered g (traced s limit list) ≡ true →
    IsDelivery s limit g (shrunk s limit g list) × NoneSpare s limit g (shrunk s limit g list)
