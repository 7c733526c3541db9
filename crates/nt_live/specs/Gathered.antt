-- What the workers' events are together: a settled run.
use Rattle.std.specs.Prelude.{All, List, Some, [], map, reverse, true, ℕ, ◌∷◌, ◌≡◌, ◌⊎◌}
use Rattle.nt_event.specs.declared.events.Event.{Event}
use Rattle.nt_event.specs.declared.scripts.Script.{Script}
use Rattle.nt_event.specs.LaneStates.{Entry, cpu_piece}
use Rattle.nt_event.specs.Robin.{is_settled, robin}
use Rattle.nt_event.specs.Step.{IsRun, turn_of}
use Rattle.nt_live.specs.Workers.{WorkerState, pairs_of}

abbrev pub pair_of : Entry → ℕ × Event
pair_of e = (e.number, e.event)

-- the list of a worker is exactly its processor's part of this history, each event at its number
abbrev pub IsItsPart : List Event → WorkerState → Type 0
IsItsPart worked w = map pair_of (reverse (cpu_piece w.cpu.cpu worked)) ≡ pairs_of w.view

-- the history goes on from these events by the turns of the robin rule
abbrev pub GoesByRobin : Script → ℕ → List Event → List Event → Type 0
GoesByRobin s limit worked [] = worked ≡ []
GoesByRobin s limit worked (e ∷ past) =
    (worked ≡ e ∷ past) ⊎ ((robin s limit past ≡ Some (turn_of e)) × GoesByRobin s limit worked past)

-- a settled run: what the workers did, each event once and at its number, and then turns of the robin rule
pub record IsGathered (s : Script) (limit : ℕ) (ws : List WorkerState) (h : List Event) : Type 0 where
  pub run : IsRun s limit h
  pub settled : is_settled s limit h ≡ true
  pub worked : List Event
  pub parts : All (IsItsPart worked) ws
  pub added : GoesByRobin s limit worked h
