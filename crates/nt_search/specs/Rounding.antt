-- Turns that lead once round states that lead round.
use Rattle.std.specs.Prelude.{List, Ok, [], length, ℕ, ◌++◌, ◌<◌, ◌∷◌, ◌≡◌, ◌≤◌}
use Rattle.nt_event.specs.declared.events.Event.{Event}
use Rattle.nt_event.specs.declared.events.Turn.{Turn}
use Rattle.nt_event.specs.declared.scripts.Script.{Script}
use Rattle.nt_alike.specs.Alike.{Alike}
use Rattle.nt_alike.specs.Free.{IsFreeRun, free_step}
use Rattle.nt_verdict.specs.Fails.{IsEndless}
use Rattle.nt_search.specs.declared.machine.Machine.{Machine}
use Rattle.nt_search.specs.declared.plan.Plan.{Plan}
use Rattle.nt_search.specs.Machines.{Stands}
use Rattle.nt_search.specs.States.{AreStates, Seen}
use Rattle.nt_search.specs.Tried.{IsLikeOne}
use Rattle.nt_search.specs.Ways.{Lead}

-- The turns lead to a history, and the last of them, so many, once round: to one that is like it. Like histories go on
-- alike, so what was done once can be done again and again. All together there are no more events than this limit.
pub record GoRound (s : Script) (limit size : ℕ) (turns : List Turn) : Type 0 where
  pub before : List Event
  pub around : List Event
  pub lead : Lead s turns [] (around ++ before)
  pub run : IsFreeRun s (around ++ before)
  pub count : length around ≡ size
  pub some : 0 < length around
  pub total : length (around ++ before) ≡ length turns
  pub within : length turns ≤ limit
  pub alike : Alike s (around ++ before) before

-- so where turns lead once round, there are runs of every length
abbrev pub RoundsAreEndless : Type 0
RoundsAreEndless = (s : Script) (limit size : ℕ) (turns : List Turn) → GoRound s limit size turns → IsEndless s

-- ---- on the way round

-- the states are those of these histories
abbrev pub AreOf : Plan → List (List Event) → Seen → Type 0
AreOf x all states = AreStates x.script.now x.watched.items all states

-- the machine stands after this history, after which no processor is cut
pub record IsAfter (x : Plan) (past : List Event) (m : Machine) : Type 0 where
  pub stands : Stands x.script.now x.limit x.watched.items past m
  pub short : length past < x.limit

-- by the turn the history leads to one that is like that of the state of this number
pub record TurnLeads (x : Plan) (all : List (List Event)) (past : List Event) (turn : Turn) (number : ℕ) : Type 0 where
  pub event : Event
  pub gives : free_step x.script.now turn past ≡ Ok event
  pub like : IsLikeOne x.script.now x.watched.items all (event ∷ past) number

-- the machine took these turns, which lead to this history, and they are not too many
pub record HasTaken (x : Plan) (turns : List Turn) (past : List Event) (m : Machine) : Type 0 where
  pub lead : Lead x.script.now turns [] past
  pub stands : Stands x.script.now x.limit x.watched.items past m
  pub within : length turns ≤ x.limit

-- with one turn more it came to a history that is like that of the state of this number
pub record HasGoneOn (x : Plan) (all : List (List Event)) (past : List Event) (number : ℕ) (turns : List Turn)
    (m : Machine) : Type 0 where
  pub event : Event
  pub taken : HasTaken x turns (event ∷ past) m
  pub like : IsLikeOne x.script.now x.watched.items all (event ∷ past) number
