-- The turns that may be taken after a history, and when a list has all of them.
use Rattle.std.specs.Prelude.{Contains, List, Ok, length, replicate, ℕ, ◌++◌, ◌-◌, ◌≡◌, ◌≤◌}
use Rattle.nt_event.specs.declared.events.Event.{Event}
use Rattle.nt_event.specs.declared.events.Turn.{Turn}
use Rattle.nt_event.specs.declared.events.Turn.TheVariants.{Look, Next, Switch}
use Rattle.nt_event.specs.declared.numbers.CpuNo.{CpuNo}
use Rattle.nt_event.specs.declared.scripts.Script.{Script}
use Rattle.nt_event.specs.Classes.{class_count}
use Rattle.nt_event.specs.Step.{cpu_at}
use Rattle.nt_alike.specs.Free.{free_step}

-- the turn Look has at most 16 values, one for each class; in the code it has 16
abbrev pub TurnIsShort : Turn → Type 0
TurnIsShort (Next p) = Unit {0}
TurnIsShort (Look p r) = length r.value ≤ class_count
TurnIsShort (Switch p t) = Unit {0}

-- the turn gives an event after this past, at no turn limit
pub record MayTake (s : Script) (past : List Event) (turn : Turn) : Type 0 where
  pub event : Event
  pub gives : free_step s turn past ≡ Ok event
  pub short : TurnIsShort turn

-- the values with 0 for each class that has none, which means the same: nothing was found of it
abbrev pub filled : List ℕ → List ℕ
filled values = values ++ replicate (class_count - length values) 0

-- the turn with 16 values where it is a Look
abbrev pub filled_turn : Turn → Turn
filled_turn (Next p) = Next p
filled_turn (Look p r) = Look p (record { value = filled r.value })
filled_turn (Switch p t) = Switch p t

-- each turn that may be taken is one of these; a Look with fewer than 16 values stands there with 16
abbrev pub HasAll : Script → List Event → List Turn → Type 0
HasAll s past turns = (turn : Turn) → MayTake s past turn → Contains turns (filled_turn turn)

-- each turn of this processor that may be taken is one of these
abbrev pub HasAllOf : Script → List Event → CpuNo → List Turn → Type 0
HasAllOf s past p turns = (turn : Turn) → cpu_at turn ≡ p → MayTake s past turn → Contains turns (filled_turn turn)

-- what stood in the one list stands in the other
abbrev pub AreKept : List Turn → List Turn → Type 0
AreKept old new = (turn : Turn) → Contains old turn → Contains new turn
