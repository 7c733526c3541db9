-- Ways in few bytes: the values of looks stand apart.
use Rattle.std.specs.Prelude.{List, None, Option, Some, [], length, map, slice_get, ◌<◌, ◌∷◌}
use Rattle.nt_event.specs.declared.numbers.CpuNo.{CpuNo}
use Rattle.nt_event.specs.declared.events.Rises.{Rises}
use Rattle.nt_event.specs.declared.events.Turn.{Turn}
use Rattle.nt_event.specs.declared.events.Turn.TheVariants.{Look, Next, Switch}
use Rattle.nt_search.specs.declared.states.Way.{Way}
use Rattle.nt_search.specs.declared.ways.Move.{Move}
use Rattle.nt_search.specs.declared.ways.Move.TheVariants.{Look as LookBy, Next as NextBy, Switch as SwitchBy}
use Rattle.nt_search.specs.declared.ways.Step.{Step}

-- the look at these values; where there are none, a turn that means nothing
abbrev pub look_at : CpuNo → Option Rises → Turn
look_at cpu None = Next cpu
look_at cpu (Some rises) = Look cpu rises

-- the turn that moves so, where these are the values of looks
abbrev pub turn_in : List Rises → Move → Turn
turn_in looks (NextBy cpu) = Next cpu
turn_in looks (LookBy cpu number) = look_at cpu (slice_get looks number)
turn_in looks (SwitchBy cpu thread) = Switch cpu thread

-- the way of a step
abbrev pub way_in : List Rises → Step → Way
way_in looks step = record { from = step.from; turn = turn_in looks step.by }

-- those of steps, in their order
abbrev pub ways_in : List Rises → List Step → List Way
ways_in looks steps = map (way_in looks) steps

-- its values are there
abbrev pub IsIn : List Rises → Move → Type 0
IsIn looks (NextBy cpu) = Unit {0}
IsIn looks (LookBy cpu number) = number < length looks
IsIn looks (SwitchBy cpu thread) = Unit {0}

-- so are those of each step
abbrev pub AreIn : List Rises → List Step → Type 0
AreIn looks [] = Unit {0}
AreIn looks (step ∷ steps) = IsIn looks step.by × AreIn looks steps
