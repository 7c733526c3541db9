-- The kinds of refused turns.
use Rattle.nt_event.specs.declared.events.ScheduleKind.{ScheduleKind}
use Rattle.nt_event.specs.declared.events.ScheduleKind.TheVariants as kinds
use Rattle.nt_cpus.specs.declared.refusals.CoreRefusal.{CoreRefusal}
use Rattle.nt_cpus.specs.declared.refusals.CoreRefusal.TheVariants.{BadChoice, BadLook, NoSuchCpu, NothingToDo}

abbrev pub kind_of : CoreRefusal → ScheduleKind
kind_of NoSuchCpu = kinds.NoSuchCpu
kind_of NothingToDo = kinds.NothingToDo
kind_of BadLook = kinds.BadLook
kind_of BadChoice = kinds.BadChoice
