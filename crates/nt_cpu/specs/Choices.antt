-- The turn that a choice stands for.
use Rattle.std.specs.Borrow.{Bor}
use Rattle.nt_event.specs.declared.events.Rises.{Rises}
use Rattle.nt_event.specs.declared.events.Turn.{Turn}
use Rattle.nt_event.specs.declared.events.Turn.TheVariants as turns
use Rattle.nt_event.specs.declared.numbers.CpuNo.{CpuNo}
use Rattle.nt_cpu.specs.declared.choice.Choice.{Choice}
use Rattle.nt_cpu.specs.declared.choice.Choice.TheVariants.{Look, Next, Switch}

-- that of this processor
abbrev pub turn_by : CpuNo → Choice (Bor Rises) → Turn
turn_by p Next = turns.Next p
turn_by p (Look r) = turns.Look p r.now
turn_by p (Switch t) = turns.Switch p t
