-- The turn that a choice of the robin rule stands for.
use Rattle.std.specs.Prelude.{List, ℕ}
use Rattle.nt_event.specs.declared.events.Event.{Event}
use Rattle.nt_event.specs.declared.events.Turn.{Turn}
use Rattle.nt_event.specs.declared.events.Turn.TheVariants as turns
use Rattle.nt_event.specs.declared.numbers.CpuNo.{CpuNo}
use Rattle.nt_event.specs.declared.scripts.Script.{Script}
use Rattle.nt_event.specs.Own.{own_of}
use Rattle.nt_event.specs.Requests.{asked}
use Rattle.nt_event.specs.Robin.{look_values}
use Rattle.nt_cpu.specs.declared.choice.Choice.{Choice}
use Rattle.nt_cpu.specs.declared.choice.Choice.TheVariants.{Look, Next, Switch}

-- what the robin rule has a processor do, where the values of a look are found once it is made
abbrev pub RobinChoice : Type 0
RobinChoice = Choice (Unit {0})

-- a processor and what the rule has it do
abbrev pub CpuChoice : Type 0
CpuChoice = CpuNo × RobinChoice

-- that of this processor, where a look finds these values
abbrev pub step_turn : CpuNo → List ℕ → RobinChoice → Turn
step_turn p values (Look u) = turns.Look p (record { value = values })
step_turn p values (Switch t) = turns.Switch p t
step_turn p values Next = turns.Next p

-- what a look of the processor finds after this past
abbrev pub found_values : Script → CpuNo → List Event → List ℕ
found_values s p past = look_values (own_of s p past) (λ k. asked s p k past)

-- the look of the processor after this past
abbrev pub look_of : Script → CpuNo → List Event → Turn
look_of s p past = turns.Look p (record { value = found_values s p past })

-- that of a processor which goes on so after this past
abbrev pub chosen_turn : Script → List Event → CpuChoice → Turn
chosen_turn s past c = step_turn c.0 (found_values s c.0 past) c.1
