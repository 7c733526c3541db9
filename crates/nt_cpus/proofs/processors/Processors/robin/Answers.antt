use Rattle.std.proofs.Common.{ap, sym, ◌∙◌}
use Rattle.std.specs.Prelude.{Option, Some, option_map}
use Rattle.nt_event.specs.declared.events.Turn.{Turn}
use Rattle.nt_cpus.specs.Steps.{CpuChoice, chosen_turn}
use Rattle.nt_cpus.proofs.processors.Processors.robin.Goals as goal

pub returns-in-Some : goal.returns-in-Some
returns-in-Some g c past h l =
    ap (λ (t : Turn). Some t) (c.turn_of.ensures past h)
    ∙ (sym (ap (λ (o : Option CpuChoice). option_map (chosen_turn c.args.self.now.script past) o) c.in-Some.is) ∙ c.first_chosen.ensures.turn past h l)
