use Rattle.std.proofs.Common.{ap, sym, ◌∙◌, ◌≡◌}
use Rattle.std.specs.Prelude.{Option, Some, option_map}
use Rattle.nt_event.specs.declared.events.Turn.{Turn}
use Rattle.nt_event.specs.Step.{step, turn_of}
use Rattle.nt_runs.proofs.Turns.{turn_same}
use Rattle.nt_cpus.specs.States.{CpusState}
use Rattle.nt_cpus.specs.Steps.{CpuChoice, chosen_turn}
use Rattle.nt_cpus.proofs.processors.Processors.go_on.Goals as goal

pub returns-in-Some-clause-event : goal.returns-in-Some-clause-event
returns-in-Some-clause-event g c t past h l =
    let s : CpusState = c.args.self.now in
    let event = c.follow.new.event in
    let m = c.follow.ensures.event past h in
    let same : turn_of event ≡ chosen_turn s.script past c.in-Some.chosen = turn_same _ _ _ _ event m.0 in
    let found = sym (c.first_chosen.ensures.turn past h l) ∙ ap (λ (o : Option CpuChoice). option_map (chosen_turn s.script past) o) c.in-Some.is in (
      found ∙ ap (λ (t : Turn). Some t) (sym same),
      ap (λ (t : Turn). step s.script s.limit t past) same ∙ m.0,
      m.1,
    )
