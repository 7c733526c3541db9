use Rattle.std.proofs.Common.{[], subst}
use Rattle.std.specs.Prelude.{IfSome, List, Option}
use Rattle.nt_event.specs.declared.events.Event.{Event}
use Rattle.nt_log.specs.declared.schedules.Schedule.{Schedule}
use Rattle.nt_witness.specs.Leads.{Lead}
use Rattle.nt_witness.specs.Witnesses.{IsWitness}
use Rattle.nt_lab.specs.Witnesses.{expected}
use Rattle.nt_lab.proofs.Shown.{leads}
use Rattle.nt_lab.proofs.witnessing.shown.Goals as goal

pub scheduled-requires-clause-lead : goal.scheduled-requires-clause-lead
scheduled-requires-clause-lead c =
    let s = c.args.asked.now.input.script in
    let turns = c.args.turns.now in
    let l = leads s (expected c.args.asked.now c.args.number) turns c.requires.show in (
      l.0,
      l.1,
      subst (λ (o : Option Schedule). IfSome o (λ w. (h : List Event) → Lead s turns [] h → IsWitness s h w)) c.in-Ok-Some.field-0-is
          c.in-Ok-Some.ensures.some l.0 l.1,
    )
