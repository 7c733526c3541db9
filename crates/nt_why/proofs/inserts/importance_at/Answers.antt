use Rattle.std.proofs.Common.{ap, arith, sym, ◌∙◌}
use Rattle.nt_event.specs.declared.commands.Importance.{Importance}
use Rattle.nt_event.specs.Objects.{importance_after}
use Rattle.nt_history.specs.Briefs.{events_in}
use Rattle.nt_why.proofs.Walks.{importance_more}
use Rattle.nt_why.proofs.inserts.importance_at.Goals as goal

pub loop-at-preserved : goal.loop-at-preserved
loop-at-preserved c =
    let d = c.args.dpc in
    let w = c.event-event.result.what in
    let events = events_in c.args.events.now.briefs.now c.args.events.now.rises.now in
    record {
      so =
          c.importance_after-importance.ensures ∙ ap (λ (z : Importance). importance_after d w z) c.loop-at.invariant.so
          ∙ sym (importance_more d events c.loop-at.at c.event-event.result c.event-event.ensures);
      within = omega (arith, c.loop-at-test.true);
    }
