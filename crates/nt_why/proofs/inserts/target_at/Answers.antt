use Rattle.std.proofs.Common.{ap, arith, sym, ◌∙◌}
use Rattle.std.specs.Prelude.{Option}
use Rattle.nt_event.specs.declared.numbers.CpuNo.{CpuNo}
use Rattle.nt_event.specs.Objects.{target_after}
use Rattle.nt_history.specs.Briefs.{events_in}
use Rattle.nt_why.proofs.Walks.{target_more}
use Rattle.nt_why.proofs.inserts.target_at.Goals as goal

pub loop-at-preserved : goal.loop-at-preserved
loop-at-preserved c =
    let d = c.args.dpc in
    let w = c.event-event.result.what in
    let events = events_in c.args.events.now.briefs.now c.args.events.now.rises.now in
    record {
      so =
          c.target_after-target.ensures ∙ ap (λ (z : Option CpuNo). target_after d w z) c.loop-at.invariant.so
          ∙ sym (target_more d events c.loop-at.at c.event-event.result c.event-event.ensures);
      within = omega (arith, c.loop-at-test.true);
    }
