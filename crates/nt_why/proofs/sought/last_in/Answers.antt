use Rattle.std.proofs.Common.{ap, arith, sym, ◌∙◌, ℕ}
use Rattle.std.specs.Prelude.{Option, Some, if◌then◌else◌}
use Rattle.nt_history.specs.Briefs.{events_in}
use Rattle.nt_why.specs.Sought.{is_sought}
use Rattle.nt_why.proofs.Courses.{last_in_more}
use Rattle.nt_why.proofs.sought.last_in.Goals as goal

pub loop-at-preserved : goal.loop-at-preserved
loop-at-preserved c =
    let x = c.args.sought.now in
    let k = c.loop-at.at in
    let e = c.event-event.result in
    let events = events_in c.args.events.now.briefs.now c.args.events.now.rises.now in
    record {
      so =
          c.last_after-last.ensures
          ∙ ap (λ (z : Option ℕ). if is_sought x e then Some k else z) c.loop-at.invariant.so
          ∙ sym (last_in_more x events k e c.event-event.ensures);
      within = omega (arith, c.loop-at-test.true);
    }
