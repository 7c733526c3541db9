use Rattle.std.proofs.Common.{ap, arith, sym, ◌∙◌, ℕ}
use Rattle.std.specs.Option.{option_or}
use Rattle.std.specs.Prelude.{None, Option, Some, if◌then◌else◌, nat_le, ◌&&◌}
use Rattle.nt_history.specs.Briefs.{events_in}
use Rattle.nt_why.specs.Sought.{is_sought}
use Rattle.nt_why.proofs.Courses.{first_more}
use Rattle.nt_why.proofs.sought.first_from.Goals as goal

pub loop-at-preserved : goal.loop-at-preserved
loop-at-preserved c =
    let x = c.args.sought.now in
    let n = c.args.from in
    let k = c.loop-at.at in
    let e = c.event-event.result in
    let events = events_in c.args.events.now.briefs.now c.args.events.now.rises.now in
    record {
      so =
          c.first_after-first.ensures
          ∙ ap (λ (z : Option ℕ). option_or z (if nat_le n k && is_sought x e then Some k else None)) c.loop-at.invariant.so
          ∙ sym (first_more x n events k e c.event-event.ensures);
      within = omega (arith, c.loop-at-test.true);
    }
