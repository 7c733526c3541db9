use Rattle.std.proofs.Common.{ap, arith, sym, ◌∙◌}
use Rattle.std.specs.Prelude.{if◌then◌else◌, nat_lt, ◌&&◌}
use Rattle.nt_event.specs.Fate.{Fate, StillWaits, fate_by, first_fate, uses_up}
use Rattle.nt_history.specs.Briefs.{events_in}
use Rattle.nt_why.specs.Fates.{thing_of}
use Rattle.nt_why.proofs.Walks.{fate_more}
use Rattle.nt_why.proofs.fates.fate_of.Goals as goal

pub loop-at-preserved : goal.loop-at-preserved
loop-at-preserved c =
    let x = thing_of c.args.object in
    let n = c.args.number in
    let k = c.loop-at.at in
    let w = c.event-event.result.what in
    let events = events_in c.args.events.now.briefs.now c.args.events.now.rises.now in
    record {
      so =
          c.fate_after-fate.ensures
          ∙ ap (λ (z : Fate). first_fate z (if nat_lt n k && uses_up x n w then fate_by w k else StillWaits)) c.loop-at.invariant.so
          ∙ sym (fate_more x n events k c.event-event.result c.event-event.ensures);
      within = omega (arith, c.loop-at-test.true);
    }
