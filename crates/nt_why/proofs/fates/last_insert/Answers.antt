use Rattle.std.proofs.Common.{ap, arith, sym, ◌∙◌, ℕ}
use Rattle.std.specs.Prelude.{Option, Some, if◌then◌else◌}
use Rattle.nt_event.specs.Fate.{inserted_thing}
use Rattle.nt_history.specs.Briefs.{events_in}
use Rattle.nt_why.specs.Fates.{is_it, thing_of}
use Rattle.nt_why.proofs.Walks.{kept_below, last_more}
use Rattle.nt_why.proofs.fates.last_insert.Goals as goal

pub loop-at-preserved : goal.loop-at-preserved
loop-at-preserved c =
    let x = thing_of c.args.object in
    let k = c.loop-at.at in
    let w = c.event-event.result.what in
    let events = events_in c.args.events.now.briefs.now c.args.events.now.rises.now in
    record {
      so =
          c.last_after-last.ensures
          ∙ ap (λ (z : Option ℕ). if is_it x (inserted_thing w) then Some k else z) c.loop-at.invariant.so
          ∙ sym (last_more x events k c.event-event.result c.event-event.ensures);
      before = kept_below (is_it x (inserted_thing w)) k c.loop-at.last _ c.last_after-last.ensures c.loop-at.invariant.before;
      within = omega (arith, c.loop-at-test.true);
    }
