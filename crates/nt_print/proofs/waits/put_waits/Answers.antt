use Rattle.std.proofs.Common.{◌≤◌, ◌<◌, ◌+◌, List, append-nil, arith, length, sym, ℕ}
use Rattle.nt_event.specs.declared.events.Event.{Event}
use Rattle.nt_history.proofs.Lists.{as_many}
use Rattle.nt_print.specs.Lent.{lent}
use Rattle.nt_print.proofs.Lent.{inserted_fits}
use Rattle.nt_print.proofs.Passed.{AllFit, rows_passed}
use Rattle.nt_print.proofs.WaitRows.{waits_put}
use Rattle.nt_print.proofs.waits.put_waits.Goals as goal

pub loop-number-init : goal.loop-number-init
loop-number-init c =
    let briefs = c.args.events.now.briefs.now in
    let rises = c.args.events.now.rises.now in
    let script = c.args.input.now.script in
    let events : List Event = lent c.args.events.now in
    let fits : AllFit script events = λ n lt. inserted_fits script briefs rises n (omega (arith, lt, as_many briefs rises)) c.requires.fit in
    let place = c.pass_clear-number.ensures.place in
    let within : c.pass_clear-number.result ≤ length events = omega (arith, place.1, c.requires.tally.places.unnamed) in
    record {
      rows = rows_passed script c.args.input.now.names events c.args.tally.now 0 _ _ _ c.requires.tally fits c.pass_clear-number.ensures.clear place.0 within
          (sym (append-nil c.args.out.now.items));
      within = within;
    }

pub loop-number-preserved : goal.loop-number-preserved
loop-number-preserved c =
    let briefs = c.args.events.now.briefs.now in
    let rises = c.args.events.now.rises.now in
    let script = c.args.input.now.script in
    let names = c.args.input.now.names in
    let events : List Event = lent c.args.events.now in
    let fits : AllFit script events = λ n lt. inserted_fits script briefs rises n (omega (arith, lt, as_many briefs rises)) c.requires.fit in
    let k : ℕ = c.loop-number.number in
    let lt : k < length events = omega (arith, c.loop-number-test.true, as_many briefs rises) in
    let next = c.pass_clear-number-in-loop-number in
    let within : next.result ≤ length events = omega (arith, next.ensures.place.1, c.requires.tally.places.unnamed) in
    record {
      rows = rows_passed script names events c.args.tally.now (k + 1) _ _ _ c.requires.tally fits next.ensures.clear next.ensures.place.0 within
          (waits_put names events k _ _ _ lt c.loop-number.invariant.rows c.in_ok-put_wait_of.ensures);
      within = within;
    }
