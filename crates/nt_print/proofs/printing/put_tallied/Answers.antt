use Rattle.std.proofs.Common.{rules}
use Rattle.nt_print.specs.Lent.{lent}
use Rattle.nt_print.proofs.Tallied.{all_made, all_tallied}
use Rattle.nt_print.proofs.Turns.{turns_of_fit}
use Rattle.nt_print.proofs.Whole.{report_put}
use Rattle.nt_print.proofs.printing.put_tallied.Goals as goal

pub put_cuts-requires-clause-made : goal.put_cuts-requires-clause-made
put_cuts-requires-clause-made c =
    all_made c.args.input.now.script (lent c.args.events.now) c.args.history.now.events c.put_events.new.tally
    c.in_ok-put_events.ensures.tally c.requires.events

pub put_spins-requires-clause-tally : goal.put_spins-requires-clause-tally
put_spins-requires-clause-tally c =
    all_tallied c.args.input.now.script (lent c.args.events.now) c.args.history.now.events c.put_events.new.tally
    c.in_ok-put_events.ensures.tally c.requires.events

pub put_schedule_of-requires-clause-fit : goal.put_schedule_of-requires-clause-fit
put_schedule_of-requires-clause-fit c = turns_of_fit c.args.input.now.script c.args.history.now.events c.requires.fit

pub returns : goal.returns
returns c =
    report_put c.args.input.now c.args.history.now (lent c.args.events.now) _ _ _ _ _ _ c.requires.events
    (search rules) c.in_ok-put_events.ensures.lines c.in_ok-put_cuts.ensures c.in_ok-put_spins.ensures
    c.in_ok-put_waits.ensures c.in_ok-put_schedule_of.ensures
