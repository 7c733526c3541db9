use Rattle.nt_print.proofs.SpinRows.{left_told, lock_left}
use Rattle.nt_print.proofs.spins.spin_left.Goals as goal

pub returns-clause-spin : goal.returns-clause-spin
returns-clause-spin c =
    left_told c.args.input.now.script c.args.history.now c.args.tally.now c.args.cpu c.is_cut_or_rests.result c.at.result c.unless.result
    c.requires.tally c.requires.cpu c.is_cut_or_rests.ensures c.at.ensures c.unless.ensures

pub returns-clause-fits : goal.returns-clause-fits
returns-clause-fits c =
    lock_left c.args.input.now.script c.args.history.now c.args.cpu c.unless.result
    (left_told c.args.input.now.script c.args.history.now c.args.tally.now c.args.cpu c.is_cut_or_rests.result c.at.result c.unless.result
    c.requires.tally c.requires.cpu c.is_cut_or_rests.ensures c.at.ensures c.unless.ensures) c.requires.fit
