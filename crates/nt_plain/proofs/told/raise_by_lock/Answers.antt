use Rattle.nt_plain.proofs.RaisedClasses.{raised_lock_row}
use Rattle.nt_plain.proofs.told.raise_by_lock.Goals as goal

pub returns-clause-values : goal.returns-clause-values
returns-clause-values c =
    raised_lock_row c.args.told.now c.args.seen.now c.raise_class.new.seen c.raise_class.ensures.values c.requires.others
