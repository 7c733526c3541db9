use Rattle.nt_plain.proofs.RaisedClasses.{raised_row, row_interrupts}
use Rattle.nt_plain.proofs.told.raise_by.Goals as goal

pub returns-clause-values : goal.returns-clause-values
returns-clause-values c =
    raised_row c.args.told.now c.args.seen.now c.raise_class.new.seen c.raise_class-2.new.seen c.raise_class-3.new.seen c.raise_class-4.new.seen
    c.raise_class.ensures.values c.raise_class-2.ensures.values c.raise_class-3.ensures.values c.raise_class-4.ensures.values c.requires.others

pub returns-clause-interrupts : goal.returns-clause-interrupts
returns-clause-interrupts c h =
    row_interrupts c.args.told.now c.args.seen.now c.raise_class.new.seen c.raise_class-2.new.seen c.raise_class-3.new.seen c.raise_class-4.new.seen
    c.raise_class.ensures.values c.raise_class-2.ensures.values c.raise_class-3.ensures.values (c.raise_class-4.ensures.interrupts h)
