use Rattle.nt_floor.proofs.Values.{raised_none}
use Rattle.nt_cpu.proofs.notice.Notice.raise.Goals as goal

pub returns-in-Nothing-clause-values : goal.returns-in-Nothing-clause-values
returns-in-Nothing-clause-values c =
    rw c.in-Nothing.is (raised_none c.args.seen.now c.requires.classes)
