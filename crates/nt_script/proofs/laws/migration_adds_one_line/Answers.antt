use Rattle.nt_script.proofs.Migrating.{one_line_more, two_stays}
use Rattle.nt_script.proofs.laws.migration_adds_one_line.Goals as goal

pub returns-clause-added : goal.returns-clause-added
returns-clause-added c = one_line_more

pub returns-clause-stays : goal.returns-clause-stays
returns-clause-stays c = two_stays
