use Rattle.nt_laws.proofs.Fates.Removals.{removals_tell}
use Rattle.nt_laws.proofs.inserts.a_removal_answers_yes_exactly_where_there_was_one.Goals as goal

pub returns : goal.returns
returns c = removals_tell
