use Rattle.std.proofs.Common.{sym, ◌∙◌}
use Rattle.nt_print.proofs.OneReport.{one_history}
use Rattle.nt_print.proofs.laws.reports_are_histories.Goals as goal

pub returns-clause-one_text : goal.returns-clause-one_text
returns-clause-one_text c = λ input h a b p q. p.text ∙ sym q.text

pub returns-clause-one_history : goal.returns-clause-one_history
returns-clause-one_history c = one_history
