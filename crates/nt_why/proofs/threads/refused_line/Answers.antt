use Rattle.std.proofs.Common.{sym, ◌∙◌}
use Rattle.nt_why.proofs.ThreadLines.{refusal_is}
use Rattle.nt_why.proofs.threads.refused_line.Goals as goal

pub returns-in-Some-clause-told : goal.returns-in-Some-clause-told
returns-in-Some-clause-told c = λ e h. (e, refusal_is _ _ (sym c.in-Some.is ∙ h))
