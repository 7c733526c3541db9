use Rattle.nt_check.proofs.Verdicts.{one_verdict}
use Rattle.nt_check.proofs.laws.one_verdict.Goals as goal

pub returns : goal.returns
returns c s limit events = one_verdict s limit events
