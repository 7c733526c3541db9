use Rattle.nt_verdict.proofs.Verdicts.{tell}
use Rattle.nt_verdict.proofs.a_closed_list_tells_of_an_expectation.Goals as goal

pub returns : goal.returns
returns c = tell
