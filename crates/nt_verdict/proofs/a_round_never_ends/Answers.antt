use Rattle.nt_verdict.proofs.Rounds.{rounds_fail}
use Rattle.nt_verdict.proofs.a_round_never_ends.Goals as goal

pub returns : goal.returns
returns c = rounds_fail
