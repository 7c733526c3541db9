use Rattle.nt_verify.proofs.Expecting.{calls_expected}
use Rattle.nt_verify.proofs.laws.calls_are_refused_as_expected.Goals as goal

pub returns : goal.returns
returns c = calls_expected
