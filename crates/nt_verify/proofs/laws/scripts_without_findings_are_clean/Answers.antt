use Rattle.nt_verify.proofs.Expecting.{clean}
use Rattle.nt_verify.proofs.laws.scripts_without_findings_are_clean.Goals as goal

pub returns : goal.returns
returns c = clean
