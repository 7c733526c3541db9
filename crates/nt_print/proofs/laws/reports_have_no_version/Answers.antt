use Rattle.nt_print.proofs.Versions.{one_report}
use Rattle.nt_print.proofs.laws.reports_have_no_version.Goals as goal

pub returns : goal.returns
returns c = one_report
