use Rattle.nt_ranges.proofs.Reports.{a_run_has_a_report as proved}
use Rattle.nt_ranges.proofs.a_run_has_a_report.Goals as goal

pub returns : goal.returns
returns c = proved
