use Rattle.nt_ranges.proofs.Programs.{one_report_one_history as proved}
use Rattle.nt_ranges.proofs.one_report_one_history.Goals as goal

pub returns : goal.returns
returns c = proved
