use Rattle.nt_ranges.proofs.Whole.{a_robin_run_looks_whole as proved}
use Rattle.nt_ranges.proofs.a_robin_run_looks_whole.Goals as goal

pub returns : goal.returns
returns c = proved
