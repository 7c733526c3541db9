use Rattle.nt_ranges.proofs.Statuses.{statuses_are_those_of_waits as proved}
use Rattle.nt_ranges.proofs.statuses_are_those_of_waits.Goals as goal

pub returns : goal.returns
returns c = proved
