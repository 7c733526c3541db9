use Rattle.nt_readings.proofs.Regions.{regions_counted}
use Rattle.nt_readings.proofs.regions_are_enters_less_leaves.Goals as goal

pub returns : goal.returns
returns c = regions_counted
