use Rattle.nt_readings.proofs.Deliverable.{deliverable_by_regions}
use Rattle.nt_readings.proofs.an_apc_is_deliverable_by_level_and_regions.Goals as goal

pub returns : goal.returns
returns c = deliverable_by_regions
