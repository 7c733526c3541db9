use Rattle.nt_shade_dpcs.proofs.SameLanes.{same_lanes}
use Rattle.nt_shade_dpcs.proofs.laws.same_shades_tell_same_lanes.Goals as goal

pub returns : goal.returns
returns c = same_lanes
