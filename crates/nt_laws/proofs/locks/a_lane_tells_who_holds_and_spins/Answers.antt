use Rattle.nt_laws.proofs.Holders.{lane_tells}
use Rattle.nt_laws.proofs.locks.a_lane_tells_who_holds_and_spins.Goals as goal

pub returns : goal.returns
returns c = lane_tells
