use Rattle.nt_reader_laws.proofs.Steps.{lane_steps}
use Rattle.nt_reader_laws.proofs.lane_steps_are_steps.Goals as goal

pub returns : goal.returns
returns c = lane_steps
