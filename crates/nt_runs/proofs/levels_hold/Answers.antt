use Rattle.nt_runs.proofs.Levels.{levels_hold}
use Rattle.nt_runs.proofs.levels_hold.Goals as goal

pub returns : goal.returns
returns c = levels_hold
