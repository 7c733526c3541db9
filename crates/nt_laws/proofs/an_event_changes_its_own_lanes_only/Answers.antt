use Rattle.nt_runs.proofs.Untouched.{untouched}
use Rattle.nt_laws.proofs.an_event_changes_its_own_lanes_only.Goals as goal

pub returns : goal.returns
returns c = untouched
