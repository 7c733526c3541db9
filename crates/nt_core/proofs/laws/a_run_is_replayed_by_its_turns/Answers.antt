use Rattle.nt_core.proofs.Replaying.{runs_replay}
use Rattle.nt_core.proofs.laws.a_run_is_replayed_by_its_turns.Goals as goal

pub returns : goal.returns
returns c s limit h r d = runs_replay s limit h r d
