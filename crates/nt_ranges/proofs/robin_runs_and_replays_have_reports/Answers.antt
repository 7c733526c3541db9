use Rattle.nt_ranges.proofs.Programs.{a_replay_is_one, a_robin_run_is_one}
use Rattle.nt_ranges.proofs.robin_runs_and_replays_have_reports.Goals as goal

pub returns-clause-robin : goal.returns-clause-robin
returns-clause-robin c = a_robin_run_is_one

pub returns-clause-replay : goal.returns-clause-replay
returns-clause-replay c = a_replay_is_one
