use Rattle.nt_verdict.proofs.Rounds.{shown_fails}
use Rattle.nt_verdict.proofs.what_a_free_run_shows_fails.Goals as goal

pub returns : goal.returns
returns c = shown_fails
