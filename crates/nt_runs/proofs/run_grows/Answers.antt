use Rattle.nt_runs.proofs.Turns.{run_grows, turn_same}
use Rattle.nt_runs.proofs.run_grows.Goals as goal

pub returns : goal.returns
returns c s limit t past e r h = (run_grows s limit t past e r h, turn_same s limit t past e h)
