use Rattle.nt_laws.proofs.Named.EventsFit.{events_of_a_run_fit}
use Rattle.nt_laws.proofs.events_of_a_run_fit.Goals as goal

pub returns : goal.returns
returns c = events_of_a_run_fit
