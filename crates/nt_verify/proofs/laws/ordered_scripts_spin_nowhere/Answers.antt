use Rattle.nt_verify.proofs.Ordering.{ordered_spin_nowhere}
use Rattle.nt_verify.proofs.laws.ordered_scripts_spin_nowhere.Goals as goal

pub returns : goal.returns
returns c = ordered_spin_nowhere
