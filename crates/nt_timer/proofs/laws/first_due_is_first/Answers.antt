use Rattle.nt_timer.proofs.Order.{first_due_is_first}
use Rattle.nt_timer.proofs.laws.first_due_is_first.Goals as goal

pub returns : goal.returns
returns c = first_due_is_first
