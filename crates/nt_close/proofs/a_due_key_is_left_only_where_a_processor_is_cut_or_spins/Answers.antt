use Rattle.nt_close.proofs.Owed.{no_due_key_is_left}
use Rattle.nt_close.proofs.a_due_key_is_left_only_where_a_processor_is_cut_or_spins.Goals as goal

pub returns : goal.returns
returns c = no_due_key_is_left
