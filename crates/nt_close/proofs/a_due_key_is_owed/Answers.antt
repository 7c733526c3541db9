use Rattle.nt_close.proofs.Owed.{a_due_key_is_owed}
use Rattle.nt_close.proofs.a_due_key_is_owed.Goals as goal

pub returns : goal.returns
returns c = a_due_key_is_owed
