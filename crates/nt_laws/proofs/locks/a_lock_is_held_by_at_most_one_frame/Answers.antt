use Rattle.nt_laws.proofs.Holders.{one_holds}
use Rattle.nt_laws.proofs.locks.a_lock_is_held_by_at_most_one_frame.Goals as goal

pub returns : goal.returns
returns c = one_holds
