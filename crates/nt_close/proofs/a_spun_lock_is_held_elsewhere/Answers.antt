use Rattle.nt_close.proofs.a_spun_lock_is_held_elsewhere.Goals as goal
use Rattle.nt_close.proofs.Spinners.{held_elsewhere}

pub returns : goal.returns
returns c = held_elsewhere
