use Rattle.nt_laws.proofs.Holders.{spins_on_none_held, spins_one}
use Rattle.nt_laws.proofs.locks.a_processor_spins_on_at_most_one_lock.Goals as goal

pub returns-clause-one : goal.returns-clause-one
returns-clause-one c = spins_one

pub returns-clause-other : goal.returns-clause-other
returns-clause-other c = spins_on_none_held
