use Rattle.nt_laws.proofs.Fates.Agree.{agree}
use Rattle.nt_laws.proofs.inserts.queues_and_objects_agree.Goals as goal

pub returns : goal.returns
returns c = agree
