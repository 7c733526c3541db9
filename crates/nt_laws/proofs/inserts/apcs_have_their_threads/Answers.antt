use Rattle.nt_laws.proofs.Fates.Owners.{apcs_have_their_threads}
use Rattle.nt_laws.proofs.inserts.apcs_have_their_threads.Goals as goal

pub returns : goal.returns
returns c = apcs_have_their_threads
