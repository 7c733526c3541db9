use Rattle.nt_laws.proofs.Fates.Apcs.{once}
use Rattle.nt_laws.proofs.inserts.an_apc_object_stands_at_most_once.Goals as goal

pub returns : goal.returns
returns c = once
