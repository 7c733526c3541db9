use Rattle.nt_laws.proofs.Left.{leaves_the_same}
use Rattle.nt_laws.proofs.an_event_leaves_the_same.Goals as goal

pub returns : goal.returns
returns c = leaves_the_same
