use Rattle.nt_laws.proofs.Named.Objects.{holds_of_every_object}
use Rattle.nt_laws.proofs.inserts.the_laws_over_inserts_hold_of_every_object.Goals as goal

pub returns : goal.returns
returns c = holds_of_every_object
