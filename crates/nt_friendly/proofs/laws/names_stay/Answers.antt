use Rattle.nt_friendly.proofs.Names.{name_stays}
use Rattle.nt_friendly.proofs.laws.names_stay.Goals as goal

pub returns : goal.returns
returns c = name_stays
