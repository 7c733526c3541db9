use Rattle.nt_friendly.proofs.Places.{fields_stand}
use Rattle.nt_friendly.proofs.laws.fields_stand_at_their_places.Goals as goal

pub returns : goal.returns
returns c = fields_stand
