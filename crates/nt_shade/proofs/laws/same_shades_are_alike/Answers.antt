use Rattle.nt_shade.proofs.SameShades.{same_alike}
use Rattle.nt_shade.proofs.laws.same_shades_are_alike.Goals as goal

pub returns : goal.returns
returns c = same_alike
