use Rattle.nt_shade.proofs.EqualShades.{equal_say}
use Rattle.nt_shade.proofs.laws.equal_shades_say_the_same.Goals as goal

pub returns : goal.returns
returns c = equal_say
