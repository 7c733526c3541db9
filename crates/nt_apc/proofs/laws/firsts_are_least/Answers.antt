use Rattle.nt_apc.proofs.Least.{firsts-least}
use Rattle.nt_apc.proofs.laws.firsts_are_least.Goals as goal

pub returns : goal.returns
returns c = firsts-least
