use Rattle.nt_live.proofs.Doneness.{all_done_settles}
use Rattle.nt_live.proofs.laws.all_done_settles.Goals as goal

pub returns : goal.returns
returns c = all_done_settles
