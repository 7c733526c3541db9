use Rattle.nt_close.proofs.Quiet.{nothing_waits_behind_a_block}
use Rattle.nt_close.proofs.nothing_waits_behind_a_block.Goals as goal

pub returns : goal.returns
returns c = nothing_waits_behind_a_block
