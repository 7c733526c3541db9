use Rattle.nt_alike.proofs.Smallest.{only_rests}
use Rattle.nt_alike.proofs.on_the_smallest_script_nothing_else_comes.Goals as goal

pub returns : goal.returns
returns c = only_rests
