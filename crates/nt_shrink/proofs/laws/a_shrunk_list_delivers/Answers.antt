use Rattle.nt_shrink.proofs.Shrunk.{shrunk_delivers}
use Rattle.nt_shrink.proofs.laws.a_shrunk_list_delivers.Goals as goal

pub returns : goal.returns
returns c s limit g list h = shrunk_delivers s limit g list h
