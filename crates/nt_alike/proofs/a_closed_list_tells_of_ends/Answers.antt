use Rattle.nt_alike.proofs.Free.{runs_free}
use Rattle.nt_alike.proofs.Monitors.{never_at_end}
use Rattle.nt_alike.proofs.a_closed_list_tells_of_ends.Goals as goal

pub returns : goal.returns
returns c = λ s monitor bad all closed none limit past r l q. never_at_end s monitor all closed bad none past (runs_free s limit past r l) q
