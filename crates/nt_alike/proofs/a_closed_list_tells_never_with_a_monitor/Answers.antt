use Rattle.std.specs.Prelude.{◌∷◌}
use Rattle.nt_alike.proofs.Free.{runs_free}
use Rattle.nt_alike.proofs.Monitors.{never_with}
use Rattle.nt_alike.proofs.a_closed_list_tells_never_with_a_monitor.Goals as goal

pub returns : goal.returns
returns c =
    λ s monitor bad all closed none limit e past r l. never_with s monitor all closed bad none e past (runs_free s limit (e ∷ past) r l)
