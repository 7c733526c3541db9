use Rattle.std.proofs.Common.{ap, sym, ◌∙◌}
use Rattle.nt_core.specs.Replays.{replayed}
use Rattle.nt_core.proofs.Replaying.{replays_run, runs_replay}
use Rattle.nt_core.proofs.laws.replays_are_runs.Goals as goal

pub returns : goal.returns
returns c s limit list h =
    (λ e. let i = replays_run s limit list h e in (i.run, i.turns_are, i.settled), λ i. ap (replayed s limit) (sym i.1) ∙ runs_replay s limit h i.0 i.2)
