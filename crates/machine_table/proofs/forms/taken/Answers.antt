use Rattle.std.specs.Prelude.{reverse}
use Rattle.nt_core.proofs.Replaying.{replays_run}
use Rattle.nt_laws.proofs.Named.RunFits.{run_fits}
use Rattle.nt_ranges.proofs.Reports.{few_cpus, few_turns}
use Rattle.machine_table.proofs.forms.taken.Goals as goal

pub report-text-requires-clause-fit : goal.report-text-requires-clause-fit
report-text-requires-clause-fit c =
    let run = (replays_run c.args.input.now.script _ _ (reverse c.in-Ok.history.events) c.in-Ok.ensures.ok).run in
    run_fits c.args.input.now.script _ c.in-Ok.history.events c.requires.sound.fits run

pub replay-requires-clause-all : goal.replay-requires-clause-all
replay-requires-clause-all c =
    let input = c.args.input.now in
    few_turns input.script.cpus c.args.schedule.now.turns (few_cpus input c.requires.sound) c.requires.turns.1
