use Rattle.nt_laws.proofs.Named.RunFits.{run_fits}
use Rattle.machine_table.proofs.forms.ran.Goals as goal

pub report-text-requires-clause-fit : goal.report-text-requires-clause-fit
report-text-requires-clause-fit c =
    run_fits c.args.input.now.script _ c.in_ok-history.history.events c.requires.sound.fits c.in_ok-history.ensures.run
