use Rattle.std.proofs.Common.{ap, ◌∙◌}
use Rattle.nt_core.specs.States.{CoreState}
use Rattle.machine_table.proofs.Taken.{history_fits}
use Rattle.machine_table.proofs.taking.taken_lines.Goals as goal

pub with_report-text-requires-clause-fit : goal.with_report-text-requires-clause-fit
with_report-text-requires-clause-fit c =
    let same = c.turn_lines-lines.ensures ∙ ap (λ (x : CoreState). x.script) c.in_ok-core.ensures in
    history_fits c.args.input.now.script c.turn_lines-lines.new.core.script _ _ c.finish-history.result.events same c.requires.sound.fits
    c.is_run.ensures.run c.finish-history.ensures.events
