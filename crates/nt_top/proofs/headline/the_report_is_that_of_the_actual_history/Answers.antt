use Rattle.nt_top.proofs.Headlines.{headline}
use Rattle.nt_top.proofs.headline.the_report_is_that_of_the_actual_history.Goals as goal

pub returns : goal.returns
returns c = headline (record {
  expected = c.calls_are_refused_as_expected.ensures;
  clean = c.scripts_without_findings_are_clean.ensures;
  ordered = c.ordered_scripts_spin_nowhere.ensures;
})
