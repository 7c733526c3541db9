use Rattle.nt_laws.proofs.Named.RunFits.{run_fits}
use Rattle.nt_top.proofs.answer.run_summary.Goals as goal

pub summary-requires : goal.summary-requires
summary-requires c = record {
  fit = run_fits c.args.script.now _ c.in_ok-history.history.events c.requires.fits c.in_ok-history.ensures.run;
}

pub returns : goal.returns
returns c = (
  c.in_ok-history.history,
  record {
    turns = c.in_ok-history.ensures.turns;
    run = c.in_ok-history.ensures.run;
    robin = c.in_ok-history.ensures.robin;
    settled = c.in_ok-history.ensures.settled;
  },
  c.in_ok-text.ensures,
)
