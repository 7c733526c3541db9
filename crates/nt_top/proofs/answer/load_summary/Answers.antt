use Rattle.nt_top.proofs.Loads.{drawn_cpus, drawn_fits, summed_up}
use Rattle.nt_top.proofs.answer.load_summary.Goals as goal

pub run_summary-requires-clause-fits : goal.run_summary-requires-clause-fits
run_summary-requires-clause-fits c =
    drawn_fits c.args.seed c.in_ok-script.script c.in_ok-script.ensures.script c.in_ok-script.ensures.sound

pub run_summary-requires-clause-cpus : goal.run_summary-requires-clause-cpus
run_summary-requires-clause-cpus c =
    drawn_cpus c.args.seed c.in_ok-script.script c.in_ok-script.ensures.script c.in_ok-script.ensures.sound

pub returns : goal.returns
returns c =
    let summed = c.in_ok-text.ensures in
    summed_up c.args.seed c.args.turns c.in_ok-script.script summed.0 c.in_ok-text.text.items c.in_ok-script.ensures.script summed.1 summed.2
