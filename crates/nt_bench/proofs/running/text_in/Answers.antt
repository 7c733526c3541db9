use Rattle.nt_bench.proofs.Shown.{run_named}
use Rattle.nt_bench.proofs.running.text_in.Goals as goal

pub draw-requires-clause-fit : goal.draw-requires-clause-fit
draw-requires-clause-fit c = run_named c.args.run.now c.requires

pub draw_text-requires-clause-fit : goal.draw_text-requires-clause-fit
draw_text-requires-clause-fit c = run_named c.args.run.now c.requires
