use Rattle.std.proofs.Common.{arith}
use Rattle.nt_print.proofs.CutRows.{cuts_counted}
use Rattle.nt_print.proofs.summaries.cut_lines.Goals as goal

pub loop-cpu-preserved : goal.loop-cpu-preserved
loop-cpu-preserved c = record {
  rest = cuts_counted c.args.history.now c.loop-cpu.cpu c.args.cpus c.loop-cpu.lines c.cut_line-lines.result _ c.loop-cpu-test.true
      c.loop-cpu.invariant.rest c.cut_line-lines.ensures.line;
  few = omega (arith, c.loop-cpu.invariant.few, c.cut_line-lines.ensures.one);
}
