use Rattle.std.proofs.Common.{◌≡◌, ◌+◌, ◌-◌, ◌≤◌, length}
use Rattle.nt_print.specs.Report.{cut_rows}
use Rattle.nt_print.proofs.summaries.cut_lines.Given as goal

abbrev pub invariant-loop-cpu : goal.invariant-loop-cpu
invariant-loop-cpu l = record {
  rest : l.lines + length (cut_rows l.history l.cpu (l.cpus - l.cpu)) ≡ length (cut_rows l.history 0 l.cpus);
  few : l.lines ≤ l.cpu;
}
