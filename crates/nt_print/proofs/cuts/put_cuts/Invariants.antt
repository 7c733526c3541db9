use Rattle.std.proofs.Common.{◌≡◌, ◌++◌, ◌-◌}
use Rattle.nt_text.specs.Lines.{rows_text}
use Rattle.nt_print.specs.Report.{cut_rows}
use Rattle.nt_print.proofs.cuts.put_cuts.Given as goal

abbrev pub invariant-loop-cpu : goal.invariant-loop-cpu
invariant-loop-cpu l = l.out.items ++ rows_text (cut_rows l.history l.cpu (l.cpus - l.cpu)) ≡ l.fn.out.items ++ rows_text (cut_rows l.history 0 l.cpus)
