use Rattle.std.proofs.Common.{◌≡◌, ◌++◌, ◌-◌}
use Rattle.nt_text.specs.Lines.{rows_text}
use Rattle.nt_print.specs.Report.{spin_rows}
use Rattle.nt_print.proofs.spins.put_spins.Given as goal

abbrev pub invariant-loop-cpu : goal.invariant-loop-cpu
invariant-loop-cpu l = l.out.items ++ rows_text (spin_rows l.input.names l.history l.cpu (l.input.script.cpus - l.cpu))
    ≡ l.fn.out.items ++ rows_text (spin_rows l.input.names l.history 0 l.input.script.cpus)
