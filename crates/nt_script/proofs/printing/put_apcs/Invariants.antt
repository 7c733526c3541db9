use Rattle.std.proofs.Common.{◌≡◌, ◌++◌, drop}
use Rattle.nt_text.specs.Lines.{rows_text}
use Rattle.nt_line.specs.Rows.{apc_row}
use Rattle.nt_script.specs.Text.{declared_rows}
use Rattle.nt_script.proofs.printing.put_apcs.Given as goal

-- what was put and what is left is all of it
abbrev pub invariant-loop-i : goal.invariant-loop-i
invariant-loop-i l = l.out.items ++ rows_text (declared_rows (apc_row l.names) (drop l.i l.names.apcs) (drop l.i l.apcs)) ≡ l.fn.out.items
    ++ rows_text (declared_rows (apc_row l.names) l.names.apcs l.apcs)
