use Rattle.std.proofs.Common.{◌≡◌, ◌++◌, drop}
use Rattle.nt_text.specs.Lines.{rows_text}
use Rattle.nt_script.specs.Text.{routine_rows}
use Rattle.nt_script.proofs.printing.put_routines.Given as goal

-- what was put and what is left is all of it
abbrev pub invariant-loop-i : goal.invariant-loop-i
invariant-loop-i l = l.out.items ++ rows_text (routine_rows l.names (drop l.i l.names.routines) (drop l.i l.routines)) ≡ l.fn.out.items
    ++ rows_text (routine_rows l.names l.names.routines l.routines)
