use Rattle.std.proofs.Common.{◌≡◌, ◌++◌, drop, map}
use Rattle.nt_text.specs.Lines.{rows_text}
use Rattle.nt_line.specs.Rows.{isr_row}
use Rattle.nt_script.proofs.printing.put_isrs.Given as goal

-- what was put and what is left is all of it
abbrev pub invariant-loop-isr : goal.invariant-loop-isr
invariant-loop-isr l = l.out.items ++ rows_text (map (isr_row l.names) (drop l.isr-index l.isrs)) ≡ l.fn.out.items ++ rows_text (map (isr_row l.names) l.isrs)
