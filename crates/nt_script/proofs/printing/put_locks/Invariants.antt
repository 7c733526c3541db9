use Rattle.std.proofs.Common.{◌≡◌, ◌++◌, drop, map}
use Rattle.nt_text.specs.Lines.{rows_text}
use Rattle.nt_line.specs.Rows.{lock_row}
use Rattle.nt_script.proofs.printing.put_locks.Given as goal

-- what was put and what is left is all of it
abbrev pub invariant-loop-k : goal.invariant-loop-k
invariant-loop-k l = l.out.items ++ rows_text (map lock_row (drop l.k l.names.locks)) ≡ l.fn.out.items
    ++ rows_text (map lock_row l.names.locks)
