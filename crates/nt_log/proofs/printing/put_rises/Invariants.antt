use Rattle.std.proofs.Common.{◌≡◌, ◌++◌, drop}
use Rattle.nt_text.specs.Lines.{spaced}
use Rattle.nt_log.specs.Schedules.{rises_row}
use Rattle.nt_log.proofs.printing.put_rises.Given as goal

-- what was put and what is left is all of it
abbrev pub invariant-loop-class : goal.invariant-loop-class
invariant-loop-class l = l.out.items ++ spaced (rises_row l.class (drop l.class l.values)) ≡ l.fn.out.items ++ spaced (rises_row 0 l.values)
