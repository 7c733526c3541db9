use Rattle.std.proofs.Common.{◌-◌, ◌≤◌}
use Rattle.nt_print.specs.Flags.{AreClear}
use Rattle.nt_print.proofs.flags.Flags.pass_clear.Given as goal

abbrev pub invariant-loop-number : goal.invariant-loop-number
invariant-loop-number l = record {
  from : l.from ≤ l.number;
  within : l.number ≤ l.count;
  clear : AreClear l.self l.from l.number;
}

abbrev pub decreases-loop-number : goal.decreases-loop-number
decreases-loop-number l = l.count - l.number
