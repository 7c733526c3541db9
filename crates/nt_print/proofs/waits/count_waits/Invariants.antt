use Rattle.std.proofs.Common.{◌≡◌, ◌-◌, ◌≤◌, length}
use Rattle.nt_print.specs.Lent.{lent}
use Rattle.nt_print.proofs.WaitRows.{waits_before}
use Rattle.nt_print.proofs.waits.count_waits.Given as goal

abbrev pub invariant-loop-number : goal.invariant-loop-number
invariant-loop-number l = record {
  counted : l.count ≡ waits_before (lent l.events) l.number;
  few : l.count ≤ l.number;
  within : l.number ≤ length (lent l.events);
}

abbrev pub decreases-loop-number : goal.decreases-loop-number
decreases-loop-number l = length (lent l.events) - l.number
