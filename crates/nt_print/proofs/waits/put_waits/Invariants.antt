use Rattle.std.proofs.Common.{◌≡◌, ◌++◌, ◌-◌, ◌≤◌, length, reverse, take}
use Rattle.nt_text.specs.Lines.{rows_text}
use Rattle.nt_print.specs.Lent.{lent}
use Rattle.nt_print.proofs.WaitRows.{waits_so_far}
use Rattle.nt_print.proofs.waits.put_waits.Given as goal

abbrev pub invariant-loop-number : goal.invariant-loop-number
invariant-loop-number l = record {
  rows : l.out.items ≡ l.fn.out.items
      ++ rows_text (waits_so_far l.input.names (reverse (lent l.events)) (reverse (take l.number (lent l.events))));
  within : l.number ≤ length (lent l.events);
}

abbrev pub decreases-loop-number : goal.decreases-loop-number
decreases-loop-number l = length (lent l.events) - l.number
