use Rattle.std.proofs.Common.{◌≡◌, ◌≤◌, length, reverse, take}
use Rattle.nt_work.specs.Audits.{items_of, lent}
use Rattle.nt_work.proofs.item.items.Given as goal

abbrev pub invariant-loop-number : goal.invariant-loop-number
invariant-loop-number l = record {
  items : l.items.items ≡ items_of (reverse (take l.number (lent l.events)));
  within : l.number ≤ length l.events.briefs.now;
}
