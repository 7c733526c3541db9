use Rattle.std.proofs.Common.{◌≡◌, ◌≤◌, length, map, take, vec_capacity}
use Rattle.nt_work.specs.Audits.{reported}
use Rattle.nt_work.proofs.auditing.in_order.Given as goal

abbrev pub invariant-loop-item : goal.invariant-loop-item
invariant-loop-item l = record {
  all : l.all.items ≡ map (reported l.found) (take l.item-index l.items);
  room : length l.items ≤ vec_capacity l.all;
}
