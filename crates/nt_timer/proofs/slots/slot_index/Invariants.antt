use Rattle.std.proofs.Common.{◌≡◌, ◌+◌, ◌-◌, ◌*◌, ◌/◌, ◌^◌}
use Rattle.nt_timer.specs.Slots.{index_from, slot_index}
use Rattle.nt_timer.proofs.slots.slot_index.Given as goal

abbrev pub invariant-loop-level : goal.invariant-loop-level
invariant-loop-level l = record {
  index : 64 * l.level + index_from (10 - l.level) l.high_now l.high_due ≡ slot_index l.fn.now l.fn.due;
  high : l.high_due ≡ l.fn.due / 2 ^ (6 * l.level);
}
