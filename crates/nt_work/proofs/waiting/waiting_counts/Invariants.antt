use Rattle.std.proofs.Common.{◌≡◌, ◌≤◌, length, map, reverse, take, vec_capacity}
use Rattle.nt_event.specs.Fate.{waiting_inserts}
use Rattle.nt_work.specs.Audits.{lent, waitings}
use Rattle.nt_work.specs.Changes.{RiseBelow, inserted_of}
use Rattle.nt_work.proofs.waiting.waiting_counts.Given as goal

abbrev pub invariant-loop-number : goal.invariant-loop-number
invariant-loop-number l = record {
  counts : l.counts.items ≡ waitings (reverse (take l.number (lent l.events)));
  pending : map inserted_of l.pending.items ≡ waiting_inserts (reverse (take l.number (lent l.events)));
  rise : RiseBelow l.number l.pending.items;
  few : length l.pending.items ≤ l.number;
  many : length l.counts.items ≡ l.number;
  room : length l.events.briefs.now ≤ vec_capacity l.counts;
  within : l.number ≤ length l.events.briefs.now;
}
