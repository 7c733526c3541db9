use Rattle.std.proofs.Common.{length, vec_len, ◌+◌, ◌≡◌}
use Rattle.nt_event.specs.Lanes.{lane_count}
use Rattle.nt_lane.proofs.making.spin_locks.Given as goal

abbrev pub invariant-loop-i : goal.invariant-loop-i
invariant-loop-i g l = record {
  next : l.keepers.next ≡ length g.N.Plan.script.dpcs + (g.N.Plan.script.cpus + (g.N.Plan.script.cpus + (1 + l.i)));
  count : l.keepers.next + l.keepers.count ≡ lane_count g.N.Plan.script;
  made : vec_len l.lanes ≡ l.i;
}
