use Rattle.std.proofs.Common.{length, take, ◌≡◌}
use Rattle.nt_shrink.specs.Twins.{AreSameValues, StayTwins}
use Rattle.nt_shrink.proofs.twins.Twins.part_values.Given as goal

abbrev pub invariant-loop-value : goal.invariant-loop-value
invariant-loop-value l = record {
  length_is : length l.self.flags.items ≡ length l.fn.self.flags.items;
  twins : StayTwins (AreSameValues (take l.value-index l.values)) l.fn.self.flags.items l.self.flags.items;
}
