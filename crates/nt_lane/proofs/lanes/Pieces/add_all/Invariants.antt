use Rattle.std.proofs.Common.{vec_len, ◌+◌, ◌≡◌}
use Rattle.std.specs.Prelude.{vec_capacity}
use Rattle.nt_lane.specs.Pieces.{ArePiecesOf}
use Rattle.nt_lane.proofs.lanes.Pieces.add_all.Given as goal

abbrev pub invariant-loop : goal.invariant-loop
invariant-loop g l = record {
  left : vec_len l.lanes + l.counter ≡ vec_len l.fn.lanes;
  lists : vec_len l.self.lists ≡ vec_len l.initial.self.lists + l.counter;
  keepers : vec_len l.self.keepers ≡ vec_len l.initial.self.keepers + l.counter;
  lists_room : vec_capacity l.self.lists ≡ vec_capacity l.initial.self.lists;
  keepers_room : vec_capacity l.self.keepers ≡ vec_capacity l.initial.self.keepers;
  pieces : ArePiecesOf g.N.Shared.table l.self.lists.items l.self.keepers.items;
}
