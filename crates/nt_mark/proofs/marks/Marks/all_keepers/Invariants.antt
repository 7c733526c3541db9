use Rattle.std.proofs.Common.{◌≡◌, ◌-◌, ◌≤◌, [], length, vec_capacity}
use Rattle.nt_mark.specs.Views.{keeping}
use Rattle.nt_mark.specs.Rule.{empty_lists, opening_view}
use Rattle.nt_mark.specs.Names.{table_of}
use Rattle.nt_mark.specs.Closing.{AreNewKeepers}
use Rattle.nt_mark.proofs.marks.Marks.all_keepers.Given as goal

abbrev pub invariant-loop-lane : goal.invariant-loop-lane
invariant-loop-lane l =
    let key = l.self.table.shared.key in
    record {
      at : l.seat.table_id ≡ l.initial.seat.table_id;
      me : l.seat.me ≡ (keeping (opening_view key) key.parts (empty_lists key.cpus l.lane (l.lanes - l.lane)), []);
      made : AreNewKeepers (table_of l.self) l.keepers.items;
      count : length l.keepers.items ≡ l.lane;
      room : l.lanes ≤ vec_capacity l.keepers;
    }
