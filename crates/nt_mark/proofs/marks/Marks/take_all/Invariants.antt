use Rattle.std.proofs.Common.{◌≡◌, All}
use Rattle.nt_mark.specs.Names.{table_of, keeper_table, keeper_views}
use Rattle.nt_mark.specs.Closing.{gathered}
use Rattle.nt_mark.proofs.marks.Marks.take_all.Given as goal

abbrev pub invariant-loop-keeper : goal.invariant-loop-keeper
invariant-loop-keeper l = record {
  at : l.seat.table_id ≡ table_of l.self;
  keepers_at : All (λ k. keeper_table k ≡ table_of l.self) l.keepers.items;
  same : gathered l.seat.me.0 (keeper_views l.keepers.items) ≡ gathered l.initial.seat.me.0 (keeper_views l.initial.keepers.items);
}

abbrev pub decreases-loop-keeper : goal.decreases-loop-keeper
decreases-loop-keeper l = goal.left-loop-keeper l
