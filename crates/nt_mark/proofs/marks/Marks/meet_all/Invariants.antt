use Rattle.std.proofs.Common.{◌≡◌, All}
use Rattle.nt_mark.specs.Names.{table_of, pass_table, pass_view, pass_views}
use Rattle.nt_mark.specs.Closing.{gathered}
use Rattle.nt_mark.proofs.marks.Marks.meet_all.Given as goal

abbrev pub invariant-loop-other : goal.invariant-loop-other
invariant-loop-other l = record {
  at : pass_table l.pass ≡ table_of l.self;
  others_at : All (λ p. pass_table p ≡ table_of l.self) l.others.items;
  same : gathered (pass_view l.pass) (pass_views l.others.items) ≡ gathered (pass_view l.initial.pass) (pass_views l.initial.others.items);
}

abbrev pub decreases-loop-other : goal.decreases-loop-other
decreases-loop-other l = goal.left-loop-other l
