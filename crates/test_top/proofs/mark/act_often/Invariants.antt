use Rattle.std.proofs.Common.{◌≡◌, ◌+◌, length}
use Rattle.nt_mark.specs.Names.{table_of, pass_table, pass_view}
use Rattle.test_top.proofs.mark.act_often.Given as goal

abbrev pub invariant-loop : goal.invariant-loop
invariant-loop g l = record {
  table : pass_table l.pass ≡ table_of l.marks;
  parts : (pass_view l.pass).parts ≡ (pass_view l.initial.pass).parts;
  drew : length (pass_view l.pass).entries ≡ length (pass_view l.initial.pass).entries + l.counter;
}
