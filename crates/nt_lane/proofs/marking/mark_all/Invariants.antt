use Rattle.std.proofs.Common.{drop, ◌≡◌}
use Rattle.nt_mark.specs.Names.{pass_table, pass_view}
use Rattle.nt_states.specs.LaneLists.{as_asks}
use Rattle.nt_lane.specs.Marked.{marked_all}
use Rattle.nt_lane.proofs.marking.mark_all.Given as goal

abbrev pub invariant-loop-ask : goal.invariant-loop-ask
invariant-loop-ask l = record {
  table : pass_table l.pass ≡ pass_table l.initial.pass;
  entries : (pass_view l.pass).entries ≡ (pass_view l.initial.pass).entries;
  rest : marked_all l.n (as_asks (drop l.ask-index l.asks)) (pass_view l.pass) ≡ marked_all l.n (as_asks l.asks) (pass_view l.initial.pass);
}
