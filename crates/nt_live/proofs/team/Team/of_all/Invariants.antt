use Rattle.std.proofs.Common.{drop, take, vec_len, ◌+◌, ◌≡◌}
use Rattle.nt_mark.specs.Names.{pass_table, pass_view}
use Rattle.nt_live.specs.OwnLists.{all_pairs}
use Rattle.nt_live.specs.Teams.{IsTeam}
use Rattle.nt_live.proofs.team.Team.of_all.Given as goal

abbrev pub invariant-loop : goal.invariant-loop
invariant-loop g l = record {
  table : pass_table l.team.pass ≡ g.N.Shared.table;
  left : vec_len l.workers + (l.counter + 1) ≡ vec_len l.fn.workers;
  rest : l.workers.items ≡ drop (l.counter + 1) l.fn.workers.items;
  team : IsTeam g.N.Plan.script g.N.Plan.turns (take (l.counter + 1) l.fn.workers.items) l.team.cpus.items (pass_view l.team.pass)
      (all_pairs l.team.lists.items);
}
