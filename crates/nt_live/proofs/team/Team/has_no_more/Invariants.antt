use Rattle.std.proofs.Common.{get_or, ℕ, ◌<◌, ◌≡◌}
use Rattle.nt_cpu.specs.States.{CpuState}
use Rattle.nt_mark.specs.Names.{pass_table, pass_view}
use Rattle.nt_live.specs.Teams.{HasNoMore, HasLooked}
use Rattle.nt_live.proofs.team.Team.has_no_more.Given as goal

abbrev pub invariant-loop-p : goal.invariant-loop-p
invariant-loop-p l = record {
  table : pass_table l.self.pass ≡ pass_table l.initial.self.pass;
  cpus : l.self.cpus.items ≡ l.initial.self.cpus.items;
  lists : l.self.lists.items ≡ l.initial.self.lists.items;
  looked : HasLooked (pass_view l.initial.self.pass) (pass_view l.self.pass);
  done : (k : ℕ) (c : CpuState) → k < l.p → HasNoMore l.turns (pass_view l.initial.self.pass) (get_or l.initial.self.cpus.items k c);
}
