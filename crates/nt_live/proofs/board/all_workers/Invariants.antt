use Rattle.std.specs.Prelude.{vec_capacity, ◌-◌, ◌≡◌, ◌≤◌}
use Rattle.nt_mark.specs.Names.{pass_table, pass_view}
use Rattle.nt_live.specs.Prepared.{fresh}
use Rattle.nt_live.proofs.Boarding.{AreFirst}
use Rattle.nt_live.proofs.board.all_workers.Given as goal

-- the workers of the processors so far; the pass has a part for each other one
abbrev pub invariant-loop-p : goal.invariant-loop-p
invariant-loop-p g l = record {
  at : pass_table l.pass ≡ g.N.Shared.table;
  pass : pass_view l.pass ≡ fresh (l.script.cpus - l.p);
  first : AreFirst g.N.Plan.script g.N.Plan.turns l.p l.workers.items;
  room : l.script.cpus ≤ vec_capacity l.workers;
}
