use Rattle.std.specs.Prelude.{length, ◌≤◌}
use Rattle.nt_live.specs.Teams.{AreOneEach}
use Rattle.live_table.proofs.pieces.work_on.Given as goal

abbrev pub invariant-loop-at : goal.invariant-loop-at
invariant-loop-at g l = record { count : l.count ≤ length l.workers; each : AreOneEach g.N.Plan.script l.workers }
