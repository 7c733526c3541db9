use Rattle.std.specs.Prelude.{◌≡◌}
use Rattle.nt_mark.specs.Names.{pass_table, pass_view}
use Rattle.nt_lane_record.specs.Passes.{Learns}
use Rattle.nt_lane.specs.Tries.{IsUnwritten}
use Rattle.nt_lane.proofs.acting.act_under.Given as goal

-- the pass only learned, nothing is written, and nothing more was seen
abbrev pub invariant-loop : goal.invariant-loop
invariant-loop g l =
    (pass_table l.pass ≡ g.N.Shared.table) × (Learns (pass_view l.initial.pass) (pass_view l.pass) × IsUnwritten l.initial.seen l.seen l.initial.event l.event)
