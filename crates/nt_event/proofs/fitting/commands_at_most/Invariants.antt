use Rattle.std.proofs.Common.{◌≡◌, drop, nat_le}
use Rattle.nt_event.specs.Script as spec
use Rattle.nt_event.proofs.fitting.commands_at_most.Given as goal

abbrev pub invariant-loop-routine : goal.invariant-loop-routine
invariant-loop-routine l =
    nat_le (spec.command_count l.routines) l.most ≡ nat_le (spec.command_count (drop l.routine-index l.routines)) l.left
