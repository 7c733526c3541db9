use Rattle.std.proofs.Common.{length, ◌≡◌}
use Rattle.machine_table.proofs.taking.put_turns.Given as goal

abbrev pub invariant-loop-walk : goal.invariant-loop-walk
invariant-loop-walk l = record { script : l.core.script ≡ l.initial.core.script }

abbrev pub decreases-loop-walk : goal.decreases-loop-walk
decreases-loop-walk l = length l.walk
