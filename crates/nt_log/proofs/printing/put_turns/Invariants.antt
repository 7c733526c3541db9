use Rattle.std.proofs.Common.{length, map, true, ◌++◌, ◌≡◌}
use Rattle.nt_text.specs.Lines.{rows_text}
use Rattle.nt_log.specs.Schedules.{turn_row, turns_fit}
use Rattle.nt_log.proofs.printing.put_turns.Given as goal

-- what was put and what is left is all of it, and what is left has a text
abbrev pub invariant-loop-walk : goal.invariant-loop-walk
invariant-loop-walk l = record {
  put : l.out.items ++ rows_text (map (turn_row l.input.names) l.walk) ≡ l.fn.out.items ++ rows_text (map (turn_row l.input.names) l.turns);
  fit : turns_fit l.input.script l.walk ≡ true;
}

abbrev pub decreases-loop-walk : goal.decreases-loop-walk
decreases-loop-walk l = length l.walk
