use Rattle.std.proofs.Common.{[], length, ◌+◌, ◌≡◌, ◌≤◌}
use Rattle.nt_report.specs.Reading.{events_of}
use Rattle.nt_report.proofs.histories.events_of.Given as goal

abbrev pub invariant-loop-left : goal.invariant-loop-left
invariant-loop-left l = record {
  rest : events_of l.made l.walk l.left l.at ≡ events_of [] l.turns l.lines l.line;
  few : l.at + length l.left ≤ 4294967295;
}

abbrev pub decreases-loop-left : goal.decreases-loop-left
decreases-loop-left l = length l.walk
