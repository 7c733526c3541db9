use Rattle.std.proofs.Common.{length, ◌+◌, ◌≤◌}
use Rattle.nt_plain.specs.States.{view_of}
use Rattle.nt_shrink.proofs.Taking.{IsTaking}
use Rattle.nt_shrink.proofs.tracing.take_all.Given as goal

abbrev pub invariant-loop-walk : goal.invariant-loop-walk
invariant-loop-walk l = record {
  taking : IsTaking l.fn.processors.script l.fn.processors.limit l.list l.processors l.floor.script (view_of l.floor) l.events.events l.walk;
  room : length l.events.events + length l.walk ≤ l.events.room;
}

abbrev pub decreases-loop-walk : goal.decreases-loop-walk
decreases-loop-walk l = length l.walk
