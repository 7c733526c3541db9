use Rattle.std.proofs.Common.{◌≡◌, ◌≤◌}
use Rattle.nt_event.specs.Objects.{importance_of}
use Rattle.nt_history.specs.Briefs.{events_in}
use Rattle.nt_why.specs.Past.{past_at}
use Rattle.nt_why.proofs.inserts.importance_at.Given as goal

abbrev pub invariant-loop-at : goal.invariant-loop-at
invariant-loop-at l = record {
  so : l.importance ≡ importance_of l.dpc (past_at l.at (events_in l.events.briefs.now l.events.rises.now));
  within : l.at ≤ l.end;
}
