use Rattle.std.proofs.Common.{◌≡◌, ◌≤◌}
use Rattle.nt_history.specs.Briefs.{events_in}
use Rattle.nt_why.specs.Past.{past_at}
use Rattle.nt_why.specs.Sought.{last_in}
use Rattle.nt_why.proofs.sought.last_in.Given as goal

abbrev pub invariant-loop-at : goal.invariant-loop-at
invariant-loop-at l = record {
  so : l.last ≡ last_in l.sought (past_at l.at (events_in l.events.briefs.now l.events.rises.now));
  within : l.at ≤ l.end;
}
