use Rattle.std.proofs.Common.{◌≡◌, ◌<◌, ◌≤◌}
use Rattle.std.specs.Prelude.{IfSome}
use Rattle.nt_history.specs.Briefs.{events_in}
use Rattle.nt_why.specs.Fates.{last_insert, thing_of}
use Rattle.nt_why.specs.Past.{past_at}
use Rattle.nt_why.proofs.fates.last_insert.Given as goal

abbrev pub invariant-loop-at : goal.invariant-loop-at
invariant-loop-at l = record {
  so : l.last ≡ last_insert (thing_of l.object) (past_at l.at (events_in l.events.briefs.now l.events.rises.now));
  before : IfSome l.last (λ n. n < l.at);
  within : l.at ≤ l.end;
}
