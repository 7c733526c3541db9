use Rattle.std.proofs.Common.{◌≡◌, ◌≤◌}
use Rattle.nt_event.specs.Fate.{fate_of}
use Rattle.nt_history.specs.Briefs.{events_in}
use Rattle.nt_why.specs.Fates.{fate_as, thing_of}
use Rattle.nt_why.specs.Past.{past_at}
use Rattle.nt_why.proofs.fates.fate_of.Given as goal

abbrev pub invariant-loop-at : goal.invariant-loop-at
invariant-loop-at l = record {
  so : fate_as l.fate ≡ fate_of (thing_of l.object) l.number (past_at l.at (events_in l.events.briefs.now l.events.rises.now));
  within : l.at ≤ l.end;
}
