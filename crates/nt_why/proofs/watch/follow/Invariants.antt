use Rattle.std.proofs.Common.{◌≡◌, ◌≤◌}
use Rattle.nt_history.specs.Briefs.{events_in}
use Rattle.nt_plain.specs.States.{view_of}
use Rattle.nt_cpus.specs.Following.{AreAfter}
use Rattle.nt_why.specs.Past.{past_at}
use Rattle.nt_why.specs.Watches.{key_at, since}
use Rattle.nt_why.proofs.watch.follow.Given as goal

abbrev pub invariant-loop-number : goal.invariant-loop-number
invariant-loop-number l = record {
  after : AreAfter (past_at l.number (events_in l.events.briefs.now l.events.rises.now)) l.processors l.floor.script (view_of l.floor);
  before : l.before ≡ key_at l.processors.script l.watch (past_at l.number (events_in l.events.briefs.now l.events.rises.now));
  so : l.since ≡ since l.processors.script l.watch (past_at l.number (events_in l.events.briefs.now l.events.rises.now));
  script : l.processors.script ≡ l.fn.processors.script;
  limit : l.processors.limit ≡ l.fn.processors.limit;
  within : l.number ≤ l.end;
}
