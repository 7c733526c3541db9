use Rattle.std.proofs.Common.{◌≡◌, ◌<◌, ◌≤◌, reverse, take, true}
use Rattle.nt_event.specs.Fate.{fate_of, still_waits}
use Rattle.nt_work.specs.Audits.{lent}
use Rattle.nt_work.specs.Changes.{thing_of}
use Rattle.nt_work.proofs.waiting.waits_until.Given as goal

abbrev pub invariant-loop-number : goal.invariant-loop-number
invariant-loop-number l = record {
  waits : still_waits (fate_of (thing_of l.insert.object) l.insert.number (reverse (take l.number (lent l.events)))) ≡ true;
  later : l.insert.number < l.number;
  within : l.number ≤ l.end;
}
