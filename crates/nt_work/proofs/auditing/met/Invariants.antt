use Rattle.nt_work.specs.Workers.{HasMet, HaveWorked}
use Rattle.std.proofs.Common.{length}
use Rattle.nt_work.proofs.auditing.met.Given as goal

abbrev pub invariant-loop-worker : goal.invariant-loop-worker
invariant-loop-worker g l = record {
  met : HasMet l.desk.queue.now l.desk.counts.now l.desk.items.now l.desk.workers (length l.team.items) l.told l.pass;
  each : HaveWorked l.desk.queue.now l.desk.counts.now l.desk.items.now l.desk.workers l.team.items;
}

abbrev pub decreases-loop-worker : goal.decreases-loop-worker
decreases-loop-worker g l = length l.team.items
