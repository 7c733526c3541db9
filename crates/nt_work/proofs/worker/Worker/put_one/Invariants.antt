use Rattle.std.proofs.Common.{[]}
use Rattle.nt_work.specs.Workers.{Works}
use Rattle.nt_work.proofs.worker.Worker.put_one.Given as goal

abbrev pub invariant-loop : goal.invariant-loop
invariant-loop g l = Works l.desk.queue.now l.desk.counts.now [] l.initial.self l.self
