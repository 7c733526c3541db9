use Rattle.std.proofs.Common.{take}
use Rattle.nt_work.specs.Workers.{Works, own_items}
use Rattle.nt_work.proofs.worker.Worker.put_own.Given as goal

abbrev pub invariant-loop-item : goal.invariant-loop-item
invariant-loop-item g l =
    Works l.desk.queue.now l.desk.counts.now (own_items l.desk.workers l.number (take l.item-index l.desk.items.now)) l.initial.self l.self
