use Rattle.std.proofs.Common.{◌≡◌, take}
use Rattle.nt_work.specs.Workers.{told_by}
use Rattle.nt_work.proofs.worker.Worker.tell.Given as goal

abbrev pub invariant-loop-audited : goal.invariant-loop-audited
invariant-loop-audited l = record {
  told : l.told ≡ told_by l.initial.told (take l.audited-index l.self.done.items);
}
