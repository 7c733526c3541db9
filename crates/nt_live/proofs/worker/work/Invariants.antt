use Rattle.nt_live.specs.Workers.{GoesOnFrom}
use Rattle.nt_live.proofs.worker.work.Given as goal

-- the worker went on
abbrev pub invariant-loop : goal.invariant-loop
invariant-loop g l = GoesOnFrom l.initial.worker l.worker
