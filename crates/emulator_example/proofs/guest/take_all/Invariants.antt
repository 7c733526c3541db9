use Rattle.nt_dpc.specs.Queues.{entry_count}
use Rattle.emulator_example.specs.Ours.{IsOurs}
use Rattle.emulator_example.proofs.guest.take_all.Given as goal

abbrev pub invariant-loop-queue : goal.invariant-loop-queue
invariant-loop-queue l = IsOurs l.queue l.dpc

abbrev pub decreases-loop-queue : goal.decreases-loop-queue
decreases-loop-queue l = entry_count l.queue
