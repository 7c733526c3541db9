use Rattle.std.proofs.Common.{length, ◌≡◌}
use Rattle.nt_timer.specs.Settings.{due_count}
use Rattle.emulator_example.specs.Ours.{IsOurs}
use Rattle.emulator_example.proofs.guest.expire_all.Given as goal

abbrev pub invariant-loop-queue : goal.invariant-loop-queue
invariant-loop-queue l = IsOurs l.queue l.dpc × (length l.timers.timers ≡ length l.initial.timers.timers)

abbrev pub decreases-loop-queue : goal.decreases-loop-queue
decreases-loop-queue l = due_count l.timers
