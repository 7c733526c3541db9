use Rattle.std.proofs.Common.{length}
use Rattle.emulator_example.proofs.guest.flush_all.Given as goal

abbrev pub decreases-loop : goal.decreases-loop
decreases-loop l = length l.thread.apcs.pending
