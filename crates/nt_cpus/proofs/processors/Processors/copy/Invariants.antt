use Rattle.std.proofs.Common.{take, ◌≡◌}
use Rattle.nt_cpus.proofs.processors.Processors.copy.Given as goal

abbrev pub invariant-loop-cpu : goal.invariant-loop-cpu
invariant-loop-cpu l = l.cpus.items ≡ take l.cpu-index l.self.cpus
