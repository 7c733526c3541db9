use Rattle.std.proofs.Common.{vec_capacity, vec_len, ◌≡◌, ◌≤◌}
use Rattle.std.specs.Prelude.{[]}
use Rattle.nt_event.specs.Numbers.{cpu}
use Rattle.nt_event.specs.Lists.{table}
use Rattle.nt_cpu.specs.Runs.{state_of}
use Rattle.nt_cpus.proofs.processors.Processors.new.Given as goal

abbrev pub invariant-loop-cpu : goal.invariant-loop-cpu
invariant-loop-cpu l = record {
  items : l.cpus.items ≡ table l.cpu (λ p. state_of l.script (cpu p) l.turns []);
  len : vec_len l.cpus ≡ l.cpu;
  room : l.script.cpus ≤ vec_capacity l.cpus;
}
