-- What contracts see of the processors of a script.
use Rattle.std.specs.Prelude.{List, ℕ}
use Rattle.nt_event.specs.declared.scripts.Script.{Script}
use Rattle.nt_cpu.specs.States.{CpuState}

-- the script, how many events each processor may make, and the processors in the order of their numbers
pub record CpusState : Type 0 where
  pub script : Script
  pub limit : ℕ
  pub cpus : List CpuState
