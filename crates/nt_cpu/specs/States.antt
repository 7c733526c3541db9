-- What contracts see of a processor.
use Rattle.std.specs.Prelude.{ℕ}
use Rattle.nt_event.specs.declared.numbers.CpuNo.{CpuNo}
use Rattle.nt_event.specs.declared.scripts.Script.{Script}
use Rattle.nt_event.specs.Own.{Own}

-- the script, which processor of it this is, how many events it may make, and what it keeps
pub record CpuState : Type 0 where
  pub script : Script
  pub cpu : CpuNo
  pub limit : ℕ
  pub own : Own
