-- An input whose numbers name things that have names: what the laws go by.
use Rattle.std.proofs.Common.{◌≡◌, ℕ, ◌≤◌, Bool, true, false, cond, length, arith}
use Rattle.std.specs.Prelude.{IfSome, nat_le}
use Rattle.std.specs.List.{AllByRecursion}
use Rattle.nt_event.specs.Script.{isrs_differ, command_count}
use Rattle.nt_script.specs.declared.walk.Input.{Input}
use Rattle.nt_line.specs.Fits.{IsrFits, DpcFits, TimerFits, ThreadFits, ApcFits, CommandFits}
use Rattle.nt_line.proofs.UsedNames.{AreFew}
use Rattle.nt_line.proofs.Found.{NamesFit}
use Rattle.nt_line.proofs.Words.{HasWords}
use Rattle.nt_script.specs.Versions.{most_cpus}

pub record Fit (input : Input) : Type 0 where
  pub version : (1 ≤ input.version) × (input.version ≤ 2)
  pub cpus : (1 ≤ input.script.cpus) × (input.script.cpus ≤ 64)
  pub most : input.script.cpus ≤ most_cpus input.version
  pub words : HasWords input.names input.version
  pub depth : IfSome input.script.depth (λ n. n ≤ 256)
  pub few : AreFew input.names
  pub dpc_count : length input.names.dpcs ≡ length input.script.dpcs
  pub timer_count : length input.names.timers ≡ length input.script.timers
  pub thread_count : length input.names.threads ≡ length input.script.threads
  pub apc_count : length input.names.apcs ≡ length input.script.apcs
  pub lock_count : length input.names.locks ≡ input.script.locks
  pub routine_count : length input.names.routines ≡ length input.script.routines
  pub command_count : command_count input.script.routines ≤ 8192
  pub names : NamesFit input.names
  pub apart : isrs_differ input.script.isrs ≡ true
  pub isrs : AllByRecursion (IsrFits input.names input.script.cpus) input.script.isrs
  pub dpcs : AllByRecursion (DpcFits input.names) input.script.dpcs
  pub timers : AllByRecursion (TimerFits input.names) input.script.timers
  pub threads : AllByRecursion (ThreadFits input.names input.script.cpus) input.script.threads
  pub apcs : AllByRecursion (ApcFits input.names) input.script.apcs
  pub routines : AllByRecursion (λ r. AllByRecursion (CommandFits input.names input.script.cpus) r.commands) input.script.routines

-- a limit of a version is one of the newest
pub most_64 : (v n : ℕ) → n ≤ most_cpus v → n ≤ 64
most_64 v n le = go (nat_le 2 v) le
  where
    go : (b : Bool) → n ≤ cond b 64 8 → n ≤ 64
    go true h = h
    go false h = omega (arith, h)
