-- What the fields of a line may be, so that each number names a thing that has a name.
use Rattle.std.specs.Prelude.{◌≡◌, ℕ, ◌≤◌, ◌<◌, true, length, IfSome}
use Rattle.nt_event.specs.declared.commands.Command.{Command}
use Rattle.nt_event.specs.declared.commands.Command.TheVariants as cmd
use Rattle.nt_event.specs.declared.scripts.Isr.{Isr}
use Rattle.nt_event.specs.declared.scripts.DpcDecl.{DpcDecl}
use Rattle.nt_event.specs.declared.scripts.TimerDecl.{TimerDecl}
use Rattle.nt_event.specs.declared.scripts.ThreadDecl.{ThreadDecl}
use Rattle.nt_event.specs.declared.scripts.ApcDecl.{ApcDecl}
use Rattle.nt_event.specs.Classes.{is_requested_level, is_isr_level}
use Rattle.nt_event.specs.Script.{apc_has_its_routines}
use Rattle.nt_line.specs.NameLists.{NameLists}

abbrev pub IsrFits : NameLists → ℕ → Isr → Type 0
IsrFits names cpus isr = (isr.cpu.0 < cpus) × (isr.level ≤ 15) × (is_isr_level isr.level ≡ true) ×
    (isr.routine.0 < length names.routines)

abbrev pub DpcFits : NameLists → DpcDecl → Type 0
DpcFits names d = d.routine.0 < length names.routines

abbrev pub TimerFits : NameLists → TimerDecl → Type 0
TimerFits names t = IfSome t.dpc (λ d. d.0 < length names.dpcs)

abbrev pub ThreadFits : NameLists → ℕ → ThreadDecl → Type 0
ThreadFits names cpus t = (t.cpu.0 < cpus) × (t.routine.0 < length names.routines)

pub record ApcFits (names : NameLists) (a : ApcDecl) : Type 0 where
  pub thread : a.thread.0 < length names.threads
  pub kernel : a.kernel.0 < length names.routines
  pub normal : IfSome a.normal (λ r. r.0 < length names.routines)
  pub rundown : IfSome a.rundown (λ r. r.0 < length names.routines)
  pub routines : apc_has_its_routines a.kind a.normal a.rundown ≡ true

-- the line of a command
abbrev pub CommandFits : NameLists → ℕ → Command → Type 0
CommandFits names cpus (cmd.Raise level) = (level ≤ 15)
CommandFits names cpus (cmd.Lower level) = (level ≤ 15)
CommandFits names cpus (cmd.Queue d) = (d.0 < length names.dpcs)
CommandFits names cpus (cmd.Unqueue d) = (d.0 < length names.dpcs)
CommandFits names cpus (cmd.SetImportance d importance) = (d.0 < length names.dpcs) × Unit {0}
CommandFits names cpus (cmd.SetTarget d target) = (d.0 < length names.dpcs) × IfSome target (λ p. p.0 < cpus)
CommandFits names cpus (cmd.SetTimer t due period) = (t.0 < length names.timers) × (due ≤ 4294967295) ×
    (period ≤ 4294967295)
CommandFits names cpus (cmd.CancelTimer t) = (t.0 < length names.timers)
CommandFits names cpus (cmd.InsertApc a) = (a.0 < length names.apcs)
CommandFits names cpus (cmd.RemoveApc a) = (a.0 < length names.apcs)
CommandFits names cpus cmd.EnterCrit = Unit {0}
CommandFits names cpus cmd.EnterGuard = Unit {0}
CommandFits names cpus cmd.LeaveCrit = Unit {0}
CommandFits names cpus cmd.LeaveGuard = Unit {0}
CommandFits names cpus (cmd.StartWait mode alertable) = Unit {0} × Unit {0}
CommandFits names cpus (cmd.Delay mode alertable units) = Unit {0} × Unit {0} × (units ≤ 4294967295)
CommandFits names cpus (cmd.Release t) = (t.0 < length names.threads)
CommandFits names cpus (cmd.Alert t mode) = (t.0 < length names.threads) × Unit {0}
CommandFits names cpus (cmd.TestAlert mode) = Unit {0}
CommandFits names cpus (cmd.Interrupt cpu level) = (cpu.0 < cpus) × ((level ≤ 15) × (is_requested_level level ≡ true))
CommandFits names cpus (cmd.Clock units) = (units ≤ 4294967295)
CommandFits names cpus cmd.ToUser = Unit {0}
CommandFits names cpus cmd.Yield = Unit {0}
CommandFits names cpus (cmd.Acquire k) = (k.0 < length names.locks)
CommandFits names cpus (cmd.Unlock k) = (k.0 < length names.locks)
CommandFits names cpus (cmd.Note number) = (number ≤ 4294967295)

-- what the line of a command names has a name
abbrev pub CommandNamed : NameLists → Command → Type 0
CommandNamed names (cmd.Raise level) = Unit {0}
CommandNamed names (cmd.Lower level) = Unit {0}
CommandNamed names (cmd.Queue d) = d.0 < length names.dpcs
CommandNamed names (cmd.Unqueue d) = d.0 < length names.dpcs
CommandNamed names (cmd.SetImportance d importance) = d.0 < length names.dpcs
CommandNamed names (cmd.SetTarget d target) = d.0 < length names.dpcs
CommandNamed names (cmd.SetTimer t due period) = t.0 < length names.timers
CommandNamed names (cmd.CancelTimer t) = t.0 < length names.timers
CommandNamed names (cmd.InsertApc a) = a.0 < length names.apcs
CommandNamed names (cmd.RemoveApc a) = a.0 < length names.apcs
CommandNamed names cmd.EnterCrit = Unit {0}
CommandNamed names cmd.EnterGuard = Unit {0}
CommandNamed names cmd.LeaveCrit = Unit {0}
CommandNamed names cmd.LeaveGuard = Unit {0}
CommandNamed names (cmd.StartWait mode alertable) = Unit {0}
CommandNamed names (cmd.Delay mode alertable units) = Unit {0}
CommandNamed names (cmd.Release t) = t.0 < length names.threads
CommandNamed names (cmd.Alert t mode) = t.0 < length names.threads
CommandNamed names (cmd.TestAlert mode) = Unit {0}
CommandNamed names (cmd.Interrupt cpu level) = Unit {0}
CommandNamed names (cmd.Clock units) = Unit {0}
CommandNamed names cmd.ToUser = Unit {0}
CommandNamed names cmd.Yield = Unit {0}
CommandNamed names (cmd.Acquire k) = k.0 < length names.locks
CommandNamed names (cmd.Unlock k) = k.0 < length names.locks
CommandNamed names (cmd.Note number) = Unit {0}

-- the numbers of a command are those of its types
abbrev pub HasRange : Command → Type 0
HasRange (cmd.Raise level) = level ≤ 15
HasRange (cmd.Lower level) = level ≤ 15
HasRange (cmd.Queue d) = Unit {0}
HasRange (cmd.Unqueue d) = Unit {0}
HasRange (cmd.SetImportance d importance) = Unit {0}
HasRange (cmd.SetTarget d target) = Unit {0}
HasRange (cmd.SetTimer t due period) = (due ≤ 4294967295) × (period ≤ 4294967295)
HasRange (cmd.CancelTimer t) = Unit {0}
HasRange (cmd.InsertApc a) = Unit {0}
HasRange (cmd.RemoveApc a) = Unit {0}
HasRange cmd.EnterCrit = Unit {0}
HasRange cmd.EnterGuard = Unit {0}
HasRange cmd.LeaveCrit = Unit {0}
HasRange cmd.LeaveGuard = Unit {0}
HasRange (cmd.StartWait mode alertable) = Unit {0}
HasRange (cmd.Delay mode alertable units) = units ≤ 4294967295
HasRange (cmd.Release t) = Unit {0}
HasRange (cmd.Alert t mode) = Unit {0}
HasRange (cmd.TestAlert mode) = Unit {0}
HasRange (cmd.Interrupt cpu level) = Unit {0}
HasRange (cmd.Clock units) = units ≤ 4294967295
HasRange cmd.ToUser = Unit {0}
HasRange cmd.Yield = Unit {0}
HasRange (cmd.Acquire k) = Unit {0}
HasRange (cmd.Unlock k) = Unit {0}
HasRange (cmd.Note number) = number ≤ 4294967295
