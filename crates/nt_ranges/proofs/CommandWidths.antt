-- How long the lines of commands are.
use Rattle.std.proofs.Common.{arith}
use Rattle.std.specs.Prelude.{IfSome, None, Option, Some, decimal, length, ℕ, ◌≤◌, ◌<◌}
use Rattle.nt_event.specs.declared.commands.Command.{Command}
use Rattle.nt_event.specs.declared.commands.Command.TheVariants as cmd
use Rattle.nt_event.specs.declared.numbers.CpuNo.{CpuNo}
use Rattle.nt_line.specs.Fits.{CommandFits}
use Rattle.nt_line.specs.NameLists.{NameLists}
use Rattle.nt_line.specs.Rows.{command_row, show_cpu, show_target}
use Rattle.nt_ranges.proofs.FieldWidths.{NamesAreShort, alertable_width, importance_width, low_width, mode_width, shown, word_width}
use Rattle.nt_ranges.proofs.Widths.{width}

-- a processor of at most 64 is shown with at most two bytes
cpu_width : (cpus : ℕ) (p : CpuNo) → cpus ≤ 64 → p.0 < cpus → length (show_cpu p) ≤ 2
cpu_width cpus p few h = low_width p.0 (omega (arith, few, h))

-- the target of a DPC among at most 64 processors is shown with at most three bytes
target_width : (cpus : ℕ) (target : Option CpuNo) → cpus ≤ 64 → IfSome target (λ p. p.0 < cpus) → length (show_target target) ≤ 3
target_width cpus None few h = omega arith
target_width cpus (Some p) few h = let a = cpu_width cpus p few h in omega (arith, a)

-- a level of at most 15 has at most two decimals
level_width : (level : ℕ) → level ≤ 15 → length (decimal level) ≤ 2
level_width level h = low_width level (omega (arith, h))

-- a timer's setting is the longest one
pub command_width : (names : NameLists) (cpus : ℕ) (c : Command) → NamesAreShort names → cpus ≤ 64 → CommandFits names cpus c →
    width (command_row names c) ≤ 48
command_width names cpus (cmd.Raise level) s few h = let a = level_width level h in omega (arith, a)
command_width names cpus (cmd.Lower level) s few h = let a = level_width level h in omega (arith, a)
command_width names cpus (cmd.Queue d) s few h = let a = shown names.dpcs d.0 s.dpcs in omega (arith, a)
command_width names cpus (cmd.Unqueue d) s few h = let a = shown names.dpcs d.0 s.dpcs in omega (arith, a)
command_width names cpus (cmd.SetImportance d i) s few h = let a = shown names.dpcs d.0 s.dpcs in let b = importance_width i in omega (arith, a, b)
command_width names cpus (cmd.SetTarget d target) s few h =
    let a = shown names.dpcs d.0 s.dpcs in let b = target_width cpus target few h.1 in omega (arith, a, b)
command_width names cpus (cmd.SetTimer t due period) s few h =
    let a = shown names.timers t.0 s.timers in let b = word_width due h.1 in let c = word_width period h.2 in omega (arith, a, b, c)
command_width names cpus (cmd.CancelTimer t) s few h = let a = shown names.timers t.0 s.timers in omega (arith, a)
command_width names cpus (cmd.InsertApc a) s few h = let n = shown names.apcs a.0 s.apcs in omega (arith, n)
command_width names cpus (cmd.RemoveApc a) s few h = let n = shown names.apcs a.0 s.apcs in omega (arith, n)
command_width names cpus cmd.EnterCrit s few h = omega arith
command_width names cpus cmd.EnterGuard s few h = omega arith
command_width names cpus cmd.LeaveCrit s few h = omega arith
command_width names cpus cmd.LeaveGuard s few h = omega arith
command_width names cpus (cmd.StartWait m a) s few h = let x = mode_width m in let y = alertable_width a in omega (arith, x, y)
command_width names cpus (cmd.Delay m a units) s few h =
    let x = mode_width m in let y = alertable_width a in let z = word_width units h.2 in omega (arith, x, y, z)
command_width names cpus (cmd.Release t) s few h = let a = shown names.threads t.0 s.threads in omega (arith, a)
command_width names cpus (cmd.Alert t m) s few h = let a = shown names.threads t.0 s.threads in let b = mode_width m in omega (arith, a, b)
command_width names cpus (cmd.TestAlert m) s few h = let a = mode_width m in omega (arith, a)
command_width names cpus (cmd.Interrupt p level) s few h = let a = cpu_width cpus p few h.0 in let b = level_width level h.1.0 in omega (arith, a, b)
command_width names cpus (cmd.Clock units) s few h = let a = word_width units h in omega (arith, a)
command_width names cpus cmd.ToUser s few h = omega arith
command_width names cpus cmd.Yield s few h = omega arith
command_width names cpus (cmd.Acquire k) s few h = let a = shown names.locks k.0 s.locks in omega (arith, a)
command_width names cpus (cmd.Unlock k) s few h = let a = shown names.locks k.0 s.locks in omega (arith, a)
command_width names cpus (cmd.Note number) s few h = let a = word_width number h in omega (arith, a)
