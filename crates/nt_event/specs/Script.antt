-- What a script declares, and when it fits: it meets the limits, and each number in it names a thing of its list.
use Rattle.std.specs.Prelude.{ℕ, Bool, true, ◌&&◌, not, ◌==◌, nat_lt, nat_le, List, [], ◌∷◌, length, sum_by, find}
use Rattle.std.specs.Prelude.{Option, option_map, is_some, is_none}
use Rattle.std.specs.List.{list_all, list_any}
use Rattle.std.specs.Option.{option_map_or}
use Rattle.nt_event.specs.declared.numbers.CpuNo.{CpuNo}
use Rattle.nt_event.specs.declared.numbers.ThreadNo.{ThreadNo}
use Rattle.nt_event.specs.declared.numbers.DpcNo.{DpcNo}
use Rattle.nt_event.specs.declared.numbers.ApcNo.{ApcNo}
use Rattle.nt_event.specs.declared.numbers.LockNo.{LockNo}
use Rattle.nt_event.specs.declared.numbers.TimerNo.{TimerNo}
use Rattle.nt_event.specs.declared.numbers.RoutineNo.{RoutineNo}
use Rattle.nt_event.specs.declared.commands.ApcKind.{ApcKind}
use Rattle.nt_event.specs.declared.commands.ApcKind.TheVariants.{Special, Normal, User}
use Rattle.nt_event.specs.declared.commands.Command.{Command}
use Rattle.nt_event.specs.declared.commands.Command.TheVariants as cmd
use Rattle.nt_event.specs.declared.scripts.Script.{Script}
use Rattle.nt_event.specs.declared.scripts.Isr.{Isr}
use Rattle.nt_event.specs.declared.scripts.DpcDecl.{DpcDecl}
use Rattle.nt_event.specs.declared.scripts.TimerDecl.{TimerDecl}
use Rattle.nt_event.specs.declared.scripts.ThreadDecl.{ThreadDecl}
use Rattle.nt_event.specs.declared.scripts.ApcDecl.{ApcDecl}
use Rattle.nt_event.specs.declared.scripts.Routine.{Routine}
use Rattle.nt_event.specs.Classes.{is_isr_level, is_requested_level}

-- the interrupt routine's line is for this processor and level
abbrev pub is_isr_of : CpuNo → ℕ → Isr → Bool
is_isr_of p level isr = (isr.cpu.0 == p.0) && (isr.level == level)

-- the routine of an interrupt, if the script declares one
abbrev pub isr_of : List Isr → CpuNo → ℕ → Option RoutineNo
isr_of isrs p level = option_map (λ isr. isr.routine) (find (is_isr_of p level) isrs)

-- each number names a thing of its list
abbrev pub has_cpu : Script → CpuNo → Bool
has_cpu s p = nat_lt p.0 s.cpus

abbrev pub has_thread : Script → ThreadNo → Bool
has_thread s t = nat_lt t.0 (length s.threads)

abbrev pub has_dpc : Script → DpcNo → Bool
has_dpc s d = nat_lt d.0 (length s.dpcs)

abbrev pub has_apc : Script → ApcNo → Bool
has_apc s a = nat_lt a.0 (length s.apcs)

abbrev pub has_timer : Script → TimerNo → Bool
has_timer s t = nat_lt t.0 (length s.timers)

abbrev pub has_lock : Script → LockNo → Bool
has_lock s k = nat_lt k.0 s.locks

abbrev pub has_routine : Script → RoutineNo → Bool
has_routine s r = nat_lt r.0 (length s.routines)

-- a thing that may be left out is one of its list where it stands
abbrev pub where_given : {A : Type 0} → (A → Bool) → Option A → Bool
where_given has x = option_map_or has x true

-- how many commands the routines have in all
abbrev pub command_count : List Routine → ℕ
command_count = sum_by (λ r. length r.commands)

abbrev pub meets_limits : Script → Bool
meets_limits s =
    nat_le 1 s.cpus && nat_le s.cpus 64
    && where_given (λ depth. nat_le depth 256) s.depth
    && nat_le (length s.threads) 64
    && nat_le (length s.timers) 64
    && nat_le (length s.dpcs) 256
    && nat_le (length s.apcs) 256
    && nat_le s.locks 64
    && nat_le (length s.routines) 256
    && nat_le (command_count s.routines) 8192

abbrev pub isr_fits : Script → Isr → Bool
isr_fits s isr = has_cpu s isr.cpu && is_isr_level isr.level && has_routine s isr.routine

-- one of the interrupt routines is for this processor and level
abbrev pub stands_in : List Isr → CpuNo → ℕ → Bool
stands_in isrs p level = list_any (is_isr_of p level) isrs

-- no two interrupt routines are for the same processor and level
abbrev pub isrs_differ : List Isr → Bool
isrs_differ [] = true
isrs_differ (isr ∷ more) = not (stands_in more isr.cpu isr.level) && isrs_differ more

abbrev pub dpc_fits : Script → DpcDecl → Bool
dpc_fits s d = has_routine s d.routine

abbrev pub timer_fits : Script → TimerDecl → Bool
timer_fits s t = where_given (has_dpc s) t.dpc

abbrev pub thread_fits : Script → ThreadDecl → Bool
thread_fits s t = has_cpu s t.cpu && has_routine s t.routine

-- a normal or user APC has a normal routine, and only a user APC may have a rundown routine
abbrev pub apc_has_its_routines : ApcKind → Option RoutineNo → Option RoutineNo → Bool
apc_has_its_routines Special normal rundown = is_none normal && is_none rundown
apc_has_its_routines Normal normal rundown = is_some normal && is_none rundown
apc_has_its_routines User normal rundown = is_some normal

abbrev pub apc_fits : Script → ApcDecl → Bool
apc_fits s a =
    has_thread s a.thread && has_routine s a.kernel
    && where_given (has_routine s) a.normal
    && where_given (has_routine s) a.rundown
    && apc_has_its_routines a.kind a.normal a.rundown

-- each number in a command names a thing of its list, and `interrupt` requests a level that it may
abbrev pub command_fits : Script → Command → Bool
command_fits s (cmd.Queue d) = has_dpc s d
command_fits s (cmd.Unqueue d) = has_dpc s d
command_fits s (cmd.SetImportance d i) = has_dpc s d
command_fits s (cmd.SetTarget d p) = has_dpc s d && where_given (has_cpu s) p
command_fits s (cmd.SetTimer t due period) = has_timer s t
command_fits s (cmd.CancelTimer t) = has_timer s t
command_fits s (cmd.InsertApc a) = has_apc s a
command_fits s (cmd.RemoveApc a) = has_apc s a
command_fits s (cmd.Release t) = has_thread s t
command_fits s (cmd.Alert t m) = has_thread s t
command_fits s (cmd.Interrupt p level) = has_cpu s p && is_requested_level level
command_fits s (cmd.Raise level) = true
command_fits s (cmd.Lower level) = true
command_fits s cmd.EnterCrit = true
command_fits s cmd.EnterGuard = true
command_fits s cmd.LeaveCrit = true
command_fits s cmd.LeaveGuard = true
command_fits s (cmd.StartWait m a) = true
command_fits s (cmd.Delay m a units) = true
command_fits s (cmd.TestAlert m) = true
command_fits s (cmd.Clock units) = true
command_fits s cmd.ToUser = true
command_fits s cmd.Yield = true
command_fits s (cmd.Acquire k) = has_lock s k
command_fits s (cmd.Unlock k) = has_lock s k
command_fits s (cmd.Note n) = true

abbrev pub routine_fits : Script → Routine → Bool
routine_fits s r = list_all (command_fits s) r.commands

-- the script fits
abbrev pub fits : Script → Bool
fits s =
    meets_limits s
    && list_all (isr_fits s) s.isrs
    && isrs_differ s.isrs
    && list_all (dpc_fits s) s.dpcs
    && list_all (timer_fits s) s.timers
    && list_all (thread_fits s) s.threads
    && list_all (apc_fits s) s.apcs
    && list_all (routine_fits s) s.routines
