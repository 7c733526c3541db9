-- One line as a row of fields: of a command, or of what is declared.
use Rattle.std.specs.Prelude.{ℕ, Bool, List, [], ◌∷◌, ◌++◌, Option, Some, None, decimal}
use Rattle.nt_text.specs.Lines.{Row}
use Rattle.nt_event.specs.declared.numbers.CpuNo.{CpuNo}
use Rattle.nt_event.specs.declared.numbers.RoutineNo.{RoutineNo}
use Rattle.nt_event.specs.declared.commands.ApcKind.{ApcKind}
use Rattle.nt_event.specs.declared.commands.ApcKind.TheVariants.{Special, Normal, User}
use Rattle.nt_event.specs.declared.commands.Command.{Command}
use Rattle.nt_event.specs.declared.commands.Command.TheVariants as cmd
use Rattle.nt_event.specs.declared.scripts.Isr.{Isr}
use Rattle.nt_event.specs.declared.scripts.DpcDecl.{DpcDecl}
use Rattle.nt_event.specs.declared.scripts.TimerDecl.{TimerDecl}
use Rattle.nt_event.specs.declared.scripts.ThreadDecl.{ThreadDecl}
use Rattle.nt_event.specs.declared.scripts.ApcDecl.{ApcDecl}
use Rattle.nt_line.specs.declared.keywords.Verb.{Verb}
use Rattle.nt_line.specs.declared.keywords.Verb.TheVariants as verb
use Rattle.nt_line.specs.declared.keywords.Keyword.{Keyword}
use Rattle.nt_line.specs.declared.keywords.Keyword.TheVariants as keyword
use Rattle.nt_line.specs.NameLists.{NameLists, show_dpc, show_timer, show_thread, show_apc, show_lock, show_routine}
use Rattle.nt_line.specs.Keywords.{text_of}
use Rattle.nt_line.specs.Fields.{own, dash, importance_text, mode_text, alertable_text, on_off_text}

-- ---- fields

abbrev pub show_cpu : CpuNo → List ℕ
show_cpu p = decimal p.0

-- a thing, or a keyword for none
abbrev pub show_unless : {A : Type 0} → List ℕ → (A → List ℕ) → Option A → List ℕ
show_unless none show None = none
show_unless none show (Some x) = show x

abbrev pub show_target : Option CpuNo → List ℕ
show_target target = show_unless own show_cpu target

-- ---- commands

-- the keyword of a command
abbrev pub command_verb : Command → Verb
command_verb (cmd.Raise level) = verb.Raise
command_verb (cmd.Lower level) = verb.Lower
command_verb (cmd.Queue d) = verb.Queue
command_verb (cmd.Unqueue d) = verb.Unqueue
command_verb (cmd.SetImportance d importance) = verb.SetImportance
command_verb (cmd.SetTarget d target) = verb.SetTarget
command_verb (cmd.SetTimer t due period) = verb.SetTimer
command_verb (cmd.CancelTimer t) = verb.CancelTimer
command_verb (cmd.InsertApc a) = verb.InsertApc
command_verb (cmd.RemoveApc a) = verb.RemoveApc
command_verb cmd.EnterCrit = verb.EnterCrit
command_verb cmd.EnterGuard = verb.EnterGuard
command_verb cmd.LeaveCrit = verb.LeaveCrit
command_verb cmd.LeaveGuard = verb.LeaveGuard
command_verb (cmd.StartWait mode alertable) = verb.StartWait
command_verb (cmd.Delay mode alertable units) = verb.Delay
command_verb (cmd.Release t) = verb.Release
command_verb (cmd.Alert t mode) = verb.Alert
command_verb (cmd.TestAlert mode) = verb.TestAlert
command_verb (cmd.Interrupt cpu level) = verb.Interrupt
command_verb (cmd.Clock units) = verb.Clock
command_verb cmd.ToUser = verb.ToUser
command_verb cmd.Yield = verb.Yield
command_verb (cmd.Acquire k) = verb.Acquire
command_verb (cmd.Unlock k) = verb.Unlock
command_verb (cmd.Note number) = verb.Note

abbrev pub command_args : NameLists → Command → Row
command_args names (cmd.Raise level) = decimal level ∷ []
command_args names (cmd.Lower level) = decimal level ∷ []
command_args names (cmd.Queue d) = show_dpc names d ∷ []
command_args names (cmd.Unqueue d) = show_dpc names d ∷ []
command_args names (cmd.SetImportance d importance) = show_dpc names d ∷ importance_text importance ∷ []
command_args names (cmd.SetTarget d target) = show_dpc names d ∷ show_target target ∷ []
command_args names (cmd.SetTimer t due period) = show_timer names t ∷ decimal due ∷ decimal period ∷ []
command_args names (cmd.CancelTimer t) = show_timer names t ∷ []
command_args names (cmd.InsertApc a) = show_apc names a ∷ []
command_args names (cmd.RemoveApc a) = show_apc names a ∷ []
command_args names cmd.EnterCrit = []
command_args names cmd.EnterGuard = []
command_args names cmd.LeaveCrit = []
command_args names cmd.LeaveGuard = []
command_args names (cmd.StartWait mode alertable) = mode_text mode ∷ alertable_text alertable ∷ []
command_args names (cmd.Delay mode alertable units) = mode_text mode ∷ alertable_text alertable ∷ decimal units ∷ []
command_args names (cmd.Release t) = show_thread names t ∷ []
command_args names (cmd.Alert t mode) = show_thread names t ∷ mode_text mode ∷ []
command_args names (cmd.TestAlert mode) = mode_text mode ∷ []
command_args names (cmd.Interrupt cpu level) = show_cpu cpu ∷ decimal level ∷ []
command_args names (cmd.Clock units) = decimal units ∷ []
command_args names cmd.ToUser = []
command_args names cmd.Yield = []
command_args names (cmd.Acquire k) = show_lock names k ∷ []
command_args names (cmd.Unlock k) = show_lock names k ∷ []
command_args names (cmd.Note number) = decimal number ∷ []

abbrev pub command_row : NameLists → Command → Row
command_row names c = text_of (keyword.Call (command_verb c)) ∷ command_args names c

-- ---- lines of one thing

abbrev pub number_row : Keyword → ℕ → Row
number_row keyword n = text_of keyword ∷ decimal n ∷ []

abbrev pub depth_rows : Option ℕ → List Row
depth_rows None = []
depth_rows (Some n) = number_row keyword.Depth n ∷ []

abbrev pub threaded_rows : Option Bool → List Row
threaded_rows None = []
threaded_rows (Some on) = (text_of keyword.Threaded ∷ on_off_text on ∷ []) ∷ []

abbrev pub isr_args : NameLists → Isr → Row
isr_args names isr = show_cpu isr.cpu ∷ decimal isr.level ∷ show_routine names isr.routine ∷ []

abbrev pub isr_row : NameLists → Isr → Row
isr_row names isr = text_of keyword.Isr ∷ isr_args names isr

abbrev pub dpc_args : NameLists → DpcDecl → Row
dpc_args names d = show_routine names d.routine ∷ []

abbrev pub dpc_row : NameLists → List ℕ → DpcDecl → Row
dpc_row names name d = text_of (keyword.Dpc d.threaded) ∷ name ∷ dpc_args names d

abbrev pub timer_args : NameLists → TimerDecl → Row
timer_args names t = show_unless dash (show_dpc names) t.dpc ∷ []

abbrev pub timer_row : NameLists → List ℕ → TimerDecl → Row
timer_row names name t = text_of keyword.Timer ∷ name ∷ timer_args names t

abbrev pub thread_args : NameLists → ThreadDecl → Row
thread_args names t = show_cpu t.cpu ∷ show_routine names t.routine ∷ []

abbrev pub thread_row : NameLists → List ℕ → ThreadDecl → Row
thread_row names name t = text_of keyword.Thread ∷ name ∷ thread_args names t

-- the routine after the kernel routine, where there is one
abbrev pub normal_args : NameLists → Option RoutineNo → Row
normal_args names None = []
normal_args names (Some r) = show_routine names r ∷ []

-- the rundown routine of a user APC
abbrev pub rundown_args : NameLists → ApcKind → Option RoutineNo → Row
rundown_args names Special r = []
rundown_args names Normal r = []
rundown_args names User r = show_unless dash (show_routine names) r ∷ []

abbrev pub apc_args : NameLists → ApcDecl → Row
apc_args names a = show_thread names a.thread ∷ show_routine names a.kernel ∷
    (normal_args names a.normal ++ rundown_args names a.kind a.rundown)

abbrev pub apc_row : NameLists → List ℕ → ApcDecl → Row
apc_row names name a = text_of (keyword.Apc a.kind) ∷ name ∷ apc_args names a

abbrev pub lock_row : List ℕ → Row
lock_row name = text_of keyword.Spinlock ∷ name ∷ []
