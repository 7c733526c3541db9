-- Fields that are read from left to right, and the command of a line in a routine.
use Rattle.std.specs.Prelude.{ℕ, zero, suc, List, Result, Ok}
use Rattle.nt_text.specs.declared.kind.ScriptKind.{ScriptKind}
use Rattle.nt_text.specs.Lines.{needed, rest}
use Rattle.nt_event.specs.declared.commands.Command.{Command}
use Rattle.nt_event.specs.declared.commands.Command.TheVariants as cmd
use Rattle.nt_line.specs.declared.keywords.Verb.{Verb}
use Rattle.nt_line.specs.declared.keywords.Verb.TheVariants as verb
use Rattle.nt_line.specs.NameLists.{NameLists}
use Rattle.nt_line.specs.Results.{◌>>=◌}
use Rattle.nt_line.specs.Fields.{read_number, read_level, read_interrupt, read_cpu, read_target, read_importance}
use Rattle.nt_line.specs.Fields.{read_mode, read_alertable, read_dpc, read_timer, read_thread, read_apc, read_lock}

-- the next field, which has to be there
abbrev pub next_field : {A : Type 0} → (List ℕ → Result A ScriptKind) → List (List ℕ) → Result A ScriptKind
next_field read args = needed args >>= read

abbrev pub read1 : {A B : Type 0} → (List ℕ → Result A ScriptKind) → (A → B) → List (List ℕ) → Result B ScriptKind
read1 f make args = next_field f args >>= λ x. Ok (make x)

abbrev pub read2 : {A B C : Type 0} → (List ℕ → Result A ScriptKind) → (List ℕ → Result B ScriptKind) → (A → B → C) →
    List (List ℕ) → Result C ScriptKind
read2 f g make args = next_field f args >>= λ x. next_field g (rest args) >>= λ y. Ok (make x y)

abbrev pub read3 : {A B C D : Type 0} → (List ℕ → Result A ScriptKind) → (List ℕ → Result B ScriptKind) →
    (List ℕ → Result C ScriptKind) → (A → B → C → D) → List (List ℕ) → Result D ScriptKind
read3 f g h make args = next_field f args >>= λ x. next_field g (rest args) >>= λ y.
    next_field h (rest (rest args)) >>= λ z. Ok (make x y z)

abbrev pub read4 : {A B C D E : Type 0} → (List ℕ → Result A ScriptKind) → (List ℕ → Result B ScriptKind) →
    (List ℕ → Result C ScriptKind) → (List ℕ → Result D ScriptKind) → (A → B → C → D → E) → List (List ℕ) →
    Result E ScriptKind
read4 f g h k make args = next_field f args >>= λ x. next_field g (rest args) >>= λ y.
    next_field h (rest (rest args)) >>= λ z. next_field k (rest (rest (rest args))) >>= λ u. Ok (make x y z u)

-- the fields behind the first n
abbrev pub behind : ℕ → List (List ℕ) → List (List ℕ)
behind zero args = args
behind (suc n) args = behind n (rest args)

-- the command of a verb and the fields behind it, by the names of the text and the count of processors
abbrev pub command_of : NameLists → ℕ → Verb → List (List ℕ) → Result Command ScriptKind
command_of names cpus verb.Raise args = read1 read_level cmd.Raise args
command_of names cpus verb.Lower args = read1 read_level cmd.Lower args
command_of names cpus verb.Queue args = read1 (read_dpc names) cmd.Queue args
command_of names cpus verb.Unqueue args = read1 (read_dpc names) cmd.Unqueue args
command_of names cpus verb.SetImportance args = read2 (read_dpc names) read_importance cmd.SetImportance args
command_of names cpus verb.SetTarget args = read2 (read_dpc names) (read_target cpus) cmd.SetTarget args
command_of names cpus verb.SetTimer args = read3 (read_timer names) (read_number 4294967295)
    (read_number 4294967295) cmd.SetTimer args
command_of names cpus verb.CancelTimer args = read1 (read_timer names) cmd.CancelTimer args
command_of names cpus verb.InsertApc args = read1 (read_apc names) cmd.InsertApc args
command_of names cpus verb.RemoveApc args = read1 (read_apc names) cmd.RemoveApc args
command_of names cpus verb.EnterCrit args = Ok cmd.EnterCrit
command_of names cpus verb.EnterGuard args = Ok cmd.EnterGuard
command_of names cpus verb.LeaveCrit args = Ok cmd.LeaveCrit
command_of names cpus verb.LeaveGuard args = Ok cmd.LeaveGuard
command_of names cpus verb.StartWait args = read2 read_mode read_alertable cmd.StartWait args
command_of names cpus verb.Delay args = read3 read_mode read_alertable (read_number 4294967295) cmd.Delay args
command_of names cpus verb.Release args = read1 (read_thread names) cmd.Release args
command_of names cpus verb.Alert args = read2 (read_thread names) read_mode cmd.Alert args
command_of names cpus verb.TestAlert args = read1 read_mode cmd.TestAlert args
command_of names cpus verb.Interrupt args = read2 (read_cpu cpus) read_interrupt cmd.Interrupt args
command_of names cpus verb.Clock args = read1 (read_number 4294967295) cmd.Clock args
command_of names cpus verb.ToUser args = Ok cmd.ToUser
command_of names cpus verb.Yield args = Ok cmd.Yield
command_of names cpus verb.Acquire args = read1 (read_lock names) cmd.Acquire args
command_of names cpus verb.Unlock args = read1 (read_lock names) cmd.Unlock args
command_of names cpus verb.Note args = read1 (read_number 4294967295) cmd.Note args
