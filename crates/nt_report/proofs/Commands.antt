-- A command is read from as many fields as its verb has, whatever stands behind them.
use Rattle.std.proofs.Common.{◌≡◌, ℕ, List, [], ◌∷◌, length, take, Result, Ok, refl}
use Rattle.nt_text.specs.declared.kind.ScriptKind.{ScriptKind}
use Rattle.nt_text.specs.Lines.{Row}
use Rattle.nt_event.specs.declared.commands.Command.{Command}
use Rattle.nt_event.specs.declared.commands.Command.TheVariants as cmd
use Rattle.nt_line.specs.declared.keywords.Verb.{Verb}
use Rattle.nt_line.specs.declared.keywords.Verb.TheVariants as verb
use Rattle.nt_line.specs.Keywords.{verb_arity}
use Rattle.nt_line.specs.Results.{◌>>=◌}
use Rattle.nt_line.specs.NameLists.{NameLists}
use Rattle.nt_line.specs.Commands.{command_of, next_field, read1, read2, read3}
use Rattle.nt_line.specs.Fields.{read_alertable, read_apc, read_cpu, read_dpc, read_importance, read_interrupt, read_level, read_lock, read_mode, read_number}
use Rattle.nt_line.specs.Fields.{read_target, read_thread, read_timer}
use Rattle.nt_line.specs.Fits.{CommandFits}
use Rattle.nt_line.proofs.UsedNames.{AreFew}
use Rattle.nt_line.proofs.Spelled.{command_takes}
use Rattle.nt_report.proofs.Steps.{ok, through}

-- the fields of a command are there, and they alone give it
abbrev pub Fronts : {C : Type 0} → (Row → Result C ScriptKind) → ℕ → Row → C → Type 0
Fronts read n args c = (read (take n args) ≡ Ok c) × (length (take n args) ≡ n)

-- a command without arguments is read from no field, whatever follows
front0 : {C : Type 0} (x c : C) (args : Row) → ok x ≡ Ok c → Fronts (λ args. ok x) 0 args c
front0 x c [] e = (e, refl)
front0 x c (a ∷ args) e = (e, refl)

-- a command of one argument is read from the first field, whatever follows
front1 : {A C : Type 0} (f : List ℕ → Result A ScriptKind) (make : A → C) (args : Row) (c : C) → read1 f make args ≡ Ok c → Fronts (read1 f make) 1 args c
front1 f make [] c e = absurd cc
front1 f make (a ∷ []) c e = (e, refl)
front1 f make (a ∷ b ∷ args) c e = (e, refl)

-- a command of two arguments is read from the first two fields, whatever follows
front2 : {A B C : Type 0} (f : List ℕ → Result A ScriptKind) (g : List ℕ → Result B ScriptKind) (make : A → B → C) (args : Row) (c : C) →
    read2 f g make args ≡ Ok c → Fronts (read2 f g make) 2 args c
front2 f g make [] c e = absurd cc
front2 {A = A} {B = B} {C = C} f g make (a ∷ []) c e =
    through (λ (c : C). Fronts (read2 f g make) 2 (a ∷ []) c) (f a) (λ x. next_field g [] >>= λ y. ok (make x y)) c e (λ x is then. absurd cc)
front2 f g make (a ∷ b ∷ []) c e = (e, refl)
front2 f g make (a ∷ b ∷ d ∷ args) c e = (e, refl)

-- a command of three arguments is read from the first three fields, whatever follows
front3 : {A B D C : Type 0} (f : List ℕ → Result A ScriptKind) (g : List ℕ → Result B ScriptKind) (h : List ℕ → Result D ScriptKind) (make : A → B → D → C)
    (args : Row) (c : C) → read3 f g h make args ≡ Ok c → Fronts (read3 f g h make) 3 args c
front3 f g h make [] c e = absurd cc
front3 {C = C} f g h make (a ∷ []) c e =
    through (λ (c : C). Fronts (read3 f g h make) 3 (a ∷ []) c) (f a) (λ x. next_field g [] >>= λ y. next_field h [] >>= λ z. ok (make x y z)) c e
    (λ x is then. absurd cc)
front3 {C = C} f g h make (a ∷ b ∷ []) c e =
    through (λ (c : C). Fronts (read3 f g h make) 3 (a ∷ b ∷ []) c) (f a) (λ x. g b >>= λ y. next_field h [] >>= λ z. ok (make x y z)) c e
    (λ x is then. through (λ (c : C). Fronts (read3 f g h make) 3 (a ∷ b ∷ []) c) (g b) (λ y. next_field h [] >>= λ z. ok (make x y z)) c then
    (λ y is' then'. absurd cc))
front3 f g h make (a ∷ b ∷ d ∷ []) c e = (e, refl)
front3 f g h make (a ∷ b ∷ d ∷ i ∷ args) c e = (e, refl)

-- a command is read from just as many fields at the front as its verb has arguments
pub command_front : (names : NameLists) (cpus : ℕ) (v : Verb) (args : Row) (c : Command) → command_of names cpus v args ≡ Ok c →
    Fronts (command_of names cpus v) (verb_arity v) args c
command_front names cpus verb.Raise args c e = front1 read_level cmd.Raise args c e
command_front names cpus verb.Lower args c e = front1 read_level cmd.Lower args c e
command_front names cpus verb.Queue args c e = front1 (read_dpc names) cmd.Queue args c e
command_front names cpus verb.Unqueue args c e = front1 (read_dpc names) cmd.Unqueue args c e
command_front names cpus verb.SetImportance args c e = front2 (read_dpc names) read_importance cmd.SetImportance args c e
command_front names cpus verb.SetTarget args c e = front2 (read_dpc names) (read_target cpus) cmd.SetTarget args c e
command_front names cpus verb.SetTimer args c e = front3 (read_timer names) (read_number 4294967295) (read_number 4294967295) cmd.SetTimer args c e
command_front names cpus verb.CancelTimer args c e = front1 (read_timer names) cmd.CancelTimer args c e
command_front names cpus verb.InsertApc args c e = front1 (read_apc names) cmd.InsertApc args c e
command_front names cpus verb.RemoveApc args c e = front1 (read_apc names) cmd.RemoveApc args c e
command_front names cpus verb.EnterCrit args c e = front0 cmd.EnterCrit c args e
command_front names cpus verb.EnterGuard args c e = front0 cmd.EnterGuard c args e
command_front names cpus verb.LeaveCrit args c e = front0 cmd.LeaveCrit c args e
command_front names cpus verb.LeaveGuard args c e = front0 cmd.LeaveGuard c args e
command_front names cpus verb.StartWait args c e = front2 read_mode read_alertable cmd.StartWait args c e
command_front names cpus verb.Delay args c e = front3 read_mode read_alertable (read_number 4294967295) cmd.Delay args c e
command_front names cpus verb.Release args c e = front1 (read_thread names) cmd.Release args c e
command_front names cpus verb.Alert args c e = front2 (read_thread names) read_mode cmd.Alert args c e
command_front names cpus verb.TestAlert args c e = front1 read_mode cmd.TestAlert args c e
command_front names cpus verb.Interrupt args c e = front2 (read_cpu cpus) read_interrupt cmd.Interrupt args c e
command_front names cpus verb.Clock args c e = front1 (read_number 4294967295) cmd.Clock args c e
command_front names cpus verb.ToUser args c e = front0 cmd.ToUser c args e
command_front names cpus verb.Yield args c e = front0 cmd.Yield c args e
command_front names cpus verb.Acquire args c e = front1 (read_lock names) cmd.Acquire args c e
command_front names cpus verb.Unlock args c e = front1 (read_lock names) cmd.Unlock args c e
command_front names cpus verb.Note args c e = front1 (read_number 4294967295) cmd.Note args c e

-- what is read as a command fits, whatever stands behind it
pub command_of_fits : (names : NameLists) (cpus : ℕ) → AreFew names → (v : Verb) (args : Row) (c : Command) → command_of names cpus v args ≡ Ok c →
    CommandFits names cpus c
command_of_fits names cpus few v args c e =
    let f = command_front names cpus v args c e in (command_takes names cpus few v (take (verb_arity v) args) c f.0 f.1).fits
