-- What a field may be, and what it is then.
use Rattle.std.specs.Prelude.{ℕ, Bool, true, false, List, Option, Some, None, Result, Ok, Err, codes, find, is_some}
use Rattle.std.specs.Prelude.{nat_lt, if◌then◌else◌}
use Rattle.std.specs.Str.{bytes_eq}
use Rattle.nt_text.specs.declared.kind.ScriptKind.{ScriptKind}
use Rattle.nt_text.specs.declared.kind.ScriptKind.TheVariants.{BadNumber, BadName, UnknownName, WrongKind, UnknownWord}
use Rattle.nt_text.specs.declared.kind.ScriptKind.TheVariants.{NameTwice}
use Rattle.nt_text.specs.Fields.{number_up_to, is_name}
use Rattle.nt_event.specs.declared.numbers.CpuNo.{CpuNo}
use Rattle.nt_event.specs.declared.numbers.DpcNo.{DpcNo}
use Rattle.nt_event.specs.declared.numbers.TimerNo.{TimerNo}
use Rattle.nt_event.specs.declared.numbers.ThreadNo.{ThreadNo}
use Rattle.nt_event.specs.declared.numbers.ApcNo.{ApcNo}
use Rattle.nt_event.specs.declared.numbers.LockNo.{LockNo}
use Rattle.nt_event.specs.declared.numbers.RoutineNo.{RoutineNo}
use Rattle.nt_event.specs.declared.commands.Importance.{Importance}
use Rattle.nt_event.specs.declared.commands.Importance.TheVariants.{Low, Medium, MediumHigh, High}
use Rattle.nt_event.specs.declared.commands.Mode.{Mode}
use Rattle.nt_event.specs.declared.commands.Mode.TheVariants.{Kernel, User}
use Rattle.nt_event.specs.Classes.{is_requested_level, is_isr_level}
use Rattle.nt_line.specs.declared.names.Named.{Named}
use Rattle.nt_line.specs.declared.names.Named.TheVariants as named
use Rattle.nt_line.specs.declared.fields.TheConstants.{IMPORTANCES}
use Rattle.nt_line.specs.NameLists.{NameLists, meaning}
use Rattle.nt_line.specs.Results.{◌>>=◌, or_error, ok_if}

-- ---- numbers

abbrev pub read_number : ℕ → List ℕ → Result ℕ ScriptKind
read_number most field = or_error BadNumber (number_up_to most field)

abbrev pub read_level : List ℕ → Result ℕ ScriptKind
read_level field = read_number 15 field

abbrev pub read_interrupt : List ℕ → Result ℕ ScriptKind
read_interrupt field = read_number 15 field >>= λ n. ok_if (is_requested_level n) n BadNumber

abbrev pub read_isr_level : List ℕ → Result ℕ ScriptKind
read_isr_level field = read_number 15 field >>= λ n. ok_if (is_isr_level n) n BadNumber

abbrev pub read_cpu : ℕ → List ℕ → Result CpuNo ScriptKind
read_cpu cpus field = read_number 255 field >>= λ n. ok_if (nat_lt n cpus) (record { 0 = n }) BadNumber

-- ---- words

-- a field that may be a word for none
abbrev pub read_unless : {A : Type 0} → List ℕ → (List ℕ → Result A ScriptKind) → List ℕ → Result (Option A) ScriptKind
read_unless none read field = if bytes_eq field none then Ok None else (read field >>= λ x. Ok (Some x))

abbrev pub own : List ℕ
own = codes "own"

abbrev pub dash : List ℕ
dash = codes "-"

abbrev pub read_target : ℕ → List ℕ → Result (Option CpuNo) ScriptKind
read_target cpus field = read_unless own (read_cpu cpus) field

abbrev pub importance_text : Importance → List ℕ
importance_text Low = codes "low"
importance_text Medium = codes "medium"
importance_text MediumHigh = codes "mediumhigh"
importance_text High = codes "high"

unfoldable pub read_importance : List ℕ → Result Importance ScriptKind
read_importance field = or_error UnknownWord (find (λ i. bytes_eq field (importance_text i)) IMPORTANCES)

abbrev pub mode_text : Mode → List ℕ
mode_text Kernel = codes "kernel"
mode_text User = codes "user"

abbrev pub read_mode : List ℕ → Result Mode ScriptKind
read_mode field = if bytes_eq field (codes "kernel") then Ok Kernel
    else (if bytes_eq field (codes "user") then Ok User else Err UnknownWord)

-- one of two words
abbrev pub flag_text : List ℕ → List ℕ → Bool → List ℕ
flag_text on off true = on
flag_text on off false = off

abbrev pub read_flag : List ℕ → List ℕ → List ℕ → Result Bool ScriptKind
read_flag on off field = if bytes_eq field on then Ok true
    else (if bytes_eq field off then Ok false else Err UnknownWord)

abbrev pub alertable_text : Bool → List ℕ
alertable_text alertable = flag_text (codes "alertable") (codes "plain") alertable

abbrev pub read_alertable : List ℕ → Result Bool ScriptKind
read_alertable field = read_flag (codes "alertable") (codes "plain") field

abbrev pub on_off_text : Bool → List ℕ
on_off_text on = flag_text (codes "on") (codes "off") on

abbrev pub read_on_off : List ℕ → Result Bool ScriptKind
read_on_off field = read_flag (codes "on") (codes "off") field

-- ---- names

-- the thing of a name that some line declares
abbrev pub used : NameLists → List ℕ → Result Named ScriptKind
used names field = if is_name field then or_error UnknownName (meaning field names) else Err BadName

abbrev pub as_dpc : Named → Result DpcNo ScriptKind
as_dpc (named.Dpc x) = Ok x
as_dpc _ = Err WrongKind

abbrev pub read_dpc : NameLists → List ℕ → Result DpcNo ScriptKind
read_dpc names field = used names field >>= as_dpc

abbrev pub as_timer : Named → Result TimerNo ScriptKind
as_timer (named.Timer x) = Ok x
as_timer _ = Err WrongKind

abbrev pub read_timer : NameLists → List ℕ → Result TimerNo ScriptKind
read_timer names field = used names field >>= as_timer

abbrev pub as_thread : Named → Result ThreadNo ScriptKind
as_thread (named.Thread x) = Ok x
as_thread _ = Err WrongKind

abbrev pub read_thread : NameLists → List ℕ → Result ThreadNo ScriptKind
read_thread names field = used names field >>= as_thread

abbrev pub as_apc : Named → Result ApcNo ScriptKind
as_apc (named.Apc x) = Ok x
as_apc _ = Err WrongKind

abbrev pub read_apc : NameLists → List ℕ → Result ApcNo ScriptKind
read_apc names field = used names field >>= as_apc

abbrev pub as_lock : Named → Result LockNo ScriptKind
as_lock (named.Lock x) = Ok x
as_lock _ = Err WrongKind

abbrev pub read_lock : NameLists → List ℕ → Result LockNo ScriptKind
read_lock names field = used names field >>= as_lock

abbrev pub as_routine : Named → Result RoutineNo ScriptKind
as_routine (named.Routine x) = Ok x
as_routine _ = Err WrongKind

abbrev pub read_routine : NameLists → List ℕ → Result RoutineNo ScriptKind
read_routine names field = used names field >>= as_routine

abbrev pub read_timer_dpc : NameLists → List ℕ → Result (Option DpcNo) ScriptKind
read_timer_dpc names field = read_unless dash (read_dpc names) field

abbrev pub read_rundown : NameLists → List ℕ → Result (Option RoutineNo) ScriptKind
read_rundown names field = read_unless dash (read_routine names) field

-- a name that no line before declares
abbrev pub new_name : NameLists → List ℕ → Result (List ℕ) ScriptKind
new_name names field = if is_name field then (if is_some (meaning field names) then Err NameTwice else Ok field)
    else Err BadName
