-- All fields of the lines of an input are plain: they have letters of lower case, digits, `_` and `-`.
use Rattle.std.proofs.Common.{◌≡◌, ℕ, ◌<◌, ◌≤◌, Bool, true, false, cond, List, [], ◌∷◌, ◌++◌, length, map, get_or, Option, Some, None, refl, arith}
use Rattle.std.proofs.Common.{◌^◌, rules}
use Rattle.std.specs.Prelude.{◌&&◌, ◌||◌, not, ◌==◌, nat_le, decimal, IfSome}
use Rattle.std.specs.Str.{all_ascii_digits}
use Rattle.std.proofs.lemmas.Str.Parse.{IsNumeralModel, numerals_by_fold}
use Rattle.std.proofs.lemmas.Fmt.{decimal_nonempty, digits_decimal}
use Rattle.nt_text.proofs.Decimals.{read_on}
use Rattle.nt_friendly.specs.Fields.{is_filled}
use Rattle.nt_friendly.proofs.Bytes.{filled_cons, weaker}
use Rattle.std.specs.Char.{is_ascii_digit, is_ascii_lowercase}
use Rattle.std.specs.List.{AllByRecursion, list_all}
use Rattle.std.proofs.lemmas.Bool.{and_parts, and_from}
use Rattle.nt_text.specs.Fields.{is_name_byte, is_name}
use Rattle.nt_event.specs.declared.numbers.CpuNo.{CpuNo}
use Rattle.nt_event.specs.declared.numbers.DpcNo.{DpcNo}
use Rattle.nt_event.specs.declared.numbers.RoutineNo.{RoutineNo}
use Rattle.nt_event.specs.declared.commands.ApcKind.{ApcKind}
use Rattle.nt_event.specs.declared.commands.ApcKind.TheVariants.{Special, Normal, User}
use Rattle.nt_event.specs.declared.commands.Importance.{Importance}
use Rattle.nt_event.specs.declared.commands.Importance.TheVariants.{Low, Medium, MediumHigh, High}
use Rattle.nt_event.specs.declared.commands.Mode.{Mode}
use Rattle.nt_event.specs.declared.commands.Mode.TheVariants.{Kernel, User as UserMode}
use Rattle.nt_event.specs.declared.commands.Command.{Command}
use Rattle.nt_event.specs.declared.commands.Command.TheVariants as cmd
use Rattle.nt_event.specs.declared.scripts.Routine.{Routine}
use Rattle.nt_event.specs.declared.scripts.Isr.{Isr}
use Rattle.nt_event.specs.declared.scripts.TimerDecl.{TimerDecl}
use Rattle.nt_event.specs.declared.scripts.ThreadDecl.{ThreadDecl}
use Rattle.nt_event.specs.declared.scripts.ApcDecl.{ApcDecl}
use Rattle.nt_script.specs.declared.walk.Input.{Input}
use Rattle.nt_line.specs.NameLists.{NameLists, show_dpc, show_routine}
use Rattle.nt_line.specs.Fields.{dash, importance_text, mode_text, alertable_text, on_off_text}
use Rattle.nt_line.specs.Fits.{IsrFits, DpcFits, TimerFits, ThreadFits, ApcFits, CommandFits}
use Rattle.nt_text.specs.Lines.{Row}
use Rattle.nt_line.specs.Rows.{show_cpu, show_unless, show_target, depth_rows, threaded_rows, isr_row, dpc_row, timer_row, thread_row, normal_args}
use Rattle.nt_line.specs.Rows.{rundown_args, apc_row, lock_row, number_row, command_row}
use Rattle.nt_script.specs.Text.{version_rows, header_rows, declared_rows, begun_rows, exit_row, routine_rows, input_rows}
use Rattle.nt_line.specs.NameLists.{AreNew}
use Rattle.nt_line.specs.declared.keywords.Keyword.TheVariants as keyword
use Rattle.nt_line.proofs.Found.{NamesFit, is_new}
use Rattle.nt_script.proofs.Fit.{Fit}

-- ---- fields

-- a byte of the texts that are printed
abbrev pub is_plain_byte : ℕ → Bool
is_plain_byte c = is_name_byte c || c == 45

abbrev pub is_plain : List ℕ → Bool
is_plain f = is_filled f && list_all is_plain_byte f

-- a row of at least one field, each of them plain
abbrev pub IsPlainRow : Row → Type 0
IsPlainRow [] = ⊥
IsPlainRow (f ∷ []) = (is_plain f ≡ true) × Unit {0}
IsPlainRow (f ∷ g ∷ fs) = (is_plain f ≡ true) × IsPlainRow (g ∷ fs)

abbrev pub AllPlainRows : List Row → Type 0
AllPlainRows [] = Unit {0}
AllPlainRows (row ∷ rows) = IsPlainRow row × AllPlainRows rows

-- one of two is enough
either : (x y : Bool) → x ≡ true → (x || y) ≡ true
either true y e = refl
either false y e = absurd cc

-- the bytes of a name are plain
name_bytes : (bs : List ℕ) → list_all is_name_byte bs ≡ true → list_all is_plain_byte bs ≡ true
name_bytes bs e = weaker is_name_byte is_plain_byte (λ c h. either (is_name_byte c) (c == 45) h) bs e

-- a name is a plain field
name_field : (f : List ℕ) → is_name f ≡ true → is_plain f ≡ true
name_field f e =
    let both = and_parts (not (length f == 0) && nat_le (length f) 16) (list_all is_name_byte f) e in
    and_from (is_filled f) (list_all is_plain_byte f) (and_parts (not (length f == 0)) (nat_le (length f) 16) both.0).0 (name_bytes f both.1)

-- a digit is a byte of a name
digit_byte : (c : ℕ) → is_ascii_digit c ≡ true → is_plain_byte c ≡ true
digit_byte c e = go (is_ascii_lowercase c) (is_ascii_digit c) (c == 95) (c == 45) e
  where
    go : (a b d g : Bool) → b ≡ true → ((a || b || d) || g) ≡ true
    go true b d g h = refl
    go false true d g h = refl
    go false false d g h = absurd cc

-- decimal digits, with their value read from the left, are numerals
pub own : IsNumeralModel (λ ds. all_ascii_digits ds ≡ true) (read_on 0)
own = numerals_by_fold _ (search rules) read_on (search rules)

-- bytes that are all digits are plain
digits_plain : (ds : List ℕ) → all_ascii_digits ds ≡ true → list_all is_plain_byte ds ≡ true
digits_plain [] e = refl
digits_plain (c ∷ cs) e = let p = and_parts (is_ascii_digit c) (all_ascii_digits cs) e in
    and_from (is_plain_byte c) (list_all is_plain_byte cs) (digit_byte c p.0) (digits_plain cs p.1)

-- the decimal digits of a number are a plain field
pub decimal_field : (n : ℕ) → n < 2 ^ 64 → is_plain (decimal n) ≡ true
decimal_field n lt = and_from (is_filled (decimal n)) (list_all is_plain_byte (decimal n)) (filled (decimal n) (decimal_nonempty n lt))
    (digits_plain (decimal n) (digits_decimal own n lt))
  where
    filled : (f : List ℕ) → 0 < length f → is_filled f ≡ true
    filled [] h = absurd (omega (arith, h))
    filled (b ∷ bs) h = filled_cons b bs

-- two joined lists of plain rows are one list of plain rows
rows_both : (a b : List Row) → AllPlainRows a → AllPlainRows b → AllPlainRows (a ++ b)
rows_both [] b p q = q
rows_both (r ∷ a) b p q = (p.0, rows_both a b p.1 q)

-- the name of each DPC object is plain
pub dpc_field : (names : NameLists) (fit : NamesFit names) (i : ℕ) → i < length names.dpcs → is_plain (get_or names.dpcs i []) ≡ true
dpc_field names fit i lt = name_field (get_or names.dpcs i []) (is_new [] names.dpcs i fit.dpcs lt).0

-- the name of each timer is plain
pub timer_field : (names : NameLists) (fit : NamesFit names) (i : ℕ) → i < length names.timers → is_plain (get_or names.timers i []) ≡ true
timer_field names fit i lt = name_field (get_or names.timers i []) (is_new names.dpcs names.timers i fit.timers lt).0

-- the name of each thread is plain
pub thread_field : (names : NameLists) (fit : NamesFit names) (i : ℕ) → i < length names.threads → is_plain (get_or names.threads i []) ≡ true
thread_field names fit i lt = name_field (get_or names.threads i []) (is_new (names.dpcs ++ names.timers) names.threads i fit.threads lt).0

-- the name of each APC object is plain
pub apc_field : (names : NameLists) (fit : NamesFit names) (i : ℕ) → i < length names.apcs → is_plain (get_or names.apcs i []) ≡ true
apc_field names fit i lt = name_field (get_or names.apcs i []) (is_new ((names.dpcs ++ names.timers) ++ names.threads) names.apcs i fit.apcs lt).0

-- the name of a lock is plain
pub lock_field : (names : NameLists) (fit : NamesFit names) (i : ℕ) → i < length names.locks → is_plain (get_or names.locks i []) ≡ true
lock_field names fit i lt = name_field (get_or names.locks i [])
    (is_new (((names.dpcs ++ names.timers) ++ names.threads) ++ names.apcs) names.locks i fit.locks lt).0

-- the name of a routine is plain
routine_field : (names : NameLists) (fit : NamesFit names) (i : ℕ) → i < length names.routines → is_plain (get_or names.routines i []) ≡ true
routine_field names fit i lt = name_field (get_or names.routines i [])
    (is_new ((((names.dpcs ++ names.timers) ++ names.threads) ++ names.apcs) ++ names.locks) names.routines i fit.routines lt).0

-- a processor of at most 64 is shown as a plain field
pub cpu_field : (p : CpuNo) (cpus : ℕ) → cpus ≤ 64 → p.0 < cpus → is_plain (show_cpu p) ≡ true
cpu_field p cpus few lt = decimal_field p.0 (omega arith)

-- the target processor of a thing, or its absence, is shown as a plain field
target_field : (o : Option CpuNo) (cpus : ℕ) → cpus ≤ 64 → IfSome o (λ p. p.0 < cpus) → is_plain (show_target o) ≡ true
target_field None cpus few h = refl
target_field (Some p) cpus few h = cpu_field p cpus few h

-- the DPC of a timer, or its absence, is shown as a plain field
timer_dpc_field : (names : NameLists) (fit : NamesFit names) (o : Option DpcNo) → IfSome o (λ d. d.0 < length names.dpcs) →
    is_plain (show_unless dash (show_dpc names) o) ≡ true
timer_dpc_field names fit None h = refl
timer_dpc_field names fit (Some d) h = dpc_field names fit d.0 h

-- the rundown routine of an APC, or its absence, is shown as a plain field
rundown_field : (names : NameLists) (fit : NamesFit names) (o : Option RoutineNo) → IfSome o (λ r. r.0 < length names.routines) →
    is_plain (show_unless dash (show_routine names) o) ≡ true
rundown_field names fit None h = refl
rundown_field names fit (Some r) h = routine_field names fit r.0 h

-- the text of an importance is plain
importance_field : (i : Importance) → is_plain (importance_text i) ≡ true
importance_field Low = refl
importance_field Medium = refl
importance_field MediumHigh = refl
importance_field High = refl

-- the text of a mode is plain
mode_field : (m : Mode) → is_plain (mode_text m) ≡ true
mode_field Kernel = refl
mode_field UserMode = refl

-- the text that says if a wait is alertable is plain
alertable_field : (m : Bool) → is_plain (alertable_text m) ≡ true
alertable_field true = refl
alertable_field false = refl

-- the text for on or off is plain
on_off_field : (m : Bool) → is_plain (on_off_text m) ≡ true
on_off_field true = refl
on_off_field false = refl

-- ---- lines

-- the row of a command that fits is a plain row
pub command_clean : (names : NameLists) (fit : NamesFit names) (cpus : ℕ) → cpus ≤ 64 → (c : Command) → CommandFits names cpus c →
    IsPlainRow (command_row names c)
command_clean names fit cpus few (cmd.Raise level) h = (refl, (decimal_field level (omega (arith, h)), tt))
command_clean names fit cpus few (cmd.Lower level) h = (refl, (decimal_field level (omega (arith, h)), tt))
command_clean names fit cpus few (cmd.Queue d) h = (refl, (dpc_field names fit d.0 h, tt))
command_clean names fit cpus few (cmd.Unqueue d) h = (refl, (dpc_field names fit d.0 h, tt))
command_clean names fit cpus few (cmd.SetImportance d importance) h = (refl, (dpc_field names fit d.0 h.0, (importance_field importance, tt)))
command_clean names fit cpus few (cmd.SetTarget d target) h = (refl, (dpc_field names fit d.0 h.0, (target_field target cpus few h.1, tt)))
command_clean names fit cpus few (cmd.SetTimer t due period) h =
    (refl, (timer_field names fit t.0 h.0, (decimal_field due (omega (arith, h.1)), (decimal_field period (omega (arith, h.2)), tt))))
command_clean names fit cpus few (cmd.CancelTimer t) h = (refl, (timer_field names fit t.0 h, tt))
command_clean names fit cpus few (cmd.InsertApc a) h = (refl, (apc_field names fit a.0 h, tt))
command_clean names fit cpus few (cmd.RemoveApc a) h = (refl, (apc_field names fit a.0 h, tt))
command_clean names fit cpus few cmd.EnterCrit h = (refl, tt)
command_clean names fit cpus few cmd.EnterGuard h = (refl, tt)
command_clean names fit cpus few cmd.LeaveCrit h = (refl, tt)
command_clean names fit cpus few cmd.LeaveGuard h = (refl, tt)
command_clean names fit cpus few (cmd.StartWait mode alertable) h = (refl, (mode_field mode, (alertable_field alertable, tt)))
command_clean names fit cpus few (cmd.Delay mode alertable units) h =
    (refl, (mode_field mode, (alertable_field alertable, (decimal_field units (omega (arith, h.2)), tt))))
command_clean names fit cpus few (cmd.Release t) h = (refl, (thread_field names fit t.0 h, tt))
command_clean names fit cpus few (cmd.Alert t mode) h = (refl, (thread_field names fit t.0 h.0, (mode_field mode, tt)))
command_clean names fit cpus few (cmd.TestAlert mode) h = (refl, (mode_field mode, tt))
command_clean names fit cpus few (cmd.Interrupt cpu level) h = (refl, (cpu_field cpu cpus few h.0, (decimal_field level (omega (arith, h.1.0)), tt)))
command_clean names fit cpus few (cmd.Clock units) h = (refl, (decimal_field units (omega (arith, h)), tt))
command_clean names fit cpus few cmd.ToUser h = (refl, tt)
command_clean names fit cpus few cmd.Yield h = (refl, tt)
command_clean names fit cpus few (cmd.Acquire k) h = (refl, (lock_field names fit k.0 h, tt))
command_clean names fit cpus few (cmd.Unlock k) h = (refl, (lock_field names fit k.0 h, tt))
command_clean names fit cpus few (cmd.Note number) h = (refl, (decimal_field number (omega (arith, h)), tt))

-- the row of an interrupt routine that fits is a plain row
isr_clean : (names : NameLists) (fit : NamesFit names) (cpus : ℕ) → cpus ≤ 64 → (x : Isr) → IsrFits names cpus x → IsPlainRow (isr_row names x)
isr_clean names fit cpus few x h = (
  refl,
  (
    cpu_field x.cpu cpus few h.0,
    (decimal_field x.level (omega (arith, h.1)), (routine_field names fit x.routine.0 h.3, tt)),
  ),
)

-- the row of a DPC with a name is a plain row
dpc_clean : (names : NameLists) (fit : NamesFit names) (threaded : Bool) (r : RoutineNo) (n : List ℕ) → is_name n ≡ true → r.0 < length names.routines →
    IsPlainRow (dpc_row names n (record { threaded = threaded; routine = r }))
dpc_clean names fit true r n named h = (refl, (name_field n named, (routine_field names fit r.0 h, tt)))
dpc_clean names fit false r n named h = (refl, (name_field n named, (routine_field names fit r.0 h, tt)))

-- the row of a timer with a name that fits is a plain row
timer_clean : (names : NameLists) (fit : NamesFit names) (x : TimerDecl) (n : List ℕ) → is_name n ≡ true → TimerFits names x → IsPlainRow (timer_row names n x)
timer_clean names fit x n named h = (refl, (name_field n named, (timer_dpc_field names fit x.dpc h, tt)))

-- the row of a thread with a name that fits is a plain row
thread_clean : (names : NameLists) (fit : NamesFit names) (cpus : ℕ) → cpus ≤ 64 → (x : ThreadDecl) (n : List ℕ) → is_name n ≡ true → ThreadFits names cpus x →
    IsPlainRow (thread_row names n x)
thread_clean names fit cpus few x n named h = (refl, (name_field n named, (cpu_field x.cpu cpus few h.0, (routine_field names fit x.routine.0 h.1, tt))))

-- a field with an APC's normal and rundown routines after it is a plain row
apc_tail_clean : (names : NameLists) (fit : NamesFit names) (f : List ℕ) (k : ApcKind) (n d : Option RoutineNo) → is_plain f ≡ true →
    IfSome n (λ r. r.0 < length names.routines) → IfSome d (λ r. r.0 < length names.routines) → IsPlainRow (f ∷ (normal_args names n ++ rundown_args names k d))
apc_tail_clean names fit f Special None d e h g = (e, tt)
apc_tail_clean names fit f Special (Some n) d e h g = (e, (routine_field names fit n.0 h, tt))
apc_tail_clean names fit f Normal None d e h g = (e, tt)
apc_tail_clean names fit f Normal (Some n) d e h g = (e, (routine_field names fit n.0 h, tt))
apc_tail_clean names fit f User None d e h g = (e, (rundown_field names fit d g, tt))
apc_tail_clean names fit f User (Some n) d e h g = (e, (routine_field names fit n.0 h, (rundown_field names fit d g, tt)))

-- the row of an APC of a given kind with a name that fits is a plain row
apc_clean : (names : NameLists) (fit : NamesFit names) (k : ApcKind) (x : ApcDecl) (n : List ℕ) → x.kind ≡ k → is_name n ≡ true → ApcFits names x →
    IsPlainRow (apc_row names n x)
apc_clean names fit Special x n e named h = rw e (
  refl,
  (
    name_field n named,
    (
      thread_field names fit x.thread.0 h.thread,
      apc_tail_clean names fit (show_routine names x.kernel) Special x.normal x.rundown
          (routine_field names fit x.kernel.0 h.kernel) h.normal h.rundown,
    ),
  ),
)
apc_clean names fit Normal x n e named h = rw e (
  refl,
  (
    name_field n named,
    (
      thread_field names fit x.thread.0 h.thread,
      apc_tail_clean names fit (show_routine names x.kernel) Normal x.normal x.rundown
          (routine_field names fit x.kernel.0 h.kernel) h.normal h.rundown,
    ),
  ),
)
apc_clean names fit User x n e named h = rw e (
  refl,
  (
    name_field n named,
    (
      thread_field names fit x.thread.0 h.thread,
      apc_tail_clean names fit (show_routine names x.kernel) User x.normal x.rundown
          (routine_field names fit x.kernel.0 h.kernel) h.normal h.rundown,
    ),
  ),
)

-- ---- parts

-- if each thing that fits has a plain row, so have all things of a list
all_clean : {A : Type 0} (row : A → Row) (Fits : A → Type 0) → ((x : A) → Fits x → IsPlainRow (row x)) → (xs : List A) → AllByRecursion Fits xs →
    AllPlainRows (map row xs)
all_clean row Fits clean [] h = tt
all_clean row Fits clean (x ∷ xs) h = (clean x h.0, all_clean row Fits clean xs h.1)

-- if each thing with a name has a plain row, so have all things of a list with new names
declared_clean : {A : Type 0} (row : List ℕ → A → Row) (Fits : A → Type 0) → ((x : A) (n : List ℕ) → is_name n ≡ true → Fits x → IsPlainRow (row n x)) →
    (before ns : List (List ℕ)) (xs : List A) → AreNew before ns → AllByRecursion Fits xs → AllPlainRows (declared_rows row ns xs)
declared_clean row Fits clean before [] xs new h = tt
declared_clean row Fits clean before (n ∷ ns) [] new h = tt
declared_clean row Fits clean before (n ∷ ns) (x ∷ xs) new h = (clean x n new.0 h.0, declared_clean row Fits clean (before ++ n ∷ []) ns xs new.2 h.1)

-- the rows of routines with new names and commands that fit are plain rows
routines_clean : (names : NameLists) (fit : NamesFit names) (cpus : ℕ) → cpus ≤ 64 → (before ns : List (List ℕ)) (rs : List Routine) → AreNew before ns →
    AllByRecursion (λ r. AllByRecursion (CommandFits names cpus) r.commands) rs → AllPlainRows (routine_rows names ns rs)
routines_clean names fit cpus few before [] rs new h = tt
routines_clean names fit cpus few before (n ∷ ns) [] new h = tt
routines_clean names fit cpus few before (n ∷ ns) (r ∷ rs) new h =
    let commands = all_clean (command_row names) (CommandFits names cpus) (command_clean names fit cpus few) r.commands h.0 in
    rows_both (begun_rows names n r.commands ++ exit_row ∷ []) (routine_rows names ns rs)
    (rows_both (begun_rows names n r.commands) (exit_row ∷ []) ((refl, (name_field n new.0, tt)), commands) ((refl, tt), tt))
    (routines_clean names fit cpus few (before ++ n ∷ []) ns rs new.2 h.1)

-- the rows of locks with new names are plain rows
locks_clean : (before ns : List (List ℕ)) → AreNew before ns → AllPlainRows (map lock_row ns)
locks_clean before [] new = tt
locks_clean before (n ∷ ns) new = ((refl, (name_field n new.0, tt)), locks_clean (before ++ n ∷ []) ns new.2)

-- the version line, if it is written, is a plain row
version_clean : (v : ℕ) → v ≤ 2 → AllPlainRows (version_rows v)
version_clean v le = go (nat_le 2 v)
  where
    go : (b : Bool) → AllPlainRows (cond b (number_row keyword.Version v ∷ []) [])
    go true = ((refl, (decimal_field v (omega (arith, le)), tt)), tt)
    go false = tt

-- the depth line, if it is written, is a plain row
depth_clean : (o : Option ℕ) → IfSome o (λ n. n ≤ 256) → AllPlainRows (depth_rows o)
depth_clean None h = tt
depth_clean (Some n) h = ((refl, (decimal_field n (omega arith), tt)), tt)

-- the line on threaded DPCs, if it is written, is a plain row
threaded_clean : (o : Option Bool) → AllPlainRows (threaded_rows o)
threaded_clean None = tt
threaded_clean (Some on) = ((refl, (on_off_field on, tt)), tt)

-- if each of the eight parts of a text has plain rows, so has the whole
all_parts : (h i d t s a k o : List Row) → AllPlainRows h → AllPlainRows i → AllPlainRows d → AllPlainRows t → AllPlainRows s → AllPlainRows a →
    AllPlainRows k → AllPlainRows o →
    AllPlainRows (h ++ (i ++ (d ++ (t ++ (s ++ (a ++ (k ++ o)))))))
all_parts h i d t s a k o ph pi pd pt ps pa pk po = rows_both h (i ++ (d ++ (t ++ (s ++ (a ++ (k ++ o)))))) ph
    (rows_both i (d ++ (t ++ (s ++ (a ++ (k ++ o))))) pi (rows_both d (t ++ (s ++ (a ++ (k ++ o)))) pd
    (rows_both t (s ++ (a ++ (k ++ o))) pt (rows_both s (a ++ (k ++ o)) ps (rows_both a (k ++ o) pa (rows_both k o pk po))))))

-- all rows of an input that fits are plain rows
pub input_clean : (input : Input) → Fit input → AllPlainRows (input_rows input)
input_clean input s =
    let names = input.names in
    let script = input.script in
    let few = s.cpus.1 in
    let cpus_row = number_row keyword.Cpus script.cpus in
    let given = depth_rows script.depth ++ threaded_rows script.threaded in
    let counted : AllPlainRows (cpus_row ∷ given) = (
      (refl, (decimal_field script.cpus (omega (arith, few)), tt)),
      rows_both (depth_rows script.depth) (threaded_rows script.threaded) (depth_clean script.depth s.depth) (threaded_clean script.threaded),
    ) in
    let head : AllPlainRows (header_rows input.version script.cpus script.depth script.threaded) =
    rows_both (version_rows input.version) (cpus_row ∷ given) (version_clean input.version s.version.1) counted in
    let isrs = all_clean (isr_row names) (IsrFits names script.cpus) (isr_clean names s.names script.cpus few) script.isrs s.isrs in
    let dpcs = declared_clean (dpc_row names) (DpcFits names)
    (λ x n named h. dpc_clean names s.names x.threaded x.routine n named h) [] names.dpcs script.dpcs s.names.dpcs s.dpcs in
    let timers = declared_clean (timer_row names) (TimerFits names) (timer_clean names s.names) names.dpcs names.timers script.timers s.names.timers s.timers in
    let threads = declared_clean (thread_row names) (ThreadFits names script.cpus) (thread_clean names s.names script.cpus few)
    (names.dpcs ++ names.timers) names.threads script.threads s.names.threads s.threads in
    let apcs = declared_clean (apc_row names) (ApcFits names) (λ x n named h. apc_clean names s.names x.kind x n refl named h)
    ((names.dpcs ++ names.timers) ++ names.threads) names.apcs script.apcs s.names.apcs s.apcs in
    let locks = locks_clean (((names.dpcs ++ names.timers) ++ names.threads) ++ names.apcs) names.locks s.names.locks in
    let routines = routines_clean names s.names script.cpus few
    ((((names.dpcs ++ names.timers) ++ names.threads) ++ names.apcs) ++ names.locks) names.routines script.routines s.names.routines s.routines in
    all_parts (header_rows input.version script.cpus script.depth script.threaded) (map (isr_row names) script.isrs)
    (declared_rows (dpc_row names) names.dpcs script.dpcs)
    (declared_rows (timer_row names) names.timers script.timers) (declared_rows (thread_row names) names.threads script.threads)
    (declared_rows (apc_row names) names.apcs script.apcs) (map lock_row names.locks) (routine_rows names names.routines script.routines)
    head isrs dpcs timers threads apcs locks routines
