-- Reading a script line by line: what each line makes of what was read before it, or what is wrong with it.
-- The tests of a line come in the order in which the steps `>>=` stand.
use Rattle.std.specs.Prelude.{ℕ, ◌+◌, Bool, true, List, [], ◌∷◌, ◌++◌, length, Option, Some, None, Result, Ok, Err}
use Rattle.std.specs.Prelude.{nat_le, nat_lt, ◌==◌, is_none, if◌then◌else◌}
use Rattle.nt_text.specs.declared.kind.ScriptKind.{ScriptKind}
use Rattle.nt_text.specs.declared.kind.ScriptKind.TheVariants.{BadNumber, UnknownWord, MissingField, ExtraField}
use Rattle.nt_text.specs.declared.kind.ScriptKind.TheVariants.{NameTwice, TooMany, NoCpus, NoEnd}
use Rattle.nt_text.specs.declared.kind.What10.TheVariants as what
use Rattle.nt_text.specs.Lines.{first, rest, row_of, lines, fields}
use Rattle.nt_text.specs.Fields.{is_name}
use Rattle.nt_event.specs.declared.limits.TheConstants.{APCS, COMMANDS, DEPTH, DPCS, LOCKS, ROUTINES, THREADS, TIMERS}
use Rattle.nt_event.specs.declared.commands.Command.{Command}
use Rattle.nt_event.specs.declared.scripts.Isr.{Isr}
use Rattle.nt_event.specs.declared.scripts.DpcDecl.{DpcDecl}
use Rattle.nt_event.specs.declared.scripts.TimerDecl.{TimerDecl}
use Rattle.nt_event.specs.declared.scripts.ThreadDecl.{ThreadDecl}
use Rattle.nt_event.specs.declared.scripts.ApcDecl.{ApcDecl}
use Rattle.nt_event.specs.Script.{isr_of as isr_routine}
use Rattle.nt_line.specs.declared.names.Kind.{Kind}
use Rattle.nt_line.specs.declared.names.Kind.TheVariants as kind
use Rattle.nt_line.specs.declared.keywords.Keyword.{Keyword}
use Rattle.nt_line.specs.declared.keywords.Keyword.TheVariants as keyword
use Rattle.nt_line.specs.declared.keywords.Place.{Place}
use Rattle.nt_line.specs.declared.keywords.Place.TheVariants.{Start, HasVersion, HasCpus, HasDepth, HasThreaded, InIsrs}
use Rattle.nt_line.specs.declared.keywords.Place.TheVariants.{InDpcs, InTimers, InThreads, InApcs, InLocks, InRoutines}
use Rattle.nt_line.specs.declared.keywords.Place.TheVariants.{InRoutine}
use Rattle.nt_script.specs.declared.walk.Walk.{Walk}
use Rattle.nt_script.specs.declared.walk.Input.{Input}
use Rattle.nt_line.specs.NameLists.{NameLists, no_names, declared, with_name}
use Rattle.nt_line.specs.Keywords.{keyword_of, arity, stands, declaring}
use Rattle.nt_line.specs.Results.{◌>>=◌, ok_if}
use Rattle.nt_line.specs.Fields.{read_number, read_on_off, new_name}
use Rattle.nt_line.specs.Declarations.{isr_of, dpc_of, timer_of, thread_of, apc_of}
use Rattle.nt_line.specs.Commands.{command_of}
use Rattle.nt_script.specs.Versions.{version_of, most_cpus}

-- ---- the names that a text declares, wherever they stand

abbrev pub declared_by : Option Kind → List ℕ → NameLists → NameLists
declared_by (Some kind) name names = if is_name name then declared kind name names else names
declared_by None name names = names

abbrev pub declaring_keyword : Option Keyword → Option Kind
declaring_keyword (Some keyword) = declaring keyword
declaring_keyword None = None

-- the names after a line of a text of this version: its first field is a declaring keyword, its second one is a name
abbrev pub names_after : ℕ → NameLists → List (List ℕ) → NameLists
names_after version names row =
    declared_by (declaring_keyword (keyword_of version (first row))) (first (rest row)) names

abbrev pub names_from : ℕ → NameLists → List (List ℕ × Bool) → NameLists
names_from version names [] = names
names_from version names (line ∷ more) = names_from version (names_after version names (fields line.0)) more

-- ---- what a line changes

-- the place before all lines: a text of version 1 has no line `version`
abbrev pub first_place : ℕ → Place
first_place version = if nat_le 2 version then Start else HasVersion

-- nothing was read of a text of this version
abbrev pub start : ℕ → Walk
start version = record {
  version = version;
  script = record {
    cpus = 1;
    depth = None;
    threaded = None;
    isrs = [];
    dpcs = [];
    timers = [];
    threads = [];
    apcs = [];
    routines = [];
    locks = 0;
  };
  names = no_names;
  body = [];
  commands = 0;
  place = first_place version;
}

abbrev pub with_version : Walk → Walk
with_version w = record w { place = HasVersion }

abbrev pub with_cpus : Walk → ℕ → Walk
with_cpus w n = record w { script = record (w.script) { cpus = n }; place = HasCpus }

abbrev pub with_depth : Walk → ℕ → Walk
with_depth w n = record w { script = record (w.script) { depth = Some n }; place = HasDepth }

abbrev pub with_threaded : Walk → Bool → Walk
with_threaded w on = record w { script = record (w.script) { threaded = Some on }; place = HasThreaded }

abbrev pub with_isr : Walk → Isr → Walk
with_isr w isr = record w { script = record (w.script) { isrs = w.script.isrs ++ isr ∷ [] }; place = InIsrs }

abbrev pub with_dpc : Walk → List ℕ → DpcDecl → Walk
with_dpc w name x = record w {
  script = record (w.script) { dpcs = w.script.dpcs ++ x ∷ [] };
  names = with_name kind.Dpc name w.names;
  place = InDpcs;
}

abbrev pub with_timer : Walk → List ℕ → TimerDecl → Walk
with_timer w name x = record w {
  script = record (w.script) { timers = w.script.timers ++ x ∷ [] };
  names = with_name kind.Timer name w.names;
  place = InTimers;
}

abbrev pub with_thread : Walk → List ℕ → ThreadDecl → Walk
with_thread w name x = record w {
  script = record (w.script) { threads = w.script.threads ++ x ∷ [] };
  names = with_name kind.Thread name w.names;
  place = InThreads;
}

abbrev pub with_apc : Walk → List ℕ → ApcDecl → Walk
with_apc w name x = record w {
  script = record (w.script) { apcs = w.script.apcs ++ x ∷ [] };
  names = with_name kind.Apc name w.names;
  place = InApcs;
}

abbrev pub with_lock : Walk → List ℕ → Walk
with_lock w name = record w {
  script = record (w.script) { locks = w.script.locks + 1 };
  names = with_name kind.Lock name w.names;
  place = InLocks;
}

abbrev pub with_routine : Walk → List ℕ → Walk
with_routine w name = record w { names = with_name kind.Routine name w.names; place = InRoutine }

abbrev pub with_exit : Walk → Walk
with_exit w = record w {
  script = record (w.script) {
    routines = w.script.routines
        ++ record { commands = w.body } ∷ [];
  };
  body = [];
  place = InRoutines;
}

abbrev pub with_command : Walk → Command → Walk
with_command w c = record w { body = w.body ++ c ∷ []; commands = w.commands + 1 }

-- ---- one line

-- what is wrong with a line whose keyword may not stand at this place
abbrev pub misplaced : Place → ScriptKind
misplaced Start = NoCpus
misplaced HasVersion = NoCpus
misplaced HasCpus = UnknownWord
misplaced HasDepth = UnknownWord
misplaced HasThreaded = UnknownWord
misplaced InIsrs = UnknownWord
misplaced InDpcs = UnknownWord
misplaced InTimers = UnknownWord
misplaced InThreads = UnknownWord
misplaced InApcs = UnknownWord
misplaced InLocks = UnknownWord
misplaced InRoutines = UnknownWord
misplaced InRoutine = UnknownWord

-- the keyword of the line at this place
abbrev pub keyword_at : Place → Option Keyword → Result Keyword ScriptKind
keyword_at place (Some keyword) = ok_if (stands place keyword) keyword (misplaced place)
keyword_at place None = Err (misplaced place)

abbrev pub counted : ℕ → ℕ → Result Bool ScriptKind
counted there wanted = if nat_lt there wanted then Err MissingField
    else (if nat_lt wanted there then Err ExtraField else Ok true)

-- a processor count of 0 is no number of this field, and one above the version's limit is too many
abbrev pub put_cpus : Walk → ℕ → Result Walk ScriptKind
put_cpus w n = if n == 0 then Err BadNumber
    else (if nat_lt (most_cpus w.version) n then Err (TooMany what.Cpus) else Ok (with_cpus w n))

-- a new name, then the fields behind it
abbrev pub declaration : {A : Type 0} → NameLists → (List (List ℕ) → Result A ScriptKind) →
    (List ℕ → A → Result Walk ScriptKind) → List (List ℕ) → Result Walk ScriptKind
declaration names read put args = new_name names (first args) >>= λ name. read (rest args) >>= λ x. put name x

-- what a line makes of what was read before it; all names of the text are known
abbrev pub act : NameLists → Walk → Keyword → List (List ℕ) → Result Walk ScriptKind
act all w keyword.Version args = read_number 4294967295 (first args) >>= λ n. ok_if (n == 2) (with_version w) BadNumber
act all w keyword.Cpus args = read_number 4294967295 (first args) >>= put_cpus w
act all w keyword.Depth args = read_number DEPTH (first args) >>= λ n. Ok (with_depth w n)
act all w keyword.Threaded args = read_on_off (first args) >>= λ on. Ok (with_threaded w on)
act all w keyword.Isr args = isr_of all w.script.cpus args >>= λ isr. ok_if
    (is_none (isr_routine w.script.isrs isr.cpu isr.level)) (with_isr w isr) NameTwice
act all w (keyword.Dpc threaded) args = declaration w.names (dpc_of all threaded)
    (λ name x. ok_if (nat_lt (length w.script.dpcs) DPCS) (with_dpc w name x) (TooMany what.Dpcs)) args
act all w keyword.Timer args = declaration w.names (timer_of all)
    (λ name x. ok_if (nat_lt (length w.script.timers) TIMERS) (with_timer w name x) (TooMany what.Timers)) args
act all w keyword.Thread args = declaration w.names (thread_of all w.script.cpus)
    (λ name x. ok_if (nat_lt (length w.script.threads) THREADS) (with_thread w name x) (TooMany what.Threads)) args
act all w (keyword.Apc k) args = declaration w.names (apc_of all k)
    (λ name x. ok_if (nat_lt (length w.script.apcs) APCS) (with_apc w name x) (TooMany what.Apcs)) args
act all w keyword.Spinlock args = new_name w.names (first args) >>= λ name. ok_if
    (nat_lt w.script.locks LOCKS) (with_lock w name) (TooMany what.Spinlocks)
act all w keyword.Routine args = new_name w.names (first args) >>= λ name. ok_if
    (nat_lt (length w.script.routines) ROUTINES) (with_routine w name) (TooMany what.Routines)
act all w keyword.Exit args = Ok (with_exit w)
act all w (keyword.Call verb) args = command_of all w.script.cpus verb args >>= λ c. ok_if (nat_lt w.commands COMMANDS)
    (with_command w c) (TooMany what.Commands)

abbrev pub step : NameLists → Walk → List (List ℕ) → Result Walk ScriptKind
step all w row = keyword_at w.place (keyword_of w.version (first row)) >>= λ keyword. counted (length (rest row))
    (arity keyword) >>= λ _. act all w keyword (rest row)

-- the fields of a line, or what is wrong with it
abbrev pub row_step : NameLists → Walk → Result (List (List ℕ)) ScriptKind → Result Walk ScriptKind
row_step all w row = row >>= step all w

-- a line with its end, or without
abbrev pub line_step : NameLists → Walk → List ℕ × Bool → Result Walk ScriptKind
line_step all w line = row_step all w (row_of line)

-- ---- all lines

-- what was read
abbrev pub input_of : Walk → Input
input_of w = record { version = w.version; script = w.script; names = w.names }

-- what was read, where the text may end here; else the line behind the last is bad
abbrev pub finish : Place → Walk → ℕ → Result Input (ℕ × ScriptKind)
finish Start w n = Err (n, NoCpus)
finish HasVersion w n = Err (n, NoCpus)
finish InRoutine w n = Err (n, NoEnd)
finish HasCpus w n = Ok (input_of w)
finish HasDepth w n = Ok (input_of w)
finish HasThreaded w n = Ok (input_of w)
finish InIsrs w n = Ok (input_of w)
finish InDpcs w n = Ok (input_of w)
finish InTimers w n = Ok (input_of w)
finish InThreads w n = Ok (input_of w)
finish InApcs w n = Ok (input_of w)
finish InLocks w n = Ok (input_of w)
finish InRoutines w n = Ok (input_of w)

-- the reading goes on behind the line n, or that line is refused
abbrev pub go_on : {W A : Type 0} → ℕ → Result W ScriptKind → (W → Result A (ℕ × ScriptKind)) →
    Result A (ℕ × ScriptKind)
go_on n (Ok w) more = more w
go_on n (Err kind) more = Err (n, kind)

abbrev pub walk : NameLists → Walk → ℕ → List (List ℕ × Bool) → Result Input (ℕ × ScriptKind)
walk all w n [] = finish w.place w n
walk all w n (line ∷ more) = go_on n (line_step all w line) (λ new. walk all new (n + 1) more)

-- what the lines of a text of this version are
abbrev pub reading_by : ℕ → List (List ℕ × Bool) → Result Input (ℕ × ScriptKind)
reading_by version ls = walk (names_from version no_names ls) (start version) 1 ls

-- what the bytes are: an input, or the first bad line and what is wrong with it
abbrev pub reading : List ℕ → Result Input (ℕ × ScriptKind)
reading bytes = reading_by (version_of (lines bytes)) (lines bytes)
