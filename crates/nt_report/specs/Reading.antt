-- Reading a report: each line by its form, then the history of the turns and the events, then the text of that history,
-- which has to be what was read. The tests of a line come in the order in which the steps `>>=` stand.
use Rattle.std.specs.Prelude.{ℕ, ◌+◌, Bool, false, ◌&&◌, List, [], ◌∷◌, ◌++◌, length, Option, Some, None, Result, Ok}
use Rattle.std.specs.Prelude.{Err, codes, nat_le, nat_lt, ◌==◌, if◌then◌else◌}
use Rattle.std.specs.Char.{is_ascii_digit}
use Rattle.std.specs.Str.{bytes_eq}
use Rattle.nt_text.specs.declared.kind.ScriptKind.{ScriptKind}
use Rattle.nt_text.specs.declared.kind.ScriptKind.TheVariants.{UnknownWord, WrongKind}
use Rattle.nt_text.specs.Lines.{Row, first, rest, lines, row_of}
use Rattle.nt_event.specs.declared.limits.TheConstants.{EVENTS}
use Rattle.nt_event.specs.declared.numbers.CpuNo.{CpuNo}
use Rattle.nt_event.specs.declared.numbers.LockNo.{LockNo}
use Rattle.nt_event.specs.declared.events.Event.{Event}
use Rattle.nt_event.specs.declared.events.History.{History}
use Rattle.nt_event.specs.declared.events.Rises.{Rises}
use Rattle.nt_event.specs.declared.events.Turn.{Turn}
use Rattle.nt_event.specs.declared.events.Turn.TheVariants.{Next, Look, Switch}
use Rattle.nt_event.specs.declared.events.What.TheVariants as what
use Rattle.nt_line.specs.declared.names.Named.{Named}
use Rattle.nt_line.specs.declared.names.Named.TheVariants as named
use Rattle.nt_line.specs.NameLists.{NameLists}
use Rattle.nt_line.specs.Results.{◌>>=◌, ok_if}
use Rattle.nt_line.specs.Fields.{read_apc, read_dpc, read_lock}
use Rattle.nt_script.specs.declared.walk.Input.{Input}
use Rattle.nt_script.specs.Reading.{counted, go_on}
use Rattle.nt_log.specs.declared.walk.ScheduleWalk.{ScheduleWalk}
use Rattle.nt_log.specs.Reading.{start as schedule_start, line_step as schedule_line, finish as schedule_finish}
use Rattle.nt_print.specs.Report.{report_text}
use Rattle.nt_report.specs.declared.events.EventLine.{EventLine}
use Rattle.nt_report.specs.declared.places.LineWord.{LineWord}
use Rattle.nt_report.specs.declared.places.LineWord.TheVariants as word
use Rattle.nt_report.specs.declared.places.ReportPlace.{ReportPlace}
use Rattle.nt_report.specs.declared.places.ReportPlace.TheVariants.{Start, InEvents, InCuts, InSpins, InWaits}
use Rattle.nt_report.specs.declared.places.ReportPlace.TheVariants.{InSchedule}
use Rattle.nt_report.specs.declared.walk.Parts.{Parts}
use Rattle.nt_report.specs.Walked.{Walked}
use Rattle.nt_report.specs.Fields.{one_field, read_event, read_processor, used}
use Rattle.nt_report.specs.Events.{event_line}

-- ---- which line it is

-- an event line begins with a digit
abbrev pub is_numbered : List ℕ → Bool
is_numbered [] = false
is_numbered (c ∷ cs) = is_ascii_digit c

abbrev pub line_word : List ℕ → Option LineWord
line_word field = if is_numbered field then Some word.Event
    else (if bytes_eq field (codes "report") then Some word.Report
    else (if bytes_eq field (codes "cut") then Some word.Cut
    else (if bytes_eq field (codes "spins") then Some word.Spins
    else (if bytes_eq field (codes "waits") then Some word.Waits
    else (if bytes_eq field (codes "schedule") then Some word.Schedule else None)))))

-- the order of the parts
abbrev pub order : ReportPlace → ℕ
order Start = 0
order InEvents = 1
order InCuts = 2
order InSpins = 3
order InWaits = 4
order InSchedule = 5

-- the first and the last place behind which such a line may stand
abbrev pub earliest : LineWord → ℕ
earliest word.Report = 0
earliest word.Event = 1
earliest word.Cut = 1
earliest word.Spins = 1
earliest word.Waits = 1
earliest word.Schedule = 1

abbrev pub latest : LineWord → ℕ
latest word.Report = 0
latest word.Event = 1
latest word.Cut = 2
latest word.Spins = 3
latest word.Waits = 4
latest word.Schedule = 4

abbrev pub stands : ReportPlace → LineWord → Bool
stands place word = nat_le (earliest word) (order place) && nat_le (order place) (latest word)

-- the word of the line at this place
abbrev pub word_at : ReportPlace → Option LineWord → Result LineWord ScriptKind
word_at place (Some word) = ok_if (stands place word) word UnknownWord
word_at place None = Err UnknownWord

-- ---- what a line changes

-- nothing was read
abbrev pub start : Walked
start = record { place = Start; lines = []; schedule = schedule_start }

abbrev pub with_place : Walked → ReportPlace → Walked
with_place w place = record w { place = place }

-- the event lines that are kept: a schedule has no more turns than this, so none behind them is ever taken
abbrev pub kept : List EventLine → EventLine → List EventLine
kept lines line = if nat_lt (length lines) EVENTS then lines ++ line ∷ [] else lines

abbrev pub with_event : Walked → EventLine → Walked
with_event w line = record w { lines = kept w.lines line }

abbrev pub with_schedule : Walked → ScheduleWalk → Walked
with_schedule w schedule = record w { place = InSchedule; schedule = schedule }

-- ---- one line

-- the processor that was cut
abbrev pub cut_line : ℕ → Row → Result CpuNo ScriptKind
cut_line cpus args = counted (length args) 1 >>= λ _. read_processor cpus (first args)

-- the lock on which a processor spins, behind the processor and before the number of its call
abbrev pub spins_line : NameLists → ℕ → Row → Result LockNo ScriptKind
spins_line names cpus args = counted (length args) 4 >>= λ _. one_field (read_processor cpus) args >>= λ p.
    one_field (read_lock names) p.1 >>= λ l. used l.1 >>= λ _. Ok l.0

-- an object that can be inserted, by the word of its kind and its name
abbrev pub read_object : NameLists → List ℕ → List ℕ → Result Named ScriptKind
read_object names kind name = if bytes_eq kind (codes "dpc") then (read_dpc names name >>= λ d. Ok (named.Dpc d))
    else (if bytes_eq kind (codes "apc") then (read_apc names name >>= λ a. Ok (named.Apc a)) else Err UnknownWord)

-- the object whose insert still waits
abbrev pub waits_line : NameLists → Row → Result Named ScriptKind
waits_line names args = counted (length args) 3 >>= λ _. read_event (first args) >>= λ _.
    read_object names (first (rest args)) (first (rest (rest args)))

-- a line of the schedule; processors are those of the script
abbrev pub schedule_step : Input → Walked → List ℕ × Bool → Result Walked ScriptKind
schedule_step input w line = schedule_line input.script.cpus input w.schedule line >>= λ s. Ok (with_schedule w s)

-- the first line
abbrev pub report_step : Walked → Row → Result Walked ScriptKind
report_step w args = counted (length args) 0 >>= λ _. Ok (with_place w InEvents)

abbrev pub event_step : Input → Walked → List ℕ → Row → Result Walked ScriptKind
event_step input w number args = event_line input number args >>= λ line. Ok (with_event w line)

abbrev pub cut_step : Input → Walked → Row → Result Walked ScriptKind
cut_step input w args = cut_line input.script.cpus args >>= λ _. Ok (with_place w InCuts)

abbrev pub spins_step : Input → Walked → Row → Result Walked ScriptKind
spins_step input w args = spins_line input.names input.script.cpus args >>= λ _. Ok (with_place w InSpins)

abbrev pub waits_step : Input → Walked → Row → Result Walked ScriptKind
waits_step input w args = waits_line input.names args >>= λ _. Ok (with_place w InWaits)

-- what a line before the schedule, or its first, makes of what was read before it
abbrev pub act : Input → Walked → LineWord → Row → List ℕ × Bool → Result Walked ScriptKind
act input w word.Report row line = report_step w (rest row)
act input w word.Event row line = event_step input w (first row) (rest row)
act input w word.Cut row line = cut_step input w (rest row)
act input w word.Spins row line = spins_step input w (rest row)
act input w word.Waits row line = waits_step input w (rest row)
act input w word.Schedule row line = schedule_step input w line

abbrev pub front_step : Input → Walked → List ℕ × Bool → Result Walked ScriptKind
front_step input w line = row_of line >>= λ row. word_at w.place (line_word (first row)) >>= λ word.
    act input w word row line

abbrev pub step_at : ReportPlace → Input → Walked → List ℕ × Bool → Result Walked ScriptKind
step_at InSchedule input w line = schedule_step input w line
step_at _ input w line = front_step input w line

-- a line with its end, or without
abbrev pub line_step : Input → Walked → List ℕ × Bool → Result Walked ScriptKind
line_step input w line = step_at w.place input w line

-- ---- all lines

-- a step of the reading that a bad line ends
abbrev pub and_then : {A B : Type 0} → Result A (ℕ × ScriptKind) → (A → Result B (ℕ × ScriptKind)) →
    Result B (ℕ × ScriptKind)
and_then (Ok x) f = f x
and_then (Err bad) f = Err bad

-- the event lines and the schedule, where the text may end here; else the line behind the last is bad
abbrev pub finish : Walked → ℕ → Result Parts (ℕ × ScriptKind)
finish w n = and_then (schedule_finish w.schedule.place w.schedule.schedule n)
    (λ schedule. Ok (record { lines = w.lines; schedule = schedule }))

abbrev pub walk : Input → Walked → ℕ → List (List ℕ × Bool) → Result Parts (ℕ × ScriptKind)
walk input w n [] = finish w n
walk input w n (line ∷ more) = go_on n (line_step input w line) (λ new. walk input new (n + 1) more)

-- ---- the history

-- a look has no line; it names no thread and has level 0
abbrev pub look_event : CpuNo → Rises → Event
look_event cpu rises = record { cpu = cpu; thread = None; level = 0; what = what.Look rises }

-- the events behind these, of the turns that are left and the event lines that are left, of which the first has this
-- number in the text: a look turn gives a look, and another turn the next event line, whose number is the turn's place
abbrev pub events_of : List Event → List Turn → List EventLine → ℕ → Result (List Event) (ℕ × ScriptKind)
events_of events [] lines at = Ok events
events_of events (Look cpu rises ∷ turns) lines at = events_of (events ++ look_event cpu rises ∷ []) turns lines at
events_of events (Next cpu ∷ turns) [] at = Err (at, WrongKind)
events_of events (Next cpu ∷ turns) (line ∷ lines) at = if line.number == length events
    then events_of (events ++ line.event ∷ []) turns lines (at + 1) else Err (at, WrongKind)
events_of events (Switch cpu thread ∷ turns) [] at = Err (at, WrongKind)
events_of events (Switch cpu thread ∷ turns) (line ∷ lines) at = if line.number == length events
    then events_of (events ++ line.event ∷ []) turns lines (at + 1) else Err (at, WrongKind)

-- ---- the text

-- how many lines two texts have alike before the first that differs
abbrev pub lines_alike : List (List ℕ × Bool) → List (List ℕ × Bool) → ℕ
lines_alike [] others = 0
lines_alike (line ∷ more) [] = 0
lines_alike (line ∷ more) (other ∷ others) = if bytes_eq line.0 other.0 then lines_alike more others + 1 else 0

-- the history, where its text is what was read; else the first line that differs is bad
abbrev pub compared : Input → List ℕ → ℕ → History → Result History (ℕ × ScriptKind)
compared input bytes n h = if bytes_eq (report_text input h) bytes then Ok h
    else Err (n + lines_alike (lines (report_text input h)) (lines bytes), WrongKind)

-- ---- the whole

-- the history of the parts; the event lines stand behind the first line
abbrev pub history_of : Parts → ℕ → Result History (ℕ × ScriptKind)
history_of parts n = and_then (events_of [] parts.schedule.list parts.lines (n + 1))
    (λ events. Ok (record { turns = parts.schedule.turns; events = events }))

-- what the bytes are, whose first line has this number: a history, or the first bad line and what is wrong with it
abbrev pub reading : Input → ℕ → List ℕ → Result History (ℕ × ScriptKind)
reading input n bytes = and_then (walk input start n (lines bytes))
    (λ parts. and_then (history_of parts n) (compared input bytes n))
