-- What is read of a schedule line by line, and what is wrong with a line. The tests of a line come in the order in
-- which the steps `>>=` stand. Processor numbers are below `cpus`.
use Rattle.std.specs.Prelude.{ℕ, ◌+◌, Bool, List, [], ◌∷◌, ◌++◌, length, take, drop, replicate, slice_set, Option, Some}
use Rattle.std.specs.Prelude.{None, Result, Ok, Err, codes, nat_lt, nat_le, ◌==◌, ◌&&◌, not, if◌then◌else◌}
use Rattle.std.specs.List.{position}
use Rattle.std.specs.Str.{bytes_eq}
use Rattle.nt_text.specs.declared.kind.ScriptKind.{ScriptKind}
use Rattle.nt_text.specs.declared.kind.ScriptKind.TheVariants.{BadNumber, UnknownWord, MissingField, ExtraField}
use Rattle.nt_text.specs.declared.kind.ScriptKind.TheVariants.{TooMany, NoEnd}
use Rattle.nt_text.specs.declared.kind.What10.TheVariants as what
use Rattle.nt_text.specs.Lines.{Row, first, rest, is_byte, lines, row_of}
use Rattle.nt_event.specs.declared.limits.TheConstants.{EVENTS}
use Rattle.nt_event.specs.declared.events.Rises.{Rises}
use Rattle.nt_event.specs.declared.events.Turn.{Turn}
use Rattle.nt_event.specs.declared.events.Turn.TheVariants.{Next, Look, Switch}
use Rattle.nt_line.specs.NameLists.{NameLists}
use Rattle.nt_line.specs.Results.{◌>>=◌, ok_if}
use Rattle.nt_line.specs.Fields.{read_number, read_cpu, read_thread}
use Rattle.nt_line.specs.Commands.{read1, read2}
use Rattle.nt_script.specs.Reading.{counted, go_on}
use Rattle.nt_script.specs.declared.walk.Input.{Input}
use Rattle.nt_log.specs.Schedules.{is_written_class, turn_bound}
use Rattle.nt_log.specs.declared.schedules.Schedule.{Schedule}
use Rattle.nt_log.specs.declared.walk.ScheduleWalk.{ScheduleWalk}
use Rattle.nt_log.specs.declared.walk.SchedulePlace.{SchedulePlace}
use Rattle.nt_log.specs.declared.walk.SchedulePlace.TheVariants.{Start, InTurns, Done}

-- ---- the values of a look

-- a class that a look may name and that is not below this one
abbrev pub read_class : ℕ → ℕ → List ℕ → Result ℕ ScriptKind
read_class version least field = read_number 15 field >>= λ class. ok_if
    (nat_le least class && is_written_class version class) class BadNumber

-- a value of 64 bits above 0
abbrev pub read_value : List ℕ → Result ℕ ScriptKind
read_value field = read_number 18446744073709551615 field >>= λ value. ok_if (not (value == 0)) value BadNumber

-- a class and the value that rises in it, with the first `=` at this place
abbrev pub rise_at : ℕ → ℕ → List ℕ → Option ℕ → Result (ℕ × ℕ) ScriptKind
rise_at version least field None = Err BadNumber
rise_at version least field (Some place) = read_class version least (take place field) >>= λ class. read_value
    (drop (place + 1) field) >>= λ value. Ok (class, value)

-- a class that is not below this one, and the value that rises in it
abbrev pub read_rise : ℕ → ℕ → List ℕ → Result (ℕ × ℕ) ScriptKind
read_rise version least field = rise_at version least field (position (is_byte 61) field)

-- the values with those of the fields, whose classes are not below this one and ascend
abbrev pub rises_from : ℕ → List ℕ → ℕ → Row → Result (List ℕ) ScriptKind
rises_from version values least [] = Ok values
rises_from version values least (field ∷ more) = read_rise version least field >>= λ rise. rises_from version
    (slice_set values rise.0 rise.1) (rise.0 + 1) more

abbrev pub read_rises : ℕ → Row → Result Rises ScriptKind
read_rises version fields = rises_from version (replicate 16 0) 0 fields >>= λ values. Ok (record { value = values })

-- ---- a turn

abbrev pub read_next : ℕ → Row → Result Turn ScriptKind
read_next cpus args = counted (length args) 1 >>= λ _. read1 (read_cpu cpus) Next args

abbrev pub read_switch : ℕ → NameLists → Row → Result Turn ScriptKind
read_switch cpus names args = counted (length args) 2 >>= λ _. read2 (read_cpu cpus) (read_thread names) Switch args

-- a processor and one or more values
abbrev pub read_look : ℕ → ℕ → Row → Result Turn ScriptKind
read_look cpus version args = if nat_lt (length args) 2 then Err MissingField
    else (read_cpu cpus (first args) >>= λ cpu. read_rises version (rest args) >>= λ rises. Ok (Look cpu rises))

-- the turn of a line
abbrev pub read_turn : ℕ → Input → Row → Result Turn ScriptKind
read_turn cpus input row = if bytes_eq (first row) (codes "next") then read_next cpus (rest row)
    else (if bytes_eq (first row) (codes "switch") then read_switch cpus input.names (rest row)
    else (if bytes_eq (first row) (codes "look") then read_look cpus input.version (rest row) else Err UnknownWord))

-- ---- one line

-- nothing was read
abbrev pub start : ScheduleWalk
start = record { schedule = record { turns = 0; list = [] }; place = Start }

abbrev pub with_limit : ScheduleWalk → ℕ → ScheduleWalk
with_limit w turns = record w { schedule = record (w.schedule) { turns = turns }; place = InTurns }

abbrev pub with_turn : ScheduleWalk → Turn → ScheduleWalk
with_turn w turn = record w { schedule = record (w.schedule) { list = w.schedule.list ++ turn ∷ [] } }

abbrev pub with_end : ScheduleWalk → ScheduleWalk
with_end w = record w { place = Done }

-- the turn limit: 1 to this bound
abbrev pub read_limit : ℕ → Row → Result ℕ ScriptKind
read_limit bound args = counted (length args) 1 >>= λ _. read_number bound (first args) >>= λ turns. ok_if
    (not (turns == 0)) turns BadNumber

-- the first line, where the turn limit has this bound
abbrev pub first_step : ℕ → ScheduleWalk → Row → Result ScheduleWalk ScriptKind
first_step bound w row =
    if bytes_eq (first row) (codes "schedule") then (read_limit bound (rest row) >>= λ turns. Ok (with_limit w turns))
    else Err UnknownWord

-- a line behind the first: the end or a turn
abbrev pub turn_step : ℕ → Input → ScheduleWalk → Row → Result ScheduleWalk ScriptKind
turn_step cpus input w row =
    if bytes_eq (first row) (codes "done") then (counted (length (rest row)) 0 >>= λ _. Ok (with_end w))
    else (read_turn cpus input row >>= λ turn. ok_if (nat_lt (length w.schedule.list) EVENTS) (with_turn w turn)
    (TooMany what.Turns))

abbrev pub step_at : SchedulePlace → ℕ → Input → ScheduleWalk → Row → Result ScheduleWalk ScriptKind
step_at Start cpus input w row = first_step (turn_bound input.script.cpus) w row
step_at InTurns cpus input w row = turn_step cpus input w row
step_at Done cpus input w row = Err ExtraField

abbrev pub step : ℕ → Input → ScheduleWalk → Row → Result ScheduleWalk ScriptKind
step cpus input w row = step_at w.place cpus input w row

-- a line with its end, or without
abbrev pub line_step : ℕ → Input → ScheduleWalk → List ℕ × Bool → Result ScheduleWalk ScriptKind
line_step cpus input w line = row_of line >>= step cpus input w

-- ---- all lines

-- what was read, where the text may end here; else the line behind the last is bad
abbrev pub finish : SchedulePlace → Schedule → ℕ → Result Schedule (ℕ × ScriptKind)
finish Done schedule n = Ok schedule
finish _ schedule n = Err (n, NoEnd)

-- what lines are, of which the first has this number
abbrev pub walk : ℕ → Input → ScheduleWalk → ℕ → List (List ℕ × Bool) → Result Schedule (ℕ × ScriptKind)
walk cpus input w n [] = finish w.place w.schedule n
walk cpus input w n (line ∷ more) = go_on n (line_step cpus input w line) (λ new. walk cpus input new (n + 1) more)

-- what the bytes are, whose first line has this number: a schedule, or the first bad line and what is wrong with it
abbrev pub reading : ℕ → Input → ℕ → List ℕ → Result Schedule (ℕ × ScriptKind)
reading cpus input n bytes = walk cpus input start n (lines bytes)
