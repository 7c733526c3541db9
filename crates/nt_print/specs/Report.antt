-- The text of a report, as rows of fields: a line for each event but a look, then who was cut, who spins, what still
-- waits, and the schedule.
use Rattle.std.specs.Prelude.{ℕ, zero, suc, ◌+◌, false, List, [], ◌∷◌, ◌++◌, count_by, map, reverse, Option, Some, None}
use Rattle.std.specs.Prelude.{codes, decimal, ◌==◌, ◌||◌, if◌then◌else◌}
use Rattle.std.specs.Fmt.{digits}
use Rattle.std.specs.List.{slice_get}
use Rattle.nt_text.specs.Lines.{rows_text}
use Rattle.nt_event.specs.Numbered.{refusal_number, refusal_name}
use Rattle.nt_event.specs.declared.numbers.ThreadNo.{ThreadNo}
use Rattle.nt_event.specs.declared.commands.ApcKind.{ApcKind}
use Rattle.nt_event.specs.declared.commands.ApcKind.TheVariants as kind
use Rattle.nt_event.specs.declared.commands.TimerKey.{TimerKey}
use Rattle.nt_event.specs.declared.commands.TimerKey.TheVariants as key
use Rattle.nt_event.specs.declared.commands.Reply.{Reply}
use Rattle.nt_event.specs.declared.commands.Reply.TheVariants.{Done, Yes, No, Status, Blocked, Spin, Refused}
use Rattle.nt_event.specs.declared.scripts.ApcDecl.{ApcDecl}
use Rattle.nt_event.specs.declared.events.Begun.{Begun}
use Rattle.nt_event.specs.declared.events.Begun.TheVariants as begun
use Rattle.nt_event.specs.declared.events.Event.{Event}
use Rattle.nt_event.specs.declared.events.History.{History}
use Rattle.nt_event.specs.declared.events.What.{What}
use Rattle.nt_event.specs.declared.events.What.TheVariants.{Call, Look, Begin, Normal, End, Expire, Fire, Clean, Switch}
use Rattle.nt_event.specs.declared.events.What.TheVariants.{Rewait, Flush, Gone, Free, Rest}
use Rattle.nt_script.specs.declared.walk.Input.{Input}
use Rattle.nt_line.specs.NameLists.{NameLists, show_dpc, show_timer, show_thread, show_apc, show_lock}
use Rattle.nt_text.specs.Lines.{Row}
use Rattle.nt_line.specs.Rows.{command_row}
use Rattle.nt_line.specs.Fields.{dash}
use Rattle.nt_event.specs.Numbers.{cpu}
use Rattle.nt_event.specs.Own.{rested}
use Rattle.nt_event.specs.Fate.{ApcThing, DpcThing, Inserted, Thing, waiting_inserts}
use Rattle.nt_log.specs.Schedules.{schedule_of, schedule_rows}
use Rattle.nt_print.specs.declared.spins.Spun.{Spun}
use Rattle.nt_print.specs.Spins.{last_spin}

-- ---- fields

-- `p` and the processor's number
abbrev pub show_processor : ℕ → List ℕ
show_processor p = 112 ∷ decimal p

abbrev pub show_running : NameLists → Option ThreadNo → List ℕ
show_running names None = dash
show_running names (Some t) = show_thread names t

abbrev pub hexadecimal : ℕ → List ℕ
hexadecimal n = digits 16 false n

-- ---- what an event does

abbrev pub reply_row : Reply → Row
reply_row Done = codes "done" ∷ []
reply_row Yes = codes "yes" ∷ []
reply_row No = codes "no" ∷ []
reply_row (Status x) = codes "status" ∷ hexadecimal x ∷ []
reply_row Blocked = codes "blocked" ∷ []
reply_row Spin = codes "spin" ∷ []
reply_row (Refused r) = codes "refused" ∷ decimal (refusal_number r) ∷ refusal_name r ∷ []

-- `->` and the reply
abbrev pub replied : Reply → Row
replied r = codes "->" ∷ reply_row r

-- `of` and the number of the event that is used up
abbrev pub used : ℕ → Row
used from = codes "of" ∷ decimal from ∷ []

abbrev pub kind_word : ApcKind → List ℕ
kind_word kind.Special = codes "special"
kind_word kind.Normal = codes "normal"
kind_word kind.User = codes "user"

abbrev pub kind_of : Option ApcDecl → List ℕ
kind_of None = []
kind_of (Some a) = kind_word a.kind

abbrev pub begun_row : Input → Begun → Row
begun_row input (begun.Int level) = codes "int" ∷ decimal level ∷ []
begun_row input (begun.Dpc d) = codes "dpc" ∷ show_dpc input.names d ∷ []
begun_row input (begun.Threaded d) = codes "threaded" ∷ show_dpc input.names d ∷ []
begun_row input (begun.Apc a) = kind_of (slice_get input.script.apcs a.0) ∷ show_apc input.names a ∷ []

abbrev pub key_row : NameLists → TimerKey → Row
key_row names (key.Timer t) = codes "timer" ∷ show_timer names t ∷ []
key_row names (key.Delay t) = codes "delay" ∷ show_thread names t ∷ []

abbrev pub status_row : Option ℕ → Row
status_row None = []
status_row (Some x) = codes "status" ∷ hexadecimal x ∷ []

abbrev pub what_row : Input → What → Row
what_row input (Call frame c r) = codes "call" ∷ decimal frame ∷ (command_row input.names c ++ replied r)
what_row input (Look rises) = []
what_row input (Begin begun from) = codes "begin" ∷ (begun_row input begun ++ used from)
what_row input (Normal frame) = codes "normal" ∷ decimal frame ∷ []
what_row input (End frame) = codes "end" ∷ decimal frame ∷ []
what_row input (Expire key from) = codes "expire" ∷ (key_row input.names key ++ used from)
what_row input (Fire d r) = codes "fire" ∷ show_dpc input.names d ∷ replied r
what_row input (Clean class) = codes "clean" ∷ decimal class ∷ []
what_row input (Switch t status) = codes "switch" ∷ show_thread input.names t ∷ status_row status
what_row input (Rewait frame r) = codes "rewait" ∷ decimal frame ∷ replied r
what_row input (Flush a from) = codes "flush" ∷ show_apc input.names a ∷ used from
what_row input (Gone t) = codes "gone" ∷ show_thread input.names t ∷ []
what_row input (Free frame l) = codes "free" ∷ decimal frame ∷ show_lock input.names l ∷ []
what_row input Rest = codes "rest" ∷ []

-- what stands behind an event's number
abbrev pub event_fields : Input → Event → Row
event_fields input e = show_processor e.cpu.0 ∷ show_running input.names e.thread ∷ decimal e.level ∷ what_row input
    e.what

abbrev pub event_row : Input → ℕ → Event → Row
event_row input n e = decimal n ∷ event_fields input e

-- the line of an event; a look has none
abbrev pub line_rows : Input → ℕ → Event → What → List Row
line_rows input n e (Look rises) = []
line_rows input n e (Call frame c reply) = event_row input n e ∷ []
line_rows input n e (Begin begun from) = event_row input n e ∷ []
line_rows input n e (Normal frame) = event_row input n e ∷ []
line_rows input n e (End frame) = event_row input n e ∷ []
line_rows input n e (Expire key from) = event_row input n e ∷ []
line_rows input n e (Fire d reply) = event_row input n e ∷ []
line_rows input n e (Clean class) = event_row input n e ∷ []
line_rows input n e (Switch t status) = event_row input n e ∷ []
line_rows input n e (Rewait frame reply) = event_row input n e ∷ []
line_rows input n e (Flush a from) = event_row input n e ∷ []
line_rows input n e (Gone t) = event_row input n e ∷ []
line_rows input n e (Free frame l) = event_row input n e ∷ []
line_rows input n e Rest = event_row input n e ∷ []

-- the lines of the events, of which the first has this number
abbrev pub event_rows : Input → ℕ → List Event → List Row
event_rows input n [] = []
event_rows input n (e ∷ es) = line_rows input n e e.what ++ event_rows input (n + 1) es

-- ---- who was cut

-- how many events a processor made
abbrev pub made : ℕ → List Event → ℕ
made p events = count_by (λ e. e.cpu.0 == p) events

abbrev pub cut_row : ℕ → Row
cut_row p = codes "cut" ∷ show_processor p ∷ []

-- the line of a processor that made as many events as it may
abbrev pub cut_of : History → ℕ → List Row
cut_of h p = if made p h.events == h.turns then cut_row p ∷ [] else []

-- those lines of n processors, of which the first is this one
abbrev pub cut_rows : History → ℕ → ℕ → List Row
cut_rows h p zero = []
cut_rows h p (suc n) = cut_of h p ++ cut_rows h (p + 1) n

-- ---- who spins

-- the processor's last call of `acquire` with reply spin, where it isn't cut and its last event isn't a Rest
abbrev pub spin_left : History → ℕ → Option Spun
spin_left h p = if made p h.events == h.turns || rested (cpu p) (reverse h.events) then None
    else last_spin (cpu p) (reverse h.events)

-- the line of such a call: the processor, the lock and the number of the call
abbrev pub spin_row : NameLists → ℕ → Spun → Row
spin_row names p x = codes "spins" ∷ show_processor p ∷ show_lock names x.lock ∷ used x.number

abbrev pub spin_of : NameLists → ℕ → Option Spun → List Row
spin_of names p None = []
spin_of names p (Some x) = spin_row names p x ∷ []

-- those lines of n processors, of which the first is this one
abbrev pub spin_rows : NameLists → History → ℕ → ℕ → List Row
spin_rows names h p zero = []
spin_rows names h p (suc n) = spin_of names p (spin_left h p) ++ spin_rows names h (p + 1) n

-- ---- what still waits

abbrev pub thing_row : NameLists → Thing → Row
thing_row names (DpcThing d) = codes "dpc" ∷ show_dpc names d ∷ []
thing_row names (ApcThing a) = codes "apc" ∷ show_apc names a ∷ []

-- the line of an insert: its number and its object
abbrev pub wait_fields : NameLists → Inserted → Row
wait_fields names i = decimal i.number ∷ thing_row names i.thing

abbrev pub wait_row : NameLists → Inserted → Row
wait_row names i = codes "waits" ∷ wait_fields names i

-- the lines of the inserts that no event uses up, by ascending number; the newest event comes first
abbrev pub wait_rows : NameLists → List Event → List Row
wait_rows names past = map (wait_row names) (waiting_inserts past)

-- ---- the whole

abbrev pub report_rows : Input → History → List Row
report_rows input h =
    (codes "report" ∷ []) ∷ (event_rows input 0 h.events
    ++ (cut_rows h 0 input.script.cpus ++ (spin_rows input.names h 0 input.script.cpus
    ++ (wait_rows input.names (reverse h.events) ++ schedule_rows input.names (schedule_of h)))))

-- the one text of a history
abbrev pub report_text : Input → History → List ℕ
report_text input h = rows_text (report_rows input h)
