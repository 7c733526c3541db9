-- The line of an event: its fields, read from left to right without a count beforehand.
use Rattle.std.specs.Prelude.{ℕ, List, Option, Some, None, Result, Ok, Err, codes, if◌then◌else◌}
use Rattle.std.specs.Str.{bytes_eq}
use Rattle.nt_text.specs.declared.kind.ScriptKind.{ScriptKind}
use Rattle.nt_text.specs.declared.kind.ScriptKind.TheVariants.{UnknownWord}
use Rattle.nt_text.specs.Lines.{Row, needed, rest}
use Rattle.nt_event.specs.declared.commands.Command.{Command}
use Rattle.nt_event.specs.declared.commands.TimerKey.{TimerKey}
use Rattle.nt_event.specs.declared.commands.TimerKey.TheVariants as key
use Rattle.nt_event.specs.declared.events.Begun.{Begun}
use Rattle.nt_event.specs.declared.events.Begun.TheVariants as of_begun
use Rattle.nt_event.specs.declared.events.What.{What}
use Rattle.nt_event.specs.declared.events.What.TheVariants.{Begin, Call, Clean, End, Expire, Fire, Flush, Free, Gone}
use Rattle.nt_event.specs.declared.events.What.TheVariants.{Normal, Rest, Rewait, Switch}
use Rattle.nt_line.specs.declared.keywords.Keyword.{Keyword}
use Rattle.nt_line.specs.declared.keywords.Keyword.TheVariants as keyword
use Rattle.nt_line.specs.declared.keywords.Verb.{Verb}
use Rattle.nt_line.specs.Keywords.{keyword_of, verb_arity}
use Rattle.nt_line.specs.NameLists.{NameLists}
use Rattle.nt_line.specs.Results.{◌>>=◌, or_error}
use Rattle.nt_line.specs.Fields.{read_apc, read_dpc, read_level, read_lock, read_thread, read_timer}
use Rattle.nt_line.specs.Commands.{behind, command_of}
use Rattle.nt_script.specs.declared.walk.Input.{Input}
use Rattle.nt_report.specs.declared.events.EventLine.{EventLine}
use Rattle.nt_report.specs.declared.words.BegunWord.{BegunWord}
use Rattle.nt_report.specs.declared.words.BegunWord.TheVariants as of_begin
use Rattle.nt_report.specs.declared.words.EventWord.{EventWord}
use Rattle.nt_report.specs.declared.words.EventWord.TheVariants as word
use Rattle.nt_report.specs.Words.{begun_word, event_word}
use Rattle.nt_report.specs.Fields.{at_end, one_field, read_class, read_event, read_processor, read_running, replied}
use Rattle.nt_report.specs.Fields.{status, used}

-- ---- commands

-- a keyword that is a command's
abbrev pub verb_of : Option Keyword → Result Verb ScriptKind
verb_of (Some (keyword.Call verb)) = Ok verb
verb_of _ = Err UnknownWord

abbrev pub read_verb : ℕ → List ℕ → Result Verb ScriptKind
read_verb version field = verb_of (keyword_of version field)

-- a command as in the script
abbrev pub command : Input → Row → Result (Command × Row) ScriptKind
command input row = one_field (read_verb input.version) row >>= λ v.
    command_of input.names input.script.cpus v.0 v.1 >>= λ c. Ok (c, behind (verb_arity v.0) v.1)

-- ---- what is begun, and what expires

abbrev pub read_begun_word : List ℕ → Result BegunWord ScriptKind
read_begun_word field = or_error UnknownWord (begun_word field)

-- what is begun, by its word and the field behind it; the kind of an APC object is not compared here
abbrev pub begun_of : NameLists → BegunWord → Row → Result (Begun × Row) ScriptKind
begun_of names of_begin.Int row = one_field read_level row >>= λ l. Ok (of_begun.Int l.0, l.1)
begun_of names of_begin.Dpc row = one_field (read_dpc names) row >>= λ d. Ok (of_begun.Dpc d.0, d.1)
begun_of names of_begin.Threaded row = one_field (read_dpc names) row >>= λ d. Ok (of_begun.Threaded d.0, d.1)
begun_of names (of_begin.Apc kind) row = one_field (read_apc names) row >>= λ a. Ok (of_begun.Apc a.0, a.1)

abbrev pub begun : NameLists → Row → Result (Begun × Row) ScriptKind
begun names row = one_field read_begun_word row >>= λ w. begun_of names w.0 w.1

abbrev pub timer_key : NameLists → Row → Result (TimerKey × Row) ScriptKind
timer_key names row = one_field (read_timer names) row >>= λ t. Ok (key.Timer t.0, t.1)

abbrev pub delay_key : NameLists → Row → Result (TimerKey × Row) ScriptKind
delay_key names row = one_field (read_thread names) row >>= λ t. Ok (key.Delay t.0, t.1)

-- a timer, or the delay of a thread
abbrev pub expired : NameLists → Row → Result (TimerKey × Row) ScriptKind
expired names row = needed row >>= λ field. if bytes_eq field (codes "timer") then timer_key names (rest row)
    else (if bytes_eq field (codes "delay") then delay_key names (rest row) else Err UnknownWord)

-- ---- what an event did

abbrev pub read_event_word : List ℕ → Result EventWord ScriptKind
read_event_word field = or_error UnknownWord (event_word field)

-- what an event did, by its word and the fields behind it
abbrev pub what_of : Input → EventWord → Row → Result (What × Row) ScriptKind
what_of input word.Call row = one_field read_event row >>= λ f. command input f.1 >>= λ c.
    replied c.1 >>= λ r. Ok (Call f.0 c.0 r.0, r.1)
what_of input word.Begin row = begun input.names row >>= λ b. used b.1 >>= λ u. Ok (Begin b.0 u.0, u.1)
what_of input word.Normal row = one_field read_event row >>= λ f. Ok (Normal f.0, f.1)
what_of input word.End row = one_field read_event row >>= λ f. Ok (End f.0, f.1)
what_of input word.Expire row = expired input.names row >>= λ k. used k.1 >>= λ u. Ok (Expire k.0 u.0, u.1)
what_of input word.Fire row = one_field (read_dpc input.names) row >>= λ d. replied d.1 >>= λ r. Ok (Fire d.0 r.0, r.1)
what_of input word.Clean row = one_field read_class row >>= λ c. Ok (Clean c.0, c.1)
what_of input word.Switch row = one_field (read_thread input.names) row >>= λ t. status t.1 >>= λ s.
    Ok (Switch t.0 s.0, s.1)
what_of input word.Rewait row = one_field read_event row >>= λ f. replied f.1 >>= λ r. Ok (Rewait f.0 r.0, r.1)
what_of input word.Flush row = one_field (read_apc input.names) row >>= λ a. used a.1 >>= λ u. Ok (Flush a.0 u.0, u.1)
what_of input word.Gone row = one_field (read_thread input.names) row >>= λ t. Ok (Gone t.0, t.1)
what_of input word.Free row = one_field read_event row >>= λ f. one_field (read_lock input.names) f.1 >>= λ l.
    Ok (Free f.0 l.0, l.1)
what_of input word.Rest row = Ok (Rest, row)

abbrev pub what : Input → Row → Result (What × Row) ScriptKind
what input row = one_field read_event_word row >>= λ w. what_of input w.0 w.1

-- ---- the whole line

-- a line that is still to be read
abbrev pub blank : EventLine
blank = record { number = 0; event = record { cpu = record { 0 = 0 }; thread = None; level = 0; what = Rest } }

-- the event of a line, and the number that the line gives it: the first field, and those behind it
abbrev pub event_line : Input → List ℕ → Row → Result EventLine ScriptKind
event_line input number row = read_event number >>= λ n. one_field (read_processor input.script.cpus) row >>= λ p.
    one_field (read_running input.names) p.1 >>= λ t. one_field read_level t.1 >>= λ l. what input l.1 >>= λ w.
    at_end (record { number = n; event = record { cpu = p.0; thread = t.0; level = l.0; what = w.0 } }) w.1
