-- What is read of expectations line by line, and what is wrong with a line. The tests of a line come in the order in
-- which the steps `>>=` stand: its fields from left to right, without a count beforehand.
use Rattle.std.specs.Prelude.{ℕ, ◌+◌, Bool, ◌&&◌, ◌||◌, List, [], ◌∷◌, ◌++◌, length, Result, Ok, Err, codes}
use Rattle.std.specs.Prelude.{nat_lt, ◌==◌, if◌then◌else◌}
use Rattle.std.specs.Str.{bytes_eq}
use Rattle.nt_text.specs.declared.kind.ScriptKind.{ScriptKind}
use Rattle.nt_text.specs.declared.kind.ScriptKind.TheVariants.{ExtraField, NoEnd, UnknownWord, WrongKind}
use Rattle.nt_text.specs.Lines.{Row, first, lines, needed, rest, row_of}
use Rattle.nt_event.specs.declared.commands.Command.{Command}
use Rattle.nt_line.specs.NameLists.{NameLists}
use Rattle.nt_line.specs.Results.{◌>>=◌}
use Rattle.nt_line.specs.Fields.{read_apc, read_cpu, read_dpc, read_isr_level, read_level, read_lock, read_number}
use Rattle.nt_line.specs.Fields.{read_thread, read_timer}
use Rattle.nt_script.specs.declared.walk.Input.{Input}
use Rattle.nt_expect.specs.declared.expectations.TheConstants.{MOST}
use Rattle.nt_expect.specs.declared.expectations.Activity.{Activity}
use Rattle.nt_expect.specs.declared.expectations.Activity.TheVariants as act
use Rattle.nt_expect.specs.declared.expectations.NamedReply.{NamedReply}
use Rattle.nt_expect.specs.declared.expectations.NamedReply.TheVariants as named
use Rattle.nt_expect.specs.declared.expectations.Watched.{Watched}
use Rattle.nt_expect.specs.declared.expectations.Watched.TheVariants.{Note, Refused, Begin, Expire, Gone, Call}
use Rattle.nt_expect.specs.declared.expectations.Expectation.{Expectation}
use Rattle.nt_expect.specs.declared.expectations.Expectation.TheVariants.{Never, NeverAfter, NeverBefore, NeverTwice}
use Rattle.nt_expect.specs.declared.expectations.Expectation.TheVariants.{NeverAbove, NeverOn, NeverWith, NeverWaitsDpc}
use Rattle.nt_expect.specs.declared.expectations.Expectation.TheVariants.{NeverWaitsApc, NeverBlocked, NeverSpins}
use Rattle.nt_expect.specs.declared.expectations.Expectation.TheVariants.{Always, AlwaysEnds}
use Rattle.nt_expect.specs.declared.lines.ExpectLine.{ExpectLine}
use Rattle.nt_expect.specs.declared.lines.ExpectLine.TheVariants as says
use Rattle.nt_expect.specs.declared.lines.ExpectPlace.{ExpectPlace}
use Rattle.nt_expect.specs.declared.lines.ExpectPlace.TheVariants.{Start, InList, Done}
use Rattle.nt_expect.specs.declared.lines.ExpectWalk.{ExpectWalk}
use Rattle.nt_expect.specs.declared.refusals.ExpectKind.{ExpectKind}
use Rattle.nt_expect.specs.declared.refusals.ExpectKind.TheVariants.{Line, TooMany}
use Rattle.nt_expect.specs.Replies.{may_reply}
use Rattle.nt_expect.specs.Fields.{at_end, behind_word, command, one_field, read_hexadecimal}

-- ---- activities

-- an activity by its word and the field behind it
abbrev pub activity_of : NameLists → List ℕ → Row → Result (Activity × Row) ScriptKind
activity_of names word row =
    if bytes_eq word (codes "int") then (one_field read_isr_level row >>= λ l. Ok (act.Int l.0, l.1))
    else (if bytes_eq word (codes "dpc") then (one_field (read_dpc names) row >>= λ d. Ok (act.Dpc d.0, d.1))
    else (if bytes_eq word (codes "apc") then (one_field (read_apc names) row >>= λ a. Ok (act.Apc a.0, a.1))
    else (if bytes_eq word (codes "thread") then (one_field (read_thread names) row >>= λ t. Ok (act.Thread t.0, t.1))
    else Err UnknownWord)))

abbrev pub read_activity : NameLists → Row → Result (Activity × Row) ScriptKind
read_activity names row = needed row >>= λ word. activity_of names word (rest row)

abbrev pub is_activity_word : List ℕ → Bool
is_activity_word word = bytes_eq word (codes "int") || bytes_eq word (codes "dpc") || bytes_eq word (codes "apc") ||
    bytes_eq word (codes "thread")

-- ---- replies

-- a reply by its word and the fields behind it; version 1 has no spin locks
abbrev pub reply_of : ℕ → List ℕ → Row → Result (NamedReply × Row) ScriptKind
reply_of version word row =
    if bytes_eq word (codes "yes") then Ok (named.Yes, row)
    else (if bytes_eq word (codes "no") then Ok (named.No, row)
    else (if bytes_eq word (codes "done") then Ok (named.Done, row)
    else (if bytes_eq word (codes "blocked") then Ok (named.Blocked, row)
    else (if bytes_eq word (codes "status") then (one_field read_hexadecimal row >>= λ x. Ok (named.Status x.0, x.1))
    else (if bytes_eq word (codes "refused") then Ok (named.Refused, row)
    else (if bytes_eq word (codes "spin") && version == 2 then Ok (named.Spin, row) else Err UnknownWord))))))

abbrev pub read_reply : ℕ → Row → Result (NamedReply × Row) ScriptKind
read_reply version row = needed row >>= λ word. reply_of version word (rest row)

-- `->` and a reply that the command may give
abbrev pub replied : ℕ → Command → Row → Result (NamedReply × Row) ScriptKind
replied version c row = behind_word (codes "->") row >>= read_reply version >>= λ y.
    if may_reply c y.0 then Ok y else Err WrongKind

-- ---- events

abbrev pub read_call : Input → Row → Result (Watched × Row) ScriptKind
read_call input row = command input row >>= λ c. replied input.version c.0 c.1 >>= λ y. Ok (Call c.0 y.0, y.1)

-- an event by its word and the fields behind it
abbrev pub watched_of : Input → List ℕ → Row → Result (Watched × Row) ScriptKind
watched_of input word row =
    if bytes_eq word (codes "note") then (one_field (read_number 4294967295) row >>= λ n. Ok (Note n.0, n.1))
    else (if bytes_eq word (codes "refused") then Ok (Refused, row)
    else (if bytes_eq word (codes "begin") then (read_activity input.names row >>= λ b. Ok (Begin b.0, b.1))
    else (if bytes_eq word (codes "expire") then (behind_word (codes "timer") row >>=
    one_field (read_timer input.names) >>= λ t. Ok (Expire t.0, t.1))
    else (if bytes_eq word (codes "gone") then (one_field (read_thread input.names) row >>= λ t. Ok (Gone t.0, t.1))
    else (if bytes_eq word (codes "call") then read_call input row else Err UnknownWord)))))

abbrev pub read_watched : Input → Row → Result (Watched × Row) ScriptKind
read_watched input row = needed row >>= λ word. watched_of input word (rest row)

-- ---- expectations

-- what stands behind the event of a `never`, by its word
abbrev pub never_with_word : Input → Watched → List ℕ → Row → Result (Expectation × Row) ScriptKind
never_with_word input e word row =
    if bytes_eq word (codes "twice") then Ok (NeverTwice e, row)
    else (if bytes_eq word (codes "above") then (one_field read_level row >>= λ l. Ok (NeverAbove e l.0, l.1))
    else (if bytes_eq word (codes "on") then (one_field (read_cpu input.script.cpus) row >>= λ p.
    Ok (NeverOn e p.0, p.1))
    else (if bytes_eq word (codes "after") then (read_watched input row >>= λ f. Ok (NeverAfter e f.0, f.1))
    else (if bytes_eq word (codes "before") then (read_watched input row >>= λ f. Ok (NeverBefore e f.0, f.1))
    else Err UnknownWord))))

abbrev pub never_behind : Input → Watched → Row → Result (Expectation × Row) ScriptKind
never_behind input e [] = Ok (Never e, [])
never_behind input e (word ∷ row) = never_with_word input e word row

-- two activities, the first by its word
abbrev pub never_with : NameLists → List ℕ → Row → Result (Expectation × Row) ScriptKind
never_with names word row = activity_of names word row >>= λ b. behind_word (codes "with") b.1 >>=
    read_activity names >>= λ c. Ok (NeverWith b.0 c.0, c.1)

-- what waits, by its word
abbrev pub waits_of : NameLists → List ℕ → Row → Result (Expectation × Row) ScriptKind
waits_of names word row =
    if bytes_eq word (codes "dpc") then (one_field (read_dpc names) row >>= λ d. Ok (NeverWaitsDpc d.0, d.1))
    else (if bytes_eq word (codes "apc") then (one_field (read_apc names) row >>= λ a. Ok (NeverWaitsApc a.0, a.1))
    else Err UnknownWord)

abbrev pub read_waits : NameLists → Row → Result (Expectation × Row) ScriptKind
read_waits names row = needed row >>= λ word. waits_of names word (rest row)

-- an event, and what stands behind it
abbrev pub never_event : Input → List ℕ → Row → Result (Expectation × Row) ScriptKind
never_event input word row = watched_of input word row >>= λ e. never_behind input e.0 e.1

-- what never happens, by its word; version 1 has no spin locks
abbrev pub never_of : Input → List ℕ → Row → Result (Expectation × Row) ScriptKind
never_of input word row =
    if bytes_eq word (codes "waits") then read_waits input.names row
    else (if bytes_eq word (codes "blocked") then (one_field (read_thread input.names) row >>= λ t.
    Ok (NeverBlocked t.0, t.1))
    else (if bytes_eq word (codes "spins") && input.version == 2 then (one_field (read_lock input.names) row >>= λ k.
    Ok (NeverSpins k.0, k.1))
    else (if is_activity_word word then never_with input.names word row else never_event input word row)))

-- what always happens, by its word
abbrev pub always_of : Input → List ℕ → Row → Result (Expectation × Row) ScriptKind
always_of input word row = if bytes_eq word (codes "ends") then Ok (AlwaysEnds, row)
    else (watched_of input word row >>= λ e. Ok (Always e.0, e.1))

-- an expectation by the first field and those behind it
abbrev pub expectation_of : Input → List ℕ → Row → Result (Expectation × Row) ScriptKind
expectation_of input word row =
    if bytes_eq word (codes "never") then (needed row >>= λ word. never_of input word (rest row))
    else (if bytes_eq word (codes "always") then (needed row >>= λ word. always_of input word (rest row))
    else Err UnknownWord)

-- ---- one line

-- the first line
abbrev pub head_line : Row → Result ExpectLine ScriptKind
head_line row = if bytes_eq (first row) (codes "expect") then at_end says.Head (rest row) else Err UnknownWord

-- a line behind the first: the end or an expectation
abbrev pub list_line : Input → Row → Result ExpectLine ScriptKind
list_line input row =
    if bytes_eq (first row) (codes "done") then at_end says.End (rest row)
    else (expectation_of input (first row) (rest row) >>= λ e. at_end (says.One e.0) e.1)

abbrev pub line_at : Input → ExpectPlace → Row → Result ExpectLine ScriptKind
line_at input Start row = head_line row
line_at input InList row = list_line input row
line_at input Done row = Err ExtraField

-- what a line says, with its end or without, behind what was read last
abbrev pub read_line : Input → ExpectPlace → List ℕ × Bool → Result ExpectLine ScriptKind
read_line input place line = row_of line >>= line_at input place

-- nothing was read
abbrev pub start : ExpectWalk
start = record { list = []; place = Start }

abbrev pub with_one : ExpectWalk → Expectation → ExpectWalk
with_one w e = record w { list = w.list ++ e ∷ [] }

-- what is read so far, with one more line that says this
abbrev pub taken : ExpectWalk → ExpectLine → Result ExpectWalk ExpectKind
taken w says.Head = Ok (record w { place = InList })
taken w says.End = Ok (record w { place = Done })
taken w (says.One e) = if nat_lt (length w.list) MOST then Ok (with_one w e) else Err TooMany

abbrev pub step_by : ExpectWalk → Result ExpectLine ScriptKind → Result ExpectWalk ExpectKind
step_by w (Ok line) = taken w line
step_by w (Err kind) = Err (Line kind)

abbrev pub line_step : Input → ExpectWalk → List ℕ × Bool → Result ExpectWalk ExpectKind
line_step input w line = step_by w (read_line input w.place line)

-- ---- all lines

-- what was read, where the text may end here; else the line behind the last is bad
abbrev pub finish : ExpectPlace → List Expectation → ℕ → Result (List Expectation) (ℕ × ExpectKind)
finish Done list n = Ok list
finish Start list n = Err (n, Line NoEnd)
finish InList list n = Err (n, Line NoEnd)

-- what is read behind a line of this number
abbrev pub go_on : ℕ → Result ExpectWalk ExpectKind → (ExpectWalk → Result (List Expectation) (ℕ × ExpectKind)) →
    Result (List Expectation) (ℕ × ExpectKind)
go_on n (Ok w) more = more w
go_on n (Err kind) more = Err (n, kind)

-- what lines are, of which the first has this number
abbrev pub walk : Input → ExpectWalk → ℕ → List (List ℕ × Bool) → Result (List Expectation) (ℕ × ExpectKind)
walk input w n [] = finish w.place w.list n
walk input w n (line ∷ more) = go_on n (line_step input w line) (λ new. walk input new (n + 1) more)

-- what the bytes are, whose first line has this number: expectations, or the first bad line and what is wrong with it
abbrev pub reading : Input → ℕ → List ℕ → Result (List Expectation) (ℕ × ExpectKind)
reading input n bytes = walk input start n (lines bytes)
