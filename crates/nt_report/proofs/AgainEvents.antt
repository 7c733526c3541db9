-- The line of an event is read as the event.
use Rattle.std.proofs.Common.{◌≡◌, ◌∙◌, ℕ, zero, suc, ◌<◌, Bool, true, false, List, [], ◌∷◌, ◌++◌, length, Option, Some, None, Result, Ok, refl, sym, ap, arith}
use Rattle.std.proofs.Common.{lit<}
use Rattle.std.specs.Prelude.{decimal, ◌≤◌}
use Rattle.std.specs.Fmt.{digits}
use Rattle.std.specs.List.{slice_get}
use Rattle.std.specs.Str.{bytes_eq}
use Rattle.std.proofs.lemmas.Bool.{ltb-true}
use Rattle.std.proofs.lemmas.Slice.Eq.{bytes_eq-Decides}
use Rattle.nt_text.specs.declared.kind.ScriptKind.{ScriptKind}
use Rattle.nt_text.specs.Fields.{is_name}
use Rattle.nt_text.specs.Lines.{Row}
use Rattle.nt_event.specs.declared.commands.ApcKind.{ApcKind}
use Rattle.nt_event.specs.declared.commands.ApcKind.TheVariants as kind
use Rattle.nt_event.specs.declared.commands.Command.{Command}
use Rattle.nt_event.specs.declared.commands.Refusal.{Refusal}
use Rattle.nt_event.specs.declared.commands.Refusal.TheVariants.{NotThread, NotBase, TooHigh, RegionsOpen, NotGreater, NotLess, BelowBase, NotEntered, LockHeld}
use Rattle.nt_event.specs.declared.commands.Refusal.TheVariants.{HeldHere, NotLast}
use Rattle.nt_event.specs.declared.commands.Reply.{Reply}
use Rattle.nt_event.specs.declared.commands.Reply.TheVariants.{Blocked, Done, No, Refused, Spin, Status, Yes}
use Rattle.nt_event.specs.declared.commands.TimerKey.{TimerKey}
use Rattle.nt_event.specs.declared.commands.TimerKey.TheVariants as key
use Rattle.nt_event.specs.declared.events.Begun.{Begun}
use Rattle.nt_event.specs.declared.events.Begun.TheVariants as of_begun
use Rattle.nt_event.specs.declared.events.Event.{Event}
use Rattle.nt_event.specs.declared.events.What.{What}
use Rattle.nt_event.specs.declared.events.What.TheVariants.{Begin, Call, Clean, End, Expire, Fire, Flush, Free, Gone, Look, Normal, Rest, Rewait, Switch}
use Rattle.nt_event.specs.declared.numbers.LockNo.{LockNo}
use Rattle.nt_event.specs.declared.numbers.ThreadNo.{ThreadNo}
use Rattle.nt_event.specs.declared.scripts.ApcDecl.{ApcDecl}
use Rattle.nt_event.specs.Fitting.{begun_fits, key_fits, what_fits}
use Rattle.nt_event.specs.Numbered.{refusal_name, refusal_number}
use Rattle.nt_event.specs.Script.{command_fits, has_lock, has_thread, where_given}
use Rattle.nt_line.specs.declared.keywords.Verb.{Verb}
use Rattle.nt_line.specs.declared.keywords.Verb.TheVariants as verb
use Rattle.nt_line.specs.declared.keywords.Keyword.TheVariants as keyword
use Rattle.nt_line.specs.NameLists.{NameLists, show_lock, show_thread}
use Rattle.nt_line.specs.Commands.{behind, command_of, read1, read2, read3}
use Rattle.nt_line.specs.Fields.{dash, read_alertable, read_apc, read_cpu, read_dpc, read_importance, read_interrupt, read_level, read_lock, read_mode}
use Rattle.nt_line.specs.Fields.{read_number, read_target, read_thread, read_timer}
use Rattle.nt_line.specs.Fits.{HasRange}
use Rattle.nt_line.specs.Keywords.{since, text_of, verb_arity}
use Rattle.nt_line.specs.Rows.{command_args, command_row, command_verb}
use Rattle.nt_line.proofs.FieldTexts.{cpu_again, number_again, unless_again}
use Rattle.nt_line.proofs.Found.{is_new}
use Rattle.nt_line.proofs.Spelled.{args_count, command_again}
use Rattle.nt_line.proofs.Words.{command_since, keyword_again}
use Rattle.nt_script.specs.declared.walk.Input.{Input}
use Rattle.nt_print.specs.Conditions.{BegunInRange, EventIsPlain, IsWord, ReplyInRange, StatusInRange, WhatInRange}
use Rattle.nt_print.specs.Report.{begun_row, event_fields, key_row, kind_word, replied as reply_fields, show_processor, show_running, status_row}
use Rattle.nt_print.specs.Report.{used as used_fields, what_row}
use Rattle.nt_print.proofs.OneEvent.{Known, apc_at, command_plain, dpc_at, event_parts, is_look, lock_at, no_dash, thread_at, timer_at}
use Rattle.nt_report.specs.declared.events.EventLine.{EventLine}
use Rattle.nt_report.specs.declared.words.BegunWord.{BegunWord}
use Rattle.nt_report.specs.declared.words.BegunWord.TheVariants as of_begin
use Rattle.nt_report.specs.declared.words.EventWord.{EventWord}
use Rattle.nt_report.specs.declared.words.EventWord.TheVariants as word
use Rattle.nt_report.specs.Words.{begun_text, begun_word, event_text, event_word, reply_word}
use Rattle.nt_report.specs.Fields.{behind_word, one_field, read_event, read_processor, read_refusal, read_running, refusal_of, replied, status, used}
use Rattle.nt_report.specs.Events.{begun, command, event_line, expired, read_begun_word, read_event_word, read_verb, what}
use Rattle.nt_report.proofs.Hexadecimals.{hexadecimal_again}

-- ---- one field

-- reading one field takes it off a row and leaves the fields after it
one_again : {A : Type 0} (read : List ℕ → Result A ScriptKind) (f : List ℕ) (x : A) (more : Row) → read f ≡ Ok x → one_field read (f ∷ more) ≡ Ok (x, more)
one_again read f x more e = rw e refl

-- the decimal of a 32 bit number is read as that event number
pub event_again : (n : ℕ) → IsWord n → read_event (decimal n) ≡ Ok n
event_again n h = number_again 4294967295 n (lit< tt) h

-- the fields that tell the event used are read as its number, and the fields after them are left
used_again : (n : ℕ) → IsWord n → (more : Row) → used (used_fields n ++ more) ≡ Ok (n, more)
used_again n h more = rw (event_again n h) refl

-- ---- words

-- the word of a kind of event is read as that kind
pub event_word_again : (w : EventWord) → read_event_word (event_text w) ≡ Ok w
unfolding event_word
event_word_again word.Call = refl
event_word_again word.Begin = refl
event_word_again word.Normal = refl
event_word_again word.End = refl
event_word_again word.Expire = refl
event_word_again word.Fire = refl
event_word_again word.Clean = refl
event_word_again word.Switch = refl
event_word_again word.Rewait = refl
event_word_again word.Flush = refl
event_word_again word.Gone = refl
event_word_again word.Free = refl
event_word_again word.Rest = refl

-- the text of a word that begins an activity is read as that word
begun_word_again : (w : BegunWord) → read_begun_word (begun_text w) ≡ Ok w
unfolding begun_word
begun_word_again of_begin.Int = refl
begun_word_again of_begin.Dpc = refl
begun_word_again of_begin.Threaded = refl
begun_word_again (of_begin.Apc kind.Special) = refl
begun_word_again (of_begin.Apc kind.Normal) = refl
begun_word_again (of_begin.Apc kind.User) = refl

-- the word of an APC kind is read as the beginning of an APC of that kind
kind_again : (k : ApcKind) → read_begun_word (kind_word k) ≡ Ok (of_begin.Apc k)
unfolding begun_word
kind_again kind.Special = refl
kind_again kind.Normal = refl
kind_again kind.User = refl

-- ---- replies

-- the decimals of a refusal's number are read as the refusal
refusal_again : (r : Refusal) → read_refusal (decimal (refusal_number r)) ≡ Ok r
unfolding refusal_of digits
refusal_again NotThread = refl
refusal_again NotBase = refl
refusal_again TooHigh = refl
refusal_again RegionsOpen = refl
refusal_again NotGreater = refl
refusal_again NotLess = refl
refusal_again BelowBase = refl
refusal_again NotEntered = refl
refusal_again LockHeld = refl
refusal_again HeldHere = refl
refusal_again NotLast = refl

-- a row that begins with an expected word is read up to the fields after it
name_again : (f : List ℕ) (more : Row) → behind_word f (f ∷ more) ≡ Ok more
name_again f more = rw ((bytes_eq-Decides f f).1 refl) refl

-- the fields of a reply in range are read as the reply, and the fields after them are left
pub replied_again : (r : Reply) → ReplyInRange r → (more : Row) → replied (reply_fields r ++ more) ≡ Ok (r, more)
unfolding reply_word
replied_again Done h more = refl
replied_again Yes h more = refl
replied_again No h more = refl
replied_again (Status x) h more = rw (hexadecimal_again x h) refl
replied_again Blocked h more = refl
replied_again Spin h more = refl
replied_again (Refused r) h more = rw (refusal_again r, name_again (refusal_name r) more) refl

-- the fields of a status in range are read as the status, with nothing left
pub status_again : (s : Option ℕ) → StatusInRange s → status (status_row s) ≡ Ok (s, [])
status_again None h = refl
status_again (Some x) h = rw (hexadecimal_again x h) refl

-- ---- commands

-- a command of one argument is read alike with further fields after it
more1 : {A C : Type 0} (f : List ℕ → Result A ScriptKind) (make : A → C) (args more : Row) → length args ≡ 1 → read1 f make (args ++ more)
    ≡ read1 f make args
more1 f make [] more e = absurd (omega (arith, e))
more1 f make (a ∷ []) more e = refl
more1 f make (a ∷ b ∷ args) more e = absurd (omega (arith, e))

-- a command of two arguments is read alike with further fields after them
more2 : {A B C : Type 0} (f : List ℕ → Result A ScriptKind) (g : List ℕ → Result B ScriptKind) (make : A → B → C) (args more : Row) → length args ≡ 2 →
    read2 f g make (args ++ more) ≡ read2 f g make args
more2 f g make [] more e = absurd (omega (arith, e))
more2 f g make (a ∷ []) more e = absurd (omega (arith, e))
more2 f g make (a ∷ b ∷ []) more e = refl
more2 f g make (a ∷ b ∷ c ∷ args) more e = absurd (omega (arith, e))

-- a command of three arguments is read alike with further fields after them
more3 : {A B D C : Type 0} (f : List ℕ → Result A ScriptKind) (g : List ℕ → Result B ScriptKind) (h : List ℕ → Result D ScriptKind) (make : A → B → D → C)
    (args more : Row) → length args ≡ 3 → read3 f g h make (args ++ more) ≡ read3 f g h make args
more3 f g h make [] more e = absurd (omega (arith, e))
more3 f g h make (a ∷ []) more e = absurd (omega (arith, e))
more3 f g h make (a ∷ b ∷ []) more e = absurd (omega (arith, e))
more3 f g h make (a ∷ b ∷ c ∷ []) more e = refl
more3 f g h make (a ∷ b ∷ c ∷ d ∷ args) more e = absurd (omega (arith, e))

-- a command with as many arguments as its verb has is read alike with further fields after them
command_more : (names : NameLists) (cpus : ℕ) (v : Verb) (args more : Row) → length args ≡ verb_arity v → command_of names cpus v (args ++ more)
    ≡ command_of names cpus v args
command_more names cpus verb.Raise args more e = more1 read_level _ args more e
command_more names cpus verb.Lower args more e = more1 read_level _ args more e
command_more names cpus verb.Queue args more e = more1 (read_dpc names) _ args more e
command_more names cpus verb.Unqueue args more e = more1 (read_dpc names) _ args more e
command_more names cpus verb.SetImportance args more e = more2 (read_dpc names) read_importance _ args more e
command_more names cpus verb.SetTarget args more e = more2 (read_dpc names) (read_target cpus) _ args more e
command_more names cpus verb.SetTimer args more e = more3 (read_timer names) (read_number 4294967295) (read_number 4294967295) _ args more e
command_more names cpus verb.CancelTimer args more e = more1 (read_timer names) _ args more e
command_more names cpus verb.InsertApc args more e = more1 (read_apc names) _ args more e
command_more names cpus verb.RemoveApc args more e = more1 (read_apc names) _ args more e
command_more names cpus verb.EnterCrit args more e = refl
command_more names cpus verb.EnterGuard args more e = refl
command_more names cpus verb.LeaveCrit args more e = refl
command_more names cpus verb.LeaveGuard args more e = refl
command_more names cpus verb.StartWait args more e = more2 read_mode read_alertable _ args more e
command_more names cpus verb.Delay args more e = more3 read_mode read_alertable (read_number 4294967295) _ args more e
command_more names cpus verb.Release args more e = more1 (read_thread names) _ args more e
command_more names cpus verb.Alert args more e = more2 (read_thread names) read_mode _ args more e
command_more names cpus verb.TestAlert args more e = more1 read_mode _ args more e
command_more names cpus verb.Interrupt args more e = more2 (read_cpu cpus) read_interrupt _ args more e
command_more names cpus verb.Clock args more e = more1 (read_number 4294967295) _ args more e
command_more names cpus verb.ToUser args more e = refl
command_more names cpus verb.Yield args more e = refl
command_more names cpus verb.Acquire args more e = more1 (read_lock names) _ args more e
command_more names cpus verb.Unlock args more e = more1 (read_lock names) _ args more e
command_more names cpus verb.Note args more e = more1 (read_number 4294967295) _ args more e

-- leaving out as many fields as the arguments are leaves the fields after them
behind_more : (n : ℕ) (args more : Row) → length args ≡ n → behind n (args ++ more) ≡ more
behind_more zero [] more e = refl
behind_more zero (a ∷ args) more e = absurd (omega (arith, e))
behind_more (suc n) [] more e = absurd (omega (arith, e))
behind_more (suc n) (a ∷ args) more e = behind_more n args more (omega (arith, e))

-- the keyword of a verb that a version has is read as the verb
verb_again : (version : ℕ) (v : Verb) → since (keyword.Call v) ≤ version → read_verb version (text_of (keyword.Call v)) ≡ Ok v
verb_again version v le = rw (keyword_again version (keyword.Call v) le) refl

-- the row of a command that fits and is in range is read as the command, and the fields after it are left
called_again : (input : Input) → Known input → (c : Command) → command_fits input.script c ≡ true → HasRange c → (more : Row) →
    command input (command_row input.names c ++ more) ≡ Ok (c, more)
called_again input k c h r more =
    let names = input.names in
    let cpus = input.script.cpus in
    let args = command_args names c in
    let fits = command_plain input k c h r in
    let verb = command_verb c in
    let count : length args ≡ verb_arity verb = args_count names c in
    let again : command_of names cpus verb (args ++ more) ≡ Ok c =
    command_more names cpus verb args more count ∙ command_again names cpus k.are k.fit.cpus.1 c fits in
    let known : since (keyword.Call verb) ≤ input.version = command_since names cpus input.version k.fit.words c fits in
    go verb (args ++ more) (verb_again input.version verb known) again (behind_more (verb_arity verb) args more count)
  where
    go : (v : Verb) (args : Row) → read_verb input.version (text_of (keyword.Call v)) ≡ Ok v → command_of input.names input.script.cpus v args ≡ Ok c →
        behind (verb_arity v) args ≡ more → command input (text_of (keyword.Call v) ∷ args) ≡ Ok (c, more)
    go v args e f g = rw (e, f, g) refl

-- ---- what is begun, and what expires

-- the word of an APC object that there is
kind_there : (s : List ApcDecl) (i : ℕ) → i < length s → (a : ApcDecl) × (slice_get s i ≡ Some a)
kind_there [] i lt = absurd (omega (arith, lt))
kind_there (a ∷ s) zero lt = (a, refl)
kind_there (a ∷ s) (suc i) lt = kind_there s i (omega (arith, lt))

-- the row of an activity that begins is read as the activity, and the fields after it are left
begun_again : (input : Input) → Known input → (b : Begun) → begun_fits input.script b ≡ true → BegunInRange b → (more : Row) →
    begun input.names (begun_row input b ++ more) ≡ Ok (b, more)
begun_again input k (of_begun.Int l) h r more = rw (begun_word_again of_begin.Int, number_again 15 l (lit< tt) r) refl
begun_again input k (of_begun.Dpc d) h r more = rw (begun_word_again of_begin.Dpc, k.are.dpcs d (dpc_at input k d h)) refl
begun_again input k (of_begun.Threaded d) h r more = rw (begun_word_again of_begin.Threaded, k.are.dpcs d (dpc_at input k d h)) refl
begun_again input k (of_begun.Apc a) h r more =
    let there = kind_there input.script.apcs a.0 (ltb-true a.0 (length input.script.apcs) h) in
    rw (there.1, kind_again there.0.kind, k.are.apcs a (apc_at input k a h)) refl

-- the row of a timer key that fits is read as the key, and the fields after it are left
key_again : (input : Input) → Known input → (t : TimerKey) → key_fits input.script t ≡ true → (more : Row) → expired input.names (key_row input.names t ++ more)
    ≡ Ok (t, more)
key_again input k (key.Timer t) h more = rw (k.are.timers t (timer_at input k t h)) refl
key_again input k (key.Delay t) h more = rw (k.are.threads t (thread_at input k t h)) refl

-- the name of a lock of the script is read as that lock
pub lock_again : (input : Input) → Known input → (l : LockNo) → has_lock input.script l ≡ true → read_lock input.names (show_lock input.names l) ≡ Ok l
lock_again input k l h = k.are.locks l (lock_at input k l h)

-- ---- what an event did

-- the fields that tell the event used are read as its number, where they are the last
used_last : (n : ℕ) → IsWord n → used (used_fields n) ≡ Ok (n, [])
used_last n h = used_again n h []

-- the fields of a reply in range are read as the reply, where they are the last
replied_last : (r : Reply) → ReplyInRange r → replied (reply_fields r) ≡ Ok (r, [])
replied_last Done h = replied_again Done h []
replied_last Yes h = replied_again Yes h []
replied_last No h = replied_again No h []
replied_last (Status x) h = replied_again (Status x) h []
replied_last Blocked h = replied_again Blocked h []
replied_last Spin h = replied_again Spin h []
replied_last (Refused r) h = replied_again (Refused r) h []

-- the row of an action that is no look is read as the action, if it fits the script and is in range
what_again : (input : Input) → Known input → (ver : ℕ) (w : What) → what_fits input.script w ≡ true → WhatInRange ver w → is_look w ≡ false →
    what input (what_row input w) ≡ Ok (w, [])
what_again input k ver (Look rises) h r l = absurd cc
what_again input k ver (Call f c y) h r l =
    rw (event_word_again word.Call, event_again f r.0, called_again input k c h r.1 (reply_fields y), replied_last y r.2) refl
what_again input k ver (Begin b from) h r l =
    rw (event_word_again word.Begin, begun_again input k b h r.0 (used_fields from), used_last from r.1) refl
what_again input k ver (Normal f) h r l = rw (event_word_again word.Normal, event_again f r) refl
what_again input k ver (End f) h r l = rw (event_word_again word.End, event_again f r) refl
what_again input k ver (Expire t from) h r l = rw (event_word_again word.Expire, key_again input k t h (used_fields from), used_last from r) refl
what_again input k ver (Fire d y) h r l = rw (event_word_again word.Fire, k.are.dpcs d (dpc_at input k d h), replied_last y r) refl
what_again input k ver (Clean class) h r l = rw (event_word_again word.Clean, number_again 2 class (lit< tt) r) refl
what_again input k ver (Switch t s) h r l = rw (event_word_again word.Switch, k.are.threads t (thread_at input k t h), status_again s r) refl
what_again input k ver (Rewait f y) h r l = rw (event_word_again word.Rewait, event_again f r.0, replied_last y r.1) refl
what_again input k ver (Flush a from) h r l = rw (event_word_again word.Flush, k.are.apcs a (apc_at input k a h), used_last from r) refl
what_again input k ver (Gone t) h r l = rw (event_word_again word.Gone, k.are.threads t (thread_at input k t h)) refl
what_again input k ver (Free f x) h r l = rw (event_word_again word.Free, event_again f r, lock_again input k x h) refl
what_again input k ver Rest h r l = rw (event_word_again word.Rest) refl

-- ---- the whole line

-- a name is never the dash
no_name_is_dash : (f : List ℕ) → is_name f ≡ true → bytes_eq f dash ≡ false
no_name_is_dash f h = go (bytes_eq f dash) refl
  where
    go : (b : Bool) → bytes_eq f dash ≡ b → bytes_eq f dash ≡ false
    go true e = absurd (no_dash f h (sym ((bytes_eq-Decides f dash).0 e)))
    go false e = e

-- the shown running thread, or its absence, is read as it was
running_again : (input : Input) → Known input → (t : Option ThreadNo) → where_given (has_thread input.script) t ≡ true →
    read_running input.names (show_running input.names t) ≡ Ok t
running_again input k None h = refl
running_again input k (Some t) h =
    let at = thread_at input k t h in
    let named = (is_new (input.names.dpcs ++ input.names.timers) input.names.threads t.0 k.fit.names.threads at).0 in
    unless_again dash (read_thread input.names) (show_thread input.names) t (no_name_is_dash (show_thread input.names t) named) (k.are.threads t at)

abbrev pub line : ℕ → Event → EventLine
line n e = record { number = n; event = e }

-- the number and the fields of a plain event that is no look are read as the line of that event
pub event_line_again : (input : Input) → Known input → (n : ℕ) (e : Event) → IsWord n → EventIsPlain input e → is_look e.what ≡ false →
    event_line input (decimal n) (event_fields input e) ≡ Ok (line n e)
event_line_again input k n e w h l =
    let p = event_parts input.script e h.0 in
    let lt = ltb-true e.cpu.0 input.script.cpus p.cpu in
    let processor : read_processor input.script.cpus (show_processor e.cpu.0) ≡ Ok e.cpu = cpu_again input.script.cpus e.cpu k.fit.cpus.1 lt in
    rw (
      event_again n w,
      processor,
      running_again input k e.thread p.thread,
      number_again 15 e.level (lit< tt) h.1.0,
      what_again input k input.version e.what p.what h.1.1 l,
    ) refl
