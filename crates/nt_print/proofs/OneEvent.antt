-- The row of an event is the row of no other.
use Rattle.std.proofs.Common.{◌≡◌, ◌≢◌, ◌∙◌, ℕ, ◌+◌, ◌*◌, ◌^◌, ◌<◌, Bool, true, false, List, [], ◌++◌, length, get_or, Option, Some, None, Result, Ok, refl}
use Rattle.std.proofs.Common.{sym, ap, arith}
use Rattle.std.specs.Prelude.{decimal, ◌&&◌, ◌≤◌, nat_lt}
use Rattle.std.specs.List.{list_all, slice_get}
use Rattle.std.proofs.lemmas.Bool.{and_from, and_parts, ltb-true}
use Rattle.std.proofs.lemmas.List.Folds.{list_all-append}
use Rattle.nt_text.specs.Fields.{is_name}
use Rattle.nt_text.specs.Lines.{IsRow, is_field}
use Rattle.nt_text.proofs.Decimals.{decimal_field}
use Rattle.nt_event.specs.declared.commands.ApcKind.{ApcKind}
use Rattle.nt_event.specs.declared.commands.ApcKind.TheVariants as kind
use Rattle.nt_event.specs.declared.commands.Command.{Command}
use Rattle.nt_event.specs.declared.commands.Refusal.{Refusal}
use Rattle.nt_event.specs.declared.commands.Refusal.TheVariants.{NotThread, NotBase, TooHigh, RegionsOpen, NotGreater, NotLess, BelowBase, NotEntered, LockHeld}
use Rattle.nt_event.specs.declared.commands.Refusal.TheVariants.{HeldHere, NotLast}
use Rattle.nt_event.specs.declared.commands.Reply.{Reply}
use Rattle.nt_event.specs.declared.commands.Reply.TheVariants.{Done, Yes, No, Status, Blocked, Spin, Refused}
use Rattle.nt_event.specs.declared.commands.TimerKey.{TimerKey}
use Rattle.nt_event.specs.declared.commands.TimerKey.TheVariants as key
use Rattle.nt_event.specs.declared.events.Begun.{Begun}
use Rattle.nt_event.specs.declared.events.Begun.TheVariants as begun
use Rattle.nt_event.specs.declared.events.Event.{Event}
use Rattle.nt_event.specs.declared.events.What.{What}
use Rattle.nt_event.specs.declared.events.What.TheVariants.{Call, Look, Begin, Normal, End, Expire, Fire, Clean, Switch, Rewait, Flush, Gone, Free, Rest}
use Rattle.nt_event.specs.declared.numbers.ApcNo.{ApcNo}
use Rattle.nt_event.specs.declared.numbers.CpuNo.{CpuNo}
use Rattle.nt_event.specs.declared.numbers.DpcNo.{DpcNo}
use Rattle.nt_event.specs.declared.numbers.LockNo.{LockNo}
use Rattle.nt_event.specs.declared.numbers.ThreadNo.{ThreadNo}
use Rattle.nt_event.specs.declared.numbers.TimerNo.{TimerNo}
use Rattle.nt_event.specs.declared.scripts.ApcDecl.{ApcDecl}
use Rattle.nt_event.specs.declared.scripts.Script.{Script}
use Rattle.nt_event.specs.Numbered.{refusal_name, refusal_number}
use Rattle.nt_event.specs.Script.{command_fits, has_apc, has_cpu, has_dpc, has_lock, has_thread, has_timer, where_given}
use Rattle.nt_script.specs.declared.walk.Input.{Input}
use Rattle.nt_line.specs.declared.keywords.Verb.{Verb}
use Rattle.nt_line.specs.declared.keywords.Verb.TheVariants as verb
use Rattle.nt_line.specs.declared.keywords.Keyword.TheVariants as keyword
use Rattle.nt_line.specs.Commands.{command_of}
use Rattle.nt_line.specs.Fits.{CommandFits}
use Rattle.nt_line.specs.NameLists.{NameLists, show_apc, show_dpc, show_lock, show_thread, show_timer}
use Rattle.nt_line.specs.Fields.{dash, read_apc, read_dpc, read_lock, read_thread, read_timer}
use Rattle.nt_line.specs.Fits.{HasRange}
use Rattle.nt_script.specs.Sound.{IsSound}
use Rattle.nt_text.specs.Lines.{Row}
use Rattle.nt_line.specs.Rows.{command_args, command_row, command_verb}
use Rattle.nt_line.specs.Keywords.{keyword_of, since, text_of, verb_arity}
use Rattle.nt_script.proofs.Clean.{apc_field, command_clean, dpc_field, name_field, thread_field, timer_field}
use Rattle.nt_script.proofs.Fit.{Fit}
use Rattle.nt_line.proofs.Found.{are_read, is_new}
use Rattle.nt_script.proofs.Soundness.{Counts, command_from, sound_fits}
use Rattle.nt_line.proofs.Spelled.{AreRead, args_count, command_again}
use Rattle.nt_line.proofs.Words.{keyword_again}
use Rattle.nt_log.proofs.OneRow.{decimal_one, hexadecimal_field, hexadecimal_one, parts_one, read_one, row_from, row_to}
use Rattle.nt_print.specs.Conditions.{BegunInRange, EventIsPlain, IsWord, ReplyInRange, StatusInRange, WhatInRange}
use Rattle.nt_event.specs.Fitting.{begun_fits, event_fits, key_fits, what_fits}
use Rattle.nt_print.specs.Report.{begun_row, event_fields, event_row, hexadecimal, key_row, kind_of, kind_word, replied, show_processor, show_running}
use Rattle.nt_print.specs.Report.{status_row, used, what_row}

-- ---- numbers and names

-- two numbers below 2 to the 64th with the same decimals are the same
word_one : (m n : ℕ) → IsWord m → IsWord n → decimal m ≡ decimal n → m ≡ n
word_one m n lm ln e = decimal_one m n (omega (arith, lm)) (omega (arith, ln)) e

-- the decimals of a number that fits in 64 bits are a field
word_field : (n : ℕ) → IsWord n → is_field (decimal n) ≡ true
word_field n l = decimal_field n (omega (arith, l))

-- what a sound input gives
pub record Known (input : Input) : Type 0 where
  pub fit : Fit input
  pub are : AreRead input.names
  pub counts : Counts input.script input.names

-- a sound input fits, its names are read again, and there are as many names as objects of each kind
pub known : (input : Input) → IsSound input → Known input
known input s =
    let fit = sound_fits input s in
    record {
      fit = fit;
      are = are_read input.names fit.few fit.names;
      counts = record { dpcs = s.dpcs; timers = s.timers; threads = s.threads; apcs = s.apcs; routines = s.routines; locks = s.locks };
    }

-- a place below the length of a list is below a number equal to that length
below : (i n m : ℕ) → n ≡ m → nat_lt i m ≡ true → i < n
below i n m e h = let lt = ltb-true i m h in omega (arith, e, lt)

-- a DPC of the script has a name in the list of DPC names
pub dpc_at : (input : Input) → Known input → (d : DpcNo) → has_dpc input.script d ≡ true → d.0 < length input.names.dpcs
dpc_at input k d h = below d.0 (length input.names.dpcs) (length input.script.dpcs) k.counts.dpcs h

-- two DPCs of the script with the same name are the same
dpc_one : (input : Input) → Known input → (d x : DpcNo) → has_dpc input.script d ≡ true → has_dpc input.script x ≡ true → show_dpc input.names d
    ≡ show_dpc input.names x → d ≡ x
dpc_one input k d x h g e = read_one (read_dpc input.names) (show_dpc input.names d) (show_dpc input.names x) d x (k.are.dpcs d (dpc_at input k d h))
    (k.are.dpcs x (dpc_at input k x g)) e

-- the name of a DPC of the script is a field
pub dpc_clean : (input : Input) → Known input → (d : DpcNo) → has_dpc input.script d ≡ true → is_field (show_dpc input.names d) ≡ true
dpc_clean input k d h = dpc_field input.names k.fit.names d.0 (dpc_at input k d h)

-- a timer of the script has a name in the list of timer names
pub timer_at : (input : Input) → Known input → (t : TimerNo) → has_timer input.script t ≡ true → t.0 < length input.names.timers
timer_at input k t h = below t.0 (length input.names.timers) (length input.script.timers) k.counts.timers h

-- two timers of the script with the same name are the same
timer_one : (input : Input) → Known input → (t u : TimerNo) → has_timer input.script t ≡ true → has_timer input.script u ≡ true → show_timer input.names t
    ≡ show_timer input.names u → t ≡ u
timer_one input k t u h g e = read_one (read_timer input.names) (show_timer input.names t) (show_timer input.names u) t u
    (k.are.timers t (timer_at input k t h)) (k.are.timers u (timer_at input k u g)) e

-- the name of a timer of the script is a field
timer_clean : (input : Input) → Known input → (t : TimerNo) → has_timer input.script t ≡ true → is_field (show_timer input.names t) ≡ true
timer_clean input k t h = timer_field input.names k.fit.names t.0 (timer_at input k t h)

-- a thread of the script has a name in the list of thread names
pub thread_at : (input : Input) → Known input → (t : ThreadNo) → has_thread input.script t ≡ true → t.0 < length input.names.threads
thread_at input k t h = below t.0 (length input.names.threads) (length input.script.threads) k.counts.threads h

-- two threads of the script with the same name are the same
thread_one : (input : Input) → Known input → (t u : ThreadNo) → has_thread input.script t ≡ true → has_thread input.script u ≡ true → show_thread input.names t
    ≡ show_thread input.names u → t ≡ u
thread_one input k t u h g e = read_one (read_thread input.names) (show_thread input.names t) (show_thread input.names u) t u
    (k.are.threads t (thread_at input k t h)) (k.are.threads u (thread_at input k u g)) e

-- the name of a thread of the script is a field
thread_clean : (input : Input) → Known input → (t : ThreadNo) → has_thread input.script t ≡ true → is_field (show_thread input.names t) ≡ true
thread_clean input k t h = thread_field input.names k.fit.names t.0 (thread_at input k t h)

-- a lock of the script has a name in the list of lock names
pub lock_at : (input : Input) → Known input → (l : LockNo) → has_lock input.script l ≡ true → l.0 < length input.names.locks
lock_at input k l h = below l.0 (length input.names.locks) input.script.locks k.counts.locks h

-- two spin locks of the script with the same name are the same
lock_one : (input : Input) → Known input → (l m : LockNo) → has_lock input.script l ≡ true → has_lock input.script m ≡ true →
    show_lock input.names l ≡ show_lock input.names m → l ≡ m
lock_one input k l m h g e = read_one (read_lock input.names) (show_lock input.names l) (show_lock input.names m) l m
    (k.are.locks l (lock_at input k l h)) (k.are.locks m (lock_at input k m g)) e

-- the name of a lock of the script is a field
pub lock_clean : (input : Input) → Known input → (l : LockNo) → has_lock input.script l ≡ true → is_field (show_lock input.names l) ≡ true
lock_clean input k l h =
    let names = input.names in
    name_field (show_lock names l)
    (is_new (((names.dpcs ++ names.timers) ++ names.threads) ++ names.apcs) names.locks l.0 k.fit.names.locks (lock_at input k l h)).0

-- an APC of the script has a name in the list of APC names
pub apc_at : (input : Input) → Known input → (a : ApcNo) → has_apc input.script a ≡ true → a.0 < length input.names.apcs
apc_at input k a h = below a.0 (length input.names.apcs) (length input.script.apcs) k.counts.apcs h

-- two APCs of the script with the same name are the same
apc_one : (input : Input) → Known input → (a b : ApcNo) → has_apc input.script a ≡ true → has_apc input.script b ≡ true → show_apc input.names a
    ≡ show_apc input.names b → a ≡ b
apc_one input k a b h g e = read_one (read_apc input.names) (show_apc input.names a) (show_apc input.names b) a b (k.are.apcs a (apc_at input k a h))
    (k.are.apcs b (apc_at input k b g)) e

-- the name of an APC of the script is a field
pub apc_clean : (input : Input) → Known input → (a : ApcNo) → has_apc input.script a ≡ true → is_field (show_apc input.names a) ≡ true
apc_clean input k a h = apc_field input.names k.fit.names a.0 (apc_at input k a h)

-- ---- marks of rows

-- the first byte of a field
initial : Row → ℕ → ℕ
initial row i = get_or (get_or row i []) 0 0

-- the first byte of a row and its third one
mark : Row → ℕ
mark row = initial row 0 * 256 + get_or (get_or row 0 []) 2 0

-- ---- replies

-- the number of a refusal fits in 64 bits
pub refusal_small : (r : Refusal) → refusal_number r < 2 ^ 64
refusal_small NotThread = omega arith
refusal_small NotBase = omega arith
refusal_small TooHigh = omega arith
refusal_small RegionsOpen = omega arith
refusal_small NotGreater = omega arith
refusal_small NotLess = omega arith
refusal_small BelowBase = omega arith
refusal_small NotEntered = omega arith
refusal_small LockHeld = omega arith
refusal_small HeldHere = omega arith
refusal_small NotLast = omega arith

-- two refusals with the same number are the same
refusal_one : (r q : Refusal) → refusal_number r ≡ refusal_number q → r ≡ q
refusal_one NotThread NotThread e = refl
refusal_one NotBase NotBase e = refl
refusal_one TooHigh TooHigh e = refl
refusal_one RegionsOpen RegionsOpen e = refl
refusal_one NotGreater NotGreater e = refl
refusal_one NotLess NotLess e = refl
refusal_one BelowBase BelowBase e = refl
refusal_one NotEntered NotEntered e = refl
refusal_one LockHeld LockHeld e = refl
refusal_one HeldHere HeldHere e = refl
refusal_one NotLast NotLast e = refl
refusal_one r q e = absurd (omega (arith, e))

-- the name of a refusal is a field
refusal_clean : (r : Refusal) → is_field (refusal_name r) ≡ true
refusal_clean NotThread = refl
refusal_clean NotBase = refl
refusal_clean TooHigh = refl
refusal_clean RegionsOpen = refl
refusal_clean NotGreater = refl
refusal_clean NotLess = refl
refusal_clean BelowBase = refl
refusal_clean NotEntered = refl
refusal_clean LockHeld = refl
refusal_clean HeldHere = refl
refusal_clean NotLast = refl

-- two replies in range with the same fields are the same
reply_one : (r q : Reply) → ReplyInRange r → ReplyInRange q → replied r ≡ replied q → r ≡ q
unfolding initial
reply_one Done Done h g e = refl
reply_one Yes Yes h g e = refl
reply_one No No h g e = refl
reply_one (Status x) (Status y) h g e =
    let field : hexadecimal x ≡ hexadecimal y = cc in
    ap (λ (n : ℕ). Status n) (hexadecimal_one x y h g field)
reply_one Blocked Blocked h g e = refl
reply_one (Refused a) (Refused b) h g e =
    let field : decimal (refusal_number a) ≡ decimal (refusal_number b) = cc in
    ap (λ (r : Refusal). Refused r) (refusal_one a b (decimal_one (refusal_number a) (refusal_number b) (refusal_small a) (refusal_small b) field))
reply_one Spin Spin h g e = refl
reply_one Spin (Status y) h g e = absurd cc
reply_one (Status x) Spin h g e = absurd cc
reply_one r q h g e = absurd (omega (arith, ap (λ (row : Row). initial row 1) e))

-- the fields of a reply in range are all fields of a line
reply_clean : (r : Reply) → ReplyInRange r → list_all is_field (replied r) ≡ true
reply_clean Done h = refl
reply_clean Yes h = refl
reply_clean No h = refl
reply_clean (Status x) h = rw (hexadecimal_field x h) refl
reply_clean Blocked h = refl
reply_clean Spin h = refl
reply_clean (Refused r) h = rw (decimal_field (refusal_number r) (refusal_small r), refusal_clean r) refl

-- ---- commands

-- a command that names things of the script and has its range is one that can be written
pub command_plain : (input : Input) → Known input → (c : Command) → command_fits input.script c ≡ true → HasRange c →
    CommandFits input.names input.script.cpus c
command_plain input k c h r = command_from input.script input.names k.counts c h r

-- two verbs with the same keyword text are the same
verb_one : (v u : Verb) → text_of (keyword.Call v) ≡ text_of (keyword.Call u) → v ≡ u
verb_one v u e =
    let both : Some (keyword.Call v) ≡ Some (keyword.Call u) =
    sym (keyword_again 2 (keyword.Call v) (since_two v)) ∙ ap (keyword_of 2) e ∙ keyword_again 2 (keyword.Call u) (since_two u) in
    cc
  where
    since_two : (v : Verb) → since (keyword.Call v) ≤ 2
    since_two verb.Acquire = omega arith
    since_two verb.Unlock = omega arith
    since_two v = omega arith

-- a command and its reply
called_one : (input : Input) → Known input → (c d : Command) (r q : Reply) → command_fits input.script c ≡ true → command_fits input.script d ≡ true →
    HasRange c → HasRange d → ReplyInRange r → ReplyInRange q
    → command_row input.names c ++ replied r ≡ command_row input.names d ++ replied q → (c ≡ d) × (r ≡ q)
called_one input k c d r q hc hd rc rd hr hq e =
    let names = input.names in
    let cpus = input.script.cpus in
    let fits = command_plain input k c hc rc in
    let fits_too = command_plain input k d hd rd in
    let head : text_of (keyword.Call (command_verb c)) ≡ text_of (keyword.Call (command_verb d)) = cc in
    let more : command_args names c ++ replied r ≡ command_args names d ++ replied q = cc in
    let verb : command_verb c ≡ command_verb d = verb_one (command_verb c) (command_verb d) head in
    let long : length (command_args names c) ≡ length (command_args names d) = args_count names c ∙ ap verb_arity verb ∙ sym (args_count names d) in
    let parts = parts_one (command_args names c) (command_args names d) (replied r) (replied q) long more in
    let args : command_args names c ≡ command_args names d = parts.0 in
    let again : command_of names cpus (command_verb c) (command_args names c) ≡ command_of names cpus (command_verb d) (command_args names d) = cc in
    let both = sym (command_again names cpus k.are k.fit.cpus.1 c fits) ∙ again ∙ command_again names cpus k.are k.fit.cpus.1 d fits_too in
    (ok_one both, reply_one r q hr hq parts.1)
  where
    ok_one : {E : Type 0} {c d : Command} → ◌≡◌ {A = Result Command E} (Ok c) (Ok d) → c ≡ d
    ok_one e = cc

-- the row of a call and its reply has only fields, if the command fits the script and both are in range
called_clean : (input : Input) → Known input → (c : Command) (r : Reply) → command_fits input.script c ≡ true → HasRange c → ReplyInRange r →
    list_all is_field (command_row input.names c ++ replied r) ≡ true
called_clean input k c r h g hr =
    list_all-append is_field (command_row input.names c) (replied r)
    ∙ and_from (list_all is_field (command_row input.names c)) (list_all is_field (replied r))
    (row_to (command_row input.names c) (command_clean input.names k.fit.names input.script.cpus k.fit.cpus.1 c (command_plain input k c h g)))
    (reply_clean r hr)

-- ---- what is begun

-- the first byte of the word of an APC kind differs from those of the other words that begin an activity
kind_byte : (k : ApcKind) → (get_or (kind_word k) 0 0 ≢ 105) × (get_or (kind_word k) 0 0 ≢ 100) × (get_or (kind_word k) 0 0 ≢ 116)
kind_byte kind.Special = (λ e. omega (arith, e), λ e. omega (arith, e), λ e. omega (arith, e))
kind_byte kind.Normal = (λ e. omega (arith, e), λ e. omega (arith, e), λ e. omega (arith, e))
kind_byte kind.User = (λ e. omega (arith, e), λ e. omega (arith, e), λ e. omega (arith, e))

-- the word of a kind is no other word
kind_apart : (o : Option ApcDecl) → (get_or (kind_of o) 0 0 ≢ 105) × (get_or (kind_of o) 0 0 ≢ 100) × (get_or (kind_of o) 0 0 ≢ 116)
kind_apart None = (λ e. omega (arith, e), λ e. omega (arith, e), λ e. omega (arith, e))
kind_apart (Some a) = kind_byte a.kind

-- the word of an APC kind is a field
kind_field : (k : ApcKind) → is_field (kind_word k) ≡ true
kind_field kind.Special = refl
kind_field kind.Normal = refl
kind_field kind.User = refl

-- the word of the kind of an APC declaration is a field, also where there is none
kind_clean : (o : Option ApcDecl) → is_field (kind_of o) ≡ true
kind_clean None = refl
kind_clean (Some a) = kind_field a.kind

-- two activities that begin, fit the script and are in range are the same if their rows are
begun_same : (input : Input) → Known input → (b c : Begun) → begun_fits input.script b ≡ true → begun_fits input.script c ≡ true → BegunInRange b →
    BegunInRange c → begun_row input b ≡ begun_row input c → b ≡ c
unfolding initial
begun_same input k (begun.Int l) (begun.Int m) h g rb rc e =
    let field : decimal l ≡ decimal m = cc in
    ap (λ (n : ℕ). begun.Int n) (decimal_one l m (omega (arith, rb)) (omega (arith, rc)) field)
begun_same input k (begun.Dpc d) (begun.Dpc x) h g rb rc e = let field : show_dpc input.names d ≡ show_dpc input.names x = cc in
    ap (λ (d : DpcNo). begun.Dpc d) (dpc_one input k d x h g field)
begun_same input k (begun.Threaded d) (begun.Threaded x) h g rb rc e = let field : show_dpc input.names d ≡ show_dpc input.names x = cc in
    ap (λ (d : DpcNo). begun.Threaded d) (dpc_one input k d x h g field)
begun_same input k (begun.Apc a) (begun.Apc b) h g rb rc e = let field : show_apc input.names a ≡ show_apc input.names b = cc in
    ap (λ (a : ApcNo). begun.Apc a) (apc_one input k a b h g field)
begun_same input k (begun.Apc a) (begun.Int l) h g rb rc e = absurd ((kind_apart (slice_get input.script.apcs a.0)).0 (ap (λ (row : Row). initial row 0) e))
begun_same input k (begun.Apc a) (begun.Dpc d) h g rb rc e = absurd ((kind_apart (slice_get input.script.apcs a.0)).1 (ap (λ (row : Row). initial row 0) e))
begun_same input k (begun.Apc a) (begun.Threaded d) h g rb rc e = absurd
    ((kind_apart (slice_get input.script.apcs a.0)).2 (ap (λ (row : Row). initial row 0) e))
begun_same input k (begun.Int l) (begun.Apc a) h g rb rc e = absurd
    ((kind_apart (slice_get input.script.apcs a.0)).0 (sym (ap (λ (row : Row). initial row 0) e)))
begun_same input k (begun.Dpc d) (begun.Apc a) h g rb rc e = absurd
    ((kind_apart (slice_get input.script.apcs a.0)).1 (sym (ap (λ (row : Row). initial row 0) e)))
begun_same input k (begun.Threaded d) (begun.Apc a) h g rb rc e = absurd
    ((kind_apart (slice_get input.script.apcs a.0)).2 (sym (ap (λ (row : Row). initial row 0) e)))
begun_same input k b c h g rb rc e = absurd (omega (arith, ap (λ (row : Row). initial row 0) e))

-- the row of an activity that begins has two fields
begun_long : (input : Input) (b : Begun) → length (begun_row input b) ≡ 2
begun_long input (begun.Int l) = refl
begun_long input (begun.Dpc d) = refl
begun_long input (begun.Threaded d) = refl
begun_long input (begun.Apc a) = refl

-- the row of an activity that begins has only fields, if it fits the script and is in range
begun_clean : (input : Input) → Known input → (b : Begun) → begun_fits input.script b ≡ true → BegunInRange b → list_all is_field (begun_row input b) ≡ true
begun_clean input k (begun.Int l) h r = rw (decimal_field l (omega (arith, r))) refl
begun_clean input k (begun.Dpc d) h r = rw (dpc_clean input k d h) refl
begun_clean input k (begun.Threaded d) h r = rw (dpc_clean input k d h) refl
begun_clean input k (begun.Apc a) h r = rw (kind_clean (slice_get input.script.apcs a.0), apc_clean input k a h) refl

-- two event numbers of 64 bits with the same fields of use are the same
used_one : (m n : ℕ) → IsWord m → IsWord n → used m ≡ used n → m ≡ n
used_one m n hm hn e = let field : decimal m ≡ decimal n = cc in word_one m n hm hn field

-- the fields that tell which event is used are fields of a line, for a number of 64 bits
used_clean : (n : ℕ) → IsWord n → list_all is_field (used n) ≡ true
used_clean n h = rw (word_field n h) refl

-- ---- timers

-- two timer keys that fit the script and have the same row are the same
key_same : (input : Input) → Known input → (a b : TimerKey) → key_fits input.script a ≡ true → key_fits input.script b ≡ true → key_row input.names a
    ≡ key_row input.names b → a ≡ b
unfolding initial
key_same input k (key.Timer t) (key.Timer u) h g e = let field : show_timer input.names t ≡ show_timer input.names u = cc in
    ap (λ (t : TimerNo). key.Timer t) (timer_one input k t u h g field)
key_same input k (key.Delay t) (key.Delay u) h g e = let field : show_thread input.names t ≡ show_thread input.names u = cc in
    ap (λ (t : ThreadNo). key.Delay t) (thread_one input k t u h g field)
key_same input k a b h g e = absurd (omega (arith, ap (λ (row : Row). initial row 0) e))

-- the row of a timer key has two fields
key_long : (names : NameLists) (a : TimerKey) → length (key_row names a) ≡ 2
key_long names (key.Timer t) = refl
key_long names (key.Delay t) = refl

-- the row of a timer key that fits the script has only fields
key_clean : (input : Input) → Known input → (a : TimerKey) → key_fits input.script a ≡ true → list_all is_field (key_row input.names a) ≡ true
key_clean input k (key.Timer t) h = rw (timer_clean input k t h) refl
key_clean input k (key.Delay t) h = rw (thread_clean input k t h) refl

-- two optional wait statuses in range with the same row are the same
status_one : (a b : Option ℕ) → StatusInRange a → StatusInRange b → status_row a ≡ status_row b → a ≡ b
status_one None None h g e = refl
status_one (Some x) (Some y) h g e = let field : hexadecimal x ≡ hexadecimal y = cc in ap (λ (n : ℕ). Some n) (hexadecimal_one x y h g field)
status_one None (Some y) h g e = absurd cc
status_one (Some x) None h g e = absurd cc

-- the row of an optional wait status in range has only fields
status_clean : (a : Option ℕ) → StatusInRange a → list_all is_field (status_row a) ≡ true
status_clean None h = refl
status_clean (Some x) h = rw (hexadecimal_field x h) refl

-- ---- what an event does

abbrev pub is_look : What → Bool
is_look (Look rises) = true
is_look _ = false

-- two kinds of events with the same row are the same, if they fit the script and are no looks
pub what_one : (input : Input) → Known input → (ver : ℕ) (w v : What) → what_fits input.script w ≡ true → what_fits input.script v ≡ true →
    WhatInRange ver w → WhatInRange ver v → is_look w ≡ false → is_look v ≡ false → what_row input w ≡ what_row input v → w ≡ v
unfolding mark initial
what_one input k ver (Call f c r) (Call g d q) hw hv ru rv l m e =
    let field : decimal f ≡ decimal g = cc in
    let more : command_row input.names c ++ replied r ≡ command_row input.names d ++ replied q = cc in
    let frame : f ≡ g = word_one f g ru.0 rv.0 field in
    let both = called_one input k c d r q hw hv ru.1 rv.1 ru.2 rv.2 more in
    let command : c ≡ d = both.0 in
    let reply : r ≡ q = both.1 in
    cc
what_one input k ver (Begin b n) (Begin c m) hw hv ru rv l j e =
    let more : begun_row input b ++ used n ≡ begun_row input c ++ used m = cc in
    let parts = parts_one (begun_row input b) (begun_row input c) (used n) (used m) (begun_long input b ∙ sym (begun_long input c)) more in
    let same : b ≡ c = begun_same input k b c hw hv ru.0 rv.0 parts.0 in
    let from : n ≡ m = used_one n m ru.1 rv.1 parts.1 in
    cc
what_one input k ver (Normal f) (Normal g) hw hv ru rv l m e = let field : decimal f ≡ decimal g = cc in ap (λ (n : ℕ). Normal n) (word_one f g ru rv field)
what_one input k ver (End f) (End g) hw hv ru rv l m e = let field : decimal f ≡ decimal g = cc in ap (λ (n : ℕ). End n) (word_one f g ru rv field)
what_one input k ver (Expire a n) (Expire b m) hw hv ru rv l j e =
    let more : key_row input.names a ++ used n ≡ key_row input.names b ++ used m = cc in
    let parts = parts_one (key_row input.names a) (key_row input.names b) (used n) (used m) (key_long input.names a ∙ sym (key_long input.names b)) more in
    let same : a ≡ b = key_same input k a b hw hv parts.0 in
    let from : n ≡ m = used_one n m ru rv parts.1 in
    cc
what_one input k ver (Fire d r) (Fire x q) hw hv ru rv l m e =
    let field : show_dpc input.names d ≡ show_dpc input.names x = cc in
    let more : replied r ≡ replied q = cc in
    let same : d ≡ x = dpc_one input k d x hw hv field in
    let reply : r ≡ q = reply_one r q ru rv more in
    cc
what_one input k ver (Clean c) (Clean d) hw hv ru rv l m e = let field : decimal c ≡ decimal d = cc in
    ap (λ (n : ℕ). Clean n) (decimal_one c d (omega (arith, ru)) (omega (arith, rv)) field)
what_one input k ver (Switch t a) (Switch u b) hw hv ru rv l m e =
    let field : show_thread input.names t ≡ show_thread input.names u = cc in
    let more : status_row a ≡ status_row b = cc in
    let same : t ≡ u = thread_one input k t u hw hv field in
    let status : a ≡ b = status_one a b ru rv more in
    cc
what_one input k ver (Rewait f r) (Rewait g q) hw hv ru rv l m e =
    let field : decimal f ≡ decimal g = cc in
    let more : replied r ≡ replied q = cc in
    let frame : f ≡ g = word_one f g ru.0 rv.0 field in
    let reply : r ≡ q = reply_one r q ru.1 rv.1 more in
    cc
what_one input k ver (Flush a n) (Flush b m) hw hv ru rv l j e =
    let field : show_apc input.names a ≡ show_apc input.names b = cc in
    let more : used n ≡ used m = cc in
    let same : a ≡ b = apc_one input k a b hw hv field in
    let from : n ≡ m = used_one n m ru rv more in
    cc
what_one input k ver (Gone t) (Gone u) hw hv ru rv l m e = let field : show_thread input.names t ≡ show_thread input.names u = cc in
    ap (λ (t : ThreadNo). Gone t) (thread_one input k t u hw hv field)
what_one input k ver Rest Rest hw hv ru rv l m e = refl
what_one input k ver (Free f x) (Free g y) hw hv ru rv l m e =
    let field : decimal f ≡ decimal g = cc in
    let name : show_lock input.names x ≡ show_lock input.names y = cc in
    let frame : f ≡ g = word_one f g ru rv field in
    let same : x ≡ y = lock_one input k x y hw hv name in
    cc
what_one input k ver (Look a) v hw hv ru rv l m e = absurd cc
what_one input k ver w (Look b) hw hv ru rv l m e = absurd cc
what_one input k ver w v hw hv ru rv l m e = absurd (omega (arith, ap mark e))

-- the row of what an event does has only fields, if it fits the script and is in range
pub what_clean : (input : Input) → Known input → (ver : ℕ) (w : What) → what_fits input.script w ≡ true → WhatInRange ver w →
    list_all is_field (what_row input w) ≡ true
what_clean input k ver (Call f c r) h g = rw (word_field f g.0, called_clean input k c r h g.1 g.2) refl
what_clean input k ver (Look rises) h g = refl
what_clean input k ver (Begin b n) h g =
    list_all-append is_field (begun_row input b) (used n)
    ∙ and_from (list_all is_field (begun_row input b)) (list_all is_field (used n)) (begun_clean input k b h g.0) (used_clean n g.1)
what_clean input k ver (Normal f) h g = rw (word_field f g) refl
what_clean input k ver (End f) h g = rw (word_field f g) refl
what_clean input k ver (Expire a n) h g =
    list_all-append is_field (key_row input.names a) (used n)
    ∙ and_from (list_all is_field (key_row input.names a)) (list_all is_field (used n)) (key_clean input k a h) (used_clean n g)
what_clean input k ver (Fire d r) h g = rw (dpc_clean input k d h, reply_clean r g) refl
what_clean input k ver (Clean c) h g = rw (decimal_field c (omega (arith, g))) refl
what_clean input k ver (Switch t a) h g = rw (thread_clean input k t h, status_clean a g) refl
what_clean input k ver (Rewait f r) h g = rw (word_field f g.0, reply_clean r g.1) refl
what_clean input k ver (Flush a n) h g = rw (apc_clean input k a h, word_field n g) refl
what_clean input k ver (Gone t) h g = rw (thread_clean input k t h) refl
what_clean input k ver (Free f l) h g = rw (word_field f g, lock_clean input k l h) refl
what_clean input k ver Rest h g = refl

-- ---- events

-- a name is never the dash
pub no_dash : (f : List ℕ) → is_name f ≡ true → dash ≡ f → ⊥
no_dash f h e = let dashed : is_name dash ≡ true = ap is_name e ∙ h in cc

-- two optional running threads of the script that are shown alike are the same
running_one : (input : Input) → Known input → (a b : Option ThreadNo) → where_given (has_thread input.script) a ≡ true →
    where_given (has_thread input.script) b ≡ true → show_running input.names a ≡ show_running input.names b → a ≡ b
running_one input k None None h g e = refl
running_one input k (Some t) (Some u) h g e = ap (λ (t : ThreadNo). Some t) (thread_one input k t u h g e)
running_one input k None (Some u) h g e = absurd (no_dash (show_thread input.names u)
    (is_new (input.names.dpcs ++ input.names.timers) input.names.threads u.0 k.fit.names.threads (thread_at input k u g)).0 e)
running_one input k (Some t) None h g e = absurd (no_dash (show_thread input.names t)
    (is_new (input.names.dpcs ++ input.names.timers) input.names.threads t.0 k.fit.names.threads (thread_at input k t h)).0 (sym e))

-- the shown running thread is a field, if it is a thread of the script or none
running_clean : (input : Input) → Known input → (a : Option ThreadNo) → where_given (has_thread input.script) a ≡ true → is_field (show_running input.names a)
    ≡ true
running_clean input k None h = refl
running_clean input k (Some t) h = thread_clean input k t h

-- what it says that an event names things of the script
pub record Fits (s : Script) (e : Event) : Type 0 where
  pub cpu : has_cpu s e.cpu ≡ true
  pub thread : where_given (has_thread s) e.thread ≡ true
  pub what : what_fits s e.what ≡ true

-- an event that fits the script has its processor, its thread and all that it names in the script
pub event_parts : (s : Script) (e : Event) → event_fits s e ≡ true → Fits s e
event_parts s e h =
    let p = and_parts (has_cpu s e.cpu && where_given (has_thread s) e.thread) (what_fits s e.what) h in
    let q = and_parts (has_cpu s e.cpu) (where_given (has_thread s) e.thread) p.0 in
    record { cpu = q.0; thread = q.1; what = p.1 }

-- the number of a processor of the script fits in 64 bits
pub cpu_small : (input : Input) → Known input → (p : CpuNo) → has_cpu input.script p ≡ true → p.0 < 2 ^ 64
cpu_small input k p h = let lt = ltb-true p.0 input.script.cpus h in let few = k.fit.cpus.1 in omega (arith, lt, few)

-- two processors with the same number are the same
cpu_same : (p q : CpuNo) → p.0 ≡ q.0 → p ≡ q
cpu_same p q e = ap (λ (n : ℕ). record { 0 = n }) e

abbrev event : CpuNo → Option ThreadNo → ℕ → What → Event
event p t level w = record { cpu = p; thread = t; level = level; what = w }

-- events with the same processor, thread, level and kind are the same
pub event_same : (e f : Event) → e.cpu ≡ f.cpu → e.thread ≡ f.thread → e.level ≡ f.level → e.what ≡ f.what → e ≡ f
event_same e f c t l w =
    ap (λ (p : CpuNo). event p e.thread e.level e.what) c ∙ ap (λ (x : Option ThreadNo). event f.cpu x e.level e.what) t
    ∙ ap (λ (n : ℕ). event f.cpu f.thread n e.what) l ∙ ap (λ (v : What). event f.cpu f.thread f.level v) w

-- two plain events with the same number and the same row are the same, if they are no looks
pub event_one : (input : Input) → Known input → (n : ℕ) (e f : Event) → EventIsPlain input e → EventIsPlain input f → is_look e.what ≡ false →
    is_look f.what ≡ false → event_row input n e ≡ event_row input n f → e ≡ f
event_one input k n e f h g le lf r =
    let pe = event_parts input.script e h.0 in
    let pf = event_parts input.script f g.0 in
    let processor : show_processor e.cpu.0 ≡ show_processor f.cpu.0 = cc in
    let number : decimal e.cpu.0 ≡ decimal f.cpu.0 = cc in
    let running : show_running input.names e.thread ≡ show_running input.names f.thread = cc in
    let level : decimal e.level ≡ decimal f.level = cc in
    let what : what_row input e.what ≡ what_row input f.what = cc in
    event_same e f (cpu_same e.cpu f.cpu (decimal_one e.cpu.0 f.cpu.0 (cpu_small input k e.cpu pe.cpu) (cpu_small input k f.cpu pf.cpu) number))
    (running_one input k e.thread f.thread pe.thread pf.thread running)
    (decimal_one e.level f.level (omega (arith, h.1.0)) (omega (arith, g.1.0)) level)
    (what_one input k input.version e.what f.what pe.what pf.what h.1.1 g.1.1 le lf what)

-- the row of a plain event is a row of a text
pub event_clean : (input : Input) → Known input → (n : ℕ) (e : Event) → n < 2 ^ 64 → EventIsPlain input e → IsRow (event_row input n e)
event_clean input k n e lt h =
    let p = event_parts input.script e h.0 in
    row_from (decimal n) (event_fields input e) (decimal_field n lt)
    (rw (
      decimal_field e.cpu.0 (cpu_small input k e.cpu p.cpu),
      running_clean input k e.thread p.thread,
      decimal_field e.level (omega (arith, h.1.0)),
      what_clean input k input.version e.what p.what h.1.1,
    ) refl)
