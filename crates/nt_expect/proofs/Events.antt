-- The fields of an expectation: what is read is written so and names things of the script, and what is written so is read.
use Rattle.std.proofs.Common.{◌≡◌, ◌∙◌, ℕ, Bool, true, false, cond, List, [], ◌∷◌, ◌++◌, Ok, Err, refl, sym, ap, subst, append_assoc, append-nil}
use Rattle.std.proofs.Common.{arith}
use Rattle.std.specs.Prelude.{codes, decimal, ◌&&◌, ◌==◌}
use Rattle.std.specs.Fmt.{digits}
use Rattle.std.specs.List.{list_all}
use Rattle.std.specs.Str.{bytes_eq}
use Rattle.std.proofs.lemmas.Bool.{and_from, and_parts, eq-eqb}
use Rattle.std.proofs.lemmas.List.Folds.{list_all-append}
use Rattle.nt_text.specs.declared.kind.ScriptKind.TheVariants.{BadNumber, UnknownWord, WrongKind}
use Rattle.nt_text.specs.Lines.{IsRow, Row, is_field, needed, rest}
use Rattle.nt_event.specs.declared.commands.Command.{Command}
use Rattle.nt_event.specs.declared.commands.Command.TheVariants as cmd
use Rattle.nt_event.specs.declared.numbers.ApcNo.{ApcNo}
use Rattle.nt_event.specs.declared.numbers.CpuNo.{CpuNo}
use Rattle.nt_event.specs.declared.numbers.DpcNo.{DpcNo}
use Rattle.nt_event.specs.declared.numbers.LockNo.{LockNo}
use Rattle.nt_event.specs.declared.numbers.ThreadNo.{ThreadNo}
use Rattle.nt_event.specs.declared.numbers.TimerNo.{TimerNo}
use Rattle.nt_event.specs.Script.{command_fits, has_cpu, has_lock}
use Rattle.nt_line.specs.Fields.{read_apc, read_cpu, read_dpc, read_isr_level, read_level, read_lock, read_number, read_thread, read_timer}
use Rattle.nt_line.specs.Results.{◌>>=◌}
use Rattle.nt_line.specs.Rows.{command_row}
use Rattle.nt_line.proofs.FieldTexts.{same_text}
use Rattle.nt_line.proofs.Results.{or_error_ok}
use Rattle.nt_line.proofs.Words.{lock_since}
use Rattle.nt_script.specs.declared.walk.Input.{Input}
use Rattle.nt_expect.specs.declared.expectations.Activity.{Activity}
use Rattle.nt_expect.specs.declared.expectations.Activity.TheVariants as act
use Rattle.nt_expect.specs.declared.expectations.Expectation.{Expectation}
use Rattle.nt_expect.specs.declared.expectations.Expectation.TheVariants.{Never, NeverAfter, NeverBefore, NeverTwice, NeverAbove, NeverOn, NeverWith}
use Rattle.nt_expect.specs.declared.expectations.Expectation.TheVariants.{NeverWaitsDpc, NeverWaitsApc, NeverBlocked, NeverSpins, Always, AlwaysEnds}
use Rattle.nt_expect.specs.declared.expectations.NamedReply.{NamedReply}
use Rattle.nt_expect.specs.declared.expectations.NamedReply.TheVariants as named
use Rattle.nt_expect.specs.declared.expectations.Watched.{Watched}
use Rattle.nt_expect.specs.declared.expectations.Watched.TheVariants.{Note, Refused, Begin, Expire, Gone, Call}
use Rattle.nt_expect.specs.Expectations.{ActivityHasRange, ExpectationIsPlain, WatchedHasRange, activity_fits, activity_row, expectation_row, expected_row}
use Rattle.nt_expect.specs.Expectations.{is_always}
use Rattle.nt_expect.specs.Expectations.{quantifier, reply_row, watched_fits, watched_row}
use Rattle.nt_expect.specs.Fields.{behind_word, command, hexadecimal_of, one_field, read_hexadecimal}
use Rattle.nt_expect.specs.Reading.{always_of, activity_of, expectation_of, is_activity_word, never_behind, never_event, never_of, never_with, never_with_word}
use Rattle.nt_expect.specs.Reading.{read_activity, read_call, read_reply, read_waits, read_watched, replied, reply_of, waits_of, watched_of}
use Rattle.nt_expect.specs.Replies.{may_end, may_reply, replies_of}
use Rattle.nt_expect.proofs.Commands.{CommandIsPlain, commands}
use Rattle.nt_expect.proofs.Hexadecimals.{hexadecimal_shown}
use Rattle.nt_expect.proofs.Known.{Known, apc_named, cpu_field, dpc_named, isr_level_field, level_field, lock_at, lock_named, note_field, thread_named}
use Rattle.nt_expect.proofs.Known.{timer_named}
use Rattle.nt_expect.proofs.Parses.{Parses, Shown, TakesShown, behind, behind_takes, by_word, last_again, mapped_again, one, one_takes, word_alone, worded}
use Rattle.nt_expect.proofs.NamedReplies.{each_reply_status}
use Rattle.nt_expect.proofs.Steps.{bind_is, made, ok, through}

-- ---- activities

abbrev pub ActivityIsPlain : Input → Activity → Type 0
ActivityIsPlain input b = (activity_fits input.script b ≡ true) × ActivityHasRange b

abbrev ActivityShown : Input → Row → Activity × Row → Type 0
ActivityShown input row y = Shown (activity_row input.names) (ActivityIsPlain input) row y

-- a word and fields that are read as an activity are those of that activity and what is left
activity_of_shown : (input : Input) → Known input → (w : List ℕ) (row : Row) (y : Activity × Row) → activity_of input.names w row ≡ Ok y →
    ActivityShown input (w ∷ row) y
activity_of_shown input k w row y e =
    go (bytes_eq w (codes "int")) (bytes_eq w (codes "dpc")) (bytes_eq w (codes "apc")) (bytes_eq w (codes "thread")) refl refl refl refl e
  where
    go : (a b c d : Bool) → bytes_eq w (codes "int") ≡ a → bytes_eq w (codes "dpc") ≡ b → bytes_eq w (codes "apc") ≡ c → bytes_eq w (codes "thread") ≡ d →
        cond a (one_field read_isr_level row >>= λ (l : ℕ × Row). ok (act.Int l.0, l.1))
        (cond b (one_field (read_dpc input.names) row >>= λ (x : DpcNo × Row). ok (act.Dpc x.0, x.1))
        (cond c (one_field (read_apc input.names) row >>= λ (x : ApcNo × Row). ok (act.Apc x.0, x.1))
        (cond d (one_field (read_thread input.names) row >>= λ (x : ThreadNo × Row). ok (act.Thread x.0, x.1)) (Err UnknownWord)))) ≡ Ok y →
        ActivityShown input (w ∷ row) y
    go true b c d p q r s e =
        by_word (one isr_level_field).takes (λ (l : ℕ). act.Int l) (ActivityShown input) (codes "int") (λ l more h. (refl, (h.1, h.0))) w row y p e
    go false true c d p q r s e =
        by_word (one (dpc_named input k)).takes (λ (x : DpcNo). act.Dpc x) (ActivityShown input) (codes "dpc") (λ x more h. (refl, (h, tt))) w row y q e
    go false false true d p q r s e =
        by_word (one (apc_named input k)).takes (λ (x : ApcNo). act.Apc x) (ActivityShown input) (codes "apc") (λ x more h. (refl, (h, tt))) w row y r e
    go false false false true p q r s e =
        by_word (one (thread_named input k)).takes (λ (x : ThreadNo). act.Thread x) (ActivityShown input) (codes "thread") (λ x more h. (refl, (h, tt))) w row y
        s e
    go false false false false p q r s e = absurd cc

-- the fields of an activity of the script, with more after them, are read as that activity
activity_again : (input : Input) → Known input → (b : Activity) (more : Row) → ActivityIsPlain input b →
    read_activity input.names (activity_row input.names b ++ more) ≡ Ok (b, more)
activity_again input k (act.Int l) more h = mapped_again (one isr_level_field) (λ (l : ℕ). act.Int l) l more (h.1, h.0)
activity_again input k (act.Dpc d) more h = mapped_again (one (dpc_named input k)) (λ (x : DpcNo). act.Dpc x) d more h.0
activity_again input k (act.Apc a) more h = mapped_again (one (apc_named input k)) (λ (x : ApcNo). act.Apc x) a more h.0
activity_again input k (act.Thread t) more h = mapped_again (one (thread_named input k)) (λ (x : ThreadNo). act.Thread x) t more h.0

-- the fields of an activity of the script are all fields of a text
activity_clean : (input : Input) → Known input → (b : Activity) → ActivityIsPlain input b → list_all is_field (activity_row input.names b) ≡ true
activity_clean input k (act.Int l) h = (one isr_level_field).clean l (h.1, h.0)
activity_clean input k (act.Dpc d) h = (one (dpc_named input k)).clean d h.0
activity_clean input k (act.Apc a) h = (one (apc_named input k)).clean a h.0
activity_clean input k (act.Thread t) h = (one (thread_named input k)).clean t h.0

-- activities are read from their fields, and what is read as one is written so
activities : (input : Input) → Known input → Parses (read_activity input.names) (activity_row input.names) (ActivityIsPlain input)
activities input k = record {
  takes = record { from = worded (activity_of input.names) (ActivityShown input) (activity_of_shown input k) };
  again = activity_again input k;
  clean = activity_clean input k;
}

-- ---- replies

abbrev ReplyShown : Row → NamedReply × Row → Type 0
ReplyShown row y = Shown reply_row (λ r. Unit {0}) row y

-- a status that is read from hexadecimal digits is written in these
status_takes : TakesShown (one_field read_hexadecimal) (λ n. digits 16 false n ∷ []) (λ n. Unit {0})
status_takes = one_takes read_hexadecimal (digits 16 false) (λ n. Unit {0})
    (λ f n e. (hexadecimal_shown f n (or_error_ok BadNumber (hexadecimal_of f) n e), tt))

-- a word and fields that are read as a reply are those of that reply and what is left
reply_of_shown : (version : ℕ) (w : List ℕ) (row : Row) (y : NamedReply × Row) → reply_of version w row ≡ Ok y → ReplyShown (w ∷ row) y
reply_of_shown version w row y e =
    go (bytes_eq w (codes "yes")) (bytes_eq w (codes "no")) (bytes_eq w (codes "done")) (bytes_eq w (codes "blocked")) (bytes_eq w (codes "status"))
    (bytes_eq w (codes "refused")) (bytes_eq w (codes "spin") && version == 2) refl refl refl refl refl refl refl e
  where
    go : (a b c d s r t : Bool) → bytes_eq w (codes "yes") ≡ a → bytes_eq w (codes "no") ≡ b → bytes_eq w (codes "done") ≡ c →
        bytes_eq w (codes "blocked") ≡ d → bytes_eq w (codes "status") ≡ s → bytes_eq w (codes "refused") ≡ r →
        (bytes_eq w (codes "spin") && version == 2) ≡ t →
        cond a (ok (named.Yes, row)) (cond b (ok (named.No, row)) (cond c (ok (named.Done, row)) (cond d (ok (named.Blocked, row))
        (cond s (one_field read_hexadecimal row >>= λ (x : ℕ × Row). ok (named.Status x.0, x.1))
        (cond r (ok (named.Refused, row)) (cond t (ok (named.Spin, row)) (Err UnknownWord))))))) ≡ Ok y → ReplyShown (w ∷ row) y
    go true b c d s r t ha hb hc hd hs hr ht e = word_alone named.Yes ReplyShown (codes "yes") w row y (refl, tt) ha e
    go false true c d s r t ha hb hc hd hs hr ht e = word_alone named.No ReplyShown (codes "no") w row y (refl, tt) hb e
    go false false true d s r t ha hb hc hd hs hr ht e = word_alone named.Done ReplyShown (codes "done") w row y (refl, tt) hc e
    go false false false true s r t ha hb hc hd hs hr ht e = word_alone named.Blocked ReplyShown (codes "blocked") w row y (refl, tt) hd e
    go false false false false true r t ha hb hc hd hs hr ht e =
        by_word status_takes (λ (n : ℕ). named.Status n) ReplyShown (codes "status") (λ n more h. (refl, tt)) w row y hs e
    go false false false false false true t ha hb hc hd hs hr ht e = word_alone named.Refused ReplyShown (codes "refused") w row y (refl, tt) hr e
    go false false false false false false true ha hb hc hd hs hr ht e =
        word_alone named.Spin ReplyShown (codes "spin") w row y (refl, tt) (and_parts (bytes_eq w (codes "spin")) (version == 2) ht).0 e
    go false false false false false false false ha hb hc hd hs hr ht e = absurd cc

-- what is read as a reply, in any version, is written so
reply_takes : (version : ℕ) → TakesShown (read_reply version) reply_row (λ r. Unit {0})
reply_takes version = record { from = worded (reply_of version) ReplyShown (reply_of_shown version) }

abbrev replied_row : NamedReply → Row
replied_row y = codes "->" ∷ reply_row y

-- a reply that is read after a command's arrow is written so, and is one that the command may give
replied_takes : (version : ℕ) (c : Command) (row : Row) (y : NamedReply × Row) → replied version c row ≡ Ok y →
    Shown replied_row (λ y. may_reply c y ≡ true) row y
replied_takes version c row y e =
    through (λ (y : NamedReply × Row). Shown replied_row (λ y. may_reply c y ≡ true) row y) (behind_word (codes "->") row >>= read_reply version)
    (λ (y : NamedReply × Row). cond (may_reply c y.0) (ok y) (Err WrongKind)) y e
    (λ x is then. go x is (may_reply c x.0) refl then)
  where
    go : (x : NamedReply × Row) → (behind_word (codes "->") row >>= read_reply version) ≡ Ok x → (b : Bool) → may_reply c x.0 ≡ b →
        cond b (ok x) (Err WrongKind) ≡ Ok y → Shown replied_row (λ y. may_reply c y ≡ true) row y
    go x is false may e = absurd cc
    go x is true may e =
        made (λ (y : NamedReply × Row). Shown replied_row (λ y. may_reply c y ≡ true) row y) x y e
        (((behind_takes (reply_takes version) (codes "->")).from row x is).0, may)

-- a status that the command may end with is read from its hexadecimal digits
status_again : (code : ℕ) (c : Command) → may_end code (replies_of c) ≡ true → read_hexadecimal (digits 16 false code) ≡ Ok code
unfolding digits
status_again code c h = each_reply_status (λ (n : ℕ). read_hexadecimal (digits 16 false n) ≡ Ok n) refl refl refl refl code (replies_of c) h

-- a status that the command may end with is written as a field
status_clean : (code : ℕ) (c : Command) → may_end code (replies_of c) ≡ true → is_field (digits 16 false code) ≡ true
unfolding digits
status_clean code c h = each_reply_status (λ (n : ℕ). is_field (digits 16 false n) ≡ true) refl refl refl refl code (replies_of c) h

-- version 2 alone has locks
version_2 : (input : Input) → Known input → (l : LockNo) → has_lock input.script l ≡ true → (input.version == 2) ≡ true
version_2 input k l h =
    let least = lock_since input.names input.version l.0 k.fit.words (lock_at input k l h) in
    let most = k.fit.version.1 in
    eq-eqb input.version 2 (omega (arith, least, most))

-- a command that may be answered with a spin is of version 2
spin_version : (input : Input) → Known input → (c : Command) → CommandIsPlain input c → may_reply c named.Spin ≡ true → (input.version == 2) ≡ true
spin_version input k (cmd.Acquire l) h may = version_2 input k l h.0
spin_version input k (cmd.Raise level) h may = absurd cc
spin_version input k (cmd.Lower level) h may = absurd cc
spin_version input k (cmd.Queue d) h may = absurd cc
spin_version input k (cmd.Unqueue d) h may = absurd cc
spin_version input k (cmd.SetImportance d i) h may = absurd cc
spin_version input k (cmd.SetTarget d q) h may = absurd cc
spin_version input k (cmd.SetTimer t due period) h may = absurd cc
spin_version input k (cmd.CancelTimer t) h may = absurd cc
spin_version input k (cmd.InsertApc a) h may = absurd cc
spin_version input k (cmd.RemoveApc a) h may = absurd cc
spin_version input k cmd.EnterCrit h may = absurd cc
spin_version input k cmd.EnterGuard h may = absurd cc
spin_version input k cmd.LeaveCrit h may = absurd cc
spin_version input k cmd.LeaveGuard h may = absurd cc
spin_version input k (cmd.StartWait m a) h may = absurd cc
spin_version input k (cmd.Delay m a units) h may = absurd cc
spin_version input k (cmd.Release t) h may = absurd cc
spin_version input k (cmd.Alert t m) h may = absurd cc
spin_version input k (cmd.TestAlert m) h may = absurd cc
spin_version input k (cmd.Interrupt q level) h may = absurd cc
spin_version input k (cmd.Clock units) h may = absurd cc
spin_version input k cmd.ToUser h may = absurd cc
spin_version input k cmd.Yield h may = absurd cc
spin_version input k (cmd.Unlock l) h may = absurd cc
spin_version input k (cmd.Note n) h may = absurd cc

-- the arrow and a reply that the command may give are read as that reply
replied_again : (input : Input) → Known input → (c : Command) → CommandIsPlain input c → (y : NamedReply) (more : Row) → may_reply c y ≡ true →
    replied input.version c (replied_row y ++ more) ≡ Ok (y, more)
replied_again input k c h named.Yes more may = rw may refl
replied_again input k c h named.No more may = rw may refl
replied_again input k c h named.Done more may = rw may refl
replied_again input k c h named.Blocked more may = rw may refl
replied_again input k c h (named.Status code) more may = rw (status_again code c may, may) refl
replied_again input k c h named.Refused more may = rw may refl
replied_again input k c h named.Spin more may = rw (spin_version input k c h may, may) refl

-- a reply that the command may give is written in fields
reply_clean : (c : Command) (y : NamedReply) → may_reply c y ≡ true → list_all is_field (reply_row y) ≡ true
reply_clean c named.Yes may = refl
reply_clean c named.No may = refl
reply_clean c named.Done may = refl
reply_clean c named.Blocked may = refl
reply_clean c (named.Status code) may = and_from (is_field (digits 16 false code)) true (status_clean code c may) refl
reply_clean c named.Refused may = refl
reply_clean c named.Spin may = refl

-- ---- events

abbrev pub WatchedIsPlain : Input → Watched → Type 0
WatchedIsPlain input e = (watched_fits input.script e ≡ true) × WatchedHasRange e

abbrev WatchedShown : Input → Row → Watched × Row → Type 0
WatchedShown input row y = Shown (watched_row input.names) (WatchedIsPlain input) row y

-- fields that are read as a call are its command, the arrow and its reply, and what is left
call_shown : (input : Input) → Known input → (row : Row) (y : Watched × Row) → read_call input row ≡ Ok y → WatchedShown input (codes "call" ∷ row) y
call_shown input k row y e =
    let P = WatchedShown input (codes "call" ∷ row) in
    through P (command input row) (λ (c : Command × Row). replied input.version c.0 c.1 >>= λ (a : NamedReply × Row). ok (Call c.0 a.0, a.1)) y e
    (λ c is then. through P (replied input.version c.0 c.1) (λ (a : NamedReply × Row). ok (Call c.0 a.0, a.1)) y then
    (λ a is' then'.
    let s = (commands input k).takes.from row c is in
    let t = replied_takes input.version c.0 c.1 a is' in
    made P (Call c.0 a.0, a.1) y then' (
      ap (λ (r : Row). codes "call" ∷ r)
          (s.0 ∙ ap (λ (r : Row). command_row input.names c.0 ++ r) t.0 ∙ sym (append_assoc (command_row input.names c.0) (replied_row a.0) a.1)),
      (and_from (command_fits input.script c.0) (may_reply c.0 a.0) s.1.0 t.1, s.1.1),
    )))

-- a word and fields that are read as a watched event are those of that event and what is left
watched_of_shown : (input : Input) → Known input → (w : List ℕ) (row : Row) (y : Watched × Row) → watched_of input w row ≡ Ok y → WatchedShown input (w ∷ row) y
watched_of_shown input k w row y e =
    go (bytes_eq w (codes "note")) (bytes_eq w (codes "refused")) (bytes_eq w (codes "begin")) (bytes_eq w (codes "expire")) (bytes_eq w (codes "gone"))
    (bytes_eq w (codes "call")) refl refl refl refl refl refl e
  where
    go : (a b c d g r : Bool) → bytes_eq w (codes "note") ≡ a → bytes_eq w (codes "refused") ≡ b → bytes_eq w (codes "begin") ≡ c →
        bytes_eq w (codes "expire") ≡ d → bytes_eq w (codes "gone") ≡ g → bytes_eq w (codes "call") ≡ r →
        cond a (one_field (read_number 4294967295) row >>= λ (n : ℕ × Row). ok (Note n.0, n.1))
        (cond b (ok (Refused, row))
        (cond c (read_activity input.names row >>= λ (x : Activity × Row). ok (Begin x.0, x.1))
        (cond d (behind_word (codes "timer") row >>= one_field (read_timer input.names) >>= λ (x : TimerNo × Row). ok (Expire x.0, x.1))
        (cond g (one_field (read_thread input.names) row >>= λ (x : ThreadNo × Row). ok (Gone x.0, x.1))
        (cond r (read_call input row) (Err UnknownWord)))))) ≡ Ok y → WatchedShown input (w ∷ row) y
    go true b c d g r ha hb hc hd hg hr e =
        by_word (one note_field).takes (λ (n : ℕ). Note n) (WatchedShown input) (codes "note") (λ n more h. (refl, (refl, h))) w row y ha e
    go false true c d g r ha hb hc hd hg hr e = word_alone Refused (WatchedShown input) (codes "refused") w row y (refl, (refl, tt)) hb e
    go false false true d g r ha hb hc hd hg hr e =
        by_word (activities input k).takes (λ (x : Activity). Begin x) (WatchedShown input) (codes "begin") (λ x more h. (refl, h)) w row y hc e
    go false false false true g r ha hb hc hd hg hr e =
        by_word (behind_takes (one (timer_named input k)).takes (codes "timer")) (λ (x : TimerNo). Expire x) (WatchedShown input) (codes "expire")
        (λ x more h. (refl, (h, tt))) w row y hd e
    go false false false false true r ha hb hc hd hg hr e =
        by_word (one (thread_named input k)).takes (λ (x : ThreadNo). Gone x) (WatchedShown input) (codes "gone") (λ x more h. (refl, (h, tt))) w row y hg e
    go false false false false false true ha hb hc hd hg hr e =
        subst (λ (v : List ℕ). WatchedShown input (v ∷ row) y) (sym (same_text w (codes "call") hr)) (call_shown input k row y e)
    go false false false false false false ha hb hc hd hg hr e = absurd cc

-- the fields of a call's command and reply, with more after them, are read as that call
call_again : (input : Input) → Known input → (c : Command) (a : NamedReply) (more : Row) → WatchedIsPlain input (Call c a) →
    read_call input ((command_row input.names c ++ replied_row a) ++ more) ≡ Ok (Call c a, more)
call_again input k c a more h =
    let p = and_parts (command_fits input.script c) (may_reply c a) h.0 in
    ap (read_call input) (append_assoc (command_row input.names c) (replied_row a) more)
    ∙ bind_is (command input (command_row input.names c ++ (replied_row a ++ more)))
    (λ (c : Command × Row). replied input.version c.0 c.1 >>= λ (a : NamedReply × Row). ok (Call c.0 a.0, a.1)) (c, replied_row a ++ more)
    ((commands input k).again c (replied_row a ++ more) (p.0, h.1))
    ∙ bind_is (replied input.version c (replied_row a ++ more)) (λ (a : NamedReply × Row). ok (Call c a.0, a.1)) (a, more)
    (replied_again input k c (p.0, h.1) a more p.1)

-- the fields of a watched event that a text may have, with more after them, are read as that event
watched_again : (input : Input) → Known input → (e : Watched) (more : Row) → WatchedIsPlain input e → read_watched input (watched_row input.names e ++ more)
    ≡ Ok (e, more)
watched_again input k (Note n) more h = mapped_again (one note_field) (λ (n : ℕ). Note n) n more h.1
watched_again input k Refused more h = refl
watched_again input k (Begin x) more h = mapped_again (activities input k) (λ (x : Activity). Begin x) x more h
watched_again input k (Expire t) more h = mapped_again (behind (one (timer_named input k)) (codes "timer") refl) (λ (x : TimerNo). Expire x) t more h.0
watched_again input k (Gone t) more h = mapped_again (one (thread_named input k)) (λ (x : ThreadNo). Gone x) t more h.0
watched_again input k (Call c a) more h = call_again input k c a more h

-- two rows of fields, one after the other, are a row of fields
both_clean : (a b : Row) → list_all is_field a ≡ true → list_all is_field b ≡ true → list_all is_field (a ++ b) ≡ true
both_clean a b h g = list_all-append is_field a b ∙ and_from (list_all is_field a) (list_all is_field b) h g

-- a watched event that a text may have is written in fields
watched_clean : (input : Input) → Known input → (e : Watched) → WatchedIsPlain input e → list_all is_field (watched_row input.names e) ≡ true
watched_clean input k (Note n) h = (one note_field).clean n h.1
watched_clean input k Refused h = refl
watched_clean input k (Begin x) h = (activities input k).clean x h
watched_clean input k (Expire t) h = (one (timer_named input k)).clean t h.0
watched_clean input k (Gone t) h = (one (thread_named input k)).clean t h.0
watched_clean input k (Call c a) h =
    let p = and_parts (command_fits input.script c) (may_reply c a) h.0 in
    both_clean (command_row input.names c) (replied_row a) ((commands input k).clean c (p.0, h.1)) (reply_clean c a p.1)

-- watched events are read from their fields, and what is read as one is written so
watcheds : (input : Input) → Known input → Parses (read_watched input) (watched_row input.names) (WatchedIsPlain input)
watcheds input k = record {
  takes = record { from = worded (watched_of input) (WatchedShown input) (watched_of_shown input k) };
  again = watched_again input k;
  clean = watched_clean input k;
}

-- ---- what is read

-- the fields behind `never` or `always` are those of an expectation that a text may have, and of this quantifier
record Expects (input : Input) (always : Bool) (row : Row) (y : Expectation × Row) : Type 0 where
  row_is : row ≡ expected_row input.names y.0 ++ y.1
  plain : ExpectationIsPlain input y.0
  quantified : is_always y.0 ≡ always

abbrev Behind : Input → Watched → Row → Expectation × Row → Type 0
Behind input x r y = Expects input false (watched_row input.names x ++ r) y

-- `never`, an event, a word such as `twice` or `after`, and its fields are read as that expectation
never_with_word_shown : (input : Input) → Known input → (x : Watched) → WatchedIsPlain input x → (w : List ℕ) (row : Row) (y : Expectation × Row) →
    never_with_word input x w row ≡ Ok y → Expects input false (watched_row input.names x ++ w ∷ row) y
never_with_word_shown input k x h w row y e =
    go (bytes_eq w (codes "twice")) (bytes_eq w (codes "above")) (bytes_eq w (codes "on")) (bytes_eq w (codes "after")) (bytes_eq w (codes "before"))
    refl refl refl refl refl e
  where
    go : (a b c d g : Bool) → bytes_eq w (codes "twice") ≡ a → bytes_eq w (codes "above") ≡ b → bytes_eq w (codes "on") ≡ c → bytes_eq w (codes "after") ≡ d →
        bytes_eq w (codes "before") ≡ g →
        cond a (ok (NeverTwice x, row))
        (cond b (one_field read_level row >>= λ (l : ℕ × Row). ok (NeverAbove x l.0, l.1))
        (cond c (one_field (read_cpu input.script.cpus) row >>= λ (p : CpuNo × Row). ok (NeverOn x p.0, p.1))
        (cond d (read_watched input row >>= λ (f : Watched × Row). ok (NeverAfter x f.0, f.1))
        (cond g (read_watched input row >>= λ (f : Watched × Row). ok (NeverBefore x f.0, f.1)) (Err UnknownWord))))) ≡ Ok y →
        Expects input false (watched_row input.names x ++ w ∷ row) y
    go true b c d g ha hb hc hd hg e =
        word_alone (NeverTwice x) (Behind input x) (codes "twice") w row y
        (record { row_is = sym (append_assoc (watched_row input.names x) (codes "twice" ∷ []) row); plain = h; quantified = refl }) ha e
    go false true c d g ha hb hc hd hg e =
        by_word (one level_field).takes (λ (l : ℕ). NeverAbove x l) (Behind input x) (codes "above")
        (λ l more f. record {
          row_is = sym (append_assoc (watched_row input.names x) (codes "above" ∷ decimal l ∷ []) more);
          plain = (h.0, (h.1, f));
          quantified = refl;
        }) w row y hb e
    go false false true d g ha hb hc hd hg e =
        by_word (one (cpu_field input k)).takes (λ (p : CpuNo). NeverOn x p) (Behind input x) (codes "on")
        (λ p more f. record {
          row_is = sym (append_assoc (watched_row input.names x) (codes "on" ∷ decimal p.0 ∷ []) more);
          plain = (and_from (watched_fits input.script x) (has_cpu input.script p) h.0 f, h.1);
          quantified = refl;
        }) w row y hc e
    go false false false true g ha hb hc hd hg e =
        by_word (watcheds input k).takes (λ (f : Watched). NeverAfter x f) (Behind input x) (codes "after")
        (λ f more g. record {
          row_is = sym (append_assoc (watched_row input.names x) (codes "after" ∷ watched_row input.names f) more);
          plain = (and_from (watched_fits input.script x) (watched_fits input.script f) h.0 g.0, (h.1, g.1));
          quantified = refl;
        }) w row y hd e
    go false false false false true ha hb hc hd hg e =
        by_word (watcheds input k).takes (λ (f : Watched). NeverBefore x f) (Behind input x) (codes "before")
        (λ f more g. record {
          row_is = sym (append_assoc (watched_row input.names x) (codes "before" ∷ watched_row input.names f) more);
          plain = (and_from (watched_fits input.script x) (watched_fits input.script f) h.0 g.0, (h.1, g.1));
          quantified = refl;
        }) w row y hg e
    go false false false false false ha hb hc hd hg e = absurd cc

-- what is read after `never` and an event, be it a word or nothing, is the expectation written so
never_behind_shown : (input : Input) → Known input → (x : Watched) → WatchedIsPlain input x → (row : Row) (y : Expectation × Row) →
    never_behind input x row ≡ Ok y → Expects input false (watched_row input.names x ++ row) y
never_behind_shown input k x h [] y e =
    made (Expects input false (watched_row input.names x ++ [])) (Never x, []) y e (record { row_is = refl; plain = h; quantified = refl })
never_behind_shown input k x h (w ∷ row) y e = never_with_word_shown input k x h w row y e

-- what is read after `never` as an event and more is the expectation written so
never_event_shown : (input : Input) → Known input → (w : List ℕ) (row : Row) (y : Expectation × Row) → never_event input w row ≡ Ok y →
    Expects input false (w ∷ row) y
never_event_shown input k w row y e =
    through (Expects input false (w ∷ row)) (watched_of input w row) (λ (x : Watched × Row). never_behind input x.0 x.1) y e
    (λ x is then.
    let s = watched_of_shown input k w row x is in
    subst (λ (r : Row). Expects input false r y) (sym s.0) (never_behind_shown input k x.0 s.1 x.1 y then))

-- what is read after `never` as two activities at the same time is the expectation written so
never_with_shown : (input : Input) → Known input → (w : List ℕ) (row : Row) (y : Expectation × Row) → never_with input.names w row ≡ Ok y →
    Expects input false (w ∷ row) y
never_with_shown input k w row y e =
    let P = Expects input false (w ∷ row) in
    through P (activity_of input.names w row)
    (λ (b : Activity × Row). behind_word (codes "with") b.1 >>= read_activity input.names >>= λ (c : Activity × Row). ok (NeverWith b.0 c.0, c.1)) y e
    (λ b is then. through P (behind_word (codes "with") b.1 >>= read_activity input.names) (λ (c : Activity × Row). ok (NeverWith b.0 c.0, c.1)) y then
    (λ c is' then'.
    let s = activity_of_shown input k w row b is in
    let t = (behind_takes (activities input k).takes (codes "with")).from b.1 c is' in
    made P (NeverWith b.0 c.0, c.1) y then' (record {
      row_is = s.0 ∙ ap (λ (r : Row). activity_row input.names b.0 ++ r) t.0
          ∙ sym (append_assoc (activity_row input.names b.0) (codes "with" ∷ activity_row input.names c.0) c.1);
      plain = (and_from (activity_fits input.script b.0) (activity_fits input.script c.0) s.1.0 t.1.0, (s.1.1, t.1.1));
      quantified = refl;
    })))

abbrev Waits : Input → Row → Expectation × Row → Type 0
Waits input r y = Expects input false (codes "waits" ∷ r) y

-- what is read after `never waits` and its word is that of the DPC or the APC which never waits
waits_of_shown : (input : Input) → Known input → (w : List ℕ) (row : Row) (y : Expectation × Row) → waits_of input.names w row ≡ Ok y →
    Expects input false (codes "waits" ∷ w ∷ row) y
waits_of_shown input k w row y e = go (bytes_eq w (codes "dpc")) (bytes_eq w (codes "apc")) refl refl e
  where
    go : (a b : Bool) → bytes_eq w (codes "dpc") ≡ a → bytes_eq w (codes "apc") ≡ b →
        cond a (one_field (read_dpc input.names) row >>= λ (x : DpcNo × Row). ok (NeverWaitsDpc x.0, x.1))
        (cond b (one_field (read_apc input.names) row >>= λ (x : ApcNo × Row). ok (NeverWaitsApc x.0, x.1)) (Err UnknownWord)) ≡ Ok y →
        Expects input false (codes "waits" ∷ w ∷ row) y
    go true b ha hb e =
        by_word (one (dpc_named input k)).takes (λ (x : DpcNo). NeverWaitsDpc x) (Waits input) (codes "dpc")
        (λ x more h. record { row_is = refl; plain = (h, tt); quantified = refl }) w row y ha e
    go false true ha hb e =
        by_word (one (apc_named input k)).takes (λ (x : ApcNo). NeverWaitsApc x) (Waits input) (codes "apc")
        (λ x more h. record { row_is = refl; plain = (h, tt); quantified = refl }) w row y hb e
    go false false ha hb e = absurd cc

-- what is read after `never waits` is the expectation written so
waits_shown : (input : Input) → Known input → (row : Row) (y : Expectation × Row) → read_waits input.names row ≡ Ok y →
    Expects input false (codes "waits" ∷ row) y
waits_shown input k = worded (waits_of input.names) (λ row y. Expects input false (codes "waits" ∷ row) y) (waits_of_shown input k)

-- what is read after `never`, from its first word on, is the expectation written so
never_of_shown : (input : Input) → Known input → (w : List ℕ) (row : Row) (y : Expectation × Row) → never_of input w row ≡ Ok y →
    Expects input false (w ∷ row) y
never_of_shown input k w row y e =
    go (bytes_eq w (codes "waits")) (bytes_eq w (codes "blocked")) (bytes_eq w (codes "spins") && input.version == 2) (is_activity_word w) refl refl refl e
  where
    go : (a b c d : Bool) → bytes_eq w (codes "waits") ≡ a → bytes_eq w (codes "blocked") ≡ b → (bytes_eq w (codes "spins") && input.version == 2) ≡ c →
        cond a (read_waits input.names row)
        (cond b (one_field (read_thread input.names) row >>= λ (x : ThreadNo × Row). ok (NeverBlocked x.0, x.1))
        (cond c (one_field (read_lock input.names) row >>= λ (x : LockNo × Row). ok (NeverSpins x.0, x.1))
        (cond d (never_with input.names w row) (never_event input w row)))) ≡ Ok y → Expects input false (w ∷ row) y
    go true b c d ha hb hc e =
        subst (λ (v : List ℕ). Expects input false (v ∷ row) y) (sym (same_text w (codes "waits") ha)) (waits_shown input k row y e)
    go false true c d ha hb hc e =
        by_word (one (thread_named input k)).takes (λ (x : ThreadNo). NeverBlocked x) (Expects input false) (codes "blocked")
        (λ x more h. record { row_is = refl; plain = (h, tt); quantified = refl }) w row y hb e
    go false false true d ha hb hc e =
        by_word (one (lock_named input k)).takes (λ (x : LockNo). NeverSpins x) (Expects input false) (codes "spins")
        (λ x more h. record { row_is = refl; plain = (h, tt); quantified = refl }) w row y
        (and_parts (bytes_eq w (codes "spins")) (input.version == 2) hc).0 e
    go false false false true ha hb hc e = never_with_shown input k w row y e
    go false false false false ha hb hc e = never_event_shown input k w row y e

-- what is read after `always`, from its first word on, is the expectation written so
always_of_shown : (input : Input) → Known input → (w : List ℕ) (row : Row) (y : Expectation × Row) → always_of input w row ≡ Ok y →
    Expects input true (w ∷ row) y
always_of_shown input k w row y e = go (bytes_eq w (codes "ends")) refl e
  where
    go : (a : Bool) → bytes_eq w (codes "ends") ≡ a →
        cond a (ok (AlwaysEnds, row)) (watched_of input w row >>= λ (x : Watched × Row). ok (Always x.0, x.1)) ≡ Ok y → Expects input true (w ∷ row) y
    go true ha e =
        word_alone AlwaysEnds (Expects input true) (codes "ends") w row y (record { row_is = refl; plain = (refl, tt); quantified = refl }) ha e
    go false ha e =
        through (Expects input true (w ∷ row)) (watched_of input w row) (λ (x : Watched × Row). ok (Always x.0, x.1)) y e
        (λ x is then.
        let s = watched_of_shown input k w row x is in
        made (Expects input true (w ∷ row)) (Always x.0, x.1) y then (record { row_is = s.0; plain = s.1; quantified = refl }))

abbrev pub ExpectationShown : Input → Row → Expectation × Row → Type 0
ExpectationShown input row y = Shown (expectation_row input.names) (ExpectationIsPlain input) row y

-- an expectation read after its quantifier is written with that quantifier in front
quantified : (input : Input) (always : Bool) (row : Row) (y : Expectation × Row) → Expects input always row y →
    ExpectationShown input (quantifier always ∷ row) y
quantified input always row y h =
    (ap (λ (b : Bool). quantifier b ∷ row) (sym h.quantified) ∙ ap (λ (r : Row). quantifier (is_always y.0) ∷ r) h.row_is, h.plain)

-- an expectation that is read is one that a text may have, and written so
pub expectation_shown : (input : Input) → Known input → (w : List ℕ) (row : Row) (y : Expectation × Row) → expectation_of input w row ≡ Ok y →
    ExpectationShown input (w ∷ row) y
expectation_shown input k w row y e = go (bytes_eq w (codes "never")) (bytes_eq w (codes "always")) refl refl e
  where
    go : (a b : Bool) → bytes_eq w (codes "never") ≡ a → bytes_eq w (codes "always") ≡ b →
        cond a (needed row >>= λ (word : List ℕ). never_of input word (rest row))
        (cond b (needed row >>= λ (word : List ℕ). always_of input word (rest row)) (Err UnknownWord)) ≡ Ok y → ExpectationShown input (w ∷ row) y
    go true b ha hb e =
        subst (λ (v : List ℕ). ExpectationShown input (v ∷ row) y) (sym (same_text w (codes "never") ha))
        (quantified input false row y (worded (never_of input) (Expects input false) (never_of_shown input k) row y e))
    go false true ha hb e =
        subst (λ (v : List ℕ). ExpectationShown input (v ∷ row) y) (sym (same_text w (codes "always") hb))
        (quantified input true row y (worded (always_of input) (Expects input true) (always_of_shown input k) row y e))
    go false false ha hb e = absurd cc

-- ---- what is written

-- the fields of an event behind `never` are read as the event, and then what stands behind it
never_reads : (input : Input) (x : Watched) (more : Row) →
    expectation_of input (codes "never") (watched_row input.names x ++ more)
    ≡ (read_watched input (watched_row input.names x ++ more) >>= λ (y : Watched × Row). never_behind input y.0 y.1)
never_reads input (Note n) more = refl
never_reads input Refused more = refl
never_reads input (Begin b) more = refl
never_reads input (Expire t) more = refl
never_reads input (Gone t) more = refl
never_reads input (Call c a) more = refl

-- after `always`, the fields of a watched event are read as an expectation of that event
always_reads : (input : Input) (x : Watched) →
    expectation_of input (codes "always") (watched_row input.names x)
    ≡ (read_watched input (watched_row input.names x) >>= λ (y : Watched × Row). ok (Always y.0, y.1))
always_reads input (Note n) = refl
always_reads input Refused = refl
always_reads input (Begin b) = refl
always_reads input (Expire t) = refl
always_reads input (Gone t) = refl
always_reads input (Call c a) = refl

-- after `never`, the fields of an activity are read as it, then `with`, then another activity
with_reads : (input : Input) (b : Activity) (more : Row) →
    expectation_of input (codes "never") (activity_row input.names b ++ more)
    ≡ (read_activity input.names (activity_row input.names b ++ more) >>=
    λ (b : Activity × Row). behind_word (codes "with") b.1 >>= read_activity input.names >>=
    λ (c : Activity × Row). ok (NeverWith b.0 c.0, c.1))
with_reads input (act.Int l) more = refl
with_reads input (act.Dpc d) more = refl
with_reads input (act.Apc a) more = refl
with_reads input (act.Thread t) more = refl

-- after `never`, the fields of a watched event are read as it, and then what stands after it
event_behind : (input : Input) → Known input → (x : Watched) → WatchedIsPlain input x → (more : Row) →
    expectation_of input (codes "never") (watched_row input.names x ++ more) ≡ never_behind input x more
event_behind input k x h more =
    never_reads input x more
    ∙ bind_is (read_watched input (watched_row input.names x ++ more)) (λ (y : Watched × Row). never_behind input y.0 y.1) (x, more)
    ((watcheds input k).again x more h)

-- the fields of an expectation behind its first word are read as that expectation, and none is left
pub expectation_again : (input : Input) → Known input → (e : Expectation) → ExpectationIsPlain input e →
    expectation_of input (quantifier (is_always e)) (expected_row input.names e) ≡ Ok (e, [])
expectation_again input k (Never x) h =
    ap (expectation_of input (codes "never")) (sym (append-nil (watched_row input.names x))) ∙ event_behind input k x h []
expectation_again input k (NeverAfter x f) h =
    let p = and_parts (watched_fits input.script x) (watched_fits input.script f) h.0 in
    event_behind input k x (p.0, h.1.0) (codes "after" ∷ watched_row input.names f)
    ∙ last_again (watcheds input k) (λ (f : Watched). NeverAfter x f) f (p.1, h.1.1)
expectation_again input k (NeverBefore x f) h =
    let p = and_parts (watched_fits input.script x) (watched_fits input.script f) h.0 in
    event_behind input k x (p.0, h.1.0) (codes "before" ∷ watched_row input.names f)
    ∙ last_again (watcheds input k) (λ (f : Watched). NeverBefore x f) f (p.1, h.1.1)
expectation_again input k (NeverTwice x) h = event_behind input k x h (codes "twice" ∷ [])
expectation_again input k (NeverAbove x l) h =
    event_behind input k x (h.0, h.1.0) (codes "above" ∷ decimal l ∷ []) ∙ last_again (one level_field) (λ (l : ℕ). NeverAbove x l) l h.1.1
expectation_again input k (NeverOn x p) h =
    let q = and_parts (watched_fits input.script x) (has_cpu input.script p) h.0 in
    event_behind input k x (q.0, h.1) (codes "on" ∷ decimal p.0 ∷ []) ∙ last_again (one (cpu_field input k)) (λ (p : CpuNo). NeverOn x p) p q.1
expectation_again input k (NeverWith b c) h =
    let p = and_parts (activity_fits input.script b) (activity_fits input.script c) h.0 in
    let more : Row = codes "with" ∷ activity_row input.names c in
    with_reads input b more
    ∙ bind_is (read_activity input.names (activity_row input.names b ++ more))
    (λ (b : Activity × Row). behind_word (codes "with") b.1 >>= read_activity input.names >>=
    λ (c : Activity × Row). ok (NeverWith b.0 c.0, c.1)) (b, more) ((activities input k).again b more (p.0, h.1.0))
    ∙ last_again (behind (activities input k) (codes "with") refl) (λ (c : Activity). NeverWith b c) c (p.1, h.1.1)
expectation_again input k (NeverWaitsDpc d) h = last_again (one (dpc_named input k)) (λ (d : DpcNo). NeverWaitsDpc d) d h.0
expectation_again input k (NeverWaitsApc a) h = last_again (one (apc_named input k)) (λ (a : ApcNo). NeverWaitsApc a) a h.0
expectation_again input k (NeverBlocked t) h = last_again (one (thread_named input k)) (λ (t : ThreadNo). NeverBlocked t) t h.0
expectation_again input k (NeverSpins l) h = rw (version_2 input k l h.0) (last_again (one (lock_named input k)) (λ (l : LockNo). NeverSpins l) l h.0)
expectation_again input k (Always x) h = always_reads input x ∙ last_again (watcheds input k) (λ (x : Watched). Always x) x h
expectation_again input k AlwaysEnds h = refl

-- ---- fields that make a row

-- an expectation that a text may have is written, after its quantifier, in fields
expected_clean : (input : Input) → Known input → (e : Expectation) → ExpectationIsPlain input e → list_all is_field (expected_row input.names e) ≡ true
expected_clean input k (Never x) h = watched_clean input k x h
expected_clean input k (NeverAfter x f) h =
    let p = and_parts (watched_fits input.script x) (watched_fits input.script f) h.0 in
    both_clean (watched_row input.names x) (codes "after" ∷ watched_row input.names f) (watched_clean input k x (p.0, h.1.0))
    (watched_clean input k f (p.1, h.1.1))
expected_clean input k (NeverBefore x f) h =
    let p = and_parts (watched_fits input.script x) (watched_fits input.script f) h.0 in
    both_clean (watched_row input.names x) (codes "before" ∷ watched_row input.names f) (watched_clean input k x (p.0, h.1.0))
    (watched_clean input k f (p.1, h.1.1))
expected_clean input k (NeverTwice x) h = both_clean (watched_row input.names x) (codes "twice" ∷ []) (watched_clean input k x h) refl
expected_clean input k (NeverAbove x l) h =
    both_clean (watched_row input.names x) (codes "above" ∷ decimal l ∷ []) (watched_clean input k x (h.0, h.1.0)) ((one level_field).clean l h.1.1)
expected_clean input k (NeverOn x p) h =
    let q = and_parts (watched_fits input.script x) (has_cpu input.script p) h.0 in
    both_clean (watched_row input.names x) (codes "on" ∷ decimal p.0 ∷ []) (watched_clean input k x (q.0, h.1)) ((one (cpu_field input k)).clean p q.1)
expected_clean input k (NeverWith b c) h =
    let p = and_parts (activity_fits input.script b) (activity_fits input.script c) h.0 in
    both_clean (activity_row input.names b) (codes "with" ∷ activity_row input.names c) (activity_clean input k b (p.0, h.1.0))
    (activity_clean input k c (p.1, h.1.1))
expected_clean input k (NeverWaitsDpc d) h = (one (dpc_named input k)).clean d h.0
expected_clean input k (NeverWaitsApc a) h = (one (apc_named input k)).clean a h.0
expected_clean input k (NeverBlocked t) h = (one (thread_named input k)).clean t h.0
expected_clean input k (NeverSpins l) h = (one (lock_named input k)).clean l h.0
expected_clean input k (Always x) h = watched_clean input k x h
expected_clean input k AlwaysEnds h = refl

-- a field in front of fields makes a row of fields
row_from : (f : List ℕ) (fs : Row) → is_field f ≡ true → list_all is_field fs ≡ true → IsRow (f ∷ fs)
row_from f [] h k = (h, tt)
row_from f (g ∷ fs) h k = let p = and_parts (is_field g) (list_all is_field fs) k in (h, row_from g fs p.0 p.1)

-- both quantifiers are fields
quantifier_clean : (b : Bool) → is_field (quantifier b) ≡ true
quantifier_clean true = refl
quantifier_clean false = refl

-- the row of an expectation that a text may have is a row of fields
pub expectation_clean : (input : Input) → Known input → (e : Expectation) → ExpectationIsPlain input e → IsRow (expectation_row input.names e)
expectation_clean input k e h = row_from (quantifier (is_always e)) (expected_row input.names e) (quantifier_clean (is_always e)) (expected_clean input k e h)
