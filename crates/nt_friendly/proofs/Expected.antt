-- Expectations: the names of their levels are read as numbers, and their texts stay.
use Rattle.std.proofs.Common.{◌≡◌, ◌∙◌, ℕ, ◌<◌, ◌^◌, Bool, true, false, List, [], ◌∷◌, ◌++◌, length, map, refl, sym, ap, arith}
use Rattle.std.specs.Prelude.{codes, decimal, nat_lt}
use Rattle.std.specs.Fmt.{digits}
use Rattle.std.specs.List.{AllByRecursion}
use Rattle.std.specs.Str.{all_ascii_digits, bytes_eq}
use Rattle.std.proofs.lemmas.Fmt.{digits_decimal}
use Rattle.std.proofs.lemmas.Bool.{and_parts, false_from_ne_true, false≢true, ltb-true}
use Rattle.std.proofs.lemmas.Slice.Eq.{bytes_eq-Decides}
use Rattle.nt_text.specs.Lines.{Row, rows_text}
use Rattle.nt_text.proofs.RowTexts.{rows_text-append}
use Rattle.nt_event.specs.declared.commands.Command.{Command}
use Rattle.nt_event.specs.Script.{command_fits, has_cpu}
use Rattle.nt_line.specs.Rows.{command_row}
use Rattle.nt_script.specs.declared.walk.Input.{Input}
use Rattle.nt_script.specs.Sound.{IsSound}
use Rattle.nt_script.specs.Text.{input_rows, text}
use Rattle.nt_script.proofs.Soundness.{sound_fits}
use Rattle.nt_expect.specs.declared.expectations.Activity.{Activity}
use Rattle.nt_expect.specs.declared.expectations.Activity.TheVariants as act
use Rattle.nt_expect.specs.declared.expectations.NamedReply.{NamedReply}
use Rattle.nt_expect.specs.declared.expectations.NamedReply.TheVariants as named
use Rattle.nt_expect.specs.declared.expectations.Watched.{Watched}
use Rattle.nt_expect.specs.declared.expectations.Watched.TheVariants.{Note, Refused, Begin, Expire, Gone, Call}
use Rattle.nt_expect.specs.declared.expectations.Expectation.{Expectation}
use Rattle.nt_expect.specs.declared.expectations.Expectation.TheVariants.{Never, NeverAfter, NeverBefore, NeverTwice, NeverAbove, NeverOn, NeverWith}
use Rattle.nt_expect.specs.declared.expectations.Expectation.TheVariants.{NeverWaitsDpc, NeverWaitsApc, NeverBlocked, NeverSpins, Always, AlwaysEnds}
use Rattle.nt_expect.specs.Expectations.{ActivityHasRange, ArePlain as ArePlainExpectations, ExpectationIsPlain, WatchedHasRange, activity_fits, activity_row}
use Rattle.nt_expect.specs.Expectations.{done_row, expectation_row, expectation_rows, expectations_text, expected_row, is_always, quantifier}
use Rattle.nt_expect.specs.Expectations.{reply_row, watched_fits, watched_row}
use Rattle.nt_expect.specs.Replies.{may_reply, replies_of}
use Rattle.nt_expect.proofs.NamedReplies.{each_reply_status}
use Rattle.nt_friendly.specs.declared.levels.Next.TheVariants as next
use Rattle.nt_friendly.specs.Fields.{has_mark}
use Rattle.nt_friendly.specs.Levels.{behind_word, replaced, strict_row}
use Rattle.nt_friendly.specs.Named.{level_fields, named_activity, named_command, named_expectation, named_expected, named_watched}
use Rattle.nt_friendly.specs.Strict.{IsStrictField, IsStrictRow}
use Rattle.nt_friendly.specs.Text.{strict_text}
use Rattle.nt_friendly.proofs.Again.{row_again}
use Rattle.nt_friendly.proofs.Named.{Reads, both, bound_reads, command_fit, command_plain, command_reads, ends}
use Rattle.nt_friendly.proofs.Names.{ArePlain, plain_strict, script_strict}
use Rattle.nt_friendly.proofs.Plain.{apc_field, decimal_field, dpc_field, is_plain, lock_field, own, thread_field, timer_field}
use Rattle.nt_friendly.proofs.Rows.{rows_stay}

-- ---- fields that are no words

-- a field that passes a test that the words fail is none of them
no_word : (test : List ℕ → Bool) (f : List ℕ) → test f ≡ true → test (codes "int") ≡ false → test (codes "above") ≡ false → test (codes "call") ≡ false →
    test (codes "dpc") ≡ false → test (codes "apc") ≡ false → test (codes "thread") ≡ false → test (codes "timer") ≡ false → test (codes "gone") ≡ false →
    behind_word f ≡ next.Word
no_word test f e int above call dpc apc thread timer gone =
    rw (
      not_it (codes "int") int,
      not_it (codes "above") above,
      not_it (codes "call") call,
      not_it (codes "dpc") dpc,
      not_it (codes "apc") apc,
      not_it (codes "thread") thread,
      not_it (codes "timer") timer,
      not_it (codes "gone") gone,
    ) refl
  where
    not_it : (w : List ℕ) → test w ≡ false → bytes_eq f w ≡ false
    not_it w other = false_from_ne_true (bytes_eq f w) (λ same. false≢true (sym other ∙ sym (ap test ((bytes_eq-Decides f w).0 same)) ∙ e))

-- the decimal digits of a number are no word
number_word : (n : ℕ) → n < 2 ^ 64 → behind_word (decimal n) ≡ next.Word
number_word n lt = no_word all_ascii_digits (decimal n) (digits_decimal own n lt) refl refl refl refl refl refl refl refl

-- a number where a word may stand, and then a word
number_reads : (n : ℕ) → n < 2 ^ 64 → Reads next.Word next.Word (decimal n ∷ []) (decimal n ∷ [])
number_reads n lt more = rw (number_word n lt) refl

-- the digits of a status that may be named are no word
status_word : (code : ℕ) (c : Command) → may_reply c (named.Status code) ≡ true → behind_word (digits 16 false code) ≡ next.Word
unfolding digits
status_word code c may = each_reply_status (λ (n : ℕ). behind_word (digits 16 false n) ≡ next.Word) refl refl refl refl code (replies_of c) may

-- ---- the parts of an expectation, levels by their names

-- an activity
activity_reads : (input : Input) (b : Activity) → ActivityHasRange b →
    Reads next.Word next.Word (named_activity input.names b) (activity_row input.names b)
activity_reads input (act.Int level) h = λ more. ap (λ (r : Row). codes "int" ∷ r) (bound_reads level h more)
activity_reads input (act.Dpc d) h = λ more. refl
activity_reads input (act.Apc a) h = λ more. refl
activity_reads input (act.Thread t) h = λ more. refl

-- a reply
reply_reads : (c : Command) (y : NamedReply) → may_reply c y ≡ true → Reads next.Word next.Word (reply_row y) (reply_row y)
reply_reads c named.Yes may more = refl
reply_reads c named.No may more = refl
reply_reads c named.Done may more = refl
reply_reads c named.Blocked may more = refl
reply_reads c (named.Status code) may more = rw (status_word code c may) refl
reply_reads c named.Refused may more = refl
reply_reads c named.Spin may more = refl

-- an event
watched_reads : (input : Input) → IsSound input → (e : Watched) → watched_fits input.script e ≡ true → WatchedHasRange e →
    Reads next.Word next.Word (named_watched input.names e) (watched_row input.names e)
watched_reads input s (Note n) fits range = both next.Word next.Word next.Word (codes "note" ∷ []) (codes "note" ∷ []) (decimal n ∷ []) (decimal n ∷ [])
    (λ more. refl) (number_reads n (omega (arith, range)))
watched_reads input s Refused fits range = λ more. refl
watched_reads input s (Begin b) fits range = λ more. ap (λ (r : Row). codes "begin" ∷ r) (activity_reads input b range more)
watched_reads input s (Expire t) fits range = λ more. refl
watched_reads input s (Gone t) fits range = λ more. refl
watched_reads input s (Call c y) fits range =
    let split = and_parts (command_fits input.script c) (may_reply c y) fits in
    let call = command_reads input (sound_fits input s) c (command_fit input s c split.0 range) in
    let reply : Reads next.Rest next.Word (codes "->" ∷ reply_row y) (codes "->" ∷ reply_row y) =
    λ more. ap (λ (r : Row). codes "->" ∷ r) (reply_reads c y split.1 more) in
    let all = both next.Verb next.Rest next.Word (named_command input.names c) (command_row input.names c) (codes "->" ∷ reply_row y) (codes "->" ∷ reply_row y)
    call reply in
    λ more. ap (λ (r : Row). codes "call" ∷ r) (all more)

-- a word that says nothing of what stands behind it, before fields
abbrev Silent : List ℕ → Type 0
Silent word = behind_word word ≡ next.Word

-- fields behind such a word
silent_reads : (word : List ℕ) → Silent word → (a b : Row) → Reads next.Word next.Word a b → Reads next.Word next.Word (word ∷ a) (word ∷ b)
silent_reads word e a b h more = rw e (ap (λ (r : Row). word ∷ r) (h more))

-- what stands behind the first field of an expectation
expected_ends : (input : Input) → IsSound input → (e : Expectation) → ExpectationIsPlain input e →
    replaced next.Word (named_expected input.names e) ≡ expected_row input.names e
expected_ends input s (Never e) h = ends next.Word next.Word _ _ (watched_reads input s e h.0 h.1)
expected_ends input s (NeverAfter e f) h =
    let split = and_parts (watched_fits input.script e) (watched_fits input.script f) h.0 in
    let second = silent_reads (codes "after") refl _ _ (watched_reads input s f split.1 h.1.1) in
    ends next.Word next.Word _ _ (both next.Word next.Word next.Word _ _ _ _ (watched_reads input s e split.0 h.1.0) second)
expected_ends input s (NeverBefore e f) h =
    let split = and_parts (watched_fits input.script e) (watched_fits input.script f) h.0 in
    let second = silent_reads (codes "before") refl _ _ (watched_reads input s f split.1 h.1.1) in
    ends next.Word next.Word _ _ (both next.Word next.Word next.Word _ _ _ _ (watched_reads input s e split.0 h.1.0) second)
expected_ends input s (NeverTwice e) h =
    ends next.Word next.Word _ _
    (both next.Word next.Word next.Word _ _ (codes "twice" ∷ []) (codes "twice" ∷ []) (watched_reads input s e h.0 h.1) (λ more. refl))
expected_ends input s (NeverAbove e level) h =
    let bound : Reads next.Word next.Word (codes "above" ∷ level_fields level) (codes "above" ∷ decimal level ∷ []) =
    λ more. ap (λ (r : Row). codes "above" ∷ r) (bound_reads level h.1.1 more) in
    ends next.Word next.Word _ _ (both next.Word next.Word next.Word _ _ _ _ (watched_reads input s e h.0 h.1.0) bound)
expected_ends input s (NeverOn e p) h =
    let split = and_parts (watched_fits input.script e) (has_cpu input.script p) h.0 in
    let most = (sound_fits input s).cpus.1 in
    let lt = ltb-true p.0 input.script.cpus split.1 in
    let on = silent_reads (codes "on") refl (decimal p.0 ∷ []) (decimal p.0 ∷ []) (number_reads p.0 (omega (arith, most, lt))) in
    ends next.Word next.Word _ _ (both next.Word next.Word next.Word _ _ _ _ (watched_reads input s e split.0 h.1) on)
expected_ends input s (NeverWith b c) h =
    let second = silent_reads (codes "with") refl _ _ (activity_reads input c h.1.1) in
    ends next.Word next.Word _ _ (both next.Word next.Word next.Word _ _ _ _ (activity_reads input b h.1.0) second)
expected_ends input s (NeverWaitsDpc d) h = refl
expected_ends input s (NeverWaitsApc a) h = refl
expected_ends input s (NeverBlocked t) h = refl
expected_ends input s (NeverSpins k) h = refl
expected_ends input s (Always e) h = ends next.Word next.Word _ _ (watched_reads input s e h.0 h.1)
expected_ends input s AlwaysEnds h = refl

-- a line that begins as an expectation is read by words
line_words : (always : Bool) (row : Row) → strict_row (quantifier always ∷ row) ≡ quantifier always ∷ replaced next.Word row
line_words true row = refl
line_words false row = refl

-- the line of an expectation, levels by their names, means the expectation's line
pub expectation_named : (input : Input) (e : Expectation) → IsSound input → ExpectationIsPlain input e →
    strict_row (named_expectation input.names e) ≡ expectation_row input.names e
expectation_named input e s h = line_words (is_always e) (named_expected input.names e)
    ∙ ap (λ (r : Row). quantifier (is_always e) ∷ r) (expected_ends input s e h)

-- ---- the texts of expectations

-- the number of a thing of the script is that of a name
below : (i n m : ℕ) → n ≡ m → nat_lt i m ≡ true → i < n
below i n m e h = let lt = ltb-true i m h in omega (arith, e, lt)

-- plain fields are strict
strict : (f : List ℕ) → is_plain f ≡ true → IsStrictField f
strict f e = plain_strict f e

-- the fields of an activity are strict
activity_strict : (input : Input) → IsSound input → (b : Activity) → activity_fits input.script b ≡ true → ActivityHasRange b →
    AllByRecursion IsStrictField (activity_row input.names b)
activity_strict input s (act.Int level) fits range = ((refl, refl), (strict (decimal level) (decimal_field level (omega (arith, range))), tt))
activity_strict input s (act.Dpc d) fits range = (
  (refl, refl),
  (strict _ (dpc_field input.names (sound_fits input s).names d.0 (below d.0 (length input.names.dpcs) (length input.script.dpcs) s.dpcs fits)), tt),
)
activity_strict input s (act.Apc a) fits range = (
  (refl, refl),
  (strict _ (apc_field input.names (sound_fits input s).names a.0 (below a.0 (length input.names.apcs) (length input.script.apcs) s.apcs fits)), tt),
)
activity_strict input s (act.Thread t) fits range = (
  (refl, refl),
  (
    strict _ (thread_field input.names (sound_fits input s).names t.0 (below t.0 (length input.names.threads) (length input.script.threads) s.threads fits)),
    tt,
  ),
)

-- the digits of a status that may be named are a strict field
status_strict : (code : ℕ) (c : Command) → may_reply c (named.Status code) ≡ true → IsStrictField (digits 16 false code)
unfolding digits
status_strict code c may =
    each_reply_status (λ (n : ℕ). IsStrictField (digits 16 false n)) (refl, refl) (refl, refl) (refl, refl) (refl, refl) code (replies_of c) may

-- the fields of a reply are strict
reply_strict : (c : Command) (y : NamedReply) → may_reply c y ≡ true → AllByRecursion IsStrictField (reply_row y)
reply_strict c named.Yes may = ((refl, refl), tt)
reply_strict c named.No may = ((refl, refl), tt)
reply_strict c named.Done may = ((refl, refl), tt)
reply_strict c named.Blocked may = ((refl, refl), tt)
reply_strict c (named.Status code) may = ((refl, refl), (status_strict code c may, tt))
reply_strict c named.Refused may = ((refl, refl), tt)
reply_strict c named.Spin may = ((refl, refl), tt)

-- what holds of the fields of two rows holds of those of both
all_both : (a b : Row) → AllByRecursion IsStrictField a → AllByRecursion IsStrictField b → AllByRecursion IsStrictField (a ++ b)
all_both [] b h g = g
all_both (f ∷ fs) b h g = (h.0, all_both fs b h.1 g)

-- plain rows have strict fields
plain_all : (row : Row) → ArePlain row → AllByRecursion IsStrictField row
plain_all [] h = tt
plain_all (f ∷ fs) h = (plain_strict f h.0, plain_all fs h.1)

-- the fields of an event are strict
watched_strict : (input : Input) → IsSound input → (e : Watched) → watched_fits input.script e ≡ true → WatchedHasRange e →
    AllByRecursion IsStrictField (watched_row input.names e)
watched_strict input s (Note n) fits range = ((refl, refl), (strict (decimal n) (decimal_field n (omega (arith, range))), tt))
watched_strict input s Refused fits range = ((refl, refl), tt)
watched_strict input s (Begin b) fits range = ((refl, refl), activity_strict input s b fits range)
watched_strict input s (Expire t) fits range = (
  (refl, refl),
  (
    (refl, refl),
    (strict _ (timer_field input.names (sound_fits input s).names t.0 (below t.0 (length input.names.timers) (length input.script.timers) s.timers fits)), tt),
  ),
)
watched_strict input s (Gone t) fits range = (
  (refl, refl),
  (
    strict _ (thread_field input.names (sound_fits input s).names t.0 (below t.0 (length input.names.threads) (length input.script.threads) s.threads fits)),
    tt,
  ),
)
watched_strict input s (Call c y) fits range =
    let split = and_parts (command_fits input.script c) (may_reply c y) fits in
    let call = command_plain input (sound_fits input s) c (command_fit input s c split.0 range) in (
      (refl, refl),
      all_both (command_row input.names c) (codes "->" ∷ reply_row y) (plain_all (command_row input.names c) call)
          ((refl, refl), reply_strict c y split.1),
    )

-- the fields behind the first one of an expectation are strict
expected_strict : (input : Input) → IsSound input → (e : Expectation) → ExpectationIsPlain input e →
    AllByRecursion IsStrictField (expected_row input.names e)
expected_strict input s (Never e) h = watched_strict input s e h.0 h.1
expected_strict input s (NeverAfter e f) h =
    let split = and_parts (watched_fits input.script e) (watched_fits input.script f) h.0 in
    all_both (watched_row input.names e) _ (watched_strict input s e split.0 h.1.0) ((refl, refl), watched_strict input s f split.1 h.1.1)
expected_strict input s (NeverBefore e f) h =
    let split = and_parts (watched_fits input.script e) (watched_fits input.script f) h.0 in
    all_both (watched_row input.names e) _ (watched_strict input s e split.0 h.1.0) ((refl, refl), watched_strict input s f split.1 h.1.1)
expected_strict input s (NeverTwice e) h = all_both (watched_row input.names e) _ (watched_strict input s e h.0 h.1) ((refl, refl), tt)
expected_strict input s (NeverAbove e level) h =
    let few = h.1.1 in
    all_both (watched_row input.names e) _ (watched_strict input s e h.0 h.1.0)
    ((refl, refl), (strict (decimal level) (decimal_field level (omega (arith, few))), tt))
expected_strict input s (NeverOn e p) h =
    let split = and_parts (watched_fits input.script e) (has_cpu input.script p) h.0 in
    let most = (sound_fits input s).cpus.1 in
    let lt = ltb-true p.0 input.script.cpus split.1 in
    all_both (watched_row input.names e) _ (watched_strict input s e split.0 h.1)
    ((refl, refl), (strict (decimal p.0) (decimal_field p.0 (omega (arith, most, lt))), tt))
expected_strict input s (NeverWith b c) h =
    let split = and_parts (activity_fits input.script b) (activity_fits input.script c) h.0 in
    all_both (activity_row input.names b) _ (activity_strict input s b split.0 h.1.0) ((refl, refl), activity_strict input s c split.1 h.1.1)
expected_strict input s (NeverWaitsDpc d) h = ((refl, refl), activity_strict input s (act.Dpc d) h.0 tt)
expected_strict input s (NeverWaitsApc a) h = ((refl, refl), activity_strict input s (act.Apc a) h.0 tt)
expected_strict input s (NeverBlocked t) h = (
  (refl, refl),
  (strict _ (thread_field input.names (sound_fits input s).names t.0 (below t.0 (length input.names.threads) (length input.script.threads) s.threads h.0)), tt),
)
expected_strict input s (NeverSpins k) h = (
  (refl, refl),
  (strict _ (lock_field input.names (sound_fits input s).names k.0 (below k.0 (length input.names.locks) input.script.locks s.locks h.0)), tt),
)
expected_strict input s (Always e) h = watched_strict input s e h.0 h.1
expected_strict input s AlwaysEnds h = ((refl, refl), tt)

-- the first field of an expectation is strict and has no byte order mark
quantifier_strict : (always : Bool) → IsStrictField (quantifier always) × (has_mark (quantifier always) ≡ false)
quantifier_strict true = ((refl, refl), refl)
quantifier_strict false = ((refl, refl), refl)

-- the row of an expectation is strict
expectation_strict : (input : Input) → IsSound input → (e : Expectation) → ExpectationIsPlain input e → IsStrictRow (expectation_row input.names e)
expectation_strict input s e h =
    let first = quantifier_strict (is_always e) in
    let is = expectation_named input e s h in
    record {
      some = λ e. absurd cc;
      fields = (first.0, expected_strict input s e h);
      mark = first.1;
      levels = ap strict_row (sym is) ∙ row_again (named_expectation input.names e) ∙ is;
    }

-- rows of expectations are strict
each_strict : (input : Input) → IsSound input → (es : List Expectation) → AllByRecursion (ExpectationIsPlain input) es →
    (last : List Row) → AllByRecursion IsStrictRow last → AllByRecursion IsStrictRow (map (expectation_row input.names) es ++ last)
each_strict input s [] h last end = end
each_strict input s (e ∷ es) h last end = (expectation_strict input s e h.0, each_strict input s es h.1 last end)

-- a row of one word is strict where it is of bytes of fields and no keyword with a level
word_strict : (word : List ℕ) → IsStrictField word → has_mark word ≡ false → IsStrictRow (word ∷ [])
word_strict word strict mark = record { some = λ e. absurd cc; fields = (strict, tt); mark = mark; levels = refl }

-- what holds of the rows of two lists holds of those of both
rows_both : (a b : List Row) → AllByRecursion IsStrictRow a → AllByRecursion IsStrictRow b → AllByRecursion IsStrictRow (a ++ b)
rows_both [] b h g = g
rows_both (r ∷ a) b h g = (h.0, rows_both a b h.1 g)

-- the text of a script with expectations behind it means itself
pub asked_stays : (input : Input) (es : List Expectation) → IsSound input → ArePlainExpectations input es →
    strict_text (text input ++ expectations_text input es) ≡ text input ++ expectations_text input es
asked_stays input es s plain =
    let script = input_rows input in
    let expected = expectation_rows input.names es in
    let done : AllByRecursion IsStrictRow (done_row ∷ []) = (word_strict (codes "done") (refl, refl) refl, tt) in
    let list = each_strict input s es plain.each (done_row ∷ []) done in
    let all : AllByRecursion IsStrictRow (script ++ expected) =
    rows_both script expected (script_strict input s) (word_strict (codes "expect") (refl, refl) refl, list) in
    let joined : rows_text (script ++ expected) ≡ text input ++ expectations_text input es = rows_text-append script expected in
    ap strict_text (sym joined) ∙ rows_stay (script ++ expected) all ∙ joined
