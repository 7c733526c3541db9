-- The text of expectations, as rows of fields: the line `expect`, a line for each, and the line `done`; and which
-- expectations have a text for the script of an input.
use Rattle.std.specs.Prelude.{◌≡◌, ℕ, ◌≤◌, Bool, true, false, ◌&&◌, List, [], ◌∷◌, ◌++◌, length, map, codes, decimal}
use Rattle.std.specs.Fmt.{digits}
use Rattle.std.specs.List.{AllByRecursion, list_all}
use Rattle.nt_text.specs.Lines.{Row, rows_text}
use Rattle.nt_event.specs.declared.scripts.Script.{Script}
use Rattle.nt_event.specs.Classes.{is_isr_level}
use Rattle.nt_event.specs.Script.{command_fits, has_apc, has_cpu, has_dpc, has_lock, has_thread, has_timer}
use Rattle.nt_line.specs.Fits.{HasRange}
use Rattle.nt_line.specs.NameLists.{NameLists, show_apc, show_dpc, show_lock, show_thread, show_timer}
use Rattle.nt_line.specs.Rows.{command_row, show_cpu}
use Rattle.nt_script.specs.declared.walk.Input.{Input}
use Rattle.nt_script.specs.Sound.{IsSound}
use Rattle.nt_expect.specs.declared.expectations.TheConstants.{MOST}
use Rattle.nt_expect.specs.declared.expectations.Activity.{Activity}
use Rattle.nt_expect.specs.declared.expectations.Activity.TheVariants as act
use Rattle.nt_expect.specs.declared.expectations.NamedReply.{NamedReply}
use Rattle.nt_expect.specs.declared.expectations.NamedReply.TheVariants as named
use Rattle.nt_expect.specs.declared.expectations.Watched.{Watched}
use Rattle.nt_expect.specs.declared.expectations.Watched.TheVariants.{Note, Refused, Begin, Expire, Gone, Call}
use Rattle.nt_expect.specs.declared.expectations.Expectation.{Expectation}
use Rattle.nt_expect.specs.declared.expectations.Expectation.TheVariants.{Never, NeverAfter, NeverBefore, NeverTwice}
use Rattle.nt_expect.specs.declared.expectations.Expectation.TheVariants.{NeverAbove, NeverOn, NeverWith, NeverWaitsDpc}
use Rattle.nt_expect.specs.declared.expectations.Expectation.TheVariants.{NeverWaitsApc, NeverBlocked, NeverSpins}
use Rattle.nt_expect.specs.declared.expectations.Expectation.TheVariants.{Always, AlwaysEnds}
use Rattle.nt_expect.specs.Replies.{may_reply}

-- ---- which expectations have a text

-- it names a thing of the script, or the level of an interrupt or of the clock
abbrev pub activity_fits : Script → Activity → Bool
activity_fits s (act.Int level) = is_isr_level level
activity_fits s (act.Dpc d) = has_dpc s d
activity_fits s (act.Apc a) = has_apc s a
activity_fits s (act.Thread t) = has_thread s t

-- what it names is of the script, and a command is one that may reply so
abbrev pub watched_fits : Script → Watched → Bool
watched_fits s (Note n) = true
watched_fits s Refused = true
watched_fits s (Begin b) = activity_fits s b
watched_fits s (Expire t) = has_timer s t
watched_fits s (Gone t) = has_thread s t
watched_fits s (Call c y) = command_fits s c && may_reply c y

-- what it names is of the script. A script of version 1 has no locks, so an expectation of version 1 names none.
abbrev pub expectation_fits : Script → Expectation → Bool
expectation_fits s (Never e) = watched_fits s e
expectation_fits s (NeverAfter e f) = watched_fits s e && watched_fits s f
expectation_fits s (NeverBefore e f) = watched_fits s e && watched_fits s f
expectation_fits s (NeverTwice e) = watched_fits s e
expectation_fits s (NeverAbove e level) = watched_fits s e
expectation_fits s (NeverOn e p) = watched_fits s e && has_cpu s p
expectation_fits s (NeverWith b c) = activity_fits s b && activity_fits s c
expectation_fits s (NeverWaitsDpc d) = has_dpc s d
expectation_fits s (NeverWaitsApc a) = has_apc s a
expectation_fits s (NeverBlocked t) = has_thread s t
expectation_fits s (NeverSpins k) = has_lock s k
expectation_fits s (Always e) = watched_fits s e
expectation_fits s AlwaysEnds = true

abbrev pub expectations_fit : Script → List Expectation → Bool
expectations_fit s es = list_all (expectation_fits s) es

-- numbers are those of their types
abbrev pub ActivityHasRange : Activity → Type 0
ActivityHasRange (act.Int level) = level ≤ 15
ActivityHasRange (act.Dpc d) = Unit {0}
ActivityHasRange (act.Apc a) = Unit {0}
ActivityHasRange (act.Thread t) = Unit {0}

abbrev pub WatchedHasRange : Watched → Type 0
WatchedHasRange (Note n) = n ≤ 4294967295
WatchedHasRange Refused = Unit {0}
WatchedHasRange (Begin b) = ActivityHasRange b
WatchedHasRange (Expire t) = Unit {0}
WatchedHasRange (Gone t) = Unit {0}
WatchedHasRange (Call c y) = HasRange c

abbrev pub ExpectationHasRange : Expectation → Type 0
ExpectationHasRange (Never e) = WatchedHasRange e
ExpectationHasRange (NeverAfter e f) = WatchedHasRange e × WatchedHasRange f
ExpectationHasRange (NeverBefore e f) = WatchedHasRange e × WatchedHasRange f
ExpectationHasRange (NeverTwice e) = WatchedHasRange e
ExpectationHasRange (NeverAbove e level) = WatchedHasRange e × (level ≤ 15)
ExpectationHasRange (NeverOn e p) = WatchedHasRange e
ExpectationHasRange (NeverWith b c) = ActivityHasRange b × ActivityHasRange c
ExpectationHasRange (NeverWaitsDpc d) = Unit {0}
ExpectationHasRange (NeverWaitsApc a) = Unit {0}
ExpectationHasRange (NeverBlocked t) = Unit {0}
ExpectationHasRange (NeverSpins k) = Unit {0}
ExpectationHasRange (Always e) = WatchedHasRange e
ExpectationHasRange AlwaysEnds = Unit {0}

abbrev pub ExpectationIsPlain : Input → Expectation → Type 0
ExpectationIsPlain input e = (expectation_fits input.script e ≡ true) × ExpectationHasRange e

-- a list that a text may have: each names things of the script, and there are at most 64. Profile.
pub record ArePlain (input : Input) (es : List Expectation) : Type 0 where
  pub each : AllByRecursion (ExpectationIsPlain input) es
  pub few : length es ≤ MOST

-- ---- their lines

abbrev pub activity_row : NameLists → Activity → Row
activity_row names (act.Int level) = codes "int" ∷ decimal level ∷ []
activity_row names (act.Dpc d) = codes "dpc" ∷ show_dpc names d ∷ []
activity_row names (act.Apc a) = codes "apc" ∷ show_apc names a ∷ []
activity_row names (act.Thread t) = codes "thread" ∷ show_thread names t ∷ []

-- a status is written in hexadecimal, in lower case
abbrev pub reply_row : NamedReply → Row
reply_row named.Yes = codes "yes" ∷ []
reply_row named.No = codes "no" ∷ []
reply_row named.Done = codes "done" ∷ []
reply_row named.Blocked = codes "blocked" ∷ []
reply_row (named.Status code) = codes "status" ∷ digits 16 false code ∷ []
reply_row named.Refused = codes "refused" ∷ []
reply_row named.Spin = codes "spin" ∷ []

abbrev pub watched_row : NameLists → Watched → Row
watched_row names (Note n) = codes "note" ∷ decimal n ∷ []
watched_row names Refused = codes "refused" ∷ []
watched_row names (Begin b) = codes "begin" ∷ activity_row names b
watched_row names (Expire t) = codes "expire" ∷ codes "timer" ∷ show_timer names t ∷ []
watched_row names (Gone t) = codes "gone" ∷ show_thread names t ∷ []
watched_row names (Call c y) = codes "call" ∷ (command_row names c ++ codes "->" ∷ reply_row y)

-- what stands behind the first field
abbrev pub expected_row : NameLists → Expectation → Row
expected_row names (Never e) = watched_row names e
expected_row names (NeverAfter e f) = watched_row names e ++ codes "after" ∷ watched_row names f
expected_row names (NeverBefore e f) = watched_row names e ++ codes "before" ∷ watched_row names f
expected_row names (NeverTwice e) = watched_row names e ++ codes "twice" ∷ []
expected_row names (NeverAbove e level) = watched_row names e ++ codes "above" ∷ decimal level ∷ []
expected_row names (NeverOn e p) = watched_row names e ++ codes "on" ∷ show_cpu p ∷ []
expected_row names (NeverWith b c) = activity_row names b ++ codes "with" ∷ activity_row names c
expected_row names (NeverWaitsDpc d) = codes "waits" ∷ codes "dpc" ∷ show_dpc names d ∷ []
expected_row names (NeverWaitsApc a) = codes "waits" ∷ codes "apc" ∷ show_apc names a ∷ []
expected_row names (NeverBlocked t) = codes "blocked" ∷ show_thread names t ∷ []
expected_row names (NeverSpins k) = codes "spins" ∷ show_lock names k ∷ []
expected_row names (Always e) = watched_row names e
expected_row names AlwaysEnds = codes "ends" ∷ []

abbrev pub is_always : Expectation → Bool
is_always (Never e) = false
is_always (NeverAfter e f) = false
is_always (NeverBefore e f) = false
is_always (NeverTwice e) = false
is_always (NeverAbove e level) = false
is_always (NeverOn e p) = false
is_always (NeverWith b c) = false
is_always (NeverWaitsDpc d) = false
is_always (NeverWaitsApc a) = false
is_always (NeverBlocked t) = false
is_always (NeverSpins k) = false
is_always (Always e) = true
is_always AlwaysEnds = true

-- how the line begins
abbrev pub quantifier : Bool → List ℕ
quantifier true = codes "always"
quantifier false = codes "never"

abbrev pub expectation_row : NameLists → Expectation → Row
expectation_row names e = quantifier (is_always e) ∷ expected_row names e

abbrev pub expect_row : Row
expect_row = codes "expect" ∷ []

abbrev pub done_row : Row
done_row = codes "done" ∷ []

abbrev pub expectation_rows : NameLists → List Expectation → List Row
expectation_rows names es = expect_row ∷ (map (expectation_row names) es ++ done_row ∷ [])

abbrev pub expectations_text : Input → List Expectation → List ℕ
expectations_text input es = rows_text (expectation_rows input.names es)

-- the bytes are the text of the expectations, for the script of a sound input
pub record IsTextOf (bytes : List ℕ) (input : Input) (es : List Expectation) : Type 0 where
  pub sound : IsSound input
  pub plain : ArePlain input es
  pub text : bytes ≡ expectations_text input es
