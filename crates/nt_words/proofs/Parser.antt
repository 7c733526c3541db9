-- The steps of the parser over the words.
use Rattle.std.proofs.Common.{◌≡◌, ◌&&◌, ℕ, Bool, true, false, refl, List, [], ◌∷◌, ◌++◌, Option, Some, None, codes}
use Rattle.std.specs.Str.{bytes_eq}
use Rattle.clap.specs.Kinds.{Kinds, or_else}
use Rattle.clap.specs.Walk.{Held, Row, Rule, Text, Waiting, Walk, idle, option, positional, settled_rows, used, walked}
use Rattle.clap.specs.Simple.{App, Shape, built, on_top, new_app, with_rule, filled, is_simple}
use Rattle.clap.specs.Faults.{is_simple_and_free, settle_fault, turn_fault, use_fault}
use Rattle.clap.specs.declared.error.kind.ErrorKind.TheVariants.{UnknownArgument}
use Rattle.nt_words.specs.declared.option_name.OptionName.{OptionName}
use Rattle.nt_words.specs.declared.option_name.OptionName.TheVariants.{Goal, Seed, Turns, Workers}
use Rattle.nt_words.specs.Pieces.{dashed, dashed_equals, option_text}
use Rattle.nt_words.specs.Tidy.{has_hyphen}
use Rattle.nt_words.specs.Parser.{command_rule, ntrun_app, option_rule}
use Rattle.nt_words.proofs.Words.{not_dashes, not_long, not_short}

abbrev pub app : App
app = with_rule (with_rule (with_rule (with_rule (with_rule
    (on_top (λ s. record s { no_binary_name = true; disable_help_flag = true }) (new_app (codes "ntrun")))
    command_rule) (option_rule Turns)) (option_rule Seed)) (option_rule Goal)) (option_rule Workers)

-- the app of ntrun has a rule for the command and for each option, and no help flag
pub app_is : ntrun_app ≡ app
unfolding ntrun_app
app_is = refl

-- the command as it is built
abbrev pub shape : Shape
shape = (built app).top

abbrev pub rules : List Rule
rules = shape.rules

-- the app of ntrun is simple
pub is_walked : is_simple app ≡ true
is_walked = refl

-- the app of ntrun is simple and free
pub is_exact : is_simple_and_free app ≡ true
is_exact = refl

abbrev pub held_at : List Row → Option (Text × List Text) → Held
held_at rows pending = record { rows = rows; pending = pending; skip = 0 }

-- where the walk stands between two words
abbrev pub walk_at : List Row → Option (Text × List Text) → Waiting → ℕ → Walk
walk_at rows pending waiting position = record { held = held_at rows pending; waiting = waiting; position = position; is_trailing = false; stopped = None }

-- the rule of an option as it is built
abbrev pub rule_for : OptionName → Rule
rule_for name = filled (option_rule name)

-- a fault or none behind it
pub or_none : (k : Kinds) → or_else k [] ≡ k
or_none [] = refl
or_none (x ∷ xs) = refl

-- a conjunction with a false right side is false
and_false : (b : Bool) → (b && false) ≡ false
and_false true = refl
and_false false = refl

-- ---- a word without a hyphen

-- the first is the command word
pub word_step : (rows : List Row) (pending : Option (Text × List Text)) (w : Text) → has_hyphen w ≡ false
    → walked rules [] (walk_at rows pending idle 1) w ≡ walk_at (settled_rows rules pending rows) (Some (codes "command", w ∷ [])) idle 2
unfolding walked
word_step rows None w h = rw (not_dashes w h, not_long w h, not_short w h) refl
word_step rows (Some p) w h = rw (not_dashes w h, not_long w h, not_short w h, and_false (bytes_eq p.0 (codes "command"))) refl

-- the first word without a hyphen has just the faults of settling the option that is pending
pub word_fault : (rows : List Row) (pending : Option (Text × List Text)) (w : Text) → has_hyphen w ≡ false
    → turn_fault shape [] (walk_at rows pending idle 1) w ≡ settle_fault rules false (held_at rows pending)
word_fault rows None w h = rw (not_dashes w h, not_long w h, not_short w h) refl
word_fault rows (Some p) w h = rw (not_dashes w h, not_long w h, not_short w h, and_false (bytes_eq p.0 (codes "command"))) refl

-- a second one is refused
pub stray_word : (rows : List Row) (pending : Option (Text × List Text)) (w : Text) → has_hyphen w ≡ false
    → turn_fault shape [] (walk_at rows pending idle 2) w ≡ UnknownArgument ∷ []
stray_word rows pending w h = rw (not_dashes w h, not_long w h, not_short w h) refl

-- it is the value of an option that waits for one
pub value_step : (name : OptionName) (rows : List Row) (position : ℕ) (w : Text) → has_hyphen w ≡ false
    → walked rules [] (walk_at rows (Some (option_text name, [])) (option (option_text name)) position) w
    ≡ walk_at rows (Some (option_text name, w ∷ [])) idle position
unfolding walked
value_step Turns rows position w h = rw (not_dashes w h, not_long w h, not_short w h) refl
value_step Seed rows position w h = rw (not_dashes w h, not_long w h, not_short w h) refl
value_step Goal rows position w h = rw (not_dashes w h, not_long w h, not_short w h) refl
value_step Workers rows position w h = rw (not_dashes w h, not_long w h, not_short w h) refl

-- a word without a hyphen that an option waits for is no fault
pub value_fault : (name : OptionName) (rows : List Row) (position : ℕ) (w : Text) → has_hyphen w ≡ false
    → turn_fault shape [] (walk_at rows (Some (option_text name, [])) (option (option_text name)) position) w ≡ []
value_fault Turns rows position w h = rw (not_dashes w h, not_long w h, not_short w h) refl
value_fault Seed rows position w h = rw (not_dashes w h, not_long w h, not_short w h) refl
value_fault Goal rows position w h = rw (not_dashes w h, not_long w h, not_short w h) refl
value_fault Workers rows position w h = rw (not_dashes w h, not_long w h, not_short w h) refl

-- ---- an option

-- an option by itself settles the option that is pending and waits for its value
pub flag_step : (name : OptionName) (rows : List Row) (pending : Option (Text × List Text)) (waiting : Waiting) (position : ℕ)
    → walked rules [] (walk_at rows pending waiting position) (dashed name)
    ≡ walk_at (settled_rows rules pending rows) (Some (option_text name, [])) (option (option_text name)) position
unfolding walked
flag_step Turns rows pending idle position = refl
flag_step Turns rows pending (option id) position = refl
flag_step Turns rows pending positional position = refl
flag_step Seed rows pending idle position = refl
flag_step Seed rows pending (option id) position = refl
flag_step Seed rows pending positional position = refl
flag_step Goal rows pending idle position = refl
flag_step Goal rows pending (option id) position = refl
flag_step Goal rows pending positional position = refl
flag_step Workers rows pending idle position = refl
flag_step Workers rows pending (option id) position = refl
flag_step Workers rows pending positional position = refl

-- an option by itself has just the faults of settling the option that is pending
pub flag_fault : (name : OptionName) (rows : List Row) (pending : Option (Text × List Text)) (waiting : Waiting) (position : ℕ)
    → turn_fault shape [] (walk_at rows pending waiting position) (dashed name) ≡ settle_fault rules false (held_at rows pending)
flag_fault Turns rows pending idle position = or_none _
flag_fault Turns rows pending (option id) position = or_none _
flag_fault Turns rows pending positional position = or_none _
flag_fault Seed rows pending idle position = or_none _
flag_fault Seed rows pending (option id) position = or_none _
flag_fault Seed rows pending positional position = or_none _
flag_fault Goal rows pending idle position = or_none _
flag_fault Goal rows pending (option id) position = or_none _
flag_fault Goal rows pending positional position = or_none _
flag_fault Workers rows pending idle position = or_none _
flag_fault Workers rows pending (option id) position = or_none _
flag_fault Workers rows pending positional position = or_none _

-- an option joined to its value settles the option that is pending and is used with the value at once
pub given_step : (name : OptionName) (value : Text) (rows : List Row) (pending : Option (Text × List Text)) (waiting : Waiting) (position : ℕ)
    → walked rules [] (walk_at rows pending waiting position) (dashed_equals name ++ value)
    ≡ walk_at (used (rule_for name) (value ∷ []) (settled_rows rules pending rows)) None idle position
unfolding walked
given_step Turns value rows pending idle position = refl
given_step Turns value rows pending (option id) position = refl
given_step Turns value rows pending positional position = refl
given_step Seed value rows pending idle position = refl
given_step Seed value rows pending (option id) position = refl
given_step Seed value rows pending positional position = refl
given_step Goal value rows pending idle position = refl
given_step Goal value rows pending (option id) position = refl
given_step Goal value rows pending positional position = refl
given_step Workers value rows pending idle position = refl
given_step Workers value rows pending (option id) position = refl
given_step Workers value rows pending positional position = refl

-- an option joined to its value has the faults of settling the pending option, or else those of its use
pub given_fault : (name : OptionName) (value : Text) (rows : List Row) (pending : Option (Text × List Text)) (waiting : Waiting) (position : ℕ)
    → turn_fault shape [] (walk_at rows pending waiting position) (dashed_equals name ++ value)
    ≡ or_else (settle_fault rules false (held_at rows pending)) (use_fault false (rule_for name) (value ∷ []) (settled_rows rules pending rows))
given_fault Turns value rows pending idle position = or_none _
given_fault Turns value rows pending (option id) position = or_none _
given_fault Turns value rows pending positional position = or_none _
given_fault Seed value rows pending idle position = or_none _
given_fault Seed value rows pending (option id) position = or_none _
given_fault Seed value rows pending positional position = or_none _
given_fault Goal value rows pending idle position = or_none _
given_fault Goal value rows pending (option id) position = or_none _
given_fault Goal value rows pending positional position = or_none _
given_fault Workers value rows pending idle position = or_none _
given_fault Workers value rows pending (option id) position = or_none _
given_fault Workers value rows pending positional position = or_none _
