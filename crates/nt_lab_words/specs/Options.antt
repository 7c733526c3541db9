-- The options behind the word of a form: which words are some.
use Rattle.std.specs.Prelude.{◌≤◌, ◌∷◌, ◌&&◌, ℕ, List, [], Option, Some, None, true, false, codes, not}
use Rattle.std.specs.Prelude.{nat_le, option_and_then, if◌then◌else◌, ◌^◌, ◌-◌, IfSome, drop, length, take}
use Rattle.std.specs.Option.{option_or}
use Rattle.std.specs.Str.{bytes_eq}
use Rattle.nt_event.specs.declared.limits.TheConstants.{EVENTS, TURNS}
use Rattle.nt_text.specs.Fields.{number_up_to}
use Rattle.nt_lab_words.specs.declared.options.OptionName.{OptionName}
use Rattle.nt_lab_words.specs.declared.options.OptionName.TheVariants.{From, To, Order, Seed, Turns}
use Rattle.nt_lab_words.specs.declared.options.Options.{Options}
use Rattle.nt_lab_words.specs.declared.options.OrderName.{OrderName}
use Rattle.nt_lab_words.specs.declared.options.OrderName.TheVariants.{Robin, Random}
use Rattle.nt_lab_words.specs.declared.options.Reading.{Reading}

-- the option of this word, which has a value
abbrev pub name_of : List ℕ → Option OptionName
name_of word = if bytes_eq word (codes "--from") then Some From else
    (if bytes_eq word (codes "--to") then Some To else
    (if bytes_eq word (codes "--order") then Some Order else
    (if bytes_eq word (codes "--seed") then Some Seed else
    (if bytes_eq word (codes "--turns") then Some Turns else None))))

-- the option and its value, where the word is this front and a value behind it
abbrev pub joined_by : OptionName → List ℕ → List ℕ → Option (OptionName × List ℕ)
joined_by name front word = if bytes_eq (take (length front) word) front
    then Some (name, drop (length front) word) else None

-- the option and its value, where one word has both
abbrev pub joined : List ℕ → Option (OptionName × List ℕ)
joined word = option_or (joined_by From (codes "--from=") word)
    (option_or (joined_by To (codes "--to=") word)
    (option_or (joined_by Order (codes "--order=") word)
    (option_or (joined_by Seed (codes "--seed=") word)
    (joined_by Turns (codes "--turns=") word))))

-- the order of this word
abbrev pub order_of : List ℕ → Option OrderName
order_of word = if bytes_eq word (codes "robin") then Some Robin else
    (if bytes_eq word (codes "random") then Some Random else None)

-- the number that a value is: in decimal without leading zeros, and from the least to the greatest
abbrev pub number_within : ℕ → ℕ → List ℕ → Option ℕ
number_within least most value = option_and_then (λ n. if nat_le least n then Some n else None)
    (number_up_to most value)

-- the value of an option that came once: this one, where none came before
abbrev pub once : {A : Type 0} → Option A → Option A → Option (Option A)
once (Some x) value = None
once None None = None
once None (Some y) = Some (Some y)

abbrev pub no_options : Options
no_options = record {
  from = None;
  to = None;
  order = None;
  seed = None;
  turns = None;
  as_text = false;
  as_schedule = false;
  goes_on = false;
}

-- the turn limit lies in its range
abbrev pub IsOptions : Options → Type 0
IsOptions o = IfSome o.turns (λ n. (1 ≤ n) × (n ≤ TURNS))

-- the options with the value of one more
abbrev pub with_value : Options → OptionName → List ℕ → Option Options
with_value o From value =
    option_and_then (λ x. Some (record o { from = x })) (once o.from (number_within 0 EVENTS value))
with_value o To value = option_and_then (λ x. Some (record o { to = x })) (once o.to (number_within 0 EVENTS value))
with_value o Order value = option_and_then (λ x. Some (record o { order = x })) (once o.order (order_of value))
with_value o Seed value = option_and_then (λ x. Some (record o { seed = x }))
    (once o.seed (number_within 0 (2 ^ 32 - 1) value))
with_value o Turns value = option_and_then (λ x. Some (record o { turns = x }))
    (once o.turns (number_within 1 TURNS value))

-- the options with one more that has no value
abbrev pub with_flag : Options → List ℕ → Option Options
with_flag o word = if bytes_eq word (codes "--text") && not o.as_text then Some (record o { as_text = true }) else
    (if bytes_eq word (codes "--schedule") && not o.as_schedule then Some (record o { as_schedule = true }) else
    (if bytes_eq word (codes "--go-on") && not o.goes_on then Some (record o { goes_on = true }) else None))

-- before the first word
abbrev pub start : Reading
start = record { options = no_options; waiting = None }

-- no value is wanted behind these options
abbrev pub all_read : Option Options → Option Reading
all_read o = option_and_then (λ x. Some (record { options = x; waiting = None })) o

-- a word that is no name of an option: an option with its value, or one that has none
abbrev pub by_itself : Options → List ℕ → Option (OptionName × List ℕ) → Option Reading
by_itself o word (Some x) = all_read (with_value o x.0 x.1)
by_itself o word None = all_read (with_flag o word)

-- a word with which no value is wanted: the name of an option, or an option by itself
abbrev pub named : Options → List ℕ → Option OptionName → Option Reading
named o word (Some name) = Some (record { options = o; waiting = Some name })
named o word None = by_itself o word (joined word)

-- a word: the value that is wanted, or an option
abbrev pub step_by : Options → List ℕ → Option OptionName → Option Reading
step_by o word (Some name) = all_read (with_value o name word)
step_by o word None = named o word (name_of word)

abbrev pub step : Reading → List ℕ → Option Reading
step r word = step_by r.options word r.waiting

-- word by word
abbrev pub read_words : Reading → List (List ℕ) → Option Reading
read_words r [] = Some r
read_words r (word ∷ more) = option_and_then (λ x. read_words x more) (step r word)

-- where no value is wanted any more
abbrev pub whole : Option OptionName → Options → Option Options
whole (Some name) o = None
whole None o = Some o

-- the options that the words are
abbrev pub options_of : List (List ℕ) → Option Options
options_of words = option_and_then (λ r. whole r.waiting r.options) (read_words start words)
