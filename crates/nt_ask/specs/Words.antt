-- The words of the command line, without the program's name: which of them are a form.
use Rattle.std.specs.Prelude.{◌≡◌, ◌≤◌, ℕ, List, [], ◌∷◌, ◌++◌, Option, Some, None, codes, decimal, drop}
use Rattle.std.specs.Prelude.{length, nat_le, option_and_then, take, if◌then◌else◌}
use Rattle.std.specs.Option.{option_or}
use Rattle.std.specs.Str.{bytes_eq}
use Rattle.nt_text.specs.Fields.{number_up_to}
use Rattle.nt_ask.specs.declared.words.TheConstants.{LEAST_STATES, MOST_NUMBER, MOST_STATES, USUAL_STATES}
use Rattle.nt_ask.specs.declared.words.Form.{Form}
use Rattle.nt_ask.specs.declared.words.Form.TheVariants.{Ask, Witness}

-- the command for all expectations
abbrev pub ask_word : List ℕ
ask_word = codes "ask"

-- the command for one of them
abbrev pub witness_word : List ℕ
witness_word = codes "witness"

-- the option as a word of its own
abbrev pub option_word : List ℕ
option_word = codes "--states"

-- what a word begins with that has the option and its value
abbrev pub option_equals : List ℕ
option_equals = codes "--states="

-- ---- what a form is

-- a number of states that may be given
abbrev pub IsStates : ℕ → Type 0
IsStates n = (LEAST_STATES ≤ n) × (n ≤ MOST_STATES)

-- a number that an expectation may have
abbrev pub IsNumber : ℕ → Type 0
IsNumber n = (1 ≤ n) × (n ≤ MOST_NUMBER)

-- the numbers of a form lie in their ranges
abbrev pub IsWithin : Form → Type 0
IsWithin (Ask states) = IsStates states
IsWithin (Witness number states) = IsNumber number × IsStates states

-- the option with this number of states as one word
abbrev pub option_with : ℕ → List ℕ
option_with states = option_equals ++ decimal states

-- the words are `ask` with this number of states, in one of the five spellings
pub data IsAsk (words : List (List ℕ)) (states : ℕ) : Type 0 where
  alone : words ≡ ask_word ∷ [] → states ≡ USUAL_STATES → IsAsk words states
  apart_behind : words ≡ ask_word ∷ option_word ∷ decimal states ∷ [] → IsStates states → IsAsk words states
  apart_before : words ≡ option_word ∷ decimal states ∷ ask_word ∷ [] → IsStates states → IsAsk words states
  joined_behind : words ≡ ask_word ∷ option_with states ∷ [] → IsStates states → IsAsk words states
  joined_before : words ≡ option_with states ∷ ask_word ∷ [] → IsStates states → IsAsk words states

-- the words are `witness` with this number of an expectation and this number of states, in one of the seven spellings
pub data IsWitness (words : List (List ℕ)) (number states : ℕ) : Type 0 where
  without : words ≡ witness_word ∷ decimal number ∷ [] → IsNumber number → states ≡ USUAL_STATES →
      IsWitness words number states
  apart_first : words ≡ option_word ∷ decimal states ∷ witness_word ∷ decimal number ∷ [] → IsNumber number →
      IsStates states → IsWitness words number states
  apart_between : words ≡ witness_word ∷ option_word ∷ decimal states ∷ decimal number ∷ [] → IsNumber number →
      IsStates states → IsWitness words number states
  apart_last : words ≡ witness_word ∷ decimal number ∷ option_word ∷ decimal states ∷ [] → IsNumber number →
      IsStates states → IsWitness words number states
  joined_first : words ≡ option_with states ∷ witness_word ∷ decimal number ∷ [] → IsNumber number →
      IsStates states → IsWitness words number states
  joined_between : words ≡ witness_word ∷ option_with states ∷ decimal number ∷ [] → IsNumber number →
      IsStates states → IsWitness words number states
  joined_last : words ≡ witness_word ∷ decimal number ∷ option_with states ∷ [] → IsNumber number →
      IsStates states → IsWitness words number states

-- the words are this form
abbrev pub IsForm : List (List ℕ) → Form → Type 0
IsForm words (Ask states) = IsAsk words states
IsForm words (Witness number states) = IsWitness words number states

-- ---- which form words are

-- the number that a value is: in decimal without leading zeros, and from the least to the greatest
abbrev pub number_within : ℕ → ℕ → List ℕ → Option ℕ
number_within least most value = option_and_then (λ n. if nat_le least n then Some n else None)
    (number_up_to most value)

-- the number of states that is given by this value
abbrev pub states_of : List ℕ → Option ℕ
states_of value = number_within LEAST_STATES MOST_STATES value

-- the number of an expectation that is given by this value
abbrev pub number_of : List ℕ → Option ℕ
number_of value = number_within 1 MOST_NUMBER value

-- what stands behind `--states=` in a word
abbrev pub behind_equals : List ℕ → Option (List ℕ)
behind_equals word = if bytes_eq (take (length option_equals) word) option_equals
    then Some (drop (length option_equals) word) else None

-- the number that is given by the option and its value in one word
abbrev pub joined : List ℕ → Option ℕ
joined word = option_and_then states_of (behind_equals word)

-- the number that is given by the option and its value in two words
abbrev pub apart : List ℕ → List ℕ → Option ℕ
apart word value = if bytes_eq word option_word then states_of value else None

-- `ask` by this word, with this number of states
abbrev pub ask_by : List ℕ → Option ℕ → Option Form
ask_by word states = if bytes_eq word ask_word then option_and_then (λ n. Some (Ask n)) states else None

-- `witness` with these numbers, where both are given
abbrev pub witness_with : Option ℕ → Option ℕ → Option Form
witness_with number states = option_and_then (λ i. option_and_then (λ n. Some (Witness i n)) states) number

-- `witness` by this word, with the number of an expectation that this value gives, and this number of states
abbrev pub witness_by : List ℕ → List ℕ → Option ℕ → Option Form
witness_by word value states = if bytes_eq word witness_word then witness_with (number_of value) states else None

-- `ask` in these words: alone; with the option in one word, behind it or before it; with the option in two words,
-- behind it or before it
abbrev pub ask_in : List (List ℕ) → Option Form
ask_in [] = None
ask_in (a ∷ []) = ask_by a (Some USUAL_STATES)
ask_in (a ∷ b ∷ []) = option_or (ask_by a (joined b)) (ask_by b (joined a))
ask_in (a ∷ b ∷ c ∷ []) = option_or (ask_by a (apart b c)) (ask_by c (apart a b))
ask_in (a ∷ b ∷ c ∷ d ∷ more) = None

-- `witness` and a number in these words: without the option; with the option in one word, behind both, between them or
-- before them; with the option in two words, behind both, between them or before them
abbrev pub witness_in : List (List ℕ) → Option Form
witness_in [] = None
witness_in (a ∷ []) = None
witness_in (a ∷ b ∷ []) = witness_by a b (Some USUAL_STATES)
witness_in (a ∷ b ∷ c ∷ []) =
    option_or (witness_by a b (joined c)) (option_or (witness_by a c (joined b)) (witness_by b c (joined a)))
witness_in (a ∷ b ∷ c ∷ d ∷ []) =
    option_or (witness_by a b (apart c d)) (option_or (witness_by a d (apart b c)) (witness_by c d (apart a b)))
witness_in (a ∷ b ∷ c ∷ d ∷ e ∷ more) = None

-- the form that words are
abbrev pub form_of : List (List ℕ) → Option Form
form_of words = option_or (ask_in words) (witness_in words)
