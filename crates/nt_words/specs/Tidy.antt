-- What is tested before the words are parsed.
use Rattle.std.specs.Prelude.{ℕ, Bool, false, not, ◌&&◌, ◌||◌, ◌==◌, nat_le, List, [], ◌∷◌, eqb}
use Rattle.std.specs.List.{list_all, count_by, starts_with}
use Rattle.std.specs.Str.{bytes_eq}
use Rattle.nt_words.specs.declared.option_name.OptionName.{OptionName}
use Rattle.nt_words.specs.declared.option_name.OptionName.TheVariants.{Goal, Seed, Turns, Workers}
use Rattle.nt_words.specs.Pieces.{dashed, dashed_equals}

-- the word begins with a hyphen (45)
abbrev pub has_hyphen : List ℕ → Bool
has_hyphen [] = false
has_hyphen (b ∷ bs) = b == 45

-- the word is this option in one of its two spellings
abbrev pub is_option_word : OptionName → List ℕ → Bool
is_option_word name w = bytes_eq w (dashed name) || starts_with eqb w (dashed_equals name)

abbrev pub is_option : List ℕ → Bool
is_option w = is_option_word Turns w || (is_option_word Seed w || (is_option_word Goal w || is_option_word Workers w))

abbrev pub is_known : List ℕ → Bool
is_known w = not (has_hyphen w) || is_option w

-- how often the option is given, in either spelling
abbrev pub times_given : OptionName → List (List ℕ) → ℕ
times_given name words = count_by (is_option_word name) words

-- each word with a hyphen is an option, and each option is given once at most
abbrev pub is_tidy : List (List ℕ) → Bool
is_tidy words = list_all is_known words && (nat_le (times_given Turns words) 1 && (nat_le (times_given Seed words) 1 &&
    (nat_le (times_given Goal words) 1 && nat_le (times_given Workers words) 1)))
