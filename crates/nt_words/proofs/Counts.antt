-- What the words of pieces count, and what the pieces themselves count.
use Rattle.std.proofs.Common.{◌≡◌, ◌∙◌, ◌≤◌, ℕ, Bool, cond, true, false, suc, refl, sym, ap, subst, arith, List, [], ◌∷◌, ◌++◌, length, length-append}
use Rattle.std.specs.List.{list_all}
use Rattle.std.proofs.lemmas.List.Sums.{sum_by-cons}
use Rattle.nt_words.specs.declared.option_name.OptionName.{OptionName}
use Rattle.nt_words.specs.declared.option_name.OptionName.TheVariants.{Goal, Seed, Turns, Workers}
use Rattle.nt_words.specs.Pieces.{Piece, word, apart, joined, command_words, dashed, dashed_equals, same_option, value_for, values_of, words_of}
use Rattle.nt_words.specs.Tidy.{has_hyphen, is_known, is_option_word, times_given}
use Rattle.nt_words.proofs.Words.{no_option}

-- what stands by itself has no hyphen, and neither has a value in a word of its own
abbrev pub IsPlain : Piece → Type 0
IsPlain (word w) = has_hyphen w ≡ false
IsPlain (apart name value) = has_hyphen value ≡ false
IsPlain (joined name value) = Unit {0}

abbrev pub ArePlain : List Piece → Type 0
ArePlain [] = Unit {0}
ArePlain (p ∷ ps) = IsPlain p × ArePlain ps

-- one command word and one value of each option, at most
pub record AreOnce (ps : List Piece) : Type 0 where
  pub command : length (command_words ps) ≤ 1
  pub option : (name : OptionName) → length (values_of name ps) ≤ 1

-- the command words of pieces put together are those of the first pieces and then of the others
pub command_words-append : (ps qs : List Piece) → command_words (ps ++ qs) ≡ command_words ps ++ command_words qs
command_words-append [] qs = refl
command_words-append (word w ∷ ps) qs = ap (λ (ws : List (List ℕ)). w ∷ ws) (command_words-append ps qs)
command_words-append (apart name value ∷ ps) qs = command_words-append ps qs
command_words-append (joined name value ∷ ps) qs = command_words-append ps qs

-- putting an option's value before joined lists of values is putting it before the first of them
value_for-append : (name given : OptionName) (value : List ℕ) (vs ws : List (List ℕ))
    → value_for name given value (vs ++ ws) ≡ value_for name given value vs ++ ws
value_for-append name given value vs ws = go (same_option name given) refl
  where
    go : (b : Bool) → same_option name given ≡ b → value_for name given value (vs ++ ws) ≡ value_for name given value vs ++ ws
    go true is = rw is refl
    go false is = rw is refl

-- the values that an option is given in pieces put together are those of the first and then of the others
pub values_of-append : (name : OptionName) (ps qs : List Piece) → values_of name (ps ++ qs) ≡ values_of name ps ++ values_of name qs
values_of-append name [] qs = refl
values_of-append name (word w ∷ ps) qs = values_of-append name ps qs
values_of-append name (apart given value ∷ ps) qs =
    ap (value_for name given value) (values_of-append name ps qs) ∙ value_for-append name given value (values_of name ps) (values_of name qs)
values_of-append name (joined given value ∷ ps) qs =
    ap (value_for name given value) (values_of-append name ps qs) ∙ value_for-append name given value (values_of name ps) (values_of name qs)

-- ---- what stands once stands nowhere before

-- if two joined lists have at most one element and the second has one, the first is empty
none_before : (xs ys : List (List ℕ)) → length (xs ++ ys) ≤ 1 → 1 ≤ length ys → xs ≡ []
none_before [] ys le more = refl
none_before (x ∷ xs) ys le more =
    let total = length-append xs ys in
    absurd (omega (arith, total))

-- where there is one command word at most, none comes before a word that stands by itself
pub no_command_before : (all ps qs : List Piece) (w : List ℕ) → all ≡ ps ++ word w ∷ qs → AreOnce all → command_words ps ≡ []
no_command_before all ps qs w e once =
    none_before (command_words ps) (w ∷ command_words qs)
    (subst (λ (xs : List (List ℕ)). length xs ≤ 1) (ap command_words e ∙ command_words-append ps (word w ∷ qs)) once.command) (omega arith)

-- a piece that gives an option a value leaves that option at least one value
has_value : (name : OptionName) (value : List ℕ) (vs : List (List ℕ)) → 1 ≤ length (value_for name name value vs)
has_value Turns value vs = omega arith
has_value Seed value vs = omega arith
has_value Goal value vs = omega arith
has_value Workers value vs = omega arith

-- where each option is given once at most, an option that is given has no value before
pub no_value_before : (name : OptionName) (all ps qs : List Piece) (p : Piece) (value : List ℕ) → all ≡ ps ++ p ∷ qs
    → values_of name (p ∷ qs) ≡ value_for name name value (values_of name qs) → AreOnce all → values_of name ps ≡ []
no_value_before name all ps qs p value e is once =
    none_before (values_of name ps) (values_of name (p ∷ qs))
    (subst (λ (xs : List (List ℕ)). length xs ≤ 1) (ap (values_of name) e ∙ values_of-append name ps (p ∷ qs)) (once.option name))
    (subst (λ (xs : List (List ℕ)). 1 ≤ length xs) (sym is) (has_value name value (values_of name qs)))

-- ---- the words of plain pieces are known, and tell how often an option is given

-- the words of plain pieces are all known: they have no hyphen in front or are options
pub words_known : (ps : List Piece) → ArePlain ps → list_all is_known (words_of ps) ≡ true
words_known [] plain = refl
words_known (word w ∷ ps) plain = rw plain.0 (words_known ps plain.1)
words_known (apart Turns value ∷ ps) plain = rw plain.0 (words_known ps plain.1)
words_known (apart Seed value ∷ ps) plain = rw plain.0 (words_known ps plain.1)
words_known (apart Goal value ∷ ps) plain = rw plain.0 (words_known ps plain.1)
words_known (apart Workers value ∷ ps) plain = rw plain.0 (words_known ps plain.1)
words_known (joined Turns value ∷ ps) plain = words_known ps plain.1
words_known (joined Seed value ∷ ps) plain = words_known ps plain.1
words_known (joined Goal value ∷ ps) plain = words_known ps plain.1
words_known (joined Workers value ∷ ps) plain = words_known ps plain.1

-- a word that is an option is this one where it has its name
flag_counts : (name given : OptionName) → is_option_word name (dashed given) ≡ same_option name given
flag_counts Turns Turns = refl
flag_counts Turns Seed = refl
flag_counts Turns Goal = refl
flag_counts Turns Workers = refl
flag_counts Seed Turns = refl
flag_counts Seed Seed = refl
flag_counts Seed Goal = refl
flag_counts Seed Workers = refl
flag_counts Goal Turns = refl
flag_counts Goal Seed = refl
flag_counts Goal Goal = refl
flag_counts Goal Workers = refl
flag_counts Workers Turns = refl
flag_counts Workers Seed = refl
flag_counts Workers Goal = refl
flag_counts Workers Workers = refl

-- a word that joins an option and a value is a word of that option, and of no other
joined_counts : (name given : OptionName) (value : List ℕ) → is_option_word name (dashed_equals given ++ value) ≡ same_option name given
joined_counts Turns Turns value = refl
joined_counts Turns Seed value = refl
joined_counts Turns Goal value = refl
joined_counts Turns Workers value = refl
joined_counts Seed Turns value = refl
joined_counts Seed Seed value = refl
joined_counts Seed Goal value = refl
joined_counts Seed Workers value = refl
joined_counts Goal Turns value = refl
joined_counts Goal Seed value = refl
joined_counts Goal Goal value = refl
joined_counts Goal Workers value = refl
joined_counts Workers Turns value = refl
joined_counts Workers Seed value = refl
joined_counts Workers Goal value = refl
joined_counts Workers Workers value = refl

-- a word of an option in front counts the option once more
once_more : (name : OptionName) (w : List ℕ) (ws : List (List ℕ)) → is_option_word name w ≡ true → times_given name (w ∷ ws) ≡ suc (times_given name ws)
once_more name w ws is = sum_by-cons (λ x. cond (is_option_word name x) 1 0) w ws ∙ rw is (omega arith)

-- a word that is not one of an option leaves its count
none_more : (name : OptionName) (w : List ℕ) (ws : List (List ℕ)) → is_option_word name w ≡ false → times_given name (w ∷ ws) ≡ times_given name ws
none_more name w ws other = rw other refl

-- one more option is counted where it is this one
counted : (name given : OptionName) (w value : List ℕ) (ws vs : List (List ℕ)) → is_option_word name w ≡ same_option name given
    → times_given name ws ≡ length vs → times_given name (w ∷ ws) ≡ length (value_for name given value vs)
counted name given w value ws vs counts same = go (same_option name given) refl
  where
    go : (b : Bool) → same_option name given ≡ b → times_given name (w ∷ ws) ≡ length (value_for name given value vs)
    go true is = once_more name w ws (counts ∙ is) ∙ rw is (ap suc same)
    go false is = none_more name w ws (counts ∙ is) ∙ rw is same

-- an option is given as often in the words of plain pieces as it has values in the pieces
pub times_are : (name : OptionName) (ps : List Piece) → ArePlain ps → times_given name (words_of ps) ≡ length (values_of name ps)
times_are name [] plain = refl
times_are name (word w ∷ ps) plain = none_more name w (words_of ps) (no_option name w plain.0) ∙ times_are name ps plain.1
times_are name (apart given value ∷ ps) plain =
    counted name given (dashed given) value (value ∷ words_of ps) (values_of name ps) (flag_counts name given)
    (none_more name value (words_of ps) (no_option name value plain.0) ∙ times_are name ps plain.1)
times_are name (joined given value ∷ ps) plain =
    counted name given (dashed_equals given ++ value) value (words_of ps) (values_of name ps) (joined_counts name given value) (times_are name ps plain.1)
