-- What words look like to the parser.
use Rattle.std.proofs.Common.{◌≡◌, ◌==◌, ◌||◌, ◌⊎◌, ℕ, Bool, true, false, refl, sym, subst, inl, inr, List, [], ◌∷◌, ◌++◌, Some, None, eqb-true, drop, length}
use Rattle.std.proofs.Common.{eqb}
use Rattle.std.specs.Prelude.{decimal, ◌<◌, ◌^◌}
use Rattle.std.specs.List.{starts_with}
use Rattle.std.specs.Str.{bytes_eq}
use Rattle.std.proofs.lemmas.Slice.Eq.{bytes_eq-Decides, starts_is}
use Rattle.std.proofs.lemmas.Bool.{ne_eqb, or_cases}
use Rattle.std.proofs.lemmas.Bool.Decides.{Decides-eqb}
use Rattle.clap.specs.Lexer.{long_of, short_of}
use Rattle.nt_text.specs.Fields.{number_of}
use Rattle.nt_text.proofs.Decimals.{number_again}
use Rattle.nt_words.specs.declared.option_name.OptionName.{OptionName}
use Rattle.nt_words.specs.declared.option_name.OptionName.TheVariants.{Goal, Seed, Turns, Workers}
use Rattle.nt_words.specs.Pieces.{dashed, dashed_equals}
use Rattle.nt_words.specs.Tidy.{has_hyphen, is_known, is_option, is_option_word}

-- ---- a word without a hyphen is no flag

-- a word without a hyphen in front is not the two dashes
pub not_dashes : (w : List ℕ) → has_hyphen w ≡ false → bytes_eq w (45 ∷ 45 ∷ []) ≡ false
not_dashes [] h = refl
not_dashes (b ∷ bs) h = rw h refl

-- a word without a hyphen in front is no long option
pub not_long : (w : List ℕ) → has_hyphen w ≡ false → long_of w ≡ None
not_long [] h = refl
not_long (b ∷ bs) h = rw h refl

-- a word without a hyphen in front is no short option
pub not_short : (w : List ℕ) → has_hyphen w ≡ false → short_of w ≡ None
not_short [] h = refl
not_short (b ∷ bs) h = rw h refl

-- and no option
flip : (b : ℕ) → (b == 45) ≡ false → (45 == b) ≡ false
flip b h = ne_eqb 45 b (λ e. let bad : (45 == 45) ≡ false = subst (λ (x : ℕ). (x == 45) ≡ false) (sym e) h in cc)

-- a word without a hyphen in front is none of the options in either spelling
pub no_option : (name : OptionName) (w : List ℕ) → has_hyphen w ≡ false → is_option_word name w ≡ false
no_option Turns [] h = refl
no_option Seed [] h = refl
no_option Goal [] h = refl
no_option Workers [] h = refl
no_option Turns (b ∷ bs) h = rw (h, flip b h) refl
no_option Seed (b ∷ bs) h = rw (h, flip b h) refl
no_option Goal (b ∷ bs) h = rw (h, flip b h) refl
no_option Workers (b ∷ bs) h = rw (h, flip b h) refl

-- a number has no hyphen
number_first : (v : List ℕ) (n : ℕ) → number_of v ≡ Some n → has_hyphen v ≡ false
number_first [] n e = refl
number_first (c ∷ cs) n e = go (c == 45) refl
  where
    go : (b : Bool) → (c == 45) ≡ b → (c == 45) ≡ false
    go false is = is
    go true is =
        let at : c ≡ 45 = eqb-true _ _ is in
        let bad : None ≡ Some n = subst (λ (d : ℕ). number_of (d ∷ cs) ≡ Some n) at e in
        cc

-- the decimal of a 64 bit number has no hyphen in front
pub decimal_first : (n : ℕ) → n < 2 ^ 64 → has_hyphen (decimal n) ≡ false
decimal_first n lt = number_first (decimal n) n (number_again n lt)

-- ---- what a known word is

pub data Kind (w : List ℕ) : Type 0 where
  no_flag : has_hyphen w ≡ false → Kind w
  flag : (name : OptionName) → w ≡ dashed name → Kind w
  given : (name : OptionName) (value : List ℕ) → w ≡ dashed_equals name ++ value → Kind w

-- a word of an option is the option by itself or the option joined with a value
option_kind : (name : OptionName) (w : List ℕ) → is_option_word name w ≡ true → Kind w
option_kind name w e = go (bytes_eq w (dashed name)) refl
  where
    go : (b : Bool) → bytes_eq w (dashed name) ≡ b → Kind w
    go true is = flag name ((bytes_eq-Decides _ _).0 is)
    go false is =
        let starts : starts_with eqb w (dashed_equals name) ≡ true = rw is at e in
        given name (drop (length (dashed_equals name)) w) ((starts_is Decides-eqb w (dashed_equals name) _ refl).0 starts)

-- a word that is one of the options has a known kind
one_of_options : (w : List ℕ) → is_option w ≡ true → Kind w
one_of_options w e = turns (or_cases _ _ e)
  where
    goal : (is_option_word Goal w ≡ true) ⊎ (is_option_word Workers w ≡ true) → Kind w
    goal (inl is) = option_kind Goal w is
    goal (inr is) = option_kind Workers w is

    seed : (is_option_word Seed w ≡ true) ⊎ ((is_option_word Goal w || is_option_word Workers w) ≡ true) → Kind w
    seed (inl is) = option_kind Seed w is
    seed (inr more) = goal (or_cases _ _ more)

    turns : (is_option_word Turns w ≡ true) ⊎ ((is_option_word Seed w || (is_option_word Goal w || is_option_word Workers w)) ≡ true) → Kind w
    turns (inl is) = option_kind Turns w is
    turns (inr more) = seed (or_cases _ _ more)

-- a known word has no hyphen in front, or is an option by itself or joined to its value
pub kind_of_word : (w : List ℕ) → is_known w ≡ true → Kind w
kind_of_word w e = go (has_hyphen w) refl
  where
    go : (b : Bool) → has_hyphen w ≡ b → Kind w
    go false h = no_flag h
    go true h = one_of_options w (rw h at e)
