-- What is answered where the parser took the words.
use Rattle.std.proofs.Common.{◌≡◌, ◌∙◌, ℕ, Bool, true, List, [], ◌∷◌, Option, Some, None, Result, Ok, Err, IfOk, ap, sym, inl, inr, arith}
use Rattle.std.proofs.lemmas.Bool.{or_cases, or_left, or_right}
use Rattle.std.specs.List.{list_any}
use Rattle.std.specs.Option.{ok_or}
use Rattle.std.specs.Prelude.{◌++◌, ◌||◌, ◌⊎◌}
use Rattle.clap.specs.Simple.{matches_of}
use Rattle.clap.specs.Faults.{fault_of}
use Rattle.nt_words.specs.declared.form.Form.{Form}
use Rattle.nt_words.specs.declared.reading.WordsRefusal.TheVariants.{NoForm}
use Rattle.nt_words.specs.declared.form.Form.TheVariants as form
use Rattle.nt_words.specs.declared.reading.WordsRefusal.{WordsRefusal}
use Rattle.nt_words.specs.Pieces.{Piece, apart, command_words, dashed, dashed_equals, joined, word, words_of}
use Rattle.nt_words.specs.Forms.{HasOptions, HasTurns, HasWorkers, IsForm, IsTurns, IsWithin, IsWorkers, is_live_word, names_live}
use Rattle.nt_words.specs.Tidy.{is_tidy}
use Rattle.nt_words.specs.Chosen.{chosen}
use Rattle.nt_words.specs.Parser.{ntrun_app}
use Rattle.nt_words.specs.Refusals.{IsNoForm, OnNoForm}
use Rattle.nt_words.proofs.Whole.{form_is_taken, taken_is_form}

-- if the words are tidy and the parser finds no fault, the form that is chosen is the words' form
pub form_answered : (words : List (List ℕ)) (o : Option Form) → is_tidy words ≡ true → fault_of ntrun_app words ≡ [] → o ≡ chosen (matches_of ntrun_app words)
    → IfOk (ok_or o NoForm) (IsForm words)
form_answered words None tidy fault is = tt
form_answered words (Some f) tidy fault is = taken_is_form words f tidy fault (sym is)

-- ---- the numbers of a form

-- the number that is given as turns is in range
turns_within : (n : ℕ) (ps : List Piece) → HasTurns n ps → IsTurns n
turns_within n ps (inl given) = (given.1, given.2)
turns_within n ps (inr missing) = rw (missing.1) (omega arith, omega arith)

-- the number that is given as workers is in range
workers_within : (n : ℕ) (ps : List Piece) → HasWorkers n ps → IsWorkers n
workers_within n ps (inl given) = (given.1, given.2)
workers_within n ps (inr missing) = rw (missing.1) (omega arith, omega arith)

-- the numbers of a form are in range, if the pieces have its options
within : (f : Form) (ps : List Piece) → HasOptions f ps → IsWithin f
within (form.Run turns) ps has = turns_within turns ps has.turns
within (form.Live turns) ps has = turns_within turns ps has.turns
within form.Replay ps has = tt
within form.Check ps has = tt
within form.Migrate ps has = tt
within form.Verify ps has = tt
within (form.Shrink goal) ps has = has.goal.1
within (form.Audit turns workers) ps has = (turns_within turns ps has.turns, workers_within workers ps has.workers)
within (form.Load seed turns) ps has = (has.1.2, turns_within turns ps has.0)

-- the numbers of the words' form are in their ranges
pub form_within : (words : List (List ℕ)) (r : Result Form WordsRefusal) → IfOk r (IsForm words) → IfOk r IsWithin
form_within words (Ok f) is = within f is.pieces is.options
form_within words (Err e) is = tt

-- ---- no form

-- if the parser's matches choose no form, the words are no form
pub no_form_answered : (words : List (List ℕ)) (o : Option Form) → o ≡ chosen (matches_of ntrun_app words) → OnNoForm (ok_or o NoForm) (IsNoForm words)
no_form_answered words (Some f) is = tt
no_form_answered words None is = λ f form.
    let bad : None ≡ Some f = is ∙ (form_is_taken words f form).form in
    cc

-- ---- the forms `live` and `audit`

-- if the second of two flags implies a third, the first or the second implies the first or the third
or_more : (a b c : Bool) → (b ≡ true → c ≡ true) → (a || b) ≡ true → (a || c) ≡ true
or_more a b c more h = go (or_cases a b h)
  where
    go : (a ≡ true) ⊎ (b ≡ true) → (a || c) ≡ true
    go (inl here) = or_left a c here
    go (inr later) = or_right a c (more later)

-- a command word stands among the words
words_name : (ps : List Piece) → list_any is_live_word (command_words ps) ≡ true → list_any is_live_word (words_of ps) ≡ true
words_name [] h = h
words_name (word w ∷ ps) h = or_more (is_live_word w) (list_any is_live_word (command_words ps)) (list_any is_live_word (words_of ps)) (λ k. words_name ps k) h
words_name (apart name value ∷ ps) h =
    or_right (is_live_word (dashed name)) (is_live_word value || list_any is_live_word (words_of ps))
    (or_right (is_live_word value) (list_any is_live_word (words_of ps)) (words_name ps h))
words_name (joined name value ∷ ps) h =
    or_right (is_live_word (dashed_equals name ++ value)) (list_any is_live_word (words_of ps)) (words_name ps h)

-- words that are the form `live` or `audit` name it
pub live_is_named : (words : List (List ℕ)) (turns : ℕ) → IsForm words (form.Live turns) → names_live words ≡ true
live_is_named words turns is =
    ap names_live is.spelled ∙ words_name is.pieces (ap (list_any is_live_word) is.command)

-- one of the words of a form of an audit is `live` or `audit`
pub audit_is_named : (words : List (List ℕ)) (turns workers : ℕ) → IsForm words (form.Audit turns workers) → names_live words ≡ true
audit_is_named words turns workers is =
    ap names_live is.spelled ∙ words_name is.pieces (ap (list_any is_live_word) is.command)
