-- The words of a form are taken as that form, and words that are taken as a form are one.
use Rattle.std.proofs.Common.{◌≡◌, ◌∙◌, ◌≤◌, ◌<◌, ◌^◌, ℕ, Bool, true, false, refl, sym, ap}
use Rattle.std.proofs.Common.{subst, arith, List, [], ◌∷◌, length, Option, Some, None, nat_le, inl, inr}
use Rattle.std.proofs.lemmas.Bool.{and_parts}
use Rattle.std.specs.Prelude.{decimal, slice_get, option_and_then, ◌==◌}
use Rattle.std.specs.List.{list_all}
use Rattle.clap.specs.Simple.{App, matches_of}
use Rattle.clap.specs.Faults.{fault_of}
use Rattle.nt_event.specs.declared.limits.TheConstants.{TURNS}
use Rattle.nt_text.specs.Fields.{is_name, is_name_byte}
use Rattle.nt_words.specs.declared.form.TheConstants.{GREATEST_SEED, MOST_WORKERS}
use Rattle.nt_words.specs.declared.form.Command.{Command}
use Rattle.nt_words.specs.declared.form.Command.TheVariants as command
use Rattle.nt_words.specs.declared.form.Form.{Form}
use Rattle.nt_words.specs.declared.form.Form.TheVariants as form
use Rattle.nt_words.specs.declared.option_name.OptionName.{OptionName}
use Rattle.nt_words.specs.declared.option_name.OptionName.TheVariants.{Goal, Seed, Turns, Workers}
use Rattle.nt_words.specs.Pieces.{Piece, word, apart, joined, command_words, same_option, value_for, values_of, words_of}
use Rattle.nt_words.specs.Commands.{command_named, command_word, is_built}
use Rattle.nt_words.specs.Forms.{HasGoal, HasNoOptions, HasOnlyTurns, HasOptions, HasSeed, HasTurns, HasWorkers, IsForm, command_of}
use Rattle.nt_words.specs.Tidy.{has_hyphen, is_known, is_tidy, times_given}
use Rattle.nt_words.specs.Chosen.{chosen, form_from}
use Rattle.nt_words.specs.Parser.{ntrun_app}
use Rattle.nt_words.proofs.Words.{decimal_first}
use Rattle.nt_words.proofs.Rows.{first_command, first_value_of, has_some, rows_for}
use Rattle.nt_words.proofs.Parser.{app, app_is}
use Rattle.nt_words.proofs.Counts.{ArePlain, AreOnce, times_are, words_known}
use Rattle.nt_words.proofs.Walks.{Ends, ends, reads}
use Rattle.nt_words.proofs.Values.{form_again, form_given, form_taken, named_again, named_is}
use Rattle.nt_words.proofs.Faults.{no_fault, passes, rows_are, start}

-- ---- the pieces of a form are plain, and each stands once

-- no command word begins with a hyphen
command_plain : (c : Command) → has_hyphen (command_word c) ≡ false
command_plain command.Run = refl
command_plain command.Live = refl
command_plain command.Replay = refl
command_plain command.Check = refl
command_plain command.Migrate = refl
command_plain command.Load = refl
command_plain command.Verify = refl
command_plain command.Shrink = refl
command_plain command.Audit = refl

-- none of these words has a hyphen
abbrev AreBare : List (List ℕ) → Type 0
AreBare [] = Unit {0}
AreBare (w ∷ ws) = (has_hyphen w ≡ false) × AreBare ws

-- of an option's values that have no hyphen, the first value and the others have none
rest_bare : (given : OptionName) (value : List ℕ) (vs : List (List ℕ)) → AreBare (value_for given given value vs) → (has_hyphen value ≡ false) × AreBare vs
rest_bare Turns value vs bare = bare
rest_bare Seed value vs bare = bare
rest_bare Goal value vs bare = bare
rest_bare Workers value vs bare = bare

-- if the values of an option have no hyphen with those of one piece more, they have none without it
more_bare : (name given : OptionName) (value : List ℕ) (vs : List (List ℕ)) → AreBare (value_for name given value vs) → AreBare vs
more_bare name given value vs bare = go (same_option name given) refl
  where
    go : (b : Bool) → same_option name given ≡ b → AreBare vs
    go true is =
        let all : AreBare (value ∷ vs) = rw is at bare in
        all.1
    go false is = rw is at bare

-- the values that each option is given have no hyphen
abbrev ValuesAreBare : List Piece → Type 0
ValuesAreBare ps = (name : OptionName) → AreBare (values_of name ps)

-- pieces whose command words and values have no hyphen are plain
are_plain : (ps : List Piece) → AreBare (command_words ps) → ValuesAreBare ps → ArePlain ps
are_plain [] words values = tt
are_plain (word w ∷ ps) words values = (words.0, are_plain ps words.1 values)
are_plain (apart given value ∷ ps) words values =
    ((rest_bare given value (values_of given ps) (values given)).0, are_plain ps words (λ name. more_bare name given value (values_of name ps) (values name)))
are_plain (joined given value ∷ ps) words values = (tt, are_plain ps words (λ name. more_bare name given value (values_of name ps) (values name)))

-- ---- what the options of a form are

record IsBareOnce (vs : List (List ℕ)) : Type 0 where
  pub bare : AreBare vs
  pub once : length vs ≤ 1

-- the decimals of one 64-bit number are a value given once without a hyphen
one_number : (vs : List (List ℕ)) (n : ℕ) → n < 2 ^ 64 → vs ≡ decimal n ∷ [] → IsBareOnce vs
one_number vs n lt e = subst IsBareOnce (sym e) (record { bare = (decimal_first n lt, tt); once = omega arith })

-- no value at all is given at most once and without a hyphen
none_given : (vs : List (List ℕ)) → vs ≡ [] → IsBareOnce vs
none_given vs e = subst IsBareOnce (sym e) (record { bare = tt; once = omega arith })

-- turns are given at most once and without a hyphen
turns_bare : (n : ℕ) (ps : List Piece) → HasTurns n ps → IsBareOnce (values_of Turns ps)
turns_bare n ps (inl given) =
    let high : n ≤ TURNS = given.2 in
    one_number _ n (omega arith) given.0
turns_bare n ps (inr missing) = none_given _ missing.0

-- a seed is given at most once and without a hyphen
seed_bare : (n : ℕ) (ps : List Piece) → HasSeed n ps → IsBareOnce (values_of Seed ps)
seed_bare n ps given =
    let high : n ≤ GREATEST_SEED = given.2 in
    one_number _ n (omega arith) given.0

-- workers are given at most once and without a hyphen
workers_bare : (n : ℕ) (ps : List Piece) → HasWorkers n ps → IsBareOnce (values_of Workers ps)
workers_bare n ps (inl given) =
    let high : n ≤ MOST_WORKERS = given.2 in
    one_number _ n (omega arith) given.0
workers_bare n ps (inr missing) = none_given _ missing.0

-- a name has no hyphen
no_hyphen : (bs : List ℕ) → is_name (45 ∷ bs) ≡ true → ⊥
no_hyphen bs named =
    let parts = and_parts _ _ named in
    let all : false ≡ true = parts.1 in
    cc

-- a name does not begin with a hyphen
name_bare : (name : List ℕ) → is_name name ≡ true → has_hyphen name ≡ false
name_bare [] e = refl
name_bare (b ∷ bs) e = go (b == 45) refl
  where
    go : (hyphen : Bool) → (b == 45) ≡ hyphen → (b == 45) ≡ false
    go false is = is
    go true is =
        let same : b ≡ 45 = search (arith, is) in
        absurd (no_hyphen bs (subst (λ (x : ℕ). is_name (x ∷ bs) ≡ true) same e))

-- a goal is given at most once and without a hyphen
goal_bare : (name : List ℕ) (ps : List Piece) → HasGoal name ps → IsBareOnce (values_of Goal ps)
goal_bare name ps given = subst IsBareOnce (sym given.0) (record { bare = (name_bare name given.1, tt); once = omega arith })

-- pieces that give only turns give each option at most once and without a hyphen
only_bare : (n : ℕ) (ps : List Piece) → HasOnlyTurns n ps → (name : OptionName) → IsBareOnce (values_of name ps)
only_bare n ps has Turns = turns_bare n ps has.turns
only_bare n ps has Seed = none_given _ has.seed
only_bare n ps has Goal = none_given _ has.goal
only_bare n ps has Workers = none_given _ has.workers

-- pieces that give no option give each at most once and without a hyphen
none_bare : (ps : List Piece) → HasNoOptions ps → (name : OptionName) → IsBareOnce (values_of name ps)
none_bare ps has Turns = none_given _ has.turns
none_bare ps has Seed = none_given _ has.seed
none_bare ps has Goal = none_given _ has.goal
none_bare ps has Workers = none_given _ has.workers

-- the pieces of a form give each option at most once and without a hyphen
options_bare : (f : Form) (ps : List Piece) → HasOptions f ps → (name : OptionName) → IsBareOnce (values_of name ps)
options_bare (form.Run turns) ps has name = only_bare turns ps has name
options_bare (form.Live turns) ps has name = only_bare turns ps has name
options_bare form.Replay ps has name = none_bare ps has name
options_bare form.Check ps has name = none_bare ps has name
options_bare form.Migrate ps has name = none_bare ps has name
options_bare form.Verify ps has name = none_bare ps has name
options_bare (form.Shrink goal) ps has Turns = none_given _ has.turns
options_bare (form.Shrink goal) ps has Seed = none_given _ has.seed
options_bare (form.Shrink goal) ps has Goal = goal_bare goal ps has.goal
options_bare (form.Shrink goal) ps has Workers = none_given _ has.workers
options_bare (form.Audit turns workers) ps has Turns = turns_bare turns ps has.turns
options_bare (form.Audit turns workers) ps has Seed = none_given _ has.seed
options_bare (form.Audit turns workers) ps has Goal = none_given _ has.goal
options_bare (form.Audit turns workers) ps has Workers = workers_bare workers ps has.workers
options_bare (form.Load seed turns) ps has Turns = turns_bare turns ps has.0
options_bare (form.Load seed turns) ps has Seed = seed_bare seed ps has.1
options_bare (form.Load seed turns) ps has Goal = none_given _ has.2
options_bare (form.Load seed turns) ps has Workers = none_given _ has.3

-- ---- from the pieces to the parser's answer

-- what the parser answers on the words of these pieces
ends_of : (ps : List Piece) → ArePlain ps → AreOnce ps → Ends ps start (words_of ps)
ends_of ps plain once = ends ps ps [] false [] None refl refl (record { rows = refl; sound = refl }) plain once

-- the form that the rows of pieces are
chosen_of : (ps : List Piece) → chosen (rows_for ps) ≡ option_and_then (λ c. form_given c ps) (option_and_then command_named (slice_get (command_words ps) 0))
chosen_of ps =
    λ i. option_and_then (λ c. form_from c (first_value_of Turns ps i) (first_value_of Seed ps i) (first_value_of Goal ps i) (first_value_of Workers ps i))
    (option_and_then command_named (first_command ps i))

-- what holds of words that are a form
pub record IsTaken (words : List (List ℕ)) (f : Form) : Type 0 where
  pub tidy : is_tidy words ≡ true
  pub fault : fault_of ntrun_app words ≡ []
  pub form : chosen (matches_of ntrun_app words) ≡ Some f

-- the words of plain pieces, each given at most once, are tidy
tidy_words : (ps : List Piece) → ArePlain ps → AreOnce ps → is_tidy (words_of ps) ≡ true
tidy_words ps plain once = rw (words_known ps plain, one Turns, one Seed, one Goal, one Workers) refl
  where
    one : (name : OptionName) → nat_le (times_given name (words_of ps)) 1 ≡ true
    one name = rw (times_are name ps plain) (search (arith, once.option name))

-- words that are a form are tidy, have no fault, and the parser chooses that form for them
pub form_is_taken : (words : List (List ℕ)) (f : Form) → IsForm words f → IsTaken words f
form_is_taken words f is =
    let ps = is.pieces in
    let c = command_of f in
    let plain = are_plain ps (subst AreBare (sym is.command) (command_plain c, tt)) (λ name. (options_bare f ps is.options name).bare) in
    let once : AreOnce ps = record { command = rw is.command (omega arith); option = λ name. (options_bare f ps is.options name).once } in
    let e = ends_of ps plain once in
    let given : has_some (command_words ps) ≡ true = rw is.command refl in
    let rows = rows_are ps (words_of ps) e in
    let form : chosen (matches_of app (words_of ps)) ≡ Some f =
    ap chosen rows ∙ (chosen_of ps ∙ rw (is.command) (rw (named_again c is.built) (form_again f ps is.options))) in
    subst (λ (ws : List (List ℕ)). IsTaken ws f) (sym is.spelled) (record {
      tidy = tidy_words ps plain once;
      fault = ap (λ (a : App). fault_of a (words_of ps)) app_is ∙ no_fault ps (words_of ps) e given;
      form = ap (λ (a : App). chosen (matches_of a (words_of ps))) app_is ∙ form;
    })

-- ---- and back

-- what tidy words are
record IsTidy (words : List (List ℕ)) : Type 0 where
  pub known : list_all is_known words ≡ true
  pub once : (name : OptionName) → nat_le (times_given name words) 1 ≡ true

-- tidy words are known, and give each option at most once
tidy_parts : (words : List (List ℕ)) → is_tidy words ≡ true → IsTidy words
tidy_parts words e =
    let all = and_parts _ _ e in
    let turns = and_parts _ _ all.1 in
    let seed = and_parts _ _ turns.1 in
    let goal = and_parts _ _ seed.1 in
    record { known = all.0; once = go turns.0 seed.0 goal.0 goal.1 }
  where
    go : nat_le (times_given Turns words) 1 ≡ true → nat_le (times_given Seed words) 1 ≡ true → nat_le (times_given Goal words) 1 ≡ true
        → nat_le (times_given Workers words) 1 ≡ true → (name : OptionName) → nat_le (times_given name words) 1 ≡ true
    go turns seed goal workers Turns = turns
    go turns seed goal workers Seed = seed
    go turns seed goal workers Goal = goal
    go turns seed goal workers Workers = workers

-- tidy words are known words
known_of_tidy : (words : List (List ℕ)) → is_tidy words ≡ true → list_all is_known words ≡ true
known_of_tidy words e = (tidy_parts words e).known

-- tidy words give an option at most once
times_of_tidy : (name : OptionName) (words : List (List ℕ)) → is_tidy words ≡ true → times_given name words ≤ 1
times_of_tidy name words e =
    let le = (tidy_parts words e).once name in
    search (arith, le)

-- the pieces with one command word, named
named_form : (ps : List Piece) (f : Form) → AreOnce ps → chosen (rows_for ps) ≡ Some f → IsForm (words_of ps) f
named_form ps f once e = go (command_words ps) refl once.command (sym (chosen_of ps) ∙ e)
  where
    found : (w : List ℕ) → command_words ps ≡ w ∷ [] → (o : Option Command) → command_named w ≡ o
        → option_and_then (λ c. form_given c ps) o ≡ Some f → IsForm (words_of ps) f
    found w is None named e = cc
    found w is (Some c) named e =
        let n = named_is w c named in
        let t = form_taken c ps f once.option e in
        record {
          pieces = ps;
          spelled = refl;
          command = is ∙ ap (λ (x : List ℕ). x ∷ []) (n.0 ∙ ap command_word (sym t.command));
          built = ap is_built t.command ∙ n.1;
          options = t.options;
        }

    go : (ws : List (List ℕ)) → command_words ps ≡ ws → length ws ≤ 1
        → option_and_then (λ c. form_given c ps) (option_and_then command_named (slice_get (command_words ps) 0)) ≡ Some f
        → IsForm (words_of ps) f
    go [] is le e =
        let bad : None ≡ Some f = rw is at e in
        cc
    go (w ∷ []) is le e = found w is (command_named w) refl (rw is at e)
    go (w ∷ v ∷ vs) is le e = absurd (omega arith)

-- tidy words without fault for which the parser chooses a form are that form
pub taken_is_form : (words : List (List ℕ)) (f : Form) → is_tidy words ≡ true → fault_of ntrun_app words ≡ [] → chosen (matches_of ntrun_app words) ≡ Some f
    → IsForm words f
taken_is_form words f tidy fault form =
    let r = reads words (known_of_tidy words tidy) None false [] None (passes words (ap (λ (a : App). fault_of a words) (sym app_is) ∙ fault)) in
    let ps = r.pieces in
    let times : (name : OptionName) → length (values_of name ps) ≤ 1 = λ name. subst (λ (k : ℕ). k ≤ 1)
    (ap (times_given name) r.spelled ∙ times_are name ps r.plain) (times_of_tidy name words tidy) in
    let once : AreOnce ps = record { command = r.once; option = times } in
    let rows = rows_are ps (words_of ps) (ends_of ps r.plain once) in
    let here : chosen (rows_for ps) ≡ Some f =
    ap chosen (sym rows) ∙ (ap (λ (ws : List (List ℕ)). chosen (matches_of app ws)) (sym r.spelled)
    ∙ (ap (λ (a : App). chosen (matches_of a words)) (sym app_is) ∙ form)) in
    subst (λ (ws : List (List ℕ)). IsForm ws f) (sym r.spelled) (named_form ps f once here)
