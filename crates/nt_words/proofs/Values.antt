-- The values of options, and the form that they are.
use Rattle.std.proofs.Common.{◌≡◌, ◌∙◌, ◌≤◌, ◌<◌, ◌^◌, ℕ, Bool, true, false, refl, ap}
use Rattle.std.proofs.Common.{subst, arith, List, [], ◌∷◌, length, Option, Some, None, inl, inr, nat_le}
use Rattle.std.specs.Prelude.{decimal, find, option_and_then, slice_get}
use Rattle.std.proofs.lemmas.Slice.Eq.{bytes_eq-Decides}
use Rattle.std.proofs.lemmas.Option.{option_and_then_some}
use Rattle.nt_event.specs.declared.limits.TheConstants.{TURNS, USUAL_TURNS}
use Rattle.nt_text.specs.Fields.{is_name, name_of, number_up_to}
use Rattle.nt_text.proofs.Decimals.{number_up_to_takes, number_up_to_again}
use Rattle.nt_words.specs.declared.form.TheConstants.{COMMANDS, GREATEST_SEED, MOST_WORKERS, USUAL_WORKERS}
use Rattle.nt_words.specs.declared.form.Command.{Command}
use Rattle.nt_words.specs.declared.form.Command.TheVariants as command
use Rattle.nt_words.specs.declared.form.Form.{Form}
use Rattle.nt_words.specs.declared.form.Form.TheVariants as form
use Rattle.nt_words.specs.declared.option_name.OptionName.{OptionName}
use Rattle.nt_words.specs.declared.option_name.OptionName.TheVariants.{Goal, Seed, Turns, Workers}
use Rattle.nt_words.specs.Pieces.{Piece, values_of}
use Rattle.nt_words.specs.Commands.{command_named, command_word, is_built, names_built}
use Rattle.nt_words.specs.Forms.{HasAudit, HasGoal, HasNoOptions, HasOnlyGoal, HasOnlyTurns, HasOptions, HasSeed, HasTurns, HasWorkers, command_of}
use Rattle.nt_words.specs.Chosen.{at_least, form_from, goal_from, no_options, none_from, number_within, only_turns, seed_from, turns_from, workers_from}

-- ---- command words

-- what is found by a test passes the test
find_passes : {X : Type 0} (p : X → Bool) (xs : List X) (x : X) → find p xs ≡ Some x → p x ≡ true
find_passes {X = X} p [] x e = cc
find_passes {X = X} p (y ∷ ys) x e = go (p y) refl (find_passes p ys x)
  where
    go : (b : Bool) → p y ≡ b → (find p ys ≡ Some x → p x ≡ true) → p x ≡ true
    go true is more =
        let here : Some y ≡ Some x = rw is at e in
        let same : y ≡ x = cc in
        subst (λ (z : X). p z ≡ true) same is
    go false is more = more (rw is at e)

-- a word that names a built command is its word
pub named_is : (w : List ℕ) (c : Command) → command_named w ≡ Some c → (w ≡ command_word c) × (is_built c ≡ true)
unfolding command_named
named_is w c e = go (is_built c) refl (find_passes (names_built w) COMMANDS c e)
  where
    go : (b : Bool) → is_built c ≡ b → names_built w c ≡ true → (w ≡ command_word c) × (is_built c ≡ true)
    go true is passes = ((bytes_eq-Decides w (command_word c)).0 (rw is at passes), is)
    go false is passes =
        let bad : false ≡ true = rw is at passes in
        cc

-- the word of a command that is built names that command
pub named_again : (c : Command) → is_built c ≡ true → command_named (command_word c) ≡ Some c
unfolding command_named
named_again command.Run built = cc
named_again command.Live built = cc
named_again command.Replay built = cc
named_again command.Check built = cc
named_again command.Load built = cc
named_again command.Migrate built = cc
named_again command.Verify built = cc
named_again command.Shrink built = cc
named_again command.Audit built = cc

-- ---- numbers

-- a word that is read as a number in a range is the decimals of that number, which is in the range
within_takes : (least most : ℕ) (value : List ℕ) (n : ℕ) → most < 2 ^ 64 → number_within least most value ≡ Some n
    → (value ≡ decimal n) × (least ≤ n) × (n ≤ most)
within_takes least most value n lt e = go (number_up_to most value) refl e
  where
    found : (m : ℕ) → number_up_to most value ≡ Some m → (b : Bool) → nat_le least m ≡ b → at_least least (Some m) ≡ Some n
        → (value ≡ decimal n) × (least ≤ n) × (n ≤ most)
    found m is true le e =
        let here : Some m ≡ Some n = rw le at e in
        let same : m ≡ n = cc in
        let t = number_up_to_takes most value n lt (is ∙ here) in
        let low : least ≤ m = search (arith, le) in
        (t.0, subst (λ (k : ℕ). least ≤ k) same low, t.1)
    found m is false le e =
        let bad : None ≡ Some n = rw le at e in
        cc

    go : (o : Option ℕ) → number_up_to most value ≡ o → at_least least o ≡ Some n → (value ≡ decimal n) × (least ≤ n) × (n ≤ most)
    go None is e = cc
    go (Some m) is e = found m is (nat_le least m) refl e

-- the decimals of a number in a range are read as that number
within_again : (least most n : ℕ) → most < 2 ^ 64 → least ≤ n → n ≤ most → number_within least most (decimal n) ≡ Some n
within_again least most n lt low high =
    let le : nat_le least n ≡ true = search (arith, low) in
    rw (number_up_to_again most n lt high, le) refl

-- ---- options

-- turns that are read from the values given at most once are the turns given
turns_taken : (pieces : List Piece) (n : ℕ) → length (values_of Turns pieces) ≤ 1 → turns_from (slice_get (values_of Turns pieces) 0) ≡ Some n
    → HasTurns n pieces
turns_taken pieces n once e = go (values_of Turns pieces) refl once e
  where
    go : (vs : List (List ℕ)) → values_of Turns pieces ≡ vs → length vs ≤ 1 → turns_from (slice_get vs 0) ≡ Some n → HasTurns n pieces
    go [] is once e =
        let usual : n ≡ USUAL_TURNS = cc in
        inr (is, usual)
    go (v ∷ []) is once e =
        let t = within_takes 1 TURNS v n (omega arith) e in
        inl (is ∙ ap (λ (x : List ℕ). x ∷ []) t.0, t.1, t.2)
    go (v ∷ w ∷ ws) is once e = absurd (omega arith)

-- the turns given are read as they are
turns_again : (pieces : List Piece) (n : ℕ) → HasTurns n pieces → turns_from (slice_get (values_of Turns pieces) 0) ≡ Some n
turns_again pieces n (inl given) = rw given.0 (within_again 1 TURNS n (omega arith) given.1 given.2)
turns_again pieces n (inr missing) = rw (missing.0, missing.1) refl

-- a seed that is read from the values given at most once is the seed given
seed_taken : (pieces : List Piece) (n : ℕ) → length (values_of Seed pieces) ≤ 1 → seed_from (slice_get (values_of Seed pieces) 0) ≡ Some n → HasSeed n pieces
seed_taken pieces n once e = go (values_of Seed pieces) refl once e
  where
    go : (vs : List (List ℕ)) → values_of Seed pieces ≡ vs → length vs ≤ 1 → seed_from (slice_get vs 0) ≡ Some n → HasSeed n pieces
    go [] is once e = cc
    go (v ∷ []) is once e =
        let t = within_takes 0 GREATEST_SEED v n (omega arith) e in
        (is ∙ ap (λ (x : List ℕ). x ∷ []) t.0, t.1, t.2)
    go (v ∷ w ∷ ws) is once e = absurd (omega arith)

-- the seed given is read as it is
seed_again : (pieces : List Piece) (n : ℕ) → HasSeed n pieces → seed_from (slice_get (values_of Seed pieces) 0) ≡ Some n
seed_again pieces n given = rw given.0 (within_again 0 GREATEST_SEED n (omega arith) given.1 given.2)

-- a value that is given once, or is missing and this number is the usual one
workers_taken : (pieces : List Piece) (n : ℕ) → length (values_of Workers pieces) ≤ 1 → workers_from (slice_get (values_of Workers pieces) 0) ≡ Some n
    → HasWorkers n pieces
workers_taken pieces n once e = go (values_of Workers pieces) refl once e
  where
    go : (vs : List (List ℕ)) → values_of Workers pieces ≡ vs → length vs ≤ 1 → workers_from (slice_get vs 0) ≡ Some n → HasWorkers n pieces
    go [] is once e =
        let usual : n ≡ USUAL_WORKERS = cc in
        inr (is, usual)
    go (v ∷ []) is once e =
        let t = within_takes 1 MOST_WORKERS v n (omega arith) e in
        inl (is ∙ ap (λ (x : List ℕ). x ∷ []) t.0, t.1, t.2)
    go (v ∷ w ∷ ws) is once e = absurd (omega arith)

-- the workers given are read as they are
workers_again : (pieces : List Piece) (n : ℕ) → HasWorkers n pieces → workers_from (slice_get (values_of Workers pieces) 0) ≡ Some n
workers_again pieces n (inl given) = rw given.0 (within_again 1 MOST_WORKERS n (omega arith) given.1 given.2)
workers_again pieces n (inr missing) = rw (missing.0, missing.1) refl

-- a word that is read as a name is that name
name_taken : (v name : List ℕ) → name_of v ≡ Some name → (v ≡ name) × (is_name name ≡ true)
name_taken v name e = go (is_name v) refl e
  where
    go : (b : Bool) → is_name v ≡ b → name_of v ≡ Some name → (v ≡ name) × (is_name name ≡ true)
    go false is h =
        let bad : None ≡ Some name = rw is at h in
        cc
    go true is h =
        let here : Some v ≡ Some name = rw is at h in
        let same : v ≡ name = cc in
        (same, subst (λ (x : List ℕ). is_name x ≡ true) same is)

-- a goal that is read from the values given at most once is the goal given
goal_taken : (pieces : List Piece) (name : List ℕ) → length (values_of Goal pieces) ≤ 1 → goal_from (slice_get (values_of Goal pieces) 0) ≡ Some name
    → HasGoal name pieces
goal_taken pieces name once e = go (values_of Goal pieces) refl once e
  where
    go : (vs : List (List ℕ)) → values_of Goal pieces ≡ vs → length vs ≤ 1 → goal_from (slice_get vs 0) ≡ Some name → HasGoal name pieces
    go [] is once e = cc
    go (v ∷ []) is once e =
        let t = name_taken v name e in
        (is ∙ ap (λ (x : List ℕ). x ∷ []) t.0, t.1)
    go (v ∷ w ∷ ws) is once e = absurd (omega arith)

-- the goal given is read as it is
goal_again : (pieces : List Piece) (name : List ℕ) → HasGoal name pieces → goal_from (slice_get (values_of Goal pieces) 0) ≡ Some name
goal_again pieces name given = rw given.0 (rw given.1 refl)

-- where no value may be given and the reading succeeds, none is given
none_taken : (vs : List (List ℕ)) (x : Unit {0}) → none_from (slice_get vs 0) ≡ Some x → vs ≡ []
none_taken [] x e = refl
none_taken (v ∷ vs) x e = cc

-- ---- forms

-- the form of a command is that command's, with the options that are given
pub record IsFormOf (c : Command) (pieces : List Piece) (f : Form) : Type 0 where
  pub command : command_of f ≡ c
  pub options : HasOptions f pieces

-- each option is given once at most
abbrev pub AreFew : List Piece → Type 0
AreFew pieces = (name : OptionName) → length (values_of name pieces) ≤ 1

-- the value that is given first for an option
abbrev pub first_given : OptionName → List Piece → Option (List ℕ)
first_given name pieces = slice_get (values_of name pieces) 0

-- the form of a command with the options of these pieces
abbrev pub form_given : Command → List Piece → Option Form
form_given c pieces = form_from c (first_given Turns pieces) (first_given Seed pieces) (first_given Goal pieces) (first_given Workers pieces)

-- if only turns are read, the pieces give these turns and no other option
only_taken : (pieces : List Piece) (n : ℕ) → AreFew pieces
    → only_turns (first_given Turns pieces) (first_given Seed pieces) (first_given Goal pieces) (first_given Workers pieces) ≡ Some n → HasOnlyTurns n pieces
only_taken pieces n few e =
    option_and_then_some _ _ n e (λ x seed rest. option_and_then_some _ _ n rest (λ y goal rest. option_and_then_some _ _ n rest (λ z workers turns. record {
      turns = turns_taken pieces n (few Turns) turns;
      seed = none_taken _ x seed;
      goal = none_taken _ y goal;
      workers = none_taken _ z workers;
    })))

-- if no options are read, the pieces give none
none_are_taken : (pieces : List Piece) (u : Unit {0})
    → no_options (first_given Turns pieces) (first_given Seed pieces) (first_given Goal pieces) (first_given Workers pieces) ≡ Some u → HasNoOptions pieces
none_are_taken pieces u e =
    option_and_then_some _ _ u e (λ x turns rest. option_and_then_some _ _ u rest (λ y seed rest. option_and_then_some _ _ u rest (λ z goal workers. record {
      turns = none_taken _ x turns;
      seed = none_taken _ y seed;
      goal = none_taken _ z goal;
      workers = none_taken _ u workers;
    })))

-- the form is the only one without options of its command
bare_taken : (c : Command) (pieces : List Piece) (g f : Form) → command_of g ≡ c → (HasNoOptions pieces → HasOptions g pieces) →
    option_and_then (λ _. Some g) (no_options (first_given Turns pieces) (first_given Seed pieces) (first_given Goal pieces) (first_given Workers pieces))
    ≡ Some f →
    IsFormOf c pieces f
bare_taken c pieces g f of has e =
    option_and_then_some _ _ f e (λ u none is.
    let same : g ≡ f = cc in
    subst (IsFormOf c pieces) same (record { command = of; options = has (none_are_taken pieces u none) }))

-- a form that is made of a command and few pieces is that command's, with the options of the pieces
pub form_taken : (c : Command) (pieces : List Piece) (f : Form) → AreFew pieces → form_given c pieces ≡ Some f → IsFormOf c pieces f
form_taken command.Run pieces f few e =
    option_and_then_some _ _ f e (λ n only is.
    let same : form.Run n ≡ f = cc in
    subst (IsFormOf command.Run pieces) same (record { command = refl; options = only_taken pieces n few only }))
form_taken command.Live pieces f few e =
    option_and_then_some _ _ f e (λ n only is.
    let same : form.Live n ≡ f = cc in
    subst (IsFormOf command.Live pieces) same (record { command = refl; options = only_taken pieces n few only }))
form_taken command.Replay pieces f few e = bare_taken command.Replay pieces form.Replay f refl (λ has. has) e
form_taken command.Check pieces f few e = bare_taken command.Check pieces form.Check f refl (λ has. has) e
form_taken command.Migrate pieces f few e = bare_taken command.Migrate pieces form.Migrate f refl (λ has. has) e
form_taken command.Verify pieces f few e = bare_taken command.Verify pieces form.Verify f refl (λ has. has) e
form_taken command.Shrink pieces f few e =
    option_and_then_some _ _ f e (λ x turns rest. option_and_then_some _ _ f rest (λ y seed rest.
    option_and_then_some _ _ f rest (λ z workers rest. option_and_then_some _ _ f rest (λ g goal is.
    let same : form.Shrink g ≡ f = cc in
    subst (IsFormOf command.Shrink pieces) same (record {
      command = refl;
      options = record {
        turns = none_taken _ x turns;
        seed = none_taken _ y seed;
        goal = goal_taken pieces g (few Goal) goal;
        workers = none_taken _ z workers;
      };
    })))))
form_taken command.Audit pieces f few e =
    option_and_then_some _ _ f e (λ x seed rest. option_and_then_some _ _ f rest (λ y goal rest.
    option_and_then_some _ _ f rest (λ n turns rest. option_and_then_some _ _ f rest (λ k workers is.
    let same : form.Audit n k ≡ f = cc in
    subst (IsFormOf command.Audit pieces) same (record {
      command = refl;
      options = record {
        turns = turns_taken pieces n (few Turns) turns;
        seed = none_taken _ x seed;
        goal = none_taken _ y goal;
        workers = workers_taken pieces k (few Workers) workers;
      };
    })))))
form_taken command.Load pieces f few e =
    option_and_then_some _ _ f e (λ x goal rest. option_and_then_some _ _ f rest (λ y workers rest.
    option_and_then_some _ _ f rest (λ s seed rest. option_and_then_some _ _ f rest (λ n turns is.
    let same : form.Load s n ≡ f = cc in
    subst (IsFormOf command.Load pieces) same (record {
      command = refl;
      options =
          (turns_taken pieces n (few Turns) turns, seed_taken pieces s (few Seed) seed, none_taken _ x goal, none_taken _ y workers);
    })))))

-- pieces that give only turns are read as these turns
only_again : (pieces : List Piece) (n : ℕ) → HasOnlyTurns n pieces
    → only_turns (first_given Turns pieces) (first_given Seed pieces) (first_given Goal pieces) (first_given Workers pieces) ≡ Some n
only_again pieces n has = rw (has.seed, has.goal, has.workers, turns_again pieces n has.turns) refl

-- pieces that give no option are read as having none
none_again : (pieces : List Piece) → HasNoOptions pieces
    → no_options (first_given Turns pieces) (first_given Seed pieces) (first_given Goal pieces) (first_given Workers pieces) ≡ Some tt
none_again pieces has = rw (has.turns, has.seed, has.goal, has.workers) refl

-- the command of a form and pieces with its options make that form
pub form_again : (f : Form) (pieces : List Piece) → HasOptions f pieces → form_given (command_of f) pieces ≡ Some f
form_again (form.Run turns) pieces has = rw (only_again pieces turns has) refl
form_again (form.Live turns) pieces has = rw (only_again pieces turns has) refl
form_again form.Replay pieces has = rw (none_again pieces has) refl
form_again form.Check pieces has = rw (none_again pieces has) refl
form_again (form.Load seed turns) pieces has = rw (has.2, has.3, seed_again pieces seed has.1, turns_again pieces turns has.0) refl
form_again form.Migrate pieces has = rw (none_again pieces has) refl
form_again form.Verify pieces has = rw (none_again pieces has) refl
form_again (form.Shrink goal) pieces has = rw (has.turns, has.seed, has.workers, goal_again pieces goal has.goal) refl
form_again (form.Audit turns workers) pieces has =
    rw (has.seed, has.goal, turns_again pieces turns has.turns, workers_again pieces workers has.workers) refl
