-- The form that a command and the values of options are.
use Rattle.std.specs.Prelude.{ℕ, nat_le, List, Option, Some, None, option_and_then, if◌then◌else◌, codes}
use Rattle.clap.specs.Walk.{Row, first_of}
use Rattle.nt_event.specs.declared.limits.TheConstants.{TURNS, USUAL_TURNS}
use Rattle.nt_text.specs.Fields.{name_of, number_up_to}
use Rattle.nt_words.specs.declared.form.TheConstants.{GREATEST_SEED, MOST_WORKERS, USUAL_WORKERS}
use Rattle.nt_words.specs.declared.form.Command.{Command}
use Rattle.nt_words.specs.declared.form.Command.TheVariants as command
use Rattle.nt_words.specs.declared.form.Form.{Form}
use Rattle.nt_words.specs.declared.form.Form.TheVariants as form
use Rattle.nt_words.specs.Commands.{command_named}

abbrev pub at_least : ℕ → Option ℕ → Option ℕ
at_least least None = None
at_least least (Some n) = if nat_le least n then Some n else None

-- the number of a value within the bounds
abbrev pub number_within : ℕ → ℕ → List ℕ → Option ℕ
number_within least most value = at_least least (number_up_to most value)

abbrev pub turns_from : Option (List ℕ) → Option ℕ
turns_from (Some value) = number_within 1 TURNS value
turns_from None = Some USUAL_TURNS

abbrev pub seed_from : Option (List ℕ) → Option ℕ
seed_from (Some value) = number_within 0 GREATEST_SEED value
seed_from None = None

abbrev pub workers_from : Option (List ℕ) → Option ℕ
workers_from (Some value) = number_within 1 MOST_WORKERS value
workers_from None = Some USUAL_WORKERS

abbrev pub goal_from : Option (List ℕ) → Option (List ℕ)
goal_from (Some value) = name_of value
goal_from None = None

-- an option that the command doesn't have
abbrev pub none_from : Option (List ℕ) → Option (Unit {0})
none_from (Some value) = None
none_from None = Some tt

-- the turn limit of a command that has no other option
abbrev pub only_turns : Option (List ℕ) → Option (List ℕ) → Option (List ℕ) → Option (List ℕ) → Option ℕ
only_turns turns seed goal workers = option_and_then (λ _. option_and_then (λ _. option_and_then (λ _.
    turns_from turns) (none_from workers)) (none_from goal)) (none_from seed)

-- a command that has no option
abbrev pub no_options : Option (List ℕ) → Option (List ℕ) → Option (List ℕ) → Option (List ℕ) → Option (Unit {0})
no_options turns seed goal workers = option_and_then (λ _. option_and_then (λ _. option_and_then (λ _.
    none_from workers) (none_from goal)) (none_from seed)) (none_from turns)

abbrev pub load_from : Option (List ℕ) → Option (List ℕ) → Option (List ℕ) → Option (List ℕ) → Option Form
load_from turns seed goal workers = option_and_then (λ _. option_and_then (λ _.
    option_and_then (λ s. option_and_then (λ n. Some (form.Load s n)) (turns_from turns)) (seed_from seed))
    (none_from workers)) (none_from goal)

abbrev pub shrink_from : Option (List ℕ) → Option (List ℕ) → Option (List ℕ) → Option (List ℕ) → Option Form
shrink_from turns seed goal workers = option_and_then (λ _. option_and_then (λ _. option_and_then (λ _.
    option_and_then (λ g. Some (form.Shrink g)) (goal_from goal))
    (none_from workers)) (none_from seed)) (none_from turns)

abbrev pub audit_from : Option (List ℕ) → Option (List ℕ) → Option (List ℕ) → Option (List ℕ) → Option Form
audit_from turns seed goal workers = option_and_then (λ _. option_and_then (λ _.
    option_and_then (λ n. option_and_then (λ k. Some (form.Audit n k)) (workers_from workers)) (turns_from turns))
    (none_from goal)) (none_from seed)

-- the form of a command
abbrev pub form_from : Command → Option (List ℕ) → Option (List ℕ) → Option (List ℕ) → Option (List ℕ) → Option Form
form_from command.Run turns seed goal workers =
    option_and_then (λ n. Some (form.Run n)) (only_turns turns seed goal workers)
form_from command.Live turns seed goal workers =
    option_and_then (λ n. Some (form.Live n)) (only_turns turns seed goal workers)
form_from command.Replay turns seed goal workers =
    option_and_then (λ _. Some form.Replay) (no_options turns seed goal workers)
form_from command.Check turns seed goal workers =
    option_and_then (λ _. Some form.Check) (no_options turns seed goal workers)
form_from command.Load turns seed goal workers = load_from turns seed goal workers
form_from command.Migrate turns seed goal workers =
    option_and_then (λ _. Some form.Migrate) (no_options turns seed goal workers)
form_from command.Verify turns seed goal workers =
    option_and_then (λ _. Some form.Verify) (no_options turns seed goal workers)
form_from command.Shrink turns seed goal workers = shrink_from turns seed goal workers
form_from command.Audit turns seed goal workers = audit_from turns seed goal workers

-- the form that a parser's rows are
abbrev pub chosen : List Row → Option Form
chosen rows = option_and_then (λ c. form_from c (first_of (codes "turns") rows) (first_of (codes "seed") rows)
    (first_of (codes "goal") rows) (first_of (codes "workers") rows))
    (option_and_then command_named (first_of (codes "command") rows))
