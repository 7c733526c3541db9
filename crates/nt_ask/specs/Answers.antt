-- What is written: what a search says of each expectation; and the exit statuses.
use Rattle.std.specs.Prelude.{◌≡◌, ℕ, ◌+◌, Bool, true, false, List, None, Option, Some, [], ◌∷◌, ◌++◌, codes}
use Rattle.std.specs.Prelude.{decimal, if◌then◌else◌}
use Rattle.std.specs.List.{join_with_byte, list_any}
use Rattle.nt_event.specs.declared.scripts.Script.{Script}
use Rattle.nt_text.specs.Lines.{spaced}
use Rattle.nt_line.specs.NameLists.{NameLists}
use Rattle.nt_expect.specs.declared.expectations.Expectation.{Expectation}
use Rattle.nt_expect.specs.Expectations.{expectation_row, watched_fits, watched_row}
use Rattle.nt_ask.specs.declared.answer.Answer.{Answer}
use Rattle.nt_ask.specs.declared.answer.Cut.{Cut}
use Rattle.nt_ask.specs.declared.answer.Cut.TheVariants as cut
use Rattle.nt_ask.specs.declared.answer.Status.{Status}
use Rattle.nt_ask.specs.declared.answer.Status.TheVariants as exit
use Rattle.nt_ask.specs.declared.answer.Verdict.{Verdict}
use Rattle.nt_ask.specs.declared.answer.Verdict.TheVariants.{Holds, HoldsWithin, HoldsWithout, FailsAt, Unknown}

-- ---- the text of an answer

-- the event that it names is of the script
abbrev pub VerdictFits : Script → Verdict → Type 0
VerdictFits s Holds = Unit {0}
VerdictFits s (HoldsWithin events) = Unit {0}
VerdictFits s (HoldsWithout event) = watched_fits s event ≡ true
VerdictFits s (FailsAt event) = Unit {0}
VerdictFits s Unknown = Unit {0}

-- what is said of an expectation. An event that never comes is written as in the line of an expectation.
abbrev pub verdict_text : NameLists → Verdict → List ℕ
verdict_text names Holds = codes "holds"
verdict_text names (HoldsWithin events) = codes "holds within " ++ decimal events
verdict_text names (HoldsWithout event) = codes "holds," ++ (spaced (watched_row names event) ++ codes " never comes")
verdict_text names (FailsAt event) = codes "fails at " ++ decimal event
verdict_text names Unknown = codes "unknown"

-- the line of an expectation: its number, its text, and what the search says of it
abbrev pub verdict_line : NameLists → ℕ → Expectation → Verdict → List ℕ
verdict_line names number e v = decimal number ++ 32 ∷ (join_with_byte 32 (expectation_row names e)
    ++ (codes ": " ++ (verdict_text names v ++ 10 ∷ [])))

-- a line for each expectation with its verdict, of which the first has this number
abbrev pub verdict_lines : NameLists → ℕ → List Expectation → List Verdict → List ℕ
verdict_lines names number [] vs = []
verdict_lines names number (e ∷ es) [] = []
verdict_lines names number (e ∷ es) (v ∷ vs) = verdict_line names number e v ++ verdict_lines names (number + 1) es vs

-- how the first line ends, by why not all states were found
abbrev pub cut_text : Option Cut → List ℕ
cut_text None = codes "\n"
cut_text (Some cut.States) = codes " cut by states\n"
cut_text (Some cut.Turns) = codes " cut by turns\n"
cut_text (Some cut.Memory) = codes " cut by memory\n"

-- the first line: how many states were found, and how many events that lead from a state to a state
abbrev pub states_line : Answer → List ℕ
states_line a = codes "states " ++ (decimal a.states ++ (codes " edges " ++ (decimal a.edges ++ cut_text a.cut)))

-- the whole text, with the expectations numbered from 1
abbrev pub answer_text : NameLists → List Expectation → Answer → List ℕ
answer_text names es a = states_line a ++ verdict_lines names 1 es a.verdicts.items

-- ---- the exit statuses

-- the number that the program ends with
abbrev pub status_number : Status → ℕ
status_number exit.Ok = 0
status_number exit.Usage = 1
status_number exit.Refused = 2
status_number exit.Read = 4
status_number exit.Write = 5
status_number exit.Memory = 6
status_number exit.TooLong = 7
status_number exit.Fails = 9
status_number exit.NoExpectation = 9
status_number exit.NoWitness = 9
status_number exit.Unknown = 10
status_number exit.TooManyTurns = 11

-- the expectation fails in a run
abbrev pub is_failure : Verdict → Bool
is_failure Holds = false
is_failure (HoldsWithin events) = false
is_failure (HoldsWithout event) = false
is_failure (FailsAt event) = true
is_failure Unknown = false

-- nothing is known of the expectation
abbrev pub is_unknown : Verdict → Bool
is_unknown Holds = false
is_unknown (HoldsWithin events) = false
is_unknown (HoldsWithout event) = false
is_unknown (FailsAt event) = false
is_unknown Unknown = true

-- how the program ends, by what is said of the expectations: one fails; else something is not known of one; else all
-- hold
abbrev pub verdict_status : List Verdict → Status
verdict_status vs =
    if list_any is_failure vs then exit.Fails
    else (if list_any is_unknown vs then exit.Unknown else exit.Ok)
