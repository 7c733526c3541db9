-- What is replied to what is asked, and when each status comes.
use Rattle.std.specs.Prelude.{List, Ok, length, ℕ, ◌++◌, ◌<◌, ◌≡◌, ◌≤◌}
use Rattle.nt_event.specs.declared.events.Turn.{Turn}
use Rattle.nt_event.specs.declared.limits.TheConstants.{CPUS}
use Rattle.nt_ask.specs.declared.answer.Answer.{Answer}
use Rattle.nt_ask.specs.declared.answer.Status.{Status}
use Rattle.nt_ask.specs.declared.answer.Status.TheVariants as exit
use Rattle.nt_ask.specs.declared.reading.Asked.{Asked}
use Rattle.nt_ask.specs.declared.words.Form.{Form}
use Rattle.nt_ask.specs.Answers.{answer_text, verdict_status}
use Rattle.nt_ask.specs.declared.words.Form.TheVariants as form
use Rattle.nt_findings.specs.Verdicts.{IsAnswer}
use Rattle.nt_log.specs.declared.schedules.Schedule.{Schedule}
use Rattle.nt_log.specs.Reading.{reading}
use Rattle.nt_log.specs.Schedules.{IsTextOf, turn_bound}
use Rattle.nt_script.specs.Text.{text as script_text}
use Rattle.nt_text.specs.declared.lines.TheConstants.{INPUT_LIMIT}
use Rattle.nt_verdict.specs.Fails.{Fails}
use Rattle.nt_witness.specs.Limits.{most_of}
use Rattle.nt_lab.specs.Replies.{memory_line, no_expectation_line, no_witness_line, too_many_line, unknown_line}
use Rattle.nt_lab.specs.Witnesses.{IsWitnessOf, Show, expected}

-- what was asked is answered: what the text says of each expectation is so, as is how many states were found, of at
-- most so many, and why not all; and the status is that of the verdicts
pub record IsWell (asked : Asked) (states : ℕ) (status : Status) (text : List ℕ) : Type 0 where
  pub answer : Answer
  pub is : IsAnswer asked.input.script (turn_bound asked.input.script.cpus) states asked.expectations answer
  pub written : text ≡ answer_text asked.input.names asked.expectations answer
  pub ends : status ≡ verdict_status answer.verdicts.items

-- what is replied where all expectations are asked for: the answer, or the line of want of memory
abbrev pub IsAskReply : Asked → ℕ → Status → List ℕ → Type 0
IsAskReply asked states exit.Ok text = IsWell asked states exit.Ok text
IsAskReply asked states exit.Fails text = IsWell asked states exit.Fails text
IsAskReply asked states exit.Unknown text = IsWell asked states exit.Unknown text
IsAskReply asked states exit.Memory text = text ≡ memory_line
IsAskReply asked states exit.NoExpectation text = ⊥
IsAskReply asked states exit.NoWitness text = ⊥
IsAskReply asked states exit.TooManyTurns text = ⊥
IsAskReply asked states exit.Refused text = ⊥
IsAskReply asked states exit.Usage text = ⊥
IsAskReply asked states exit.Read text = ⊥
IsAskReply asked states exit.Write text = ⊥
IsAskReply asked states exit.TooLong text = ⊥

-- A witness of the expectation of this number is written: the text is that of a schedule which is one. Behind the
-- script's text it is short enough for an input, and the reader of a replay reads it as this schedule, whichever number
-- its first line has.
pub record IsWritten (asked : Asked) (number : ℕ) (text : List ℕ) : Type 0 where
  pub schedule : Schedule
  pub is : IsWitnessOf asked.input.script (expected asked number) schedule
  pub written : IsTextOf text asked.input schedule
  pub short : length (script_text asked.input ++ text) ≤ INPUT_LIMIT
  pub read : (line : ℕ) → reading CPUS asked.input line text ≡ Ok schedule

-- What is replied where a witness of the expectation of this number is asked for: that there is no such expectation; or
-- of one that there is: a schedule that is one; that it fails in no run; that turns which show that it fails are more
-- than a schedule may have; that nothing is known. Or the line of want of memory.
abbrev pub IsWitnessReply : Asked → ℕ → Status → List ℕ → Type 0
IsWitnessReply asked number exit.Ok text = (number ≤ length asked.expectations) × IsWritten asked number text
IsWitnessReply asked number exit.NoExpectation text =
    (length asked.expectations < number) × (text ≡ no_expectation_line)
IsWitnessReply asked number exit.NoWitness text =
    (number ≤ length asked.expectations) × (Fails asked.input.script (expected asked number) → ⊥) ×
    (text ≡ no_witness_line)
IsWitnessReply asked number exit.TooManyTurns text =
    (number ≤ length asked.expectations) × (turns : List Turn) × Show asked.input.script (expected asked number) turns ×
    (turn_bound asked.input.script.cpus < most_of turns) × (text ≡ too_many_line)
IsWitnessReply asked number exit.Unknown text = (number ≤ length asked.expectations) × (text ≡ unknown_line)
IsWitnessReply asked number exit.Memory text = text ≡ memory_line
IsWitnessReply asked number exit.Fails text = ⊥
IsWitnessReply asked number exit.Refused text = ⊥
IsWitnessReply asked number exit.Usage text = ⊥
IsWitnessReply asked number exit.Read text = ⊥
IsWitnessReply asked number exit.Write text = ⊥
IsWitnessReply asked number exit.TooLong text = ⊥

-- what is replied to what is asked, by the form of the words
abbrev pub IsReplied : Form → Asked → Status → List ℕ → Type 0
IsReplied (form.Ask states) asked status text = IsAskReply asked states status text
IsReplied (form.Witness number states) asked status text = IsWitnessReply asked number status text
