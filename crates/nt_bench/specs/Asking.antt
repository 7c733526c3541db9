-- What is replied to `ask` and `witness`.
use Rattle.std.specs.Prelude.{◌≡◌, ℕ, Err, List, Ok}
use Rattle.nt_ask.specs.declared.answer.Status.{Status}
use Rattle.nt_ask.specs.declared.answer.Status.TheVariants as exit
use Rattle.nt_ask.specs.declared.reading.Asked.{Asked}
use Rattle.nt_ask.specs.declared.reading.AskRefusal.{AskRefusal}
use Rattle.nt_ask.specs.declared.reading.AskRefusal.TheVariants as refusal
use Rattle.nt_ask.specs.declared.words.Form.{Form}
use Rattle.nt_ask.specs.Reading.{asking, in_expectations, in_script}
use Rattle.nt_friendly.specs.Text.{strict_text}
use Rattle.nt_lab.specs.Outcome.{IsReplied}
use Rattle.nt_lab.specs.Replies.{memory_line}
use Rattle.nt_people.specs.declared.fault.Fault.{Fault}
use Rattle.nt_people.specs.declared.fault.Fault.TheVariants as fault
use Rattle.nt_bench.specs.declared.friendly.Friendly.{Friendly}
use Rattle.nt_bench.specs.Friendly.{IsRefusalText}

-- this line of a strict text is refused so: the least bad one of the script, or of what stands behind it
abbrev pub IsBadLine : List ℕ → ℕ → Fault → Type 0
IsBadLine strict line (fault.Script kind) = asking strict ≡ Err (in_script line kind)
IsBadLine strict line (fault.Expect kind) = asking strict ≡ Err (in_expectations line kind)
IsBadLine strict line (fault.Schedule kind) = ⊥
IsBadLine strict line (fault.Report kind) = ⊥

-- a strict text is refused so
abbrev pub IsRefusedBy : List ℕ → AskRefusal → Type 0
IsRefusedBy strict (refusal.Script line kind) = asking strict ≡ Err (in_script line kind)
IsRefusedBy strict (refusal.Expect line kind) = asking strict ≡ Err (in_expectations line kind)
IsRefusedBy strict refusal.NoMemory = Unit {0}

-- what is asked in the strict text, and what is replied to it
abbrev pub IsAnswerIn : Form → Friendly → Status → List ℕ → Type 0
IsAnswerIn form f status text =
    (asked : Asked) × (asking (strict_text f.bytes.now) ≡ Ok asked) × IsReplied form asked status text

-- what is replied to `ask` and `witness`, of a friendly text: a line is refused, or what is asked there is answered
abbrev pub IsAskedIn : Form → Friendly → Status → List ℕ → Type 0
IsAskedIn form f exit.Refused text =
    (line : ℕ) × (said : Fault) × IsBadLine (strict_text f.bytes.now) line said ×
    IsRefusalText f line said exit.Refused text
IsAskedIn form f exit.Memory text = text ≡ memory_line
IsAskedIn form f exit.Ok text = IsAnswerIn form f exit.Ok text
IsAskedIn form f exit.Fails text = IsAnswerIn form f exit.Fails text
IsAskedIn form f exit.Unknown text = IsAnswerIn form f exit.Unknown text
IsAskedIn form f exit.NoExpectation text = IsAnswerIn form f exit.NoExpectation text
IsAskedIn form f exit.NoWitness text = IsAnswerIn form f exit.NoWitness text
IsAskedIn form f exit.TooManyTurns text = IsAnswerIn form f exit.TooManyTurns text
IsAskedIn form f exit.Usage text = ⊥
IsAskedIn form f exit.Read text = ⊥
IsAskedIn form f exit.Write text = ⊥
IsAskedIn form f exit.TooLong text = ⊥
