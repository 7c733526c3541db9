-- What is replied to `ask` and `witness`, by what is read.
use Rattle.std.specs.Prelude.{◌≡◌, Err, List, Ok, Result, ℕ}
use Rattle.nt_ask.specs.declared.answer.Status.{Status}
use Rattle.nt_ask.specs.declared.answer.Status.TheVariants as exit
use Rattle.nt_ask.specs.declared.reading.Asked.{Asked}
use Rattle.nt_ask.specs.declared.words.Form.{Form}
use Rattle.nt_ask.specs.declared.words.Form.TheVariants as forms
use Rattle.nt_ask.specs.declared.reading.AskRefusal.{AskRefusal}
use Rattle.nt_ask.specs.declared.reading.AskRefusal.TheVariants as refusal
use Rattle.nt_ask.specs.Reading.{GivesRead, asking}
use Rattle.nt_friendly.specs.Text.{strict_text}
use Rattle.nt_lab.specs.Outcome.{IsReplied}
use Rattle.nt_people.specs.declared.fault.Fault.{Fault}
use Rattle.nt_bench.specs.declared.friendly.Friendly.{Friendly}
use Rattle.nt_bench.specs.Asking.{IsAskedIn, IsBadLine, IsRefusedBy}
use Rattle.nt_bench.specs.Friendly.{IsRefusalText}

-- the reader refuses the text so
abbrev pub refused : AskRefusal → Result Asked AskRefusal
refused r = Err r

-- what is replied to what is asked in the strict text is replied to the friendly one
pub answer_in : (form : Form) (f : Friendly) (asked : Asked) (status : Status) (text : List ℕ) →
    asking (strict_text f.bytes.now) ≡ Ok asked → IsReplied form asked status text → IsAskedIn form f status text
answer_in form f asked exit.Ok text is r = (asked, is, r)
answer_in form f asked exit.Fails text is r = (asked, is, r)
answer_in form f asked exit.Unknown text is r = (asked, is, r)
answer_in form f asked exit.NoExpectation text is r = (asked, is, r)
answer_in form f asked exit.NoWitness text is r = (asked, is, r)
answer_in form f asked exit.TooManyTurns text is r = (asked, is, r)
answer_in (forms.Ask states) f asked exit.Memory text is r = r
answer_in (forms.Witness number states) f asked exit.Memory text is r = r
answer_in (forms.Ask states) f asked exit.Refused text is r = absurd r
answer_in (forms.Witness number states) f asked exit.Refused text is r = absurd r
answer_in (forms.Ask states) f asked exit.Usage text is r = absurd r
answer_in (forms.Witness number states) f asked exit.Usage text is r = absurd r
answer_in (forms.Ask states) f asked exit.Read text is r = absurd r
answer_in (forms.Witness number states) f asked exit.Read text is r = absurd r
answer_in (forms.Ask states) f asked exit.Write text is r = absurd r
answer_in (forms.Witness number states) f asked exit.Write text is r = absurd r
answer_in (forms.Ask states) f asked exit.TooLong text is r = absurd r
answer_in (forms.Witness number states) f asked exit.TooLong text is r = absurd r

-- a message on a bad line is what is replied to it
pub bad_line_in : (form : Form) (f : Friendly) (line : ℕ) (said : Fault) (status : Status) (text : List ℕ) → IsBadLine (strict_text f.bytes.now) line said →
    IsRefusalText f line said status text → IsAskedIn form f status text
bad_line_in form f line said exit.Ok text bad r = absurd r
bad_line_in form f line said exit.Fails text bad r = absurd r
bad_line_in form f line said exit.Unknown text bad r = absurd r
bad_line_in form f line said exit.NoExpectation text bad r = absurd r
bad_line_in form f line said exit.NoWitness text bad r = absurd r
bad_line_in form f line said exit.TooManyTurns text bad r = absurd r
bad_line_in form f line said exit.Memory text bad r = r
bad_line_in form f line said exit.Refused text bad r = (line, said, bad, r)
bad_line_in form f line said exit.Usage text bad r = absurd r
bad_line_in form f line said exit.Read text bad r = absurd r
bad_line_in form f line said exit.Write text bad r = absurd r
bad_line_in form f line said exit.TooLong text bad r = absurd r

-- why a text is refused, by what its reader says
pub refused_by : (bytes : List ℕ) (r : AskRefusal) → GivesRead (refused r) (asking bytes) → IsRefusedBy bytes r
refused_by bytes (refusal.Script line kind) gives = gives
refused_by bytes (refusal.Expect line kind) gives = gives
refused_by bytes refusal.NoMemory gives = tt
