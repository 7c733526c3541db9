-- What a call of the program finds out, what it writes, and when each status comes.
use Rattle.std.specs.Prelude.{◌≡◌, ◌⊎◌, ◌+◌, ◌<◌, ◌≤◌, ℕ, List, None, Option, Some, codes, length}
use Rattle.nt_ask.specs.declared.answer.Status.{Status}
use Rattle.nt_ask.specs.declared.answer.Status.TheVariants as exit
use Rattle.nt_friendly.specs.Text.{strict_text}
use Rattle.nt_lab.specs.Replies.{memory_line}
use Rattle.nt_outside.specs.Bytes.{IsLonger}
use Rattle.nt_outside.specs.Counts.{Rose, RoseBy}
use Rattle.nt_outside.specs.Sides.{GaveWithin, Supply}
use Rattle.nt_text.specs.declared.lines.TheConstants.{INPUT_LIMIT}
use Rattle.nt_bench.specs.declared.friendly.Friendly.{Friendly}
use Rattle.nt_lab_words.specs.declared.words.Call.{Call}
use Rattle.nt_lab_words.specs.declared.words.Task.{Task}
use Rattle.nt_lab_words.specs.declared.words.Task.TheVariants.{Do, Help, Version}
use Rattle.nt_lab_words.specs.declared.words.TheConstants.{USAGE, USUAL, VERSION}
use Rattle.nt_lab_words.specs.declared.words.Work.{Work}
use Rattle.nt_lab_words.specs.declared.words.Work.TheVariants.{Ask, Draw, Left, Run, Tidy, Why}
use Rattle.nt_bench.specs.Asking.{IsAskedIn}
use Rattle.nt_bench.specs.declared.friendly.Named.{Named}
use Rattle.nt_bench.specs.declared.running.Shape.TheVariants as shape
use Rattle.nt_bench.specs.Friendly.{AreNamed, IsFriendly}
use Rattle.nt_bench.specs.Reasons.{IsWhyReply}
use Rattle.nt_bench.specs.Running.{IsShownReply, draw_shape, run_shape}
use Rattle.nt_bench.specs.Tidying.{IsTidiedIn}
use Rattle.nt_lab_words.specs.Words.{call_of}
use Rattle.nt_bench.specs.Writing.{IsWrittenTo, Stores, stream_of}

abbrev pub usage_line : List ℕ
usage_line = USAGE.now

abbrev pub version_line : List ℕ
version_line = VERSION.now

abbrev pub read_line : List ℕ
read_line = codes "read fault\n"

abbrev pub long_line : List ℕ
long_line = codes "input too long\n"

-- what is replied to what is done with a friendly text
abbrev pub IsDone : Work → Friendly → Status → List ℕ → Type 0
IsDone (Ask form) f status text = IsAskedIn form f status text
IsDone Tidy f status text = IsTidiedIn f status text
IsDone (Run how as_schedule) f status text = IsShownReply how (run_shape as_schedule) f status text
IsDone Left f status text = IsShownReply USUAL shape.Left f status text
IsDone (Draw since until as_text) f status text = IsShownReply USUAL (draw_shape since until as_text) f status text
IsDone (Why kind after) f status text = IsWhyReply kind f status text

-- the text of these bytes from this file, as it was written and made strict; and this is done with it
pub record IsText (work : Work) (named : Named) (bytes : List ℕ) (status : Status) (text : List ℕ) : Type 0 where
  pub f : Friendly
  pub named_is : f.named ≡ named
  pub bytes_are : f.bytes.now ≡ bytes
  pub friendly : IsFriendly f
  pub done : IsDone work f status text

-- what is found in the bytes, and its text. Where the strict text is too long, nothing is done with it.
abbrev pub IsFoundIn : Work → Named → List ℕ → Status → List ℕ → Type 0
IsFoundIn work named bytes exit.TooLong text = (INPUT_LIMIT < length (strict_text bytes)) × (text ≡ long_line)
IsFoundIn work named bytes exit.Memory text = text ≡ memory_line
IsFoundIn work named bytes exit.Usage text = ⊥
IsFoundIn work named bytes exit.Read text = ⊥
IsFoundIn work named bytes exit.Write text = ⊥
IsFoundIn work named bytes exit.Ok text = IsText work named bytes exit.Ok text
IsFoundIn work named bytes exit.Fails text = IsText work named bytes exit.Fails text
IsFoundIn work named bytes exit.Unknown text = IsText work named bytes exit.Unknown text
IsFoundIn work named bytes exit.NoExpectation text = IsText work named bytes exit.NoExpectation text
IsFoundIn work named bytes exit.NoWitness text = IsText work named bytes exit.NoWitness text
IsFoundIn work named bytes exit.TooManyTurns text = IsText work named bytes exit.TooManyTurns text
IsFoundIn work named bytes exit.Refused text = IsText work named bytes exit.Refused text

-- the source gave these bytes, not too many, and this is found in them
pub record IsGiven (work : Work) (named : Named) (old new : Supply) (status : Status) (text : List ℕ) : Type 0 where
  pub bytes : List ℕ
  pub gave : GaveWithin INPUT_LIMIT bytes old new
  pub found : IsFoundIn work named bytes status text

-- more bytes were taken than an input may have
pub record IsTooLong (old new : Supply) (text : List ℕ) : Type 0 where
  pub longer : IsLonger INPUT_LIMIT old.left
  pub taken : RoseBy (INPUT_LIMIT + 1) old.taken new.taken
  pub line : text ≡ long_line

-- what is found from the source, and its text, in the order of the tests. Memory may be wanting at any place.
abbrev pub IsFoundFrom : Work → Named → Supply → Supply → Status → List ℕ → Type 0
IsFoundFrom work named old new exit.Read text = Rose old.faults new.faults × (new.taken ≤ old.taken + INPUT_LIMIT) ×
    (text ≡ read_line)
IsFoundFrom work named old new exit.TooLong text = IsTooLong old new text ⊎ IsGiven work named old new exit.TooLong text
IsFoundFrom work named old new exit.Memory text = (new.taken ≤ old.taken + INPUT_LIMIT) × (text ≡ memory_line)
IsFoundFrom work named old new exit.Usage text = ⊥
IsFoundFrom work named old new exit.Write text = ⊥
IsFoundFrom work named old new exit.Ok text = IsGiven work named old new exit.Ok text
IsFoundFrom work named old new exit.Fails text = IsGiven work named old new exit.Fails text
IsFoundFrom work named old new exit.Unknown text = IsGiven work named old new exit.Unknown text
IsFoundFrom work named old new exit.NoExpectation text = IsGiven work named old new exit.NoExpectation text
IsFoundFrom work named old new exit.NoWitness text = IsGiven work named old new exit.NoWitness text
IsFoundFrom work named old new exit.TooManyTurns text = IsGiven work named old new exit.TooManyTurns text
IsFoundFrom work named old new exit.Refused text = IsGiven work named old new exit.Refused text

-- what is found of a task
abbrev pub IsFoundOf : Task → Named → Supply → Supply → Status → List ℕ → Type 0
IsFoundOf (Do work) named old new status text = IsFoundFrom work named old new status text
IsFoundOf Help named old new status text = (status ≡ exit.Ok) × (new ≡ old) × (text ≡ usage_line)
IsFoundOf Version named old new status text = (status ≡ exit.Ok) × (new ≡ old) × (text ≡ version_line)

-- what is found by what the words ask for. Where they are no form, nothing is read.
abbrev pub IsFoundBy : List (List ℕ) → Option Call → Supply → Supply → Status → List ℕ → Type 0
IsFoundBy words None old new status text = (status ≡ exit.Usage) × (new ≡ old) × (text ≡ usage_line)
IsFoundBy words (Some call) old new status text =
    (named : Named) × AreNamed words (Some call) named × IsFoundOf call.task named old new status text

-- the whole call
pub record IsAnswered (words : List (List ℕ)) (source_old source_new : Supply) (old new : Stores) (status : Status) :
    Type 0 where
  pub found : Status
  pub text : List ℕ
  pub cause : IsFoundBy words (call_of words) source_old source_new found text
  pub written : IsWrittenTo (stream_of found) found text old new status
