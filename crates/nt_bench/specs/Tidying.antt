-- What is replied to `tidy`.
use Rattle.std.specs.Prelude.{◌≡◌, ℕ, Err, List, Ok, Result}
use Rattle.nt_ask.specs.declared.answer.Status.{Status}
use Rattle.nt_ask.specs.declared.answer.Status.TheVariants as exit
use Rattle.nt_friendly.specs.Text.{strict_text}
use Rattle.nt_lab.specs.Replies.{memory_line}
use Rattle.nt_people.specs.declared.fault.Fault.TheVariants as fault
use Rattle.nt_script.specs.declared.reading.ScriptRefusal.{ScriptRefusal}
use Rattle.nt_script.specs.declared.reading.ScriptRefusal.TheVariants as refusal
use Rattle.nt_script.specs.declared.walk.Input.{Input}
use Rattle.nt_script.specs.Reading.{reading}
use Rattle.nt_text.specs.declared.kind.ScriptKind.{ScriptKind}
use Rattle.nt_bench.specs.declared.friendly.Friendly.{Friendly}
use Rattle.nt_bench.specs.Friendly.{IsRefusalText}
use Rattle.nt_shown.specs.Parts.{script_part}

-- the bytes are a script; or a line of them is refused, with this number and kind
abbrev pub IsReadAs : List ℕ → Result Unit ScriptRefusal → Type 0
IsReadAs bytes (Ok u) = (input : Input) × (reading bytes ≡ Ok input)
IsReadAs bytes (Err (refusal.Bad line kind)) = reading bytes ≡ Err (line, kind)
IsReadAs bytes (Err refusal.NoMemory) = Unit {0}

-- these bytes, or the line of want of memory
abbrev pub IsCopy : List ℕ → Status → List ℕ → Type 0
IsCopy bytes exit.Ok text = text ≡ bytes
IsCopy bytes exit.Memory text = text ≡ memory_line
IsCopy bytes exit.Fails text = ⊥
IsCopy bytes exit.Unknown text = ⊥
IsCopy bytes exit.NoExpectation text = ⊥
IsCopy bytes exit.NoWitness text = ⊥
IsCopy bytes exit.TooManyTurns text = ⊥
IsCopy bytes exit.Refused text = ⊥
IsCopy bytes exit.Usage text = ⊥
IsCopy bytes exit.Read text = ⊥
IsCopy bytes exit.Write text = ⊥
IsCopy bytes exit.TooLong text = ⊥

-- this line of the strict text is refused, and the message says so
abbrev pub IsScriptRefused : Friendly → List ℕ → Type 0
IsScriptRefused f text = (line : ℕ) × (kind : ScriptKind) ×
    (reading (script_part (strict_text f.bytes.now)) ≡ Err (line, kind)) ×
    IsRefusalText f line (fault.Script kind) exit.Refused text

-- what is replied to `tidy`: the strict script of the text, which the reader of scripts takes; or a line is refused
abbrev pub IsTidiedIn : Friendly → Status → List ℕ → Type 0
IsTidiedIn f exit.Ok text = (input : Input) × (reading (script_part (strict_text f.bytes.now)) ≡ Ok input) ×
    (text ≡ script_part (strict_text f.bytes.now))
IsTidiedIn f exit.Refused text = IsScriptRefused f text
IsTidiedIn f exit.Memory text = text ≡ memory_line
IsTidiedIn f exit.Fails text = ⊥
IsTidiedIn f exit.Unknown text = ⊥
IsTidiedIn f exit.NoExpectation text = ⊥
IsTidiedIn f exit.NoWitness text = ⊥
IsTidiedIn f exit.TooManyTurns text = ⊥
IsTidiedIn f exit.Usage text = ⊥
IsTidiedIn f exit.Read text = ⊥
IsTidiedIn f exit.Write text = ⊥
IsTidiedIn f exit.TooLong text = ⊥
