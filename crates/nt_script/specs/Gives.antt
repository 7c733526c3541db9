-- What a call that may run out of memory answers.
use Rattle.std.specs.Prelude.{◌≡◌, ℕ, Result, Ok, Err}
use Rattle.nt_text.specs.declared.kind.ScriptKind.{ScriptKind}
use Rattle.nt_script.specs.declared.walk.Stop.{Stop}
use Rattle.nt_script.specs.declared.walk.Stop.TheVariants.{NoMemory, Bad}
use Rattle.nt_script.specs.declared.reading.ScriptRefusal.{ScriptRefusal}
use Rattle.nt_script.specs.declared.reading.ScriptRefusal.TheVariants as refusal

-- a call that changes a value to new, or stops, does what reading says, unless memory ran out
abbrev pub Gives : {A B : Type 0} → Result B Stop → A → Result A ScriptKind → Type 0
Gives (Ok u) new read = read ≡ Ok new
Gives (Err NoMemory) new read = Unit {0}
Gives (Err (Bad kind)) new read = read ≡ Err kind

-- a call that takes all lines of a text, from which this value is made then, or refuses a line, does what reading says,
-- unless memory ran out
abbrev pub GivesAll : {A B : Type 0} → Result B ScriptRefusal → A → Result A (ℕ × ScriptKind) → Type 0
GivesAll (Ok u) made read = read ≡ Ok made
GivesAll (Err refusal.NoMemory) made read = Unit {0}
GivesAll (Err (refusal.Bad line kind)) made read = read ≡ Err (line, kind)

-- a call that reads a whole text, or refuses a line, answers what reading says, unless memory ran out
abbrev pub GivesRead : {A : Type 0} → Result A ScriptRefusal → Result A (ℕ × ScriptKind) → Type 0
GivesRead (Ok x) read = read ≡ Ok x
GivesRead (Err refusal.NoMemory) read = Unit {0}
GivesRead (Err (refusal.Bad line kind)) read = read ≡ Err (line, kind)
