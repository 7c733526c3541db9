-- What a call that may run out of memory answers.
use Rattle.std.specs.Prelude.{◌≡◌, ℕ, Result, Ok, Err}
use Rattle.nt_expect.specs.declared.refusals.ExpectKind.{ExpectKind}
use Rattle.nt_expect.specs.declared.refusals.ExpectRefusal.{ExpectRefusal}
use Rattle.nt_expect.specs.declared.refusals.ExpectRefusal.TheVariants as refusal
use Rattle.nt_expect.specs.declared.refusals.ExpectStop.{ExpectStop}
use Rattle.nt_expect.specs.declared.refusals.ExpectStop.TheVariants.{NoMemory, Bad}

-- a call that changes a value to new, or stops, does what reading says, unless memory ran out
abbrev pub Gives : {A B : Type 0} → Result B ExpectStop → A → Result A ExpectKind → Type 0
Gives (Ok u) new read = read ≡ Ok new
Gives (Err NoMemory) new read = Unit {0}
Gives (Err (Bad kind)) new read = read ≡ Err kind

-- a call that reads a whole text, or refuses a line, answers what reading says, unless memory ran out
abbrev pub GivesRead : {A : Type 0} → Result A ExpectRefusal → Result A (ℕ × ExpectKind) → Type 0
GivesRead (Ok x) read = read ≡ Ok x
GivesRead (Err refusal.NoMemory) read = Unit {0}
GivesRead (Err (refusal.Bad line kind)) read = read ≡ Err (line, kind)
