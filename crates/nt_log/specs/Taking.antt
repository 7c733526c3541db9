-- What a call does that takes the first line that is left.
use Rattle.std.specs.Prelude.{◌≡◌, ℕ, Bool, true, false, List, [], ◌∷◌, Result, Ok, Err}
use Rattle.nt_text.specs.declared.kind.ScriptKind.{ScriptKind}
use Rattle.nt_script.specs.declared.walk.Stop.{Stop}
use Rattle.nt_script.specs.declared.walk.Stop.TheVariants.{NoMemory, Bad}

-- there is a first line, of which step says this, and behind it stand the lines that are left now
abbrev pub IsTaken : {A : Type 0} → (List ℕ × Bool → Result A ScriptKind) → Result A ScriptKind → List (List ℕ × Bool) →
    List (List ℕ × Bool) → Type 0
IsTaken step said lines left = (line : List ℕ × Bool) × (lines ≡ line ∷ left) × (step line ≡ said)

-- a call that takes the first line, answers whether there was one, and changes an old value to a new one by it, or
-- stops, does what step says of that line, unless memory ran out; where there is none, nothing changes
abbrev pub TakesLine : {A : Type 0} → (List ℕ × Bool → Result A ScriptKind) → Result Bool Stop → A → A →
    List (List ℕ × Bool) → List (List ℕ × Bool) → Type 0
TakesLine step (Ok true) old new lines left = IsTaken step (Ok new) lines left
TakesLine step (Ok false) old new lines left = (lines ≡ []) × (left ≡ []) × (new ≡ old)
TakesLine step (Err NoMemory) old new lines left = Unit {0}
TakesLine step (Err (Bad kind)) old new lines left = IsTaken step (Err kind) lines left
