-- What calls that move bytes answer, and what they leave.
use Rattle.std.specs.Prelude.{◌≡◌, ℕ, ◌<◌, List, length, take, Option, Result, Ok, Err, IfSome}
use Rattle.std.specs.Io.KnownBytes.{append_known}

-- how many bytes a call moved: none where it failed
abbrev pub moved : {E : Type 0} → Result ℕ E → ℕ
moved (Ok n) = n
moved (Err e) = 0

-- more than n bytes are told, where they are told
abbrev pub IsLonger : ℕ → Option (List ℕ) → Type 0
IsLonger n told = IfSome told (λ xs. n < length xs)

-- of the bytes a front part was added, and not all of them
abbrev pub AddsFrontOf : List ℕ → Option (List ℕ) → Option (List ℕ) → Type 0
AddsFrontOf bytes old new = (k : ℕ) × (k < length bytes) × (new ≡ append_known old (take k bytes))
