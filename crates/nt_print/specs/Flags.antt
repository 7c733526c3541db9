-- Flags by number.
use Rattle.std.specs.Prelude.{◌≡◌, ℕ, ◌<◌, ◌≤◌, Bool, false, List, get_or}

-- none of the flags from this number up to that one is set
abbrev pub AreClear : List Bool → ℕ → ℕ → Type 0
AreClear flags from to = (n : ℕ) → from ≤ n → n < to → get_or flags n false ≡ false
