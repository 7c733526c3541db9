-- The words of a command line that is given as bytes.
use Rattle.std.specs.Prelude.{Bool, List, [], ℕ, ◌==◌, ◌≡◌, ◌⊎◌}
use Rattle.std.specs.List.{slice_split}
use Rattle.std.specs.Str.{IsUtf8}

abbrev pub is_space : ℕ → Bool
is_space b = b == 32

-- what stands between the spaces, where the bytes are a text; else there are no words
abbrev pub AreWords : List ℕ → List (List ℕ) → Type 0
AreWords bytes words = (IsUtf8 bytes × (words ≡ slice_split is_space bytes)) ⊎ (¬ (IsUtf8 bytes) × (words ≡ []))
