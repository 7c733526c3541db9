-- What no text holds.
use Rattle.std.specs.Prelude.{Bool, not, ℕ, ◌&&◌, ◌==◌}

-- a byte that begins or ends no tag and no value: not less, greater, a quotation mark or an apostrophe
abbrev pub is_plain_byte : ℕ → Bool
is_plain_byte b = not (b == 60) && not (b == 62) && not (b == 34) && not (b == 39)
