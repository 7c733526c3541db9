-- Counts that a u64 keeps: they rise, and stay at the last value once they are there.
use Rattle.std.specs.Prelude.{ℕ, ◌+◌, ◌≤◌, min}

-- the last value of a count, 2 ^ 64 - 1
abbrev pub last_count : ℕ
last_count = 18446744073709551615

-- a count after n more
abbrev pub counted : ℕ → ℕ → ℕ
counted count n = min (count + n) last_count

-- from the old count to the new one there were at least n more, or the new one is the last value
abbrev pub RoseBy : ℕ → ℕ → ℕ → Type 0
RoseBy n old new = counted old n ≤ new

-- the count rose, or stands at the last value
abbrev pub Rose : ℕ → ℕ → Type 0
Rose old new = RoseBy 1 old new
