-- The generator of the load: a number that each draw moves, and the value that a draw gives.
use Rattle.std.specs.Prelude.{suc, zero, ℕ, ◌%◌, ◌*◌, ◌+◌, ◌/◌}

-- the number behind a number
unfoldable pub next : ℕ → ℕ
next x = (x * 1103515245 + 12345) % 2147483648

-- the number after k draws
unfoldable pub after : ℕ → ℕ → ℕ
after zero x = x
after (suc k) x = next (after k x)

-- what a draw gives below m, where it moves the number to x
abbrev pub below : ℕ → ℕ → ℕ
below m x = x / 65536 % m

-- the value below m of the draw with number k, counted from 0
abbrev pub draw : ℕ → ℕ → ℕ → ℕ
draw k m x = below m (after (k + 1) x)
