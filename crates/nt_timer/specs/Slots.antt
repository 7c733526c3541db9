-- The slots of a wheel: levels of 64, by digits of six bits.
use Rattle.std.specs.Prelude.{if◌then◌else◌, suc, zero, ℕ, ◌%◌, ◌+◌, ◌/◌, ◌==◌}

-- the slot of a due time, counted from the first slot of this level; `now` and `due` without the digits below; the
-- highest level takes what is left
unfoldable pub index_from : ℕ → ℕ → ℕ → ℕ
index_from zero now due = due
index_from (suc higher) now due =
    if now / 64 == due / 64 then due % 64 else 64 + index_from higher (now / 64) (due / 64)

-- the slot of a due time above the time
unfoldable pub slot_index : ℕ → ℕ → ℕ
slot_index now due = index_from 10 now due
