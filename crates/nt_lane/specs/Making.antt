-- The keepers of lanes on which nothing happened.
use Rattle.std.specs.Prelude.{List, length, slice_index_or, ℕ, ◌+◌, ◌<◌}
use Rattle.atomic_table.specs.Seated.{TableId}
use Rattle.nt_mark.specs.declared.seats.Keeper.{Keeper}
use Rattle.nt_mark.specs.Closing.{IsNewKeeper}

-- how many keepers are left, and the number of the next lane
pub record KeepersLeft : Type 0 where
  pub next : ℕ
  pub count : ℕ

-- the keepers of the lanes from this one on, in order
abbrev pub AreNewFrom : TableId → ℕ → List Keeper → Type 0
AreNewFrom table from ks = (x : ℕ) (d : Keeper) → x < length ks → IsNewKeeper table (from + x) (slice_index_or ks x d)
