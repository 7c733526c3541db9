-- The rows of marks of a floor, of which it keeps those that have a mark, in rising order.
use Rattle.std.specs.Int.Bits.{bit_or}
use Rattle.std.specs.Prelude.{List, [], get_or, if◌then◌else◌, length, nat_lt, ℕ, ◌+◌, ◌<◌, ◌==◌, ◌∷◌, ◌≡◌, ◌≤◌}
use Rattle.nt_event.specs.Lists.{table}
use Rattle.nt_plain.specs.declared.marks.MarkedRow.{MarkedRow}

abbrev pub row_at : List MarkedRow → ℕ → ℕ
row_at marked i = (get_or marked i (record { row = 0; classes = 0 })).row

-- the classes of a row: those of its entry, or none
abbrev pub classes_of : List MarkedRow → ℕ → ℕ
classes_of [] row = 0
classes_of (m ∷ marked) row = if m.row == row then m.classes else classes_of marked row

-- all rows, so many
abbrev pub all_rows : ℕ → List MarkedRow → List ℕ
all_rows count marked = table count (λ row. classes_of marked row)

-- the rows rise from one on, and are below another
abbrev pub AreRising : ℕ → ℕ → List MarkedRow → Type 0
AreRising from end [] = from ≤ end
AreRising from end (m ∷ marked) = (from ≤ m.row) × AreRising (m.row + 1) end marked

-- the entry of a row stands at this place
pub record StandsAt (row : ℕ) (marked : List MarkedRow) (place : ℕ) : Type 0 where
  pub bound : place < length marked
  pub here : row_at marked place ≡ row

-- a row has no entry, and one goes in at this place
pub record GoesAt (row : ℕ) (marked : List MarkedRow) (place : ℕ) : Type 0 where
  pub bound : place ≤ length marked
  pub before : (k : ℕ) → k + 1 ≡ place → row_at marked k < row
  pub behind : place < length marked → row < row_at marked place

-- the rows after classes were added to one
abbrev pub with_classes : ℕ → ℕ → List MarkedRow → List MarkedRow
with_classes row classes [] = record { row = row; classes = classes } ∷ []
with_classes row classes (m ∷ marked) =
    if m.row == row then record m { classes = bit_or m.classes classes } ∷ marked
    else if nat_lt m.row row then m ∷ with_classes row classes marked
    else record { row = row; classes = classes } ∷ m ∷ marked
