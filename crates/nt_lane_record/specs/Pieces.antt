-- What closing a lane gives: the numbers of its events, beside its keeper.
use Rattle.std.specs.Prelude.{Contains, ℕ, ◌≡◌}
use Rattle.atomic_table.specs.Seated.{TableId}
use Rattle.nt_mark.specs.declared.seats.Keeper.{Keeper}
use Rattle.nt_mark.specs.Names.{keeper_lane, keeper_notes, keeper_table, keeper_view}
use Rattle.nt_mark.specs.Views.{note_numbers}
use Rattle.nt_lane_record.specs.declared.piece.Piece.{Piece}
use Rattle.nt_lane_record.specs.Records.{IsKnownWith}

-- the numbers are those of the keeper's list, place by place, each that of a known entry that touches the lane
pub record IsPieceOf (table : TableId) (p : Piece) (k : Keeper) : Type 0 where
  pub table_is : keeper_table k ≡ table
  pub lane : keeper_lane k ≡ p.lane
  pub numbers : p.numbers.items ≡ note_numbers (keeper_notes k)
  pub entries : (n : ℕ) → Contains p.numbers.items n → IsKnownWith p.lane (keeper_view k) n
