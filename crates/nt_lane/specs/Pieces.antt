-- What closing the lanes gives: the list of each lane's events, with its keeper.
use Rattle.std.specs.Prelude.{List, [], length, ℕ, ◌∷◌, ◌≡◌}
use Rattle.atomic_table.specs.Seated.{TableId}
use Rattle.nt_mark.specs.declared.seats.Keeper.{Keeper}
use Rattle.nt_lane_record.specs.declared.piece.Piece.{Piece}
use Rattle.nt_lane.specs.declared.lanes.Pieces.{Pieces}
use Rattle.nt_lane_record.specs.Pieces.{IsPieceOf}

-- each list is that of its keeper, place by place
abbrev pub ArePiecesOf : TableId → List Piece → List Keeper → Type 0
ArePiecesOf table [] [] = Unit {0}
ArePiecesOf table (p ∷ ps) (k ∷ ks) = IsPieceOf table p k × ArePiecesOf table ps ks
ArePiecesOf table _ _ = ⊥

-- a list for each of so many lanes, with their keepers
pub record AreClosed (table : TableId) (lanes : ℕ) (p : Pieces) : Type 0 where
  pub count : length p.lists.items ≡ lanes
  pub keepers : length p.keepers.items ≡ lanes
  pub each : ArePiecesOf table p.lists.items p.keepers.items
