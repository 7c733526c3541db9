-- Pieces, one more.
use Rattle.std.specs.Prelude.{List, [], ◌++◌, ◌∷◌}
use Rattle.atomic_table.specs.Seated.{TableId}
use Rattle.nt_mark.specs.declared.seats.Keeper.{Keeper}
use Rattle.nt_lane_record.specs.declared.piece.Piece.{Piece}
use Rattle.nt_lane_record.specs.Pieces.{IsPieceOf}
use Rattle.nt_lane.specs.Pieces.{ArePiecesOf}

-- pieces of keepers, and one piece more of one keeper more, are pieces of all these keepers
pub pieces_more : (t : TableId) (ps : List Piece) (ks : List Keeper) (p : Piece) (k : Keeper) → ArePiecesOf t ps ks → IsPieceOf t p k →
    ArePiecesOf t (ps ++ p ∷ []) (ks ++ k ∷ [])
pieces_more t [] [] p k h i = (i, tt)
pieces_more t (q ∷ qs) (l ∷ ls) p k h i = (h.0, pieces_more t qs ls p k h.1 i)
pieces_more t [] (l ∷ ls) p k h i = absurd h
pieces_more t (q ∷ qs) [] p k h i = absurd h
