use Rattle.std.proofs.Common.{subst, sym}
use Rattle.std.specs.Prelude.{List, [], ◌++◌, ◌∷◌}
use Rattle.nt_mark.specs.declared.seats.Keeper.{Keeper}
use Rattle.nt_lane_record.specs.declared.piece.Piece.{Piece}
use Rattle.nt_lane.specs.Pieces.{ArePiecesOf}
use Rattle.nt_lane.proofs.Gathering.{pieces_more}
use Rattle.nt_lane.proofs.lanes.Pieces.add_lane.Goals as goal

pub returns-clause-pieces : goal.returns-clause-pieces
returns-clause-pieces g c =
    let t = g.N.Shared.table in
    let ps = c.args.self.now.lists.items in
    let ks = c.args.self.now.keepers.items in
    let p = c.close-piece.result.0 in
    let k = c.close-piece.result.1 in
    subst (λ (xs : List Piece). ArePiecesOf t xs c.push_reserved-2.new.self.items) (sym c.push_reserved.ensures.items)
    (subst (λ (xs : List Keeper). ArePiecesOf t (ps ++ p ∷ []) xs) (sym c.push_reserved-2.ensures.items)
    (pieces_more t ps ks p k c.requires.pieces c.close-piece.ensures))
