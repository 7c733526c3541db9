use Rattle.std.proofs.Common.{◌≡◌, ◌++◌, drop}
use Rattle.nt_draw.specs.Tags.{escaped, pieces_text}
use Rattle.nt_draw.proofs.tags.put_pieces.Given as goal

-- what was put and what is left is all of it
abbrev pub invariant-loop-piece : goal.invariant-loop-piece
invariant-loop-piece l = l.out.items ++ escaped (pieces_text (drop l.piece-index l.pieces)) ≡ l.fn.out.items ++ escaped (pieces_text l.pieces)
