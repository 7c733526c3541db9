use Rattle.std.proofs.Common.{◌≡◌, map, string_bytes, take}
use Rattle.nt_c.proofs.words.words_of_text.Given as goal

abbrev pub invariant-loop-piece : goal.invariant-loop-piece
invariant-loop-piece l = map string_bytes l.words.items ≡ map (λ x. x.now) (take l.piece-index l.piece-items)
