use Rattle.std.proofs.Common.{refl}
use Rattle.nt_ask.proofs.words.witness_of_four.Goals as goal

pub returns-clause-value : goal.returns-clause-value
returns-clause-value c =
    let behind = c.witness_by-behind.ensures.value in
    let between = c.witness_by-between.ensures.value in
    let before = c.witness_by-before.ensures.value in
    rw (c.either-2.ensures.value, c.either.ensures.value, behind, between, before)
    (rw (c.apart.ensures.value, c.apart-2.ensures.value, c.apart-3.ensures.value) refl)
