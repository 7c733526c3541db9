use Rattle.std.proofs.Common.{◌≡◌, ◌∙◌, ◌+◌, take, arith}
use Rattle.std.proofs.lemmas.Grind.{common_steps}
use Rattle.std.specs.Io.KnownBytes.{prepend_known}
use Rattle.nt_outside.proofs.Known.{taken-behind}
use Rattle.nt_outside.proofs.reading.read_all.Goals as goal
use Rattle.nt_outside.proofs.reading.read_all.Goals.{then-count-len+in_ok-map_err, else-count-len}

pub returns-then-count-limit-clause-gone : goal.returns-then-count-limit-clause-gone
returns-then-count-limit-clause-gone g c =
    let kept : take c.loop-count.count c.if-count-len.bytes.items ≡ take c.loop-count.count c.loop-count.bytes.items =
    elim c.if-count-len.branch [ then-count-len+in_ok-map_err w ↦ grind (arith, common_steps) | else-count-len w ↦ grind (arith, common_steps) ] in (
      take (c.loop-count.count + c.in-Ok.n) c.take_behind.new.bytes.items,
      taken-behind _ _ _ _ _ _ _ c.loop-count.invariant.0.bytes (c.in-Ok.ensures.kept ∙ kept) c.in-Ok.ensures.bytes,
    )

pub loop-count-preserved : goal.loop-count-preserved
loop-count-preserved g c =
    let kept : take c.loop-count.count c.if-count-len.bytes.items ≡ take c.loop-count.count c.loop-count.bytes.items =
    elim c.if-count-len.branch [ then-count-len+in_ok-map_err w ↦ grind (arith, common_steps) | else-count-len w ↦ grind (arith, common_steps) ] in
    let read : g.S.Source.left c.args.source.now ≡ prepend_known (take (c.loop-count.count + c.in-Ok.n) c.take_behind.new.bytes.items)
    (g.S.Source.left c.take_behind.new.source) = taken-behind _ _ _ _ _ _ _ c.loop-count.invariant.0.bytes
    (c.in-Ok.ensures.kept ∙ kept) c.in-Ok.ensures.bytes in
    elim c.if-count-len.branch [ then-count-len+in_ok-map_err w ↦ grind (arith, read) | else-count-len w ↦ grind (arith, read) ]
