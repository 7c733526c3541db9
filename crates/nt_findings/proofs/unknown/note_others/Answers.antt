use Rattle.std.proofs.Common.{arith}
use Rattle.nt_findings.proofs.Joining.{joined_more, joined_none}
use Rattle.nt_findings.proofs.unknown.note_others.Goals as goal

pub loop-place-init : goal.loop-place-init
loop-place-init c = joined_none c.args.others.now c.args.fails.now.items

pub note_other-requires : goal.note_other-requires
note_other-requires c =
    let size = c.loop-place.invariant.length_is in
    let count = c.requires in
    let low = c.loop-place-test.true in
    omega (arith, size, count, low)

pub loop-place-preserved : goal.loop-place-preserved
loop-place-preserved c =
    let others = c.args.others.now in
    let n = c.loop-place.place in
    joined_more others c.args.fails.now.items c.loop-place.fails.items c.note_other.new.fails.items n c.loop-place.invariant c.requires c.loop-place-test.true
    c.note_other.ensures.kept c.note_other.ensures.noted
