use Rattle.std.proofs.Common.{arith, length, refl, subst, sym, ◌<◌}
use Rattle.std.specs.Prelude.{None, get_or, ◌+◌}
use Rattle.nt_findings.specs.declared.spoken.Spoken.{Spoken}
use Rattle.nt_findings.proofs.Saying.{said_on}
use Rattle.nt_findings.proofs.answering.say_without.Goals as goal

pub loop-index-preserved : goal.loop-index-preserved
loop-index-preserved c xs =
    let ys = c.args.spoken.now in
    let i = c.loop-index.index in
    let y = c.index-spoken-index.result in
    let old = c.args.verdicts.now.items in
    let mid = c.loop-index.verdicts.items in
    let low : y.of < length old = subst (λ (z : Spoken). z.of < length old) (sym c.index-spoken-index.is) (c.requires.low i y c.loop-index-test.true) in
    let count = (c.loop-index.invariant xs).count in
    said_on xs ys (λ k. get_or c.args.fails.now (c.args.first + k) None) old mid _ i y c.index.result.now c.without-verdict.result _ c.loop-index-test.true
    c.index-spoken-index.is c.index.ensures refl (omega (arith, low, count)) c.without-verdict.ensures refl (c.loop-index.invariant xs)

pub returns : goal.returns
returns c s is_cut xs are speaks never = (c.loop-index.invariant xs).said s is_cut are speaks never
