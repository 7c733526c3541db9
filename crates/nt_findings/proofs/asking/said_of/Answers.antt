use Rattle.std.proofs.Common.{arith}
use Rattle.std.specs.Prelude.{not}
use Rattle.nt_findings.proofs.Saying.{never_comes, told_of_all}
use Rattle.nt_findings.proofs.asking.said_of.Goals as goal

pub say_without-requires-clause-low : goal.say_without-requires-clause-low
say_without-requires-clause-low c k d low =
    let s = c.args.script.now in
    let whole = c.args.finished.now.is_whole in
    let all = told_of_all s whole c.args.expectations.now c.args.spoken.now c.args.fails.now c.requires.known c.requires.holds in
    let count = (c.in_ok-verdicts.ensures s all c.requires.ends).count in
    let of = (c.requires.spoken k d low).0 in
    omega (arith, count, of)

pub returns : goal.returns
returns c =
    let s = c.args.script.now in
    let whole = c.args.finished.now.is_whole in
    let xs = c.args.expectations.now in
    let ys = c.args.spoken.now in
    let fails = c.args.fails.now in
    let all = told_of_all s whole xs ys fails c.requires.known c.requires.holds in
    c.say_without.ensures s (not whole) xs (c.in_ok-verdicts.ensures s all c.requires.ends) c.requires.spoken
    (never_comes s whole xs ys fails c.requires.holds)
