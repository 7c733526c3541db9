use Rattle.std.proofs.Common.{arith}
use Rattle.std.proofs.lemmas.Bool.Decides.{nat_tests}
use Rattle.std.specs.Prelude.{true, ◌==◌, ◌≡◌}
use Rattle.nt_floor.proofs.Values.{raised_value}
use Rattle.nt_plain.proofs.told.raise_ask.Goals as goal

pub returns-then-ask-p-clause-values : goal.returns-then-ask-p-clause-values
returns-then-ask-p-clause-values c k h =
    let here : (c.args.ask.cpu.0 == c.args.p.0) ≡ true = let t = c.if-ask-p.true in grind (arith, nat_tests) in
    rw here (raised_value c.args.seen.now c.raise.new.self c.args.ask.class c.args.to k c.raise.ensures.values h)
