use Rattle.std.proofs.Common.{arith, subst, ℕ}
use Rattle.nt_history.proofs.Lists.{as_many}
use Rattle.nt_print.specs.Lent.{lent}
use Rattle.nt_print.specs.Tally.{Tallies}
use Rattle.nt_print.proofs.tally.tally_of.Goals as goal

pub returns : goal.returns
returns c =
    let events = c.args.events.now in
    let many = as_many events.briefs.now events.rises.now in
    subst (λ (k : ℕ). Tallies c.args.script.now (lent events) k c.loop-number.tally)
    (omega (arith, many, c.loop-number-test.false, c.loop-number.auto.number-end)) c.loop-number.invariant
