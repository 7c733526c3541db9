use Rattle.std.proofs.Common.{arith, sym, ◌∙◌}
use Rattle.nt_witness.proofs.Robins.{going_ends, going_on, not_going}
use Rattle.nt_witness.proofs.completing.go_on.Goals as goal

pub loop-turn-init : goal.loop-turn-init
loop-turn-init c = not_going c.args.core.now c.is_run.ensures.run c.is_run.ensures.bound

pub loop-turn-smaller : goal.loop-turn-smaller
loop-turn-smaller c =
    let next = going_on c.args.core.now c.loop-turn.core c.take.new.core c.in-Some.turn c.loop-turn.invariant (sym c.robin.ensures ∙ c.in-Some.is)
    c.take.ensures c.is_run-in-Some.ensures.run c.is_run-in-Some.ensures.bound in
    let few = next.0.few in
    let more = next.1 in
    omega (arith, few, more)

pub loop-turn-preserved : goal.loop-turn-preserved
loop-turn-preserved c =
    (going_on c.args.core.now c.loop-turn.core c.take.new.core c.in-Some.turn c.loop-turn.invariant (sym c.robin.ensures ∙ c.in-Some.is)
    c.take.ensures c.is_run-in-Some.ensures.run c.is_run-in-Some.ensures.bound).0

pub returns-clause-past : goal.returns-clause-past
returns-clause-past c =
    (going_ends c.args.core.now c.loop-turn.core c.loop-turn.invariant (sym c.robin.ensures ∙ c.in_default.is)).0

pub returns-clause-settled : goal.returns-clause-settled
returns-clause-settled c =
    (going_ends c.args.core.now c.loop-turn.core c.loop-turn.invariant (sym c.robin.ensures ∙ c.in_default.is)).1
