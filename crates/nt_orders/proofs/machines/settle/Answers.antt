use Rattle.std.proofs.Common.{arith, sym, ◌∙◌}
use Rattle.nt_orders.proofs.Settling.{settle_accepts, settle_end, settle_more, settle_start, taken_longer}
use Rattle.nt_orders.proofs.machines.settle.Goals as goal

pub loop-turn-init : goal.loop-turn-init
loop-turn-init c = settle_start c.args.core.now c.is_run.ensures.run c.is_run.ensures.bound

pub take-requires : goal.take-requires
take-requires c =
    settle_accepts c.args.core.now c.loop-turn.core c.in-Some.turn c.loop-turn.invariant (sym c.robin.ensures ∙ c.in-Some.is)

pub loop-turn-smaller : goal.loop-turn-smaller
loop-turn-smaller c =
    let next = settle_more c.args.core.now c.loop-turn.core c.take.new.core c.in-Some.turn c.loop-turn.invariant (sym c.robin.ensures ∙ c.in-Some.is)
    c.take.ensures c.is_run-in-Some.ensures.run c.is_run-in-Some.ensures.bound in
    let few = next.few in
    let more = taken_longer c.in-Some.turn c.loop-turn.core c.take.new.core c.take.ensures in
    omega (arith, few, more)

pub loop-turn-preserved : goal.loop-turn-preserved
loop-turn-preserved c =
    settle_more c.args.core.now c.loop-turn.core c.take.new.core c.in-Some.turn c.loop-turn.invariant (sym c.robin.ensures ∙ c.in-Some.is)
    c.take.ensures c.is_run-in-Some.ensures.run c.is_run-in-Some.ensures.bound

pub returns-clause-robin : goal.returns-clause-robin
returns-clause-robin c = c.loop-turn.invariant.robin_is

pub returns-clause-settled : goal.returns-clause-settled
returns-clause-settled c =
    settle_end c.args.core.now c.loop-turn.core c.loop-turn.invariant (sym c.robin.ensures ∙ c.in_default.is)
