use Rattle.std.proofs.Common.{arith}
use Rattle.nt_witness.proofs.Ended.{is_witness}
use Rattle.nt_witness.proofs.choosing.witness.Goals as goal

pub returns-clause-some : goal.returns-clause-some
returns-clause-some c h lead =
    let most = c.most_of-most.ensures in
    let bound = c.turn_bound.ensures in
    let room = c.if-turn_bound-most.false in
    is_witness c.args.script.now c.args.turns.now c.args.endless c.in_ok-history.history c.in_ok-schedule.schedule c.in_ok-history.ensures.completed
    c.in_ok-schedule.ensures.limit c.in_ok-schedule.ensures.list h lead (omega (arith, most, bound, room)) (c.in_ok-history.ensures.limit h lead)
