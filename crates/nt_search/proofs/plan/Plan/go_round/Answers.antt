use Rattle.std.proofs.Common.{[], arith, get_or, length, true, ◌++◌, ◌≡◌}
use Rattle.nt_search.proofs.GoingRound.{begun, one_more, whole}
use Rattle.nt_search.proofs.plan.Plan.go_round.Goals as goal

pub loop-place-init : goal.loop-place-init
loop-place-init c all are has =
    begun c.args.self.now (get_or all (get_or c.args.round.now 0 0) []) (length c.args.round.now) c.args.turns.now.items c.args.machine.now c.requires.some has

pub go_on-requires-clause-at : goal.go_on-requires-clause-at
go_on-requires-clause-at c =
    let at = c.requires.at in
    let on = c.loop-place.invariant at.0 at.1 at.2 in
    (at.0, on.around ++ get_or at.0 (get_or c.args.round.now 0 0) [], at.1, on.taken)

pub loop-place-preserved : goal.loop-place-preserved
loop-place-preserved c all are has =
    let x = c.args.self.now in
    let round = c.args.round.now in
    let test = c.if-not-branch.false in
    let q : c.in_ok-go_on.field-0 ≡ true = cc in
    let on = c.loop-place.invariant all are has in
    one_more x all (get_or round 0 0) c.loop-place.place (length round) c.state_after-number.result c.loop-place.turns.items c.go_on.new.turns.items
    c.loop-place.machine c.go_on.new.machine on c.state_after-number.ensures.back
    (c.in_ok-go_on.ensures q all (on.around ++ get_or all (get_or round 0 0) []) are on.taken)

pub returns : goal.returns
returns c b =
    let at = c.requires.at in
    let end = c.loop-place.auto.place-end in
    let test = c.loop-place-test.false in
    whole c.args.self.now (get_or at.0 (get_or c.args.round.now 0 0) []) c.loop-place.place (length c.args.round.now) c.loop-place.turns.items
    c.loop-place.machine c.requires.some (omega (arith, end, test)) (c.loop-place.invariant at.0 at.1 at.2)
