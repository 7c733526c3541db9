use Rattle.std.proofs.Common.{arith}
use Rattle.nt_search.proofs.plan.Plan.turns_of.Goals as goal

pub turns_to-requires-clause-number : goal.turns_to-requires-clause-number
turns_to-requires-clause-number c =
    let at = c.requires.at in
    let count = at.1.ways.count in
    let low = at.2 in
    omega (arith, count, low)

pub turns_to-requires-clause-ways : goal.turns_to-requires-clause-ways
turns_to-requires-clause-ways c = (c.args.self.now.script.now, c.requires.at.0, c.requires.at.1.ways)

pub add_round-requires-clause-at : goal.add_round-requires-clause-at
add_round-requires-clause-at c =
    let at = c.requires.at in
    (at.0, at.1, at.2, c.in_ok-turns.ensures c.args.self.now.script.now at.0 at.1.ways)

pub returns-then-branch : goal.returns-then-branch
returns-then-branch c = c.in_ok-add_round.ensures c.if-branch.true
