use Rattle.live_table.proofs.Beginnings.{served_first}
use Rattle.live_table.proofs.beginning.Beginning.turn.Goals as goal

pub turn-requires-clause-serves : goal.turn-requires-clause-serves
turn-requires-clause-serves g c =
    let b = c.args.self in
    let n = c.new-seat.ensures in
    served_first g.N.Plan.script g.N.Plan.turns b.marks.now c.new-seat.result.marks.now b.cpu b.pass c.new-seat.result.pass
    b.some b.new b.cpus b.limit b.nothing n.0 n.1.0
