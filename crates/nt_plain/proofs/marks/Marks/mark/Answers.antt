use Rattle.std.proofs.Common.{arith, vec_capacity, ◌*◌, ◌%◌, ◌^◌, ◌<◌}
use Rattle.nt_plain.proofs.AllRows.{rises_with, row_below, rows_marked}
use Rattle.nt_plain.proofs.marks.Marks.mark.Goals as goal

pub put-requires-clause-row : goal.put-requires-clause-row
put-requires-clause-row c =
    let low = row_below c.self.inside.count c.self.inside.marked.items c.args.row c.args.self.now c.self.view_is c.requires.row in
    omega (arith, low, c.self.invariant.0)

pub invariant_of-self : goal.invariant_of-self
invariant_of-self c =
    let rows = c.self.inside.marked.items in
    let low = row_below c.self.inside.count rows c.args.row c.args.self.now c.self.view_is c.requires.row in
    let room : c.args.row < vec_capacity c.self.inside.marked = omega (arith, low, c.self.invariant.0) in
    let rises = rises_with 0 (vec_capacity c.self.inside.marked) c.args.row (1 * 2 ^ c.args.class % 2 ^ 16) rows c.self.invariant.1 (omega arith) room in
    rw (c.put.ensures.room, c.put.ensures.items) (c.self.invariant.0, rises)

pub returns : goal.returns
returns c =
    rw c.put.ensures.items (rows_marked c.self.inside.count (vec_capacity c.self.inside.marked) c.args.row (1 * 2 ^ c.args.class % 2 ^ 16)
    c.self.inside.marked.items c.args.self.now c.self.invariant.1 c.self.view_is c.requires.row)
