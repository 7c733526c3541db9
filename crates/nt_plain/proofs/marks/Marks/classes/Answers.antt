use Rattle.std.proofs.Common.{sym, vec_capacity, ◌∙◌}
use Rattle.nt_plain.proofs.AllRows.{found, missing, row_read}
use Rattle.nt_plain.proofs.marks.Marks.classes.Goals as goal

pub returns-in-Ok : goal.returns-in-Ok
returns-in-Ok c =
    found 0 (vec_capacity c.self.inside.marked) c.in-Ok.place c.args.row c.index.result.now c.self.inside.marked.items c.self.invariant.1
    (rw c.as_slice.ensures.value at c.in-Ok.ensures.found) c.index.ensures
    ∙ row_read c.self.inside.count c.self.inside.marked.items c.args.row c.args.self.now c.self.view_is c.requires

pub returns-in-Err : goal.returns-in-Err
returns-in-Err c =
    sym (missing 0 (vec_capacity c.self.inside.marked) c.in-Err.field-0 c.args.row c.self.inside.marked.items c.self.invariant.1
    (rw c.as_slice.ensures.value at c.in-Err.ensures.missing))
    ∙ row_read c.self.inside.count c.self.inside.marked.items c.args.row c.args.self.now c.self.view_is c.requires
