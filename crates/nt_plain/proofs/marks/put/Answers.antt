use Rattle.std.proofs.Common.{vec_capacity, ◌∙◌}
use Rattle.nt_plain.proofs.AllRows.{goes_with, room_for, stands_with}
use Rattle.nt_plain.proofs.marks.put.Goals as goal

pub put_at-requires-clause-room : goal.put_at-requires-clause-room
put_at-requires-clause-room c =
    room_for (vec_capacity c.args.marked.now) c.in-Err.place c.args.row c.args.classes c.args.marked.now.items c.requires.rows c.requires.row
    (rw c.as_slice.ensures.value at c.in-Err.ensures.missing)

pub returns-in-Ok-clause-items : goal.returns-in-Ok-clause-items
returns-in-Ok-clause-items c =
    stands_with 0 (vec_capacity c.args.marked.now) c.in-Ok.place c.args.row c.args.classes c.index_mut.result.now c.args.marked.now.items c.requires.rows
    (rw c.as_slice.ensures.value at c.in-Ok.ensures.found) c.index_mut.ensures.value

pub returns-in-Err-clause-items : goal.returns-in-Err-clause-items
returns-in-Err-clause-items c =
    c.put_at.ensures.items
    ∙ goes_with 0 (vec_capacity c.args.marked.now) c.in-Err.place c.args.row c.args.classes c.args.marked.now.items c.requires.rows
    (rw c.as_slice.ensures.value at c.in-Err.ensures.missing)
