use Rattle.std.proofs.Common.{◌-◌, arith}
use Rattle.nt_mark.specs.Names.{pass_view}
use Rattle.nt_mark.proofs.Dealing.{splitting}
use Rattle.nt_mark.proofs.marks.Marks.split.Goals as goal

pub split_seat-seat-requires : goal.split_seat-seat-requires
split_seat-seat-requires c =
    let v = pass_view c.args.pass.now in
    let p = c.requires.parts in
    (c.requires.table, (let s = c.args.self.now.wide in omega arith), splitting _ _ v (v.parts - 1) 1 (omega arith) c.requires.room)
