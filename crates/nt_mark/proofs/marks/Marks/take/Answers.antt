use Rattle.std.proofs.Common.{arith}
use Rattle.nt_mark.proofs.Dealing.{joining}
use Rattle.nt_mark.proofs.marks.Marks.take.Goals as goal

pub join_seat-requires : goal.join_seat-requires
join_seat-requires c = (c.requires.table.0, c.requires.table.1, c.args.keeper.no_slot, (let s = c.args.self.now.wide in omega arith), joining _ _ _ _ _)
