use Rattle.std.proofs.Common.{arith}
use Rattle.nt_mark.proofs.Dealing.{giving_lane}
use Rattle.nt_mark.proofs.marks.Marks.keeper.Goals as goal

pub split_seat-kept-requires : goal.split_seat-kept-requires
split_seat-kept-requires c = (c.requires.table, (let s = c.args.self.now.wide in omega arith), giving_lane _ _ _)
