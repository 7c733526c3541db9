use Rattle.std.proofs.Common.{arith}
use Rattle.nt_mark.proofs.Drawing.{draws}
use Rattle.nt_mark.proofs.marks.Marks.draw_as.Goals as goal

pub fetch_add-requires : goal.fetch_add-requires
fetch_add-requires g c = (c.requires.table, (let s = c.args.self.now.wide in omega arith), draws _ _ _ _ _ _ _ c.requires.room c.requires.picked.2)
