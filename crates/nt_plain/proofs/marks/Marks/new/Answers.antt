use Rattle.nt_plain.proofs.AllRows.{rows_none}
use Rattle.nt_plain.proofs.marks.Marks.new.Goals as goal

pub returns : goal.returns
returns c = rw c.in_ok-marked.ensures.items (rows_none c.args.count)
