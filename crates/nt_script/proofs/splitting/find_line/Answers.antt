use Rattle.std.proofs.Common.{arith, refl}
use Rattle.nt_text.proofs.Cuts.{few_lines}
use Rattle.nt_script.proofs.Cutting.{lines_total}
use Rattle.nt_script.proofs.splitting.find_line.Goals as goal

pub loop-line-init : goal.loop-line-init
loop-line-init c =
    let total = lines_total c.args.bytes.now in
    let few = few_lines c.args.bytes.now in
    rw c.new-lines.ensures.lines (record { rest = refl; within = omega (arith, total, c.requires); few = omega (arith, few, c.requires) })
