use Rattle.std.proofs.Common.{arith}
use Rattle.nt_text.proofs.Cuts.{few_lines}
use Rattle.nt_people.proofs.places.told_line.Goals as goal

pub overflow_add-result : goal.overflow_add-result
overflow_add-result c = omega (arith, few_lines c.args.friendly.now, c.line_count.ensures, c.requires)
