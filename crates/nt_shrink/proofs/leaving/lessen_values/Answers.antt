use Rattle.std.proofs.Common.{rules}
use Rattle.std.proofs.lemmas.List.Edits.{map_over_more}
use Rattle.nt_shrink.specs.Shorter.{value_without}
use Rattle.nt_shrink.proofs.leaving.lessen_values.Goals as goal

pub loop-value-preserved : goal.loop-value-preserved
loop-value-preserved c = search (rules, map_over_more (value_without c.args.at))
