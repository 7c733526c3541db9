use Rattle.nt_work.proofs.Ruled.{tells}
use Rattle.nt_work.proofs.passes.WorkQueue.close.Goals as goal

pub len_as-requires-clause-rule : goal.len_as-requires-clause-rule
len_as-requires-clause-rule g c = tells _ _ c.args.pass.part
