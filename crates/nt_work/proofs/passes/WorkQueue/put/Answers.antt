use Rattle.nt_work.proofs.Ruled.{puts_kept, tells}
use Rattle.nt_work.proofs.passes.WorkQueue.put.Goals as goal

pub push_as-requires-clause-rule : goal.push_as-requires-clause-rule
push_as-requires-clause-rule g c = (puts_kept _ _ _ _ c.args.pass.now.part, tells _ _ c.args.pass.now.part)
