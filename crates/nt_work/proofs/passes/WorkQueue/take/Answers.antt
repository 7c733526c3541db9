use Rattle.nt_work.proofs.Ruled.{takes_kept, tells}
use Rattle.nt_work.proofs.passes.WorkQueue.take.Goals as goal

pub pop_as-requires-clause-rule : goal.pop_as-requires-clause-rule
pop_as-requires-clause-rule g c = (takes_kept _ _ c.args.pass.now.part, tells _ _ c.args.pass.now.part)
