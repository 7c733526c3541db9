use Rattle.nt_work.proofs.Ruled.{meets_kept}
use Rattle.nt_work.proofs.passes.WorkQueue.meet.Goals as goal

pub absorb-requires-clause-rule : goal.absorb-requires-clause-rule
absorb-requires-clause-rule c = meets_kept _ _ _ _ c.args.pass.now.part c.args.other.part
