use Rattle.nt_work.proofs.Ruled.{forks_kept}
use Rattle.nt_work.proofs.passes.WorkQueue.split.Goals as goal

pub another-new-requires-clause-rule : goal.another-new-requires-clause-rule
another-new-requires-clause-rule c = forks_kept _ _ c.requires.parts.0 c.requires.parts.1 c.requires.parts.2
