use Rattle.nt_work.proofs.Ruled.{begins}
use Rattle.nt_work.proofs.passes.WorkQueue.new.Goals as goal

pub ruled-requires-clause-rule : goal.ruled-requires-clause-rule
ruled-requires-clause-rule c = begins
