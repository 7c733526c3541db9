use Rattle.nt_verdict.proofs.Row.{keeps}
use Rattle.nt_verdict.proofs.raise_queue_lower_keeps_its_expectations.Goals as goal

pub returns : goal.returns
returns c = keeps
