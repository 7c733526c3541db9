use Rattle.std.proofs.Common.{rules}
use Rattle.nt_event.proofs.Reversed.{count_by-reverse}
use Rattle.nt_dpc.proofs.entries.depth.Goals as goal

pub returns-clause-value : goal.returns-clause-value
returns-clause-value c = rw count_by-reverse (search rules)
