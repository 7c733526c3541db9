use Rattle.nt_dpc_lanes.proofs.Starting.{kept_start, new_is_start}
use Rattle.nt_dpc_lanes.proofs.dpcs.Dpcs.new.Goals as goal

pub invariant_of-result : goal.invariant_of-result
invariant_of-result c = rw (c.in_ok-objects.ensures, c.in_ok-queues.ensures) (kept_start c.args.script.now)

pub returns : goal.returns
returns c = rw (c.in_ok-objects.ensures, c.in_ok-queues.ensures) (new_is_start c.args.script.now)
