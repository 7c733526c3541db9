use Rattle.nt_event.specs.Lists.{table_from}
use Rattle.nt_event.proofs.Tables.{more_table}
use Rattle.nt_dpc_lanes.proofs.making.queues.Goals as goal

pub loop-i-init : goal.loop-i-init
unfolding table_from
loop-i-init c = c.in_ok-queues.ensures.items

pub loop-i-preserved : goal.loop-i-preserved
loop-i-preserved c =
    rw (c.in_ok-push.ensures.items, c.loop-i.invariant, c.in_ok-new.ensures, c.len-count.ensures, c.depth_limit-limit.ensures) (more_table _ _)
