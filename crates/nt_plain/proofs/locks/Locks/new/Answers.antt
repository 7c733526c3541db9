use Rattle.nt_event.specs.Lists.{table_from}
use Rattle.nt_event.proofs.Tables.{more_table}
use Rattle.nt_plain.proofs.locks.Locks.new.Goals as goal

pub loop-init : goal.loop-init
unfolding table_from
loop-init c = c.in_ok-locks.ensures.items

pub loop-preserved : goal.loop-preserved
loop-preserved c = rw (c.in_ok-push.ensures.items, c.loop.invariant, c.in_ok-new.ensures) (more_table _ _)
