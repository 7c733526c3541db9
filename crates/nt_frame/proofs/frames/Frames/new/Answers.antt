use Rattle.nt_event.specs.Lists.{table_from}
use Rattle.nt_frame.proofs.Below.{below_start}
use Rattle.nt_frame.proofs.Nested.{nested_start}
use Rattle.nt_frame.proofs.Tables.{table-same_more}
use Rattle.nt_frame.proofs.frames.Frames.new.Goals as goal

pub loop-thread-init : goal.loop-thread-init
unfolding table_from
loop-thread-init c = c.in_ok-parts.ensures.items

pub loop-thread-preserved : goal.loop-thread-preserved
loop-thread-preserved c =
    rw (c.in_ok-push.ensures.items, c.in_ok-new.ensures, c.loop-thread.invariant) (table-same_more _ _)

pub invariant_of-result : goal.invariant_of-result
invariant_of-result c = rw (c.in_ok-new-2.ensures, c.loop-thread.invariant) (nested_start _)

pub returns-clause-named : goal.returns-clause-named
returns-clause-named c = rw (c.in_ok-new-2.ensures, c.loop-thread.invariant) (below_start _)
