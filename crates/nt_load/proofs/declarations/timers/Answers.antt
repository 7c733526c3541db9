use Rattle.std.proofs.Common.{refl, sym, ◌∙◌}
use Rattle.nt_event.proofs.Tables.{table_grown, table_none}
use Rattle.nt_load.proofs.declarations.timers.Goals as goal

pub loop-i-init : goal.loop-i-init
loop-i-init c = c.in_ok-timers.ensures ∙ sym (table_none _)

pub loop-i-preserved : goal.loop-i-preserved
loop-i-preserved c = table_grown _ _ _ _ _ c.in_ok-push.ensures.ok c.loop-i.invariant refl
