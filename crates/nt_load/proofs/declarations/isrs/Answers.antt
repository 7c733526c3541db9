use Rattle.std.proofs.Common.{refl, sym, ◌∙◌}
use Rattle.nt_event.proofs.Tables.{table_grown, table_none}
use Rattle.nt_load.proofs.declarations.isrs.Goals as goal

pub loop-p-init : goal.loop-p-init
loop-p-init c = (c.device_level-level.ensures, c.in_ok-isrs.ensures ∙ sym (table_none _))

pub loop-p-preserved : goal.loop-p-preserved
loop-p-preserved c = (
  c.loop-p.invariant.0,
  table_grown _ _ _ _ _ c.in_ok-push.ensures.ok c.loop-p.invariant.1 (rw c.loop-p.invariant.0 refl),
)
