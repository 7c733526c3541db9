use Rattle.std.proofs.Common.{refl}
use Rattle.nt_load.proofs.Tables.{behind_grown, behind_none}
use Rattle.nt_load.proofs.declarations.add_apcs.Goals as goal

pub loop-i-init : goal.loop-i-init
loop-i-init c = (c.normal_of-normal.ensures, behind_none _ _)

pub loop-i-preserved : goal.loop-i-preserved
loop-i-preserved c = (
  c.loop-i.invariant.0,
  behind_grown _ _ _ _ _ _ c.in_ok-push.ensures.ok c.loop-i.invariant.1 (rw c.loop-i.invariant.0 refl),
)
