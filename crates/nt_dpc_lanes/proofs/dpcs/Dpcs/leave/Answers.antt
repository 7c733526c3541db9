use Rattle.std.proofs.Common.{sym, ◌∙◌}
use Rattle.nt_dpc_lanes.proofs.Leaving.{left_is, may_change}
use Rattle.nt_dpc_lanes.proofs.dpcs.Dpcs.leave.Goals as goal

pub change-requires-clause-change : goal.change-requires-clause-change
change-requires-clause-change c =
    rw c.change_of-change.ensures (may_change _ _ _ c.agree.ensures c.requires.event)

pub returns : goal.returns
returns c =
    c.change.ensures ∙ rw c.change_of-change.ensures (sym (left_is _ _ _ _ c.agree.ensures c.requires.event))
