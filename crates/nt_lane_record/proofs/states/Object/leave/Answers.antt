use Rattle.std.proofs.Common.{sym, ◌∙◌}
use Rattle.nt_lane_record.proofs.Changing.{alone_object}
use Rattle.nt_lane_record.proofs.states.Object.leave.Goals as goal

pub returns : goal.returns
returns c n by =
    c.set.ensures ∙ rw c.change_of-change.ensures (sym (alone_object n by c.args.self.now c.args.what.now c.requires))
