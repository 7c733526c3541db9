use Rattle.std.proofs.Common.{sym, ◌∙◌}
use Rattle.nt_lane_record.proofs.Changing.{alone_queue}
use Rattle.nt_lane_record.proofs.states.Queue.leave.Goals as goal

pub returns : goal.returns
returns c s objects n =
    c.rest_or_run.ensures ∙ rw c.change_of-change.ensures (sym (alone_queue s objects n c.args.self.now c.args.what.now c.requires))
