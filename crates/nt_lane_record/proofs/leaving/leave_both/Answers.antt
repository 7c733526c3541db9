use Rattle.std.proofs.Common.{sym, ◌∙◌}
use Rattle.nt_lane_record.proofs.Changing.{both_object, both_queue}
use Rattle.nt_lane_record.proofs.leaving.leave_both.Goals as goal

pub change_both-requires : goal.change_both-requires
change_both-requires c = rw c.change_of-change.ensures c.requires

pub returns-clause-object : goal.returns-clause-object
returns-clause-object c =
    c.change_both.ensures.object
    ∙ rw c.change_of-change.ensures (sym (both_object c.args.n c.args.by c.args.object.now c.args.queue.now c.args.what.now c.requires))

pub returns-clause-queue : goal.returns-clause-queue
returns-clause-queue c s objects is =
    c.change_both.ensures.queue
    ∙ rw c.change_of-change.ensures (sym (both_queue c.args.n c.args.by c.args.object.now c.args.queue.now s objects is c.args.what.now c.requires))
