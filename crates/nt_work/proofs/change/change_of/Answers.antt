use Rattle.nt_work.proofs.change.change_of.Goals as goal

pub returns-in-Call : goal.returns-in-Call
returns-in-Call c = λ r. rw c.in-Call.is (c.change_of_call.ensures c.in-Call.frame)
