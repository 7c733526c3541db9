use Rattle.nt_print.proofs.inserts.inserted.Goals as goal

pub returns-in-Call : goal.returns-in-Call
returns-in-Call c = λ r. rw c.in-Call.is (c.inserted_by.ensures c.in-Call.frame)
