use Rattle.nt_why.proofs.fates.inserted.Goals as goal

pub returns-in-Call : goal.returns-in-Call
returns-in-Call c = rw c.in-Call.is (c.inserted_by.ensures c.in-Call.frame)
