use Rattle.nt_work.proofs.change.change_of_call.Goals as goal

pub returns-in-Yes : goal.returns-in-Yes
returns-in-Yes c = λ f. rw c.in-Yes.is (c.change_by.ensures f)
