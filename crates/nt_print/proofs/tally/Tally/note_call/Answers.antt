use Rattle.nt_print.proofs.tally.Tally.note_call.Goals as goal

pub returns-in-Yes : goal.returns-in-Yes
returns-in-Yes c = λ events f. rw c.in-Yes.is (c.note_done.ensures events f c.args.cpu)

pub returns-in-Spin : goal.returns-in-Spin
returns-in-Spin c = λ events f. rw c.in-Spin.is (c.note_spin.ensures events f)
