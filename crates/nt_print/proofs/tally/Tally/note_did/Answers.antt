use Rattle.nt_print.specs.Lent.{lent}
use Rattle.nt_print.proofs.tally.Tally.note_did.Goals as goal

pub returns-in-Call : goal.returns-in-Call
returns-in-Call c = λ r. rw c.in-Call.is (c.note_call.ensures (lent c.args.events.now) c.in-Call.frame)

pub returns-in-Begin : goal.returns-in-Begin
returns-in-Begin c = λ r. rw c.in-Begin.is (c.note_begin.ensures c.args.cpu)
