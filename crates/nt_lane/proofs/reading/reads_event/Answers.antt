-- Of a call the lane that is read is found by its command.
use Rattle.std.proofs.Common.{subst, sym}
use Rattle.std.specs.Prelude.{IsTrue, ◌↔◌}
use Rattle.nt_event.specs.declared.events.What.{What}
use Rattle.nt_lane.specs.Answers.{IsHeld}
use Rattle.nt_states.specs.Reads.{AreHeld, found_lanes}
use Rattle.nt_lane.proofs.reading.reads_event.Goals as goal

pub returns-in-Call : goal.returns-in-Call
returns-in-Call c =
    subst (λ (w : What). IsTrue c.reads_target.result ↔ AreHeld (IsHeld c.args.held.now) (found_lanes w)) (sym c.in-Call.is)
    (c.reads_target.ensures c.in-Call.frame c.in-Call.reply)
