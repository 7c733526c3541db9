use Rattle.std.proofs.Common.{rules}
use Rattle.nt_lane.proofs.touching.touch_queue.Goals as goal

pub returns-in-Some-clause-noted : goal.returns-in-Some-clause-noted
returns-in-Some-clause-noted g c objects =
    let h = c.note_queue.ensures.noted objects in
    search (rules, h)
