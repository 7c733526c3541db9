use Rattle.std.proofs.Common.{rules}
use Rattle.std.specs.Sync.Mutex.{mutex_guard_value}
use Rattle.nt_lane.specs.Locks.{in_each, kept}
use Rattle.nt_lane.specs.Steps.{objects_told}
use Rattle.nt_lane.proofs.touching.touch_dpcs.Goals as goal

pub returns-then-with_queue-2-clause-noted : goal.returns-then-with_queue-2-clause-noted
returns-then-with_queue-2-clause-noted g c =
    let object = in_each c.args.object.now (λ x. kept (mutex_guard_value x).state (mutex_guard_value x).log) in
    let h = c.touch_queue.ensures.noted (objects_told g.N.Plan.script object) in
    search (rules, h)
