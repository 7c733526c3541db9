use Rattle.std.proofs.Common.{arith}
use Rattle.nt_timer.proofs.KeyTables.{new_length, new_numbered, new_tables}
use Rattle.nt_timer.proofs.queue.TimerQueue.new.Goals as goal

pub invariant_of-result : goal.invariant_of-result
invariant_of-result c =
    let n = new_numbered c.args.timers c.args.threads c.in_ok-wheel.wheel c.in_ok-wheel.ensures in
    (omega arith, new_length c.args.timers c.args.threads c.in_ok-wheel.wheel c.in_ok-wheel.ensures, n.0, n.1)

pub returns : goal.returns
returns c = new_tables c.args.timers c.args.threads c.in_ok-wheel.wheel c.in_ok-wheel.ensures
