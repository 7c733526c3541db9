use Rattle.nt_live.proofs.Keeping.{goes_same, worked_later}
use Rattle.nt_live.proofs.worker.work.Goals as goal

pub loop-init : goal.loop-init
loop-init g c = goes_same c.args.worker.now

pub returns-in-Stopped-clause-worked : goal.returns-in-Stopped-clause-worked
returns-in-Stopped-clause-worked g c =
    worked_later c.args.worker.now c.loop.worker c.turn.new.self c.loop.invariant (c.in_ok-turn.ensures.stopped c.in-Stopped.is)
