use Rattle.nt_lane.proofs.Opening.{timers_open}
use Rattle.nt_lane.proofs.making.timer_lane.Goals as goal

pub opening-requires-clause-opens : goal.opening-requires-clause-opens
opening-requires-clause-opens g c =
    timers_open g.N.Plan.script c.args.script.now c.in_ok-clock.clock c.requires.script c.in_ok-clock.ensures
