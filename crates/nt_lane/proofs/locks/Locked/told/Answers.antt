use Rattle.nt_event.specs.declared.jobs.Lane.TheVariants.{Timers as TimersLane}
use Rattle.nt_event.specs.Acts.{told_over}
use Rattle.nt_event.proofs.Tables.{is_table}
use Rattle.nt_lane.specs.Answers.{IsHeld}
use Rattle.nt_lane.specs.Locks.{states_of, told_in}
use Rattle.nt_lane.proofs.Telling.{held_next, nothing_left, over_next}
use Rattle.nt_lane.proofs.locks.Locked.told.Goals as goal

pub raise-requires-clause-held : goal.raise-requires-clause-held
raise-requires-clause-held g c =
    (held_next (IsHeld (states_of g.N.Plan.script c.args.self.now)) c.args.lanes.now c.loop-lane.lane-index _ c.loop-lane-test.true
    c.loop-lane.invariant.held).0

pub loop-lane-preserved : goal.loop-lane-preserved
loop-lane-preserved g c = record {
  rest = over_next (told_in c.args.self.now) c.args.lanes.now c.args.p c.loop-lane.lane-index _ c.loop-lane.values c.raise.new.values c.loop-lane-test.true
      c.raise.ensures c.loop-lane.invariant.rest;
  len = c.raise.array_long;
  held = (held_next (IsHeld (states_of g.N.Plan.script c.args.self.now)) c.args.lanes.now c.loop-lane.lane-index TimersLane c.loop-lane-test.true
      c.loop-lane.invariant.held).1;
}

pub returns : goal.returns
returns g c =
    is_table c.loop-lane.values 16 (λ k. told_over (told_in c.args.self.now) c.args.lanes.now c.args.p k) c.loop-lane.invariant.len
    (λ k h. nothing_left (told_in c.args.self.now) c.args.lanes.now c.args.p c.loop-lane.lane-index c.loop-lane.values k c.loop-lane-test.false
    (c.loop-lane.invariant.rest k h))
