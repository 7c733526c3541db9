use Rattle.nt_states.specs.LaneLists.{as_asks}
use Rattle.nt_plain.proofs.Telling.{tell_kept, tell_next}
use Rattle.nt_plain.proofs.told.ToldValues.tell.Goals as goal

pub loop-lane-preserved : goal.loop-lane-preserved
loop-lane-preserved c =
    record {
      rest = tell_next c.args.script.now c.args.to c.args.lanes.now
          (as_asks c.args.asks.now) c.loop-lane.lane-index _ c.loop-lane.self c.tell_lane.new.self _ c.loop-lane-test.true c.tell_lane.ensures
          c.loop-lane.invariant.rest;
      len = tell_kept c.args.script.now c.args.to c.args.lanes.now
          (as_asks c.args.asks.now) c.loop-lane.lane-index _ c.loop-lane.self c.tell_lane.new.self _ c.tell_lane.ensures c.loop-lane.invariant.len;
    }
