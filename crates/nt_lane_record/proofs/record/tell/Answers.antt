use Rattle.nt_lane_record.proofs.Rows.{all_told}
use Rattle.nt_lane_record.proofs.record.tell.Goals as goal

pub returns : goal.returns
returns c = all_told c.args.asks.now c.loop-ask.ask-index c.args.n c.loop-ask.told.items _ c.loop-ask-test.false c.loop-ask.invariant.rest
