use Rattle.nt_left.specs.Items.{frame_items}
use Rattle.nt_left.proofs.Lists.{along_on}
use Rattle.nt_left.proofs.frames.put_each.Goals as goal

pub loop-frame-preserved : goal.loop-frame-preserved
loop-frame-preserved c =
    along_on (frame_items c.args.cpu c.args.owner) c.args.frames.now c.loop-frame.frame-index c.frame-item.result _ _ _ c.loop-frame-test.true c.frame-item.is
    c.loop-frame.invariant c.in_ok-put_frame.ensures
