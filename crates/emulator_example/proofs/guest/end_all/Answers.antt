use Rattle.emulator_example.proofs.guest.end_all.Goals as goal

pub loop-frames-preserved : goal.loop-frames-preserved
loop-frames-preserved c = c.finish.ensures.named c.args.n c.loop-frames.invariant
