use Rattle.nt_apc.proofs.Views.{seen-without}
use Rattle.nt_apc.proofs.queues.ApcQueues.take.Goals as goal

pub returns : goal.returns
returns c =
    seen-without c.args.pick.apc c.self.inside.items.items c.take_out.new.items.items c.self.inside.closed c.args.self.now c.self.view_is
    c.take_out.ensures.after
