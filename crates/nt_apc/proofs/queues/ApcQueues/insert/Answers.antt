use Rattle.std.proofs.Common.{sym, ◌∙◌}
use Rattle.nt_apc.proofs.Views.{fresh-from_takes}
use Rattle.nt_apc.proofs.queues.ApcQueues.insert.Goals as goal

pub put-requires-clause-fresh : goal.put-requires-clause-fresh
put-requires-clause-fresh c =
    fresh-from_takes c.args.a c.self.inside.items.items c.self.inside.closed c.args.self.now c.self.view_is (sym c.open_for.ensures ∙ c.if-not-open_for.false)
