use Rattle.nt_event.specs.Apcs.{is_of_apc}
use Rattle.nt_event.proofs.Reversed.{list_any-reverse}
use Rattle.nt_apc.proofs.queues.ApcQueues.open_for.Goals as goal

pub returns-then-not-self : goal.returns-then-not-self
returns-then-not-self c =
    rw (c.is_inserted.ensures, c.as_slice.ensures.value, ← c.self.view_is, list_any-reverse (is_of_apc c.args.a), c.if-not-self.true)
