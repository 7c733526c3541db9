use Rattle.std.proofs.Common.{sym, ◌∙◌}
use Rattle.nt_event.specs.declared.commands.ApcKind.TheVariants.{User}
use Rattle.nt_apc.proofs.Fewer.{fewer_flushed}
use Rattle.nt_apc.proofs.queues.ApcQueues.flush_next.Goals as goal

pub returns-clause-fewer : goal.returns-clause-fewer
returns-clause-fewer c =
    rw c.take.ensures (fewer_flushed User c.args.self.now c.in_ok-first.first (sym c.user_first.ensures ∙ c.in_ok-first.was))
