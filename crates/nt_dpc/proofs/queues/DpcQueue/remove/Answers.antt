use Rattle.std.proofs.Common.{sym, ◌∙◌}
use Rattle.nt_dpc.proofs.Fewer.{fewer_without, holds-queued}
use Rattle.nt_dpc.proofs.Once.{holds-unqueued, holds-without_same, without_entry_none}
use Rattle.nt_dpc.proofs.queues.DpcQueue.remove.Goals as goal

pub returns-else-stood-clause-queue : goal.returns-else-stood-clause-queue
returns-else-stood-clause-queue c =
    sym (without_entry_none c.args.d.now.dpc c.args.self.now (holds-unqueued c.args.self.now c.args.d.now c.requires
    (sym c.is_queued-stood.ensures ∙ c.if-stood.false)))

pub returns-then-stood-clause-fewer : goal.returns-then-stood-clause-fewer
returns-then-stood-clause-fewer c =
    let queued = sym c.is_queued-stood.ensures ∙ c.if-stood.true in
    let fewer = fewer_without c.args.d.now.dpc c.args.self.now.state.pending (holds-queued c.args.self.now c.args.d.now c.requires queued) in
    rw (c.take_out.ensures, c.no.ensures, c.if-stood.true) fewer

pub returns-then-stood-clause-stands : goal.returns-then-stood-clause-stands
returns-then-stood-clause-stands c =
    rw (c.take_out.ensures, c.no.ensures, c.leave.ensures) (holds-without_same c.args.d.now.dpc c.args.self.now.state.pending)
