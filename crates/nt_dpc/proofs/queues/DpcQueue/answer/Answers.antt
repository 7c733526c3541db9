use Rattle.std.proofs.Common.{◌≡◌, arith, ap, length, reverse, sym, ◌∙◌}
use Rattle.nt_dpc.specs.Queues.{QueueFacts}
use Rattle.nt_dpc.proofs.Once.{room_left}
use Rattle.nt_dpc.proofs.queues.DpcQueue.answer.Goals as goal

pub overflow_add-depth : goal.overflow_add-depth
overflow_add-depth c =
    let items = c.self.inside.items.items in
    let pending : reverse items ≡ c.args.self.now.state.pending = ap (λ (q : QueueFacts). q.state.pending) c.self.view_is in
    let new = (c.requires.place (sym c.is_queued.ensures ∙ c.if-is_queued.false)).1 in
    let room = room_left c.args.d.now.dpc c.self.inside.count c.self.inside.count (reverse items) c.self.invariant.2 (omega arith)
    (rw (ap (λ (q : QueueFacts). q.count) c.self.view_is) c.requires.room) (rw pending new) in
    omega (arith, room, c.depth-depth.ensures.most, ap length pending, c.self.invariant.0)
