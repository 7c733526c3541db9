use Rattle.std.proofs.Common.{arith, ap, reverse, ◌∙◌}
use Rattle.std.proofs.lemmas.List.{length-reverse}
use Rattle.std.specs.Vec.{vec_capacity}
use Rattle.nt_dpc.specs.Queues.{QueueFacts, holds_dpc}
use Rattle.nt_dpc.proofs.Once.{room_left}
use Rattle.nt_dpc.proofs.queues.DpcQueue.add.Goals as goal

pub push_reserved-requires : goal.push_reserved-requires
push_reserved-requires c =
    let items = c.self.inside.items.items in
    let view = c.self.view_is in
    let room = room_left c.args.x.dpc c.self.inside.count (vec_capacity c.self.inside.items) (reverse items) c.self.invariant.2 c.self.invariant.1
    (rw (ap (λ (q : QueueFacts). q.count) view) c.requires.room) (ap (λ (q : QueueFacts). holds_dpc c.args.x.dpc q.state.pending) view ∙ c.requires.new) in
    omega (arith, room, length-reverse items, c.self.inside.items.ok.0)
