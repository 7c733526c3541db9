use Rattle.std.proofs.Common.{ap, ◌∙◌}
use Rattle.nt_event.specs.declared.numbers.CpuNo.{CpuNo}
use Rattle.nt_dpc_lanes.proofs.Seeing.{AreSeen, insert_place, insert_seen, places}
use Rattle.nt_dpc_lanes.specs.Changes.{inserted_at}
use Rattle.nt_dpc_lanes.proofs.dpcs.Dpcs.insert.Goals as goal

pub insert-requires-clause-place : goal.insert-requires-clause-place
insert-requires-clause-place c =
    let h : AreSeen c.self.inside.script.now c.self.inside.objects.items c.self.inside.queues.items c.args.self.now = record {
      kept = c.self.invariant;
      seen = c.self.view_is;
    } in
    insert_place _ _ _ _ c.args.d c.args.by c.queue_for-p.result h c.requires.object c.queue_for-p.ensures.cpu c.requires.free c.queue_for-p.ensures.value

after : (c : goal.After-insert) → AreSeen c.self.inside.script.now c.insert.new.objects.items c.insert.new.queues.items
    (inserted_at c.args.n c.queue_for-p.result c.args.d c.args.self.now)
after c =
    let h : AreSeen c.self.inside.script.now c.self.inside.objects.items c.self.inside.queues.items c.args.self.now = record {
      kept = c.self.invariant;
      seen = c.self.view_is;
    } in
    insert_seen _ _ _ _ c.args.n c.queue_for-p.result c.args.d _ _ h
    (places _ _ _ _ _ _ h c.requires.object c.queue_for-p.ensures.cpu) c.requires.free c.insert.ensures.objects c.insert.ensures.queues

pub invariant_of-self : goal.invariant_of-self
invariant_of-self c = (after c).kept

pub returns : goal.returns
returns c =
    (after c).seen ∙ ap (λ (p : CpuNo). inserted_at c.args.n p c.args.d c.args.self.now) c.queue_for-p.ensures.value
