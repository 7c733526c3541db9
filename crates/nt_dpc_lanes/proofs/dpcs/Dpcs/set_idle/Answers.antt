use Rattle.nt_dpc_lanes.proofs.Seeing.{AreSeen, queue_place, rest_seen}
use Rattle.nt_dpc.specs.Queues.{set_idle}
use Rattle.nt_dpc_lanes.specs.Changes.{with_queue}
use Rattle.nt_states.specs.DpcLanes.{queue_in}
use Rattle.nt_dpc_lanes.proofs.dpcs.Dpcs.set_idle.Goals as goal

after : (c : goal.After-set_idle) → AreSeen c.self.inside.script.now c.self.inside.objects.items c.set_idle.new.queues.items
    (with_queue c.args.p (set_idle c.args.idle (queue_in c.args.self.now.queues c.args.p)) c.args.self.now)
after c =
    let h : AreSeen c.self.inside.script.now c.self.inside.objects.items c.self.inside.queues.items c.args.self.now = record {
      kept = c.self.invariant;
      seen = c.self.view_is;
    } in
    rest_seen _ _ _ _ c.args.p c.args.idle _ h (queue_place _ _ _ _ _ h c.requires) c.set_idle.ensures

pub invariant_of-self : goal.invariant_of-self
invariant_of-self c = (after c).kept

pub returns : goal.returns
returns c = (after c).seen
