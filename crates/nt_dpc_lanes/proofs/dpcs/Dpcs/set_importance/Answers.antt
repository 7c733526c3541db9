use Rattle.nt_event.specs.Objects.{object_in}
use Rattle.nt_dpc_lanes.proofs.Seeing.{AreSeen, importance_seen, object_place}
use Rattle.nt_dpc.specs.Objects.{with_importance}
use Rattle.nt_dpc_lanes.specs.Changes.{with_object}
use Rattle.nt_dpc_lanes.proofs.dpcs.Dpcs.set_importance.Goals as goal

after : (c : goal.After-set_importance) → AreSeen c.self.inside.script.now c.set_importance.new.objects.items c.self.inside.queues.items
    (with_object c.args.d (with_importance c.args.i (object_in c.args.self.now.objects c.args.d)) c.args.self.now)
after c =
    let h : AreSeen c.self.inside.script.now c.self.inside.objects.items c.self.inside.queues.items c.args.self.now = record {
      kept = c.self.invariant;
      seen = c.self.view_is;
    } in
    importance_seen _ _ _ _ c.args.d c.args.i _ h (object_place _ _ _ _ _ h c.requires) c.set_importance.ensures

pub invariant_of-self : goal.invariant_of-self
invariant_of-self c = (after c).kept

pub returns : goal.returns
returns c = (after c).seen
