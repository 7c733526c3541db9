use Rattle.std.proofs.Common.{◌∙◌}
use Rattle.nt_event.specs.Objects.{object_in}
use Rattle.nt_dpc_lanes.proofs.Seeing.{AreSeen, places, remove_place, removed_from_is, removed_is_seen, stands_there}
use Rattle.nt_dpc_lanes.specs.Changes.{removed_at}
use Rattle.nt_dpc_lanes.proofs.dpcs.Dpcs.remove.Goals as goal

pub remove-requires-clause-place : goal.remove-requires-clause-place
remove-requires-clause-place c =
    let h : AreSeen c.self.inside.script.now c.self.inside.objects.items c.self.inside.queues.items c.args.self.now = record {
      kept = c.self.invariant;
      seen = c.self.view_is;
    } in
    remove_place _ _ _ _ c.args.d c.in-Some.p h c.requires c.in-Some.ensures.cpu c.in-Some.ensures.value

after : (c : goal.After-remove) → AreSeen c.self.inside.script.now c.remove.new.objects.items c.remove.new.queues.items
    (removed_at c.in-Some.p c.args.d c.args.self.now)
after c =
    let h : AreSeen c.self.inside.script.now c.self.inside.objects.items c.self.inside.queues.items c.args.self.now = record {
      kept = c.self.invariant;
      seen = c.self.view_is;
    } in
    removed_is_seen _ _ _ _ c.in-Some.p c.args.d _ _ h (places _ _ _ _ _ _ h c.requires c.in-Some.ensures.cpu)
    (stands_there _ _ c.in-Some.ensures.value) c.remove.ensures.objects c.remove.ensures.queues

pub invariant_of-self : goal.invariant_of-self
invariant_of-self c = (after c).kept

pub returns-in-Some : goal.returns-in-Some
returns-in-Some c =
    (after c).seen ∙ removed_from_is (object_in c.args.self.now.objects c.args.d).standing c.in-Some.p c.args.d c.args.self.now c.in-Some.ensures.value
