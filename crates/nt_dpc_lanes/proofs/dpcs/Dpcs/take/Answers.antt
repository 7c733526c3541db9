use Rattle.std.proofs.lemmas.Bool.{ltb-true}
use Rattle.nt_dpc_lanes.proofs.Seeing.{AreSeen, first_stands_here, places, removed_is_seen, seen_agree}
use Rattle.nt_dpc_lanes.specs.Changes.{removed_at}
use Rattle.nt_dpc_lanes.proofs.dpcs.Dpcs.take.Goals as goal

after : (c : goal.After-take) → AreSeen c.self.inside.script.now c.take.new.objects.items c.take.new.queues.items (removed_at c.args.p c.args.d c.args.self.now)
after c =
    let h : AreSeen c.self.inside.script.now c.self.inside.objects.items c.self.inside.queues.items c.args.self.now = record {
      kept = c.self.invariant;
      seen = c.self.view_is;
    } in
    removed_is_seen _ _ _ _ c.args.p c.args.d _ _ h (places _ _ _ _ _ _ h c.requires.object (ltb-true c.args.p.0 c.args.self.now.script.cpus c.requires.cpu))
    (first_stands_here _ _ c.args.part _ (seen_agree _ _ _ _ h) c.requires.first) c.take.ensures.objects c.take.ensures.queues

pub invariant_of-self : goal.invariant_of-self
invariant_of-self c = (after c).kept

pub returns : goal.returns
returns c = (after c).seen
