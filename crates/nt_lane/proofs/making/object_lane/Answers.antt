use Rattle.nt_lane.proofs.Opening.{object_opens}
use Rattle.nt_lane.proofs.making.object_lane.Goals as goal

pub opening-requires-clause-opens : goal.opening-requires-clause-opens
opening-requires-clause-opens g c =
    object_opens g.N.Plan.script c.args.d _ c.new.result c.requires.object c.new.ensures
