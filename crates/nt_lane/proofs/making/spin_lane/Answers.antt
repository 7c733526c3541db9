use Rattle.nt_lane.proofs.Opening.{spin_opens, spin_there}
use Rattle.nt_lane.proofs.making.spin_lane.Goals as goal

pub opening-requires-clause-opens : goal.opening-requires-clause-opens
opening-requires-clause-opens g c =
    spin_opens g.N.Plan.script c.args.script.now c.args.k c.in_ok-spin.spin c.requires.lock c.requires.script c.in_ok-spin.ensures

pub opening-requires-clause-fits : goal.opening-requires-clause-fits
opening-requires-clause-fits g c =
    spin_there g.N.Plan.script c.args.script.now c.args.k c.in_ok-spin.spin c.requires.lock c.requires.script c.in_ok-spin.ensures
