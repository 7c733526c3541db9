use Rattle.std.proofs.Common.{[]}
use Rattle.nt_search.specs.Stations.{AreMoreBy}
use Rattle.nt_search.proofs.plan.Plan.hunt_each.Given as goal

abbrev pub invariant-loop-number : goal.invariant-loop-number
invariant-loop-number l = AreMoreBy l.self [] l.found l.stations
