use Rattle.nt_search.specs.Stations.{IsSearchedBy}
use Rattle.nt_search.proofs.plan.Plan.expand_each.Given as goal

abbrev pub invariant-loop-number : goal.invariant-loop-number
invariant-loop-number l = IsSearchedBy l.self l.found l.number l.stations
