use Rattle.std.proofs.Common.{List}
use Rattle.nt_event.specs.declared.events.Event.{Event}
use Rattle.nt_search.specs.Hunts.{AreMore}
use Rattle.nt_search.specs.Searches.{AreFound, IsAt}
use Rattle.nt_search.specs.Stations.{IsTrial}
use Rattle.nt_search.proofs.plan.Plan.hunt_turns.Given as goal

abbrev pub invariant-loop-index : goal.invariant-loop-index
invariant-loop-index l = record {
  more : (all : List (List Event)) → AreFound l.self all l.fn.found → IsAt l.self all l.place.state l.machine →
      IsTrial l.self all l.place.state l.fn.next → AreMore l.self all l.found;
  next : (all : List (List Event)) → IsAt l.self all l.place.state l.machine → IsTrial l.self all l.place.state l.fn.next →
      IsTrial l.self all l.place.state l.next;
}
