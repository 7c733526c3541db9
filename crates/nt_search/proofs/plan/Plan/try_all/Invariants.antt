use Rattle.std.proofs.Common.{[], List, get_or, take}
use Rattle.nt_event.specs.declared.events.Event.{Event}
use Rattle.nt_search.specs.Searches.{AreFound, AreTried, IsAt}
use Rattle.nt_search.specs.Stations.{IsTrial}
use Rattle.nt_search.proofs.plan.Plan.try_all.Given as goal

abbrev pub invariant-loop-place : goal.invariant-loop-place
invariant-loop-place l = record {
  tried : (all : List (List Event)) → AreFound l.self all l.fn.found → IsAt l.self all l.from l.machine → IsTrial l.self all l.from l.fn.next →
      AreTried l.self all (get_or all l.from []) (take l.place l.turns) l.fn.found l.found;
  next : (all : List (List Event)) → AreFound l.self all l.fn.found → IsAt l.self all l.from l.machine → IsTrial l.self all l.from l.fn.next →
      IsTrial l.self all l.from l.next;
}
