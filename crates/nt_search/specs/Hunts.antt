-- Hunts: what they found.
use Rattle.std.specs.Prelude.{List, ◌++◌}
use Rattle.nt_event.specs.declared.events.Event.{Event}
use Rattle.nt_event.specs.declared.scripts.Script.{Script}
use Rattle.nt_expect.specs.declared.expectations.Expectation.{Expectation}
use Rattle.nt_search.specs.declared.found.Found.{Found}
use Rattle.nt_search.specs.declared.plan.Plan.{Plan}
use Rattle.nt_search.specs.Failures.{AreNoted}
use Rattle.nt_search.specs.Searches.{AreFound}
use Rattle.nt_search.specs.Ways.{AreWays}

-- what was found are the states of these histories and of more, and failures that show in them
pub record AreMore (x : Plan) (all : List (List Event)) (f : Found) : Type 0 where
  pub more : List (List Event)
  pub found : AreFound x (all ++ more) f

-- What a caller gets of a hunt: the ways lead to the histories of the states, and the failures show in them.
pub record IsHunted (s : Script) (xs : List Expectation) (f : Found) : Type 0 where
  pub all : List (List Event)
  pub ways : AreWays s all f.states.ways
  pub noted : AreNoted s all xs f.failures.items
