-- What hunting leaves of what was found.
use Rattle.std.proofs.Common.{append_assoc, arith, append-nil, subst, sym}
use Rattle.std.specs.Prelude.{Err, IfErr, List, Ok, OnOk, Result, [], ◌++◌}
use Rattle.nt_event.specs.declared.events.Event.{Event}
use Rattle.nt_event.specs.declared.events.Turn.{Turn}
use Rattle.nt_search.specs.declared.found.Found.{Found}
use Rattle.nt_search.specs.declared.plan.Plan.{Plan}
use Rattle.nt_search.specs.declared.stations.Stations.{Stations}
use Rattle.nt_search.specs.declared.stop.Stop.{Stop}
use Rattle.nt_search.specs.Hunts.{AreMore, IsHunted}
use Rattle.nt_search.specs.Searches.{AreFound, AreTried, IsStopped}
use Rattle.nt_search.specs.Stations.{AreMoreBy}
use Rattle.nt_search.proofs.Verdict.{IsKnown}

-- what was found is so with no more histories
pub none_more : (x : Plan) (all : List (List Event)) (f : Found) → AreFound x all f → AreMore x all f
none_more x all f h = record { more = []; found = subst (λ (hs : List (List Event)). AreFound x hs f) (sym (append-nil all)) h }

-- turns that were tried leave the histories that were there, and more
pub more_tried : (x : Plan) (all : List (List Event)) (past : List Event) (turns : List Turn) (old new : Found) → AreTried x all past turns old new →
    AreMore x all new
more_tried x all past turns old new are = record { more = are.more; found = are.found }

-- more histories than those that are more already
pub more_on : (x : Plan) (all more : List (List Event)) (f : Found) → AreMore x (all ++ more) f → AreMore x all f
more_on x all more f h = record {
  more = more ++ h.more;
  found = subst (λ (hs : List (List Event)). AreFound x hs f) (append_assoc all more h.more) h.found;
}

-- without where the states lead, the rest of what was found is so
pub forgotten : (x : Plan) (all : List (List Event)) (f : Found) → AreMore x all f →
    AreMore x all (record f { graph = record { closed = []; opened = [] } })
forgotten x all f h = record {
  more = h.more;
  found = record {
    states = h.found.states;
    few = h.found.few;
    noted = h.found.noted;
    drawn = omega arith;
    led = λ n m low among. absurd (omega (arith, low));
  };
}

-- a hunt that goes on from the states that it found, with machines that are kept on the way
pub hunted_on : (x : Plan) (more : List (List Event)) (f : Found) (ys : Stations) → AreMoreBy x more f ys →
    AreMoreBy x [] (record f { graph = record { closed = []; opened = [] } }) ys
unfolding forgotten more_on
hunted_on x more f ys a = (forgotten x [] f (more_on x [] more f a.0), a.1)

-- however a hunt ended, its states are those of some histories, and its failures show in them
pub known : (x : Plan) (f : Found) (r : Result (Unit {0}) Stop) → OnOk r (AreMore x [] f) → IfErr r (λ stop. IsStopped x [] stop f) → IsKnown x f
known x f (Ok done) more stopped = record { all = more.more; states = more.found.states; noted = more.found.noted }
known x f (Err stop) more stopped = record { all = stopped.more; states = stopped.states; noted = stopped.noted }

-- the ways and failures that a hunt gives its caller are right
pub hunted : (x : Plan) (f : Found) → IsKnown x f → IsHunted x.script.now x.expectations.now f
hunted x f k = record { all = k.all; ways = k.states.ways; noted = k.noted }
