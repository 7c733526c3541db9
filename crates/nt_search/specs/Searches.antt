-- Searches: what they go by, and what they found.
use Rattle.std.specs.List.{flat_map}
use Rattle.std.specs.Prelude.{Contains, IsTrue, List, None, Option, Some, [], get_or, length, true, ℕ, ◌*◌, ◌++◌, ◌+◌}
use Rattle.std.specs.Prelude.{◌-◌, ◌<◌, ◌∷◌, ◌≡◌, ◌≤◌}
use Rattle.nt_event.specs.declared.limits.TheConstants.{EVENTS, TURNS}
use Rattle.nt_event.specs.declared.events.Event.{Event}
use Rattle.nt_event.specs.declared.events.Turn.{Turn}
use Rattle.nt_event.specs.declared.scripts.Script.{Script}
use Rattle.nt_event.specs.Script.{fits}
use Rattle.nt_alike.specs.Alike.{Alike}
use Rattle.nt_alike.specs.Ends.{is_quiet}
use Rattle.nt_alike.specs.Free.{IsFreeRun, MayCome}
use Rattle.nt_ahead.specs.Turns.{HasAll}
use Rattle.nt_expect.specs.declared.expectations.Expectation.{Expectation}
use Rattle.nt_expect.specs.Expectations.{expectations_fit}
use Rattle.nt_expect.specs.Meaning.{ShowsAtEnd}
use Rattle.nt_rounds.specs.declared.outcome.Depths.TheVariants.{Finite, Round}
use Rattle.nt_verdict.specs.Closed.{IsClosed, watched_by}
use Rattle.nt_search.specs.declared.failures.Failure.{Failure}
use Rattle.nt_search.specs.declared.found.End.{End}
use Rattle.nt_search.specs.declared.found.End.TheVariants.{Stopped, Whole}
use Rattle.nt_search.specs.declared.found.Found.{Found}
use Rattle.nt_search.specs.declared.found.Searched.{Searched}
use Rattle.nt_search.specs.declared.machine.Machine.{Machine}
use Rattle.nt_search.specs.declared.plan.Plan.{Plan}
use Rattle.nt_search.specs.declared.stop.Stop.{Stop}
use Rattle.nt_search.specs.declared.stop.Stop.TheVariants.{NoMemory, States, Turns}
use Rattle.nt_search.specs.Ends.{is_whole, stop_of}
use Rattle.nt_search.specs.Failures.{AreNoted, EachUnnoted}
use Rattle.nt_search.specs.Machines.{Stands}
use Rattle.nt_search.specs.States.{AreStates}
use Rattle.nt_search.specs.Tried.{IsLed, IsTried, Keeps, LeadBack, NoneShows}
use Rattle.nt_search.specs.Ways.{AreWays}

-- what a search may go by: the script and the expectations fit, the limit is one of a run, some state may be found, and
-- what the expectations watch for is listed
pub record IsPlan (x : Plan) : Type 0 where
  pub fit : IsTrue (fits x.script.now)
  pub named : expectations_fit x.script.now x.expectations.now ≡ true
  pub turns : (1 ≤ x.limit) × (x.limit ≤ TURNS)
  pub all : x.script.now.cpus * x.limit ≤ EVENTS
  pub most : 1 ≤ x.most
  pub watched : x.watched.items ≡ flat_map watched_by x.expectations.now

-- what was found: states of these histories, not too many, failures that show in them, and where they lead
pub record AreFound (x : Plan) (all : List (List Event)) (f : Found) : Type 0 where
  pub states : AreStates x.script.now x.watched.items all f.states
  pub few : length f.states.ways ≤ x.most
  pub noted : AreNoted x.script.now all x.expectations.now f.failures.items
  pub drawn : length f.graph.closed ≤ length all
  pub led : (n m : ℕ) → n < length f.graph.closed → Contains (get_or f.graph.closed n []) m →
      IsLed x.script.now x.watched.items all (get_or all n []) m

-- the machine stands in the state of this number
pub record IsAt (x : Plan) (all : List (List Event)) (n : ℕ) (m : Machine) : Type 0 where
  pub state : n < length all
  pub stands : Stands x.script.now x.limit x.watched.items (get_or all n []) m
  pub short : length (get_or all n []) < x.limit

-- a failure that was not noted now was not noted before
abbrev pub WereUnnoted : List (Option Failure) → List (Option Failure) → Type 0
WereUnnoted old new = (j : ℕ) → get_or new j None ≡ None → get_or old j None ≡ None

-- Each of these turns was tried from this history: where it leads was found and put to the state that is being
-- expanded, and what it shows was noted.
pub record AreTried (x : Plan) (all : List (List Event)) (past : List Event) (turns : List Turn) (old new : Found) :
    Type 0 where
  pub more : List (List Event)
  pub found : AreFound x (all ++ more) new
  pub targets : List ℕ
  pub drawn : new.graph ≡ record old.graph { opened = old.graph.opened ++ targets }
  pub led : (m : ℕ) → Contains targets m → IsLed x.script.now x.watched.items (all ++ more) past m
  pub lead : LeadBack x.script.now x.watched.items (all ++ more) targets past turns
  pub silent : EachUnnoted (λ e. NoneShows x.script.now e past turns) x.expectations.now new.failures.items
  pub kept : WereUnnoted old.failures.items new.failures.items

-- so was each turn that may be taken there
abbrev pub AreTriedAhead : Plan → List (List Event) → List Event → Found → Found → Type 0
AreTriedAhead x all past old new =
    (turns : List Turn) × HasAll x.script.now past turns × AreTried x all past turns old new

-- where all is quiet after this history, what shows was noted
pub record IsEndNoted (x : Plan) (all : List (List Event)) (past : List Event) (old new : Found) : Type 0 where
  pub found : AreFound x all new
  pub drawn : new.graph ≡ old.graph
  pub silent : EachUnnoted (λ e. is_quiet x.script.now past ≡ true → ShowsAtEnd x.script.now e past → ⊥)
      x.expectations.now new.failures.items
  pub kept : WereUnnoted old.failures.items new.failures.items

-- and so was each turn that may be taken there, and what shows at a quiet end
pub record IsExpanded (x : Plan) (all : List (List Event)) (past : List Event) (old new : Found) : Type 0 where
  pub more : List (List Event)
  pub states : AreStates x.script.now x.watched.items (all ++ more) new.states
  pub few : length new.states.ways ≤ x.most
  pub noted : AreNoted x.script.now (all ++ more) x.expectations.now new.failures.items
  pub targets : List ℕ
  pub drawn : new.graph ≡ record { closed = old.graph.closed ++ targets ∷ []; opened = [] }
  pub led : (m : ℕ) → Contains targets m → IsLed x.script.now x.watched.items (all ++ more) past m
  pub tried : IsTried x.script.now x.watched.items (all ++ more) targets past
  pub keeps : EachUnnoted (λ e. Keeps x.script.now e past) x.expectations.now new.failures.items
  pub kept : WereUnnoted old.failures.items new.failures.items

-- a search begins with the state of no event alone
pub record IsStart (x : Plan) (f : Found) : Type 0 where
  pub found : AreFound x ([] ∷ []) f
  pub drawn : f.graph ≡ record { closed = []; opened = [] }

-- The first states, so many, are expanded: each turn that may be taken there was tried, and they keep each expectation
-- of which no failure is noted.
pub record IsSearchedTo (x : Plan) (f : Found) (count : ℕ) : Type 0 where
  pub all : List (List Event)
  pub found : AreFound x all f
  pub opened : f.graph.opened ≡ []
  pub drawn : length f.graph.closed ≡ count
  pub within : count ≤ length all
  pub tried : (n : ℕ) → n < count →
      IsTried x.script.now x.watched.items all (get_or f.graph.closed n []) (get_or all n [])
  pub keeps : EachUnnoted (λ e. (n : ℕ) → n < count → Keeps x.script.now e (get_or all n [])) x.expectations.now
      f.failures.items

-- it is at its end where all are
abbrev pub IsSearched : Plan → Found → Type 0
IsSearched x f = IsSearchedTo x f (length f.states.ways)

-- why there is no machine in a state
abbrev pub IsWayStop : Plan → List (List Event) → Stop → Type 0
IsWayStop x all States = ⊥
IsWayStop x all Turns = (n : ℕ) × (n < length all) × (x.limit ≤ length (get_or all n []))
IsWayStop x all NoMemory = Unit {0}

-- why a search stops that may find so many states, and take so many events to each
abbrev pub HasCause : ℕ → ℕ → List (List Event) → Stop → Type 0
HasCause limit most all States = length all ≡ most
HasCause limit most all Turns = (n : ℕ) × (n < length all) × (limit ≤ length (get_or all n []))
HasCause limit most all NoMemory = Unit {0}

-- what a search found that stopped: states of these histories and of more, and failures that show in them
pub record IsStopped (x : Plan) (all : List (List Event)) (stop : Stop) (f : Found) : Type 0 where
  pub more : List (List Event)
  pub states : AreStates x.script.now x.watched.items (all ++ more) f.states
  pub few : length f.states.ways ≤ x.most
  pub noted : AreNoted x.script.now (all ++ more) x.expectations.now f.failures.items
  pub cause : HasCause x.limit x.most (all ++ more) stop

-- by some event the history of the one state leads to one that is like that of the other
pub record LeadsOn (s : Script) (all : List (List Event)) (n m : ℕ) : Type 0 where
  pub event : Event
  pub comes : MayCome s event (get_or all n [])
  pub alike : Alike s (event ∷ get_or all n []) (get_or all m [])

-- states that lead round: each of them to the next one, and the last to the first
pub record AreRound (s : Script) (all : List (List Event)) (states : List ℕ) : Type 0 where
  pub some : 0 < length states
  pub low : (i : ℕ) → i < length states → get_or states i 0 < length all
  pub on : (i : ℕ) → i + 1 < length states → LeadsOn s all (get_or states i 0) (get_or states (i + 1) 0)
  pub back : LeadsOn s all (get_or states (length states - 1) 0) (get_or states 0 0)

-- where a search ended with a round, its states lead round
abbrev pub GoesRound : Script → List (List Event) → End → Type 0
GoesRound s all (Whole (Finite depths)) = Unit {0}
GoesRound s all (Whole (Round states)) = AreRound s all states.items
GoesRound s all (Stopped stop) = Unit {0}

-- What a caller gets: the states are those of these histories, free runs to which the ways lead, and no more than they
-- may be; the failures show in them, the states of a round lead round; and where the search ended early it had a cause,
-- else however a run goes on, it is like one of these.
pub record IsShownIn (s : Script) (xs : List Expectation) (limit most : ℕ) (x : Searched) : Type 0 where
  pub all : List (List Event)
  pub states : AreStates s (flat_map watched_by xs) all x.found.states
  pub ways : AreWays s all x.found.states.ways
  pub few : length x.found.states.ways ≤ most
  pub runs : (n : ℕ) → n < length all → IsFreeRun s (get_or all n [])
  pub noted : AreNoted s all xs x.found.failures.items
  pub round : GoesRound s all x.end
  pub closed : is_whole x.end ≡ true → IsClosed s (flat_map watched_by xs) all
  pub cause : (stop : Stop) → stop_of x.end ≡ Some stop → HasCause limit most all stop
