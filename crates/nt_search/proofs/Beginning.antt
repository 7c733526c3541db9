-- Machines that are kept in states stay in them where more states are found, and others go on from there.
use Rattle.std.proofs.Common.{ap, arith, subst, sym, ◌∙◌}
use Rattle.std.proofs.lemmas.List.Elements.{All-push}
use Rattle.std.specs.Prelude.{All, Bool, IfSome, List, None, Option, Some, [], false, get_or, if◌then◌else◌, length, refl, true, ℕ, ◌++◌, ◌<◌, ◌∷◌, ◌≡◌}
use Rattle.nt_event.specs.declared.events.Event.{Event}
use Rattle.nt_search.specs.declared.expanding.Trial.{Trial}
use Rattle.nt_search.specs.declared.plan.Plan.{Plan}
use Rattle.nt_search.specs.declared.stations.Station.{Station}
use Rattle.nt_search.specs.declared.stations.Stations.{Stations}
use Rattle.nt_search.specs.declared.stop.Stop.{Stop}
use Rattle.nt_search.specs.declared.stop.Stop.TheVariants.{NoMemory, States, Turns}
use Rattle.nt_search.specs.Searches.{IsAt, IsWayStop}
use Rattle.nt_search.specs.Stations.{AreStations, BeginsAt, IsPathStop, IsPlaceOf, IsStation, IsTrial}
use Rattle.nt_search.proofs.TryingMore.{at_more}

-- no machines are in no states
none_in : (x : Plan) (all : List (List Event)) (ys : List Station) → ys ≡ [] → All (IsStation x all) ys
none_in x all ys none = subst (All (IsStation x all)) (sym none) (λ k d low. absurd (omega (arith, low)))

-- so are none that are kept, and none that may be
pub none_kept : (x : Plan) (all : List (List Event)) (ys : Stations) → ys.kept.items ≡ [] → ys.next.items ≡ [] → AreStations x all ys
none_kept x all ys kept next = record { kept = none_in x all ys.kept.items kept; next = none_in x all ys.next.items next }

-- where those that may be kept are given up, the others are still in their states
pub given_up : (x : Plan) (all : List (List Event)) (old new : Stations) → new.kept.items ≡ old.kept.items → new.next.items ≡ [] → AreStations x all old →
    AreStations x all new
given_up x all old new kept next are =
    record { kept = subst (All (IsStation x all)) (sym kept) are.kept; next = none_in x all new.next.items next }

-- where they are kept in place of the others, they are in theirs
pub shifted : (x : Plan) (all : List (List Event)) (old new : Stations) → new.kept.items ≡ old.next.items → new.next.items ≡ [] → AreStations x all old →
    AreStations x all new
shifted x all old new kept next are =
    record { kept = subst (All (IsStation x all)) (sym kept) are.next; next = none_in x all new.next.items next }

-- one more in its state, or none where no memory was found
pub added : (x : Plan) (all : List (List Event)) (old new : Stations) (y : Station) (b : Bool) → new.kept.items ≡ old.kept.items →
    new.next.items ≡ (if b then old.next.items ++ y ∷ [] else old.next.items) → AreStations x all old → IsStation x all y → AreStations x all new
added x all old new y b kept next are is =
    record { kept = subst (All (IsStation x all)) (sym kept) are.kept; next = subst (All (IsStation x all)) (sym next) (some b) }
  where
    some : (b : Bool) → All (IsStation x all) (if b then old.next.items ++ y ∷ [] else old.next.items)
    some true = All-push (IsStation x all) old.next.items y are.next is
    some false = are.next

-- where more states are found, they are still in theirs
pub stations_more : (x : Plan) (all more : List (List Event)) (ys : Stations) → AreStations x all ys → AreStations x (all ++ more) ys
stations_more x all more ys are = record { kept = each ys.kept.items are.kept; next = each ys.next.items are.next }
  where
    each : (zs : List Station) → All (IsStation x all) zs → All (IsStation x (all ++ more)) zs
    each zs h k d low = let y = get_or zs k d in at_more x all more y.state y.machine (h k d low)

-- a machine that begins there begins with no event, or as one that is kept
pub begins : (ys : Stations) (place : Option ℕ) (state : ℕ) → IfSome place (IsPlaceOf ys state) → (place ≡ None → state ≡ 0) → BeginsAt ys place state
begins ys None state at none = none refl
begins ys (Some place) state at none = at

-- where none is kept it begins with no event
pub from_none : (ys : Stations) (place : Option ℕ) (state : ℕ) → ys.kept.items ≡ [] → BeginsAt ys place state → state ≡ 0
from_none ys None state none at = at
from_none ys (Some place) state none at =
    let low = subst (λ (zs : List Station). place < length zs) none at.low in
    absurd (omega (arith, low))

-- a trial that is not spent stands there still where more states are found
pub trial_more : (x : Plan) (all more : List (List Event)) (n : ℕ) (t : Trial) → IsTrial x all n t → IsTrial x (all ++ more) n t
trial_more x all more n t is q = at_more x all more n t.machine (is q)

-- why a machine does not come to the history of a state is why there is none in the state
pub path_stopped : (x : Plan) (all : List (List Event)) (n : ℕ) (stop : Stop) → n < length all → IsPathStop x.limit (get_or all n []) stop →
    IsWayStop x all stop
path_stopped x all n States low why = absurd why
path_stopped x all n Turns low why = (n, low, why)
path_stopped x all n NoMemory low why = tt

-- where there is a place, the machine there is in that state
pub some_begins : (ys : Stations) (place : Option ℕ) (i state : ℕ) → place ≡ Some i → BeginsAt ys place state → IsPlaceOf ys state i
some_begins ys place i state is = subst (λ (o : Option ℕ). BeginsAt ys o state → IsPlaceOf ys state i) (sym is) (λ at. at)

-- where there is none, it is the state of no event
pub none_begins : (ys : Stations) (place : Option ℕ) (state : ℕ) → place ≡ None → BeginsAt ys place state → state ≡ 0
none_begins ys place state is = subst (λ (o : Option ℕ). BeginsAt ys o state → state ≡ 0) (sym is) (λ at. at)

-- the machine at a place is in the state that is there
pub at_place : (x : Plan) (all : List (List Event)) (ys : Stations) (i state : ℕ) (y : Station) → y ≡ get_or ys.kept.items i y → IsPlaceOf ys state i →
    AreStations x all ys → IsAt x all state y.machine
at_place x all ys i state y here is are =
    let there = subst (IsStation x all) (sym here) (are.kept i y is.low) in
    subst (λ (n : ℕ). IsAt x all n y.machine) (ap (λ (z : Station). z.state) here ∙ is.is y) there
