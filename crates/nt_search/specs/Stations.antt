-- Machines that are kept in states, and how others go on from there.
use Rattle.std.specs.Prelude.{All, List, None, Option, Some, [], false, get_or, length, ℕ, ◌++◌, ◌<◌, ◌≡◌, ◌≤◌}
use Rattle.nt_event.specs.declared.events.Event.{Event}
use Rattle.nt_event.specs.declared.scripts.Script.{Script}
use Rattle.nt_search.specs.declared.expanding.Trial.{Trial}
use Rattle.nt_search.specs.declared.found.Found.{Found}
use Rattle.nt_search.specs.declared.plan.Plan.{Plan}
use Rattle.nt_search.specs.declared.stations.Path.{Path}
use Rattle.nt_search.specs.declared.stations.Station.{Station}
use Rattle.nt_search.specs.declared.stations.Stations.{Stations}
use Rattle.nt_search.specs.declared.stop.Stop.{Stop}
use Rattle.nt_search.specs.declared.stop.Stop.TheVariants.{NoMemory, States, Turns}
use Rattle.nt_search.specs.Hunts.{AreMore}
use Rattle.nt_search.specs.Searches.{IsAt, IsExpanded, IsSearchedTo}
use Rattle.nt_search.specs.Ways.{Lead}

-- the machine is in its state
abbrev pub IsStation : Plan → List (List Event) → Station → Type 0
IsStation x all y = IsAt x all y.state y.machine

-- each of them is
pub record AreStations (x : Plan) (all : List (List Event)) (ys : Stations) : Type 0 where
  pub kept : All (IsStation x all) ys.kept.items
  pub next : All (IsStation x all) ys.next.items

-- the machine at this place is in the state of this number
pub record IsPlaceOf (ys : Stations) (state place : ℕ) : Type 0 where
  pub low : place < length ys.kept.items
  pub is : (d : Station) → (get_or ys.kept.items place d).state ≡ state

-- where a machine begins: in the state of this number, by the one at that place, or with no event
abbrev pub BeginsAt : Stations → Option ℕ → ℕ → Type 0
BeginsAt ys None state = state ≡ 0
BeginsAt ys (Some place) state = IsPlaceOf ys state place

-- from where it begins, the turns lead to the state of this number
pub record IsPath (s : Script) (all : List (List Event)) (ys : Stations) (number : ℕ) (p : Path) : Type 0 where
  pub from : ℕ
  pub begins : BeginsAt ys p.station from
  pub lead : Lead s p.turns.items (get_or all from []) (get_or all number [])

-- why a machine does not come to this history
abbrev pub IsPathStop : ℕ → List Event → Stop → Type 0
IsPathStop limit h States = ⊥
IsPathStop limit h Turns = limit ≤ length h
IsPathStop limit h NoMemory = Unit {0}

-- ---- what goes on beside them

-- the machine that takes turns stands in the state of this number, unless it took one
abbrev pub IsTrial : Plan → List (List Event) → ℕ → Trial → Type 0
IsTrial x all n t = t.is_spent ≡ false → IsAt x all n t.machine

-- a state was expanded, and these machines are in their states
abbrev pub IsExpandedBy : Plan → List (List Event) → List Event → Found → Found → Stations → Type 0
IsExpandedBy x all past old new ys = (e : IsExpanded x all past old new) × AreStations x (all ++ e.more) ys

-- the first states, so many, were
abbrev pub IsSearchedBy : Plan → Found → ℕ → Stations → Type 0
IsSearchedBy x f count ys = (h : IsSearchedTo x f count) × AreStations x h.all ys

-- more was found by a hunt
abbrev pub AreMoreBy : Plan → List (List Event) → Found → Stations → Type 0
AreMoreBy x all f ys = (a : AreMore x all f) × AreStations x (all ++ a.more) ys
