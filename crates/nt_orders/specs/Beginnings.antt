-- Runs that begin with given turns, up to the first that is refused, and go on by the robin rule.
use Rattle.std.specs.Prelude.{Err, List, Some, [], length, ℕ, ◌++◌, ◌∷◌, ◌≡◌}
use Rattle.nt_event.specs.declared.events.Event.{Event}
use Rattle.nt_event.specs.declared.events.ScheduleKind.{ScheduleKind}
use Rattle.nt_event.specs.declared.events.Turn.{Turn}
use Rattle.nt_event.specs.declared.scripts.Script.{Script}
use Rattle.nt_event.specs.Robin.{robin}
use Rattle.nt_event.specs.Step.{step, turn_of, turns}
use Rattle.nt_orders.specs.declared.beginnings.Went.{Went}
use Rattle.nt_orders.specs.declared.beginnings.Went.TheVariants.{All, RefusedAt}

-- ---- how far the turns were taken

-- the turns before this place are those of the history, and the turn at it is refused after that, of this kind
pub record IsRefusedAt (s : Script) (limit : ℕ) (list : List Turn) (began : List Event) (at : ℕ) (kind : ScheduleKind) :
    Type 0 where
  pub turn : Turn
  pub more : List Turn
  pub list_is : list ≡ turns began ++ turn ∷ more
  pub place : at ≡ length began
  pub refused : step s limit turn began ≡ Err kind

-- the history has the turns that were taken: all of the list, or those before the first that is refused
abbrev pub HasWent : Script → ℕ → List Turn → List Event → Went → Type 0
HasWent s limit list began All = turns began ≡ list
HasWent s limit list began (RefusedAt at kind) = IsRefusedAt s limit list began at kind

-- ---- what comes then

-- the turns of these newer events, one after another from the history on, are those of the robin rule
abbrev pub AreRobin : Script → ℕ → List Event → List Event → Type 0
AreRobin s limit began [] = Unit {0}
AreRobin s limit began (e ∷ newer) = (robin s limit (newer ++ began) ≡ Some (turn_of e)) × AreRobin s limit began newer

-- the history begins with the other one, and goes on from there by the robin rule
pub record IsRobinFrom (s : Script) (limit : ℕ) (began history : List Event) : Type 0 where
  pub newer : List Event
  pub is : history ≡ newer ++ began
  pub robin_is : AreRobin s limit began newer

-- the history begins with the events of the turns that were taken, and goes on from there by the robin rule
pub record IsGoneOn (s : Script) (limit : ℕ) (list : List Turn) (went : Went) (history : List Event) : Type 0 where
  pub began : List Event
  pub went_is : HasWent s limit list began went
  pub goes_on : IsRobinFrom s limit began history
