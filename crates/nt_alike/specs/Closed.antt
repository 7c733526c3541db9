-- Closed lists of histories: each of them, however it goes on, is like one of the list. So what none of the list shows
-- no run shows.
use Rattle.std.specs.Prelude.{Bool, List, [], false, ℕ, ◌∷◌, ◌≡◌}
use Rattle.nt_event.specs.declared.events.Event.{Event}
use Rattle.nt_event.specs.declared.scripts.Script.{Script}
use Rattle.nt_event.specs.Step.{IsRun}
use Rattle.nt_alike.specs.Alike.{Alike}
use Rattle.nt_alike.specs.Bare.{bare_event}
use Rattle.nt_alike.specs.Free.{IsFreeRun, LooksAreShort, MayCome}
use Rattle.nt_alike.specs.Lists.{Among, Each}

-- the history is a free run, and however it goes on it is like one of the list
abbrev pub LeadsTo : Script → List (List Event) → List Event → Type 0
LeadsTo s all k = IsFreeRun s k × ((f : Event) → MayCome s f k → Among (λ x. Alike s (f ∷ k) x) all)

-- the empty history is like one of the list, and each of the list leads to the list
pub record IsClosedList (s : Script) (all : List (List Event)) : Type 0 where
  pub opening : Among (λ x. Alike s [] x) all
  pub each : Each (LeadsTo s all) all

-- none of the list can go on by an event that the test finds
abbrev pub NoneShows : Script → (Event → Bool) → List (List Event) → Type 0
NoneShows s bad all = Each (λ k. (f : Event) → MayCome s f k → bad (bare_event f) ≡ false) all

-- then no run of the script has such an event, under any schedule and any turn limit
abbrev pub ClosedListsTellNever : Type 0
ClosedListsTellNever = (s : Script) (bad : Event → Bool) (all : List (List Event)) →
    IsClosedList s all → NoneShows s bad all →
    (limit : ℕ) (e : Event) (past : List Event) → IsRun s limit (e ∷ past) → LooksAreShort (e ∷ past) →
    bad (bare_event e) ≡ false
