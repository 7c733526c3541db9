-- Monitors: what is bad may rest on what came before. A monitor keeps a number, 0 at first, which each event moves by
-- what the event is but for numbers.
use Rattle.std.specs.Prelude.{Bool, List, [], false, ℕ, ◌∷◌, ◌≡◌}
use Rattle.nt_event.specs.declared.events.Event.{Event}
use Rattle.nt_event.specs.declared.scripts.Script.{Script}
use Rattle.nt_event.specs.Step.{IsRun}
use Rattle.nt_alike.specs.Alike.{Alike}
use Rattle.nt_alike.specs.Bare.{bare_event}
use Rattle.nt_alike.specs.Free.{IsFreeRun, LooksAreShort, MayCome}
use Rattle.nt_alike.specs.Lists.{Among, Each}

-- what it keeps after an event, by what it kept before
abbrev pub Monitor : Type 0
Monitor = ℕ → Event → ℕ

-- what it keeps after a history
abbrev pub kept : Monitor → List Event → ℕ
kept monitor [] = 0
kept monitor (e ∷ past) = monitor (kept monitor past) (bare_event e)

-- the histories are alike, and the monitor keeps the same after both
abbrev pub AlikeWith : Script → Monitor → List Event → List Event → Type 0
AlikeWith s monitor h k = Alike s h k × (kept monitor h ≡ kept monitor k)

abbrev pub LeadsToWith : Script → Monitor → List (List Event) → List Event → Type 0
LeadsToWith s monitor all k =
    IsFreeRun s k × ((f : Event) → MayCome s f k → Among (λ x. AlikeWith s monitor (f ∷ k) x) all)

-- closed as IsClosedList says, and the monitor keeps the same
pub record IsClosedWith (s : Script) (monitor : Monitor) (all : List (List Event)) : Type 0 where
  pub opening : Among (λ x. AlikeWith s monitor [] x) all
  pub each : Each (LeadsToWith s monitor all) all

-- none of the list can go on by an event that is bad where the monitor keeps what it keeps
abbrev pub NoneShowsWith : Script → Monitor → (ℕ → Event → Bool) → List (List Event) → Type 0
NoneShowsWith s monitor bad all =
    Each (λ k. (f : Event) → MayCome s f k → bad (kept monitor k) (bare_event f) ≡ false) all

-- then no run of the script has such an event, under any schedule and any turn limit
abbrev pub ClosedListsTellNeverWith : Type 0
ClosedListsTellNeverWith = (s : Script) (monitor : Monitor) (bad : ℕ → Event → Bool) (all : List (List Event)) →
    IsClosedWith s monitor all → NoneShowsWith s monitor bad all →
    (limit : ℕ) (e : Event) (past : List Event) → IsRun s limit (e ∷ past) → LooksAreShort (e ∷ past) →
    bad (kept monitor past) (bare_event e) ≡ false
