-- Ranks: a number for each of a closed list that falls with each event. Then runs end: none has more events than the
-- bound.
use Rattle.std.specs.Prelude.{List, [], length, ℕ, ◌<◌, ◌∷◌, ◌≤◌}
use Rattle.nt_event.specs.declared.events.Event.{Event}
use Rattle.nt_event.specs.declared.scripts.Script.{Script}
use Rattle.nt_event.specs.Step.{IsRun}
use Rattle.nt_alike.specs.Free.{IsFreeRun, LooksAreShort, MayCome}
use Rattle.nt_alike.specs.Lists.{Among, Each}
use Rattle.nt_alike.specs.Monitors.{AlikeWith, Monitor}

abbrev pub Rank : Type 0
Rank = List Event → ℕ

-- the history is a free run, and however it goes on it is like one of the list that has a lower rank
abbrev pub LeadsDown : Script → Monitor → Rank → List (List Event) → List Event → Type 0
LeadsDown s monitor rank all k =
    IsFreeRun s k ×
    ((f : Event) → MayCome s f k → Among (λ x. AlikeWith s monitor (f ∷ k) x × (rank x < rank k)) all)

-- the empty history is like one whose rank is at most the bound, and each of the list leads down
pub record IsRanked (s : Script) (monitor : Monitor) (rank : Rank) (bound : ℕ) (all : List (List Event)) : Type 0 where
  pub opening : Among (λ x. AlikeWith s monitor [] x × (rank x ≤ bound)) all
  pub each : Each (LeadsDown s monitor rank all) all

-- then no run of the script is longer, under any schedule and any turn limit
abbrev pub RanksBoundRuns : Type 0
RanksBoundRuns = (s : Script) (monitor : Monitor) (rank : Rank) (bound : ℕ) (all : List (List Event)) →
    IsRanked s monitor rank bound all →
    (limit : ℕ) (past : List Event) → IsRun s limit past → LooksAreShort past → length past ≤ bound
