-- A closed list of histories tells that an expectation fails in no run: none of the list shows it, and every run is
-- like one of the list.
use Rattle.std.specs.Prelude.{List, [], true, ℕ, ◌∷◌, ◌≡◌, ◌⊎◌}
use Rattle.nt_event.specs.declared.events.Event.{Event}
use Rattle.nt_event.specs.declared.scripts.Script.{Script}
use Rattle.nt_alike.specs.Alike.{Alike}
use Rattle.nt_alike.specs.Bare.{bare_event}
use Rattle.nt_alike.specs.Ends.{is_quiet}
use Rattle.nt_alike.specs.Free.{IsFreeRun, MayCome}
use Rattle.nt_alike.specs.Lists.{Among, Each}
use Rattle.nt_alike.specs.Monitors.{Monitor}
use Rattle.nt_alike.specs.Ranks.{IsRanked, Rank}
use Rattle.nt_expect.specs.declared.expectations.Expectation.{Expectation}
use Rattle.nt_expect.specs.declared.expectations.Expectation.TheVariants.{Never, NeverAfter, NeverBefore, NeverTwice}
use Rattle.nt_expect.specs.declared.expectations.Expectation.TheVariants.{NeverAbove, NeverOn, NeverWith, NeverWaitsDpc}
use Rattle.nt_expect.specs.declared.expectations.Expectation.TheVariants.{NeverWaitsApc, NeverBlocked, NeverSpins}
use Rattle.nt_expect.specs.declared.expectations.Expectation.TheVariants.{Always, AlwaysEnds}
use Rattle.nt_expect.specs.declared.expectations.Watched.{Watched}
use Rattle.nt_expect.specs.Expectations.{expectation_fits}
use Rattle.nt_expect.specs.Meaning.{Came, ShowsAt, ShowsAtEnd}
use Rattle.nt_verdict.specs.Fails.{Fails}

-- ---- what is kept of the past

-- the events that an expectation watches for
abbrev pub watched_by : Expectation → List Watched
watched_by (Never x) = x ∷ []
watched_by (NeverAfter x y) = x ∷ y ∷ []
watched_by (NeverBefore x y) = x ∷ y ∷ []
watched_by (NeverTwice x) = x ∷ []
watched_by (NeverAbove x level) = x ∷ []
watched_by (NeverOn x p) = x ∷ []
watched_by (NeverWith b c) = []
watched_by (NeverWaitsDpc d) = []
watched_by (NeverWaitsApc a) = []
watched_by (NeverBlocked t) = []
watched_by (NeverSpins k) = []
watched_by (Always x) = x ∷ []
watched_by AlwaysEnds = []

-- each event that the expectation watches for is one of these
abbrev pub AreWatched : List Watched → Expectation → Type 0
AreWatched all x = Each (λ y. Among (λ z. y ≡ z) all) (watched_by x)

-- such an event came in both histories or in neither
abbrev pub CameAlike : List Event → List Event → Watched → Type 0
CameAlike h k x = (Came x h → Came x k) × (Came x k → Came x h)

-- the histories are alike, and of what is watched for the same came
abbrev pub AlikeWatching : Script → List Watched → List Event → List Event → Type 0
AlikeWatching s watched h k = Alike s h k × Each (CameAlike h k) watched

-- ---- closed lists

-- the history is a free run, and however it goes on it is like one of the list
abbrev pub LeadsTo : Script → List Watched → List (List Event) → List Event → Type 0
LeadsTo s watched all k =
    IsFreeRun s k × ((f : Event) → MayCome s f k → Among (λ x. AlikeWatching s watched (f ∷ k) x) all)

-- the empty history is like one of the list, and each of the list leads to the list
pub record IsClosed (s : Script) (watched : List Watched) (all : List (List Event)) : Type 0 where
  pub opening : Among (λ x. AlikeWatching s watched [] x) all
  pub each : Each (LeadsTo s watched all) all

-- the list has ranks that fall with each event
pub record HasRanks (s : Script) (all : List (List Event)) : Type 0 where
  pub monitor : Monitor
  pub rank : Rank
  pub bound : ℕ
  pub ranked : IsRanked s monitor rank bound all

-- None of the list shows that the expectation fails: by no event that may come, and not where it is quiet. And where
-- every run is to end, the list has ranks.
pub record NoneShows (s : Script) (x : Expectation) (all : List (List Event)) : Type 0 where
  pub on : Each (λ k. (f : Event) → MayCome s f k → ShowsAt s x f k → ⊥) all
  pub quiet : Each (λ k. is_quiet s k ≡ true → ShowsAtEnd s x k → ⊥) all
  pub ends : x ≡ AlwaysEnds → HasRanks s all

-- ---- the laws

-- where histories are alike, and of what the expectation watches for the same came, like events show it alike
abbrev pub AlikeShowAlike : Type 0
AlikeShowAlike = (s : Script) (watched : List Watched) (x : Expectation) (h k : List Event) (e f : Event) →
    AreWatched watched x → AlikeWatching s watched h k → bare_event e ≡ bare_event f → Alike s (e ∷ h) (f ∷ k) →
    ShowsAt s x e h → ShowsAt s x f k

-- and where both are quiet, they show it alike
abbrev pub AlikeEndAlike : Type 0
AlikeEndAlike = (s : Script) (watched : List Watched) (x : Expectation) (h k : List Event) →
    expectation_fits s x ≡ true → AreWatched watched x → AlikeWatching s watched h k →
    ShowsAtEnd s x h → ShowsAtEnd s x k

-- so where none of a closed list shows it, it fails in no run, under any schedule and any turn limit
abbrev pub ClosedListsTell : Type 0
ClosedListsTell = (s : Script) (watched : List Watched) (x : Expectation) (all : List (List Event)) →
    expectation_fits s x ≡ true → AreWatched watched x → IsClosed s watched all → NoneShows s x all →
    Fails s x → ⊥

-- But where a free run shows it, it fails: by an event that may come, or where it is quiet.
abbrev pub FreeRunsTell : Type 0
FreeRunsTell = (s : Script) (x : Expectation) (k : List Event) → IsFreeRun s k →
    ((f : Event) × MayCome s f k × ShowsAt s x f k) ⊎ ((is_quiet s k ≡ true) × ShowsAtEnd s x k) → Fails s x

-- And where each of a list may go on into the list by some event, there are runs of every length.
abbrev pub GoesOn : Script → List (List Event) → List Event → Type 0
GoesOn s all k = IsFreeRun s k × ((f : Event) × MayCome s f k × Among (λ x. Alike s (f ∷ k) x) all)

abbrev pub RoundsTell : Type 0
RoundsTell = (s : Script) (k : List Event) (all : List (List Event)) →
    Each (GoesOn s (k ∷ all)) (k ∷ all) → Fails s AlwaysEnds
