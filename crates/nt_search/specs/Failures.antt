-- Where a search shows that expectations fail.
use Rattle.std.specs.Prelude.{List, None, Ok, Option, Some, [], get_or, length, true, ℕ, ◌<◌, ◌≡◌}
use Rattle.nt_event.specs.declared.events.Event.{Event}
use Rattle.nt_event.specs.declared.events.Turn.{Turn}
use Rattle.nt_event.specs.declared.scripts.Script.{Script}
use Rattle.nt_alike.specs.Ends.{is_quiet}
use Rattle.nt_alike.specs.Free.{MayCome, free_step}
use Rattle.nt_expect.specs.declared.expectations.Expectation.{Expectation}
use Rattle.nt_expect.specs.declared.expectations.Expectation.TheVariants.{AlwaysEnds}
use Rattle.nt_expect.specs.Meaning.{ShowsAt, ShowsAtEnd}
use Rattle.nt_verdict.specs.Fails.{Fails, IsShown}
use Rattle.nt_search.specs.declared.failures.Failure.{Failure}

-- after this past the turn gives an event which shows it, or where there is none, all is quiet and it shows so
abbrev pub ShowsBy : Script → Expectation → List Event → Option Turn → Type 0
ShowsBy s x past (Some turn) =
    (e : Event) × (free_step s turn past ≡ Ok e) × MayCome s e past × ShowsAt s x e past
ShowsBy s x past None = (is_quiet s past ≡ true) × ShowsAtEnd s x past

-- from one of these histories it shows that the expectation fails, by an event of this number or at an end of as many
pub record IsFailure (s : Script) (all : List (List Event)) (x : Expectation) (f : Failure) : Type 0 where
  pub state : f.state < length all
  pub shows : ShowsBy s x (get_or all f.state []) f.turn
  pub at : f.at ≡ length (get_or all f.state [])

-- so it is where one was noted
abbrev pub IsNoted : Script → List (List Event) → Expectation → Option Failure → Type 0
IsNoted s all x None = Unit {0}
IsNoted s all x (Some f) = IsFailure s all x f

-- of each expectation
pub record AreNoted (s : Script) (all : List (List Event)) (xs : List Expectation) (failures : List (Option Failure)) :
    Type 0 where
  pub count : length failures ≡ length xs
  pub each : (j : ℕ) (d : Expectation) → j < length xs → IsNoted s all (get_or xs j d) (get_or failures j None)

-- the expectation fails in some run; for all but `always ends`, the event of this number shows it there, or the end of
-- so many events
abbrev pub FailsAt : Script → Expectation → ℕ → Type 0
FailsAt s x number = Fails s x × ((x ≡ AlwaysEnds → ⊥) → (shown : IsShown s x) × (shown.number ≡ number))

-- what holds of each expectation of which no failure is noted
abbrev pub EachUnnoted : (Expectation → Type 0) → List Expectation → List (Option Failure) → Type 0
EachUnnoted P xs failures =
    (j : ℕ) (d : Expectation) → j < length xs → get_or failures j None ≡ None → P (get_or xs j d)

-- ---- a test of each expectation of which none is noted

-- a failure that was noted stays; else this one is noted where the test holds, and none where it does not
abbrev pub IsJudgedOne : (Expectation → Type 0) → Failure → Expectation → Option Failure → Option Failure → Type 0
IsJudgedOne P f x (Some g) new = new ≡ Some g
IsJudgedOne P f x None None = P x → ⊥
IsJudgedOne P f x None (Some g) = (g ≡ f) × P x

pub record AreJudged (P : Expectation → Type 0) (f : Failure) (xs : List Expectation)
    (old new : List (Option Failure)) : Type 0 where
  pub count : length new ≡ length old
  pub each : (j : ℕ) (d : Expectation) → j < length xs →
      IsJudgedOne P f (get_or xs j d) (get_or old j None) (get_or new j None)
