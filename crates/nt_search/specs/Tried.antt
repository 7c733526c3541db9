-- Histories of which each turn was tried, and what that means for a list of them.
use Rattle.std.specs.Prelude.{Contains, List, Ok, [], get_or, length, true, ℕ, ◌<◌, ◌∷◌, ◌≡◌}
use Rattle.nt_event.specs.declared.events.Event.{Event}
use Rattle.nt_event.specs.declared.events.Turn.{Turn}
use Rattle.nt_event.specs.declared.scripts.Script.{Script}
use Rattle.nt_alike.specs.Ends.{is_quiet}
use Rattle.nt_alike.specs.Free.{IsFreeRun, MayCome, free_step}
use Rattle.nt_ahead.specs.Turns.{HasAll}
use Rattle.nt_expect.specs.declared.expectations.Expectation.{Expectation}
use Rattle.nt_expect.specs.declared.expectations.Watched.{Watched}
use Rattle.nt_expect.specs.Meaning.{ShowsAt, ShowsAtEnd}
use Rattle.nt_verdict.specs.Closed.{AlikeWatching}

-- the history is like that of the state of this number
pub record IsLikeOne (s : Script) (watched : List Watched) (all : List (List Event)) (h : List Event) (number : ℕ) :
    Type 0 where
  pub low : number < length all
  pub alike : AlikeWatching s watched h (get_or all number [])

-- by some event the history leads to the state of this number
pub record IsLed (s : Script) (watched : List Watched) (all : List (List Event)) (past : List Event) (number : ℕ) :
    Type 0 where
  pub event : Event
  pub comes : MayCome s event past
  pub like : IsLikeOne s watched all (event ∷ past) number

-- each of these turns that may be taken after the history leads to a state of one of these numbers
abbrev pub LeadBack : Script → List Watched → List (List Event) → List ℕ → List Event → List Turn → Type 0
LeadBack s watched all targets past turns =
    (turn : Turn) (e : Event) → Contains turns turn → free_step s turn past ≡ Ok e →
    (number : ℕ) × Contains targets number × IsLikeOne s watched all (e ∷ past) number

-- and so does each turn that may be taken
pub record IsTried (s : Script) (watched : List Watched) (all : List (List Event)) (targets : List ℕ)
    (past : List Event) : Type 0 where
  pub run : IsFreeRun s past
  pub turns : List Turn
  pub whole : HasAll s past turns
  pub lead : LeadBack s watched all targets past turns

-- by none of these turns the history shows that the expectation fails
abbrev pub NoneShows : Script → Expectation → List Event → List Turn → Type 0
NoneShows s x past turns =
    (turn : Turn) (e : Event) → Contains turns turn → free_step s turn past ≡ Ok e → ShowsAt s x e past → ⊥

-- nor by any turn that may be taken, nor at its end
pub record Keeps (s : Script) (x : Expectation) (past : List Event) : Type 0 where
  pub turns : List Turn
  pub whole : HasAll s past turns
  pub none : NoneShows s x past turns
  pub quiet : is_quiet s past ≡ true → ShowsAtEnd s x past → ⊥
