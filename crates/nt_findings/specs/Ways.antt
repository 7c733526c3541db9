-- Turns that show that an expectation fails.
use Rattle.std.specs.Prelude.{List, [], length, true, ℕ, ◌∷◌, ◌≡◌, ◌⊎◌}
use Rattle.nt_event.specs.declared.events.Event.{Event}
use Rattle.nt_event.specs.declared.events.Turn.{Turn}
use Rattle.nt_event.specs.declared.scripts.Script.{Script}
use Rattle.nt_alike.specs.Ends.{is_quiet}
use Rattle.nt_expect.specs.declared.expectations.Expectation.{Expectation}
use Rattle.nt_expect.specs.Meaning.{ShowsAt, ShowsAtEnd}
use Rattle.nt_search.specs.Rounding.{GoRound}
use Rattle.nt_witness.specs.Leads.{Lead}

-- the history shows it: its newest event, of this number, does, or all is quiet after so many events and it shows so
abbrev pub ShowsIn : Script → Expectation → List Event → ℕ → Type 0
ShowsIn s x h at =
    ((e : Event) × (past : List Event) × (h ≡ e ∷ past) × ShowsAt s x e past × (length past ≡ at))
    ⊎ ((is_quiet s h ≡ true) × ShowsAtEnd s x h × (length h ≡ at))

-- the turns lead to a history that shows it
pub record IsShownBy (s : Script) (x : Expectation) (turns : List Turn) (at : ℕ) : Type 0 where
  pub history : List Event
  pub lead : Lead s turns [] history
  pub shows : ShowsIn s x history at

-- the turns lead somewhere, and once round from there: what was done once can be done again and again
abbrev pub GoesRound : Script → List Turn → Type 0
GoesRound s turns = (limit : ℕ) × (size : ℕ) × GoRound s limit size turns
