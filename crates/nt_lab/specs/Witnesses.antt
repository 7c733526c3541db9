-- Witnesses: schedules of runs that show that an expectation fails.
use Rattle.std.specs.Prelude.{List, [], get_or, ℕ, ◌-◌, ◌≡◌, ◌⊎◌}
use Rattle.nt_event.specs.declared.events.Event.{Event}
use Rattle.nt_event.specs.declared.events.Turn.{Turn}
use Rattle.nt_event.specs.declared.scripts.Script.{Script}
use Rattle.nt_ask.specs.declared.reading.Asked.{Asked}
use Rattle.nt_expect.specs.declared.expectations.Expectation.{Expectation}
use Rattle.nt_expect.specs.declared.expectations.Expectation.TheVariants.{AlwaysEnds}
use Rattle.nt_findings.specs.Ways.{GoesRound, IsShownBy}
use Rattle.nt_log.specs.declared.schedules.Schedule.{Schedule}
use Rattle.nt_witness.specs.Leads.{Lead}
use Rattle.nt_witness.specs.Witnesses.{IsWitness}

-- the expectation of this number, from 1
abbrev pub expected : Asked → ℕ → Expectation
expected asked number = get_or asked.expectations (number - 1) AlwaysEnds

-- the turns show that it fails; of `always ends`, that what was done once can be done again and again
abbrev pub Show : Script → Expectation → List Turn → Type 0
Show s x turns = ((at : ℕ) × IsShownBy s x turns at) ⊎ ((x ≡ AlwaysEnds) × GoesRound s turns)

-- a replay of the schedule gives a settled run that begins with turns that show that the expectation fails
pub record IsWitnessOf (s : Script) (x : Expectation) (w : Schedule) : Type 0 where
  pub turns : List Turn
  pub show : Show s x turns
  pub history : List Event
  pub lead : Lead s turns [] history
  pub replay : IsWitness s history w
