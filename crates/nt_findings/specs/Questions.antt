-- What is asked of a script, and what searches answer.
use Rattle.std.specs.Prelude.{IsTrue, List, None, Option, Some, get_or, is_none, not, true, ℕ, ◌*◌, ◌≡◌, ◌≤◌}
use Rattle.nt_event.specs.declared.limits.TheConstants.{EVENTS, TURNS}
use Rattle.nt_event.specs.declared.scripts.Script.{Script}
use Rattle.nt_event.specs.Script.{fits}
use Rattle.nt_expect.specs.declared.expectations.Expectation.{Expectation}
use Rattle.nt_expect.specs.declared.expectations.Expectation.TheVariants.{AlwaysEnds}
use Rattle.nt_expect.specs.Expectations.{expectations_fit}
use Rattle.nt_verdict.specs.Fails.{Fails}
use Rattle.nt_findings.specs.declared.question.Finished.{Finished}
use Rattle.nt_findings.specs.declared.question.Open.{Open}
use Rattle.nt_findings.specs.declared.question.Question.{Question}
use Rattle.nt_findings.specs.declared.question.Shown.{Shown}
use Rattle.nt_findings.specs.declared.seeking.Sought.{Sought}
use Rattle.nt_findings.specs.declared.seeking.Sought.TheVariants as sought
use Rattle.nt_findings.specs.Known.{AreUnknown, HoldTheOthers, at_places}
use Rattle.nt_findings.specs.Verdicts.{AreCounted, IsSaid}
use Rattle.nt_findings.specs.Ways.{GoesRound, IsShownBy}

-- what may be asked: as a search may
pub record IsQuestion (q : Question) : Type 0 where
  pub fit : IsTrue (fits q.script.now)
  pub named : expectations_fit q.script.now q.expectations.now ≡ true
  pub turns : (1 ≤ q.limit) × (q.limit ≤ TURNS)
  pub all : q.script.now.cpus * q.limit ≤ EVENTS
  pub most : 1 ≤ q.most

-- these are the ones of which no failure is known
pub record AreOpen (q : Question) (fails : List (Option ℕ)) (o : Open) : Type 0 where
  pub unknown : AreUnknown fails o.places.items
  pub are : o.expectations.items ≡ at_places q.expectations.now o.places.items

-- the turns show that the expectation at this place fails
abbrev pub IsShownOf : Question → ℕ → Shown → Type 0
IsShownOf q place x = IsShownBy q.script.now (get_or q.expectations.now place AlwaysEnds) x.turns.items x.at

-- the turns that were found, if any, show it of the one that is wanted
abbrev pub IsShownFor : Question → Option ℕ → Option Shown → Type 0
IsShownFor q wanted None = Unit {0}
IsShownFor q None (Some x) = ⊥
IsShownFor q (Some place) (Some x) = IsShownOf q place x

-- what the search of all states leaves; where turns show what was wanted, states may not be counted
pub record IsFinished (q : Question) (wanted : Option ℕ) (fails : List (Option ℕ)) (f : Finished) : Type 0 where
  pub whole : f.is_whole ≡ is_none f.cut
  pub counted : wanted ≡ None → AreCounted q.script.now q.limit q.most f.states f.cut
  pub holds : HoldTheOthers q.script.now f.is_whole q.expectations.now fails
  pub ends : IsSaid q.script.now (not f.is_whole) AlwaysEnds f.ends
  pub shown : IsShownFor q wanted f.shown

-- What is answered of one expectation is so: turns show that it fails, or that runs need not end; or it fails in no
-- run.
abbrev pub IsSought : Script → Expectation → Sought → Type 0
IsSought s x (sought.Fails y) = IsShownBy s x y.turns.items y.at
IsSought s x (sought.GoesOn turns) = (x ≡ AlwaysEnds) × GoesRound s turns.items
IsSought s x sought.Holds = Fails s x → ⊥
IsSought s x sought.Unknown = Unit {0}
