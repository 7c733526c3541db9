-- What is said of expectations, and when that is so.
use Rattle.std.specs.Prelude.{Bool, List, None, Option, Some, [], false, get_or, is_some, length, true, ℕ, ◌<◌, ◌≡◌}
use Rattle.std.specs.Prelude.{◌≤◌}
use Rattle.nt_event.specs.declared.events.Event.{Event}
use Rattle.nt_event.specs.declared.scripts.Script.{Script}
use Rattle.nt_event.specs.Step.{IsRun}
use Rattle.nt_alike.specs.Free.{IsFreeRun, LooksAreShort}
use Rattle.nt_alike.specs.Lists.{Among}
use Rattle.nt_ask.specs.declared.answer.Answer.{Answer}
use Rattle.nt_ask.specs.declared.answer.Cut.{Cut}
use Rattle.nt_ask.specs.declared.answer.Cut.TheVariants as cut
use Rattle.nt_ask.specs.declared.answer.Verdict.{Verdict}
use Rattle.nt_ask.specs.declared.answer.Verdict.TheVariants as said
use Rattle.nt_expect.specs.declared.expectations.Expectation.{Expectation}
use Rattle.nt_expect.specs.declared.expectations.Expectation.TheVariants.{AlwaysEnds, Never}
use Rattle.nt_search.specs.declared.found.End.{End}
use Rattle.nt_search.specs.declared.found.End.TheVariants.{Stopped, Whole}
use Rattle.nt_search.specs.declared.stop.Stop.{Stop}
use Rattle.nt_search.specs.declared.stop.Stop.TheVariants.{NoMemory, States, Turns}
use Rattle.nt_search.specs.Failures.{FailsAt}
use Rattle.nt_verdict.specs.Closed.{IsClosed, watched_by}
use Rattle.nt_verdict.specs.Fails.{Fails}

-- no run of the script has more events, under any schedule and any turn limit
abbrev pub EndWithin : Script → ℕ → Type 0
EndWithin s events = (limit : ℕ) (h : List Event) → IsRun s limit h → LooksAreShort h → length h ≤ events

-- What is said of the expectation is so. It holds: it fails in no run, under any schedule and any turn limit; and the
-- event, one that it speaks of, comes in none. `always ends` holds within so many events. It fails at a number: some
-- run shows it there. Else it is unknown.
abbrev pub IsVerdict : Script → Expectation → Verdict → Type 0
IsVerdict s x said.Holds = (x ≡ AlwaysEnds → ⊥) × (Fails s x → ⊥)
IsVerdict s x (said.HoldsWithout event) =
    ((x ≡ AlwaysEnds → ⊥) × (Fails s x → ⊥)) × Among (λ y. event ≡ y) (watched_by x) × (Fails s (Never event) → ⊥)
IsVerdict s x (said.HoldsWithin events) = (x ≡ AlwaysEnds) × EndWithin s events
IsVerdict s x (said.FailsAt number) = FailsAt s x number
IsVerdict s x said.Unknown = Unit {0}

-- a search that is cut says of no expectation that it holds, and one that is not cut knows of each
abbrev pub FitsCut : Bool → Verdict → Type 0
FitsCut true said.Holds = ⊥
FitsCut true (said.HoldsWithout event) = ⊥
FitsCut true (said.HoldsWithin events) = ⊥
FitsCut true (said.FailsAt number) = Unit {0}
FitsCut true said.Unknown = Unit {0}
FitsCut false said.Holds = Unit {0}
FitsCut false (said.HoldsWithout event) = Unit {0}
FitsCut false (said.HoldsWithin events) = Unit {0}
FitsCut false (said.FailsAt number) = Unit {0}
FitsCut false said.Unknown = ⊥

abbrev pub IsSaid : Script → Bool → Expectation → Verdict → Type 0
IsSaid s is_cut x v = IsVerdict s x v × FitsCut is_cut v

-- of each expectation, in their order
pub record AreSaid (s : Script) (is_cut : Bool) (xs : List Expectation) (vs : List Verdict) : Type 0 where
  pub count : length vs ≡ length xs
  pub each : (j : ℕ) (d : Expectation) (v : Verdict) → j < length xs → IsSaid s is_cut (get_or xs j d) (get_or vs j v)

-- why not all states were found, where they may be so many, and on the way to one a processor may make so many events
abbrev pub HasCut : ℕ → ℕ → List (List Event) → Cut → Type 0
HasCut limit most all cut.States = length all ≡ most
HasCut limit most all cut.Turns = (n : ℕ) × (n < length all) × (limit ≤ length (get_or all n []))
HasCut limit most all cut.Memory = Unit {0}

-- So many states were found: each is a history that some schedule may leave, and they are no more than they may be.
-- Where the search was not cut, each run is like one of them; where it was, it had this cause.
pub record AreCounted (s : Script) (limit most states : ℕ) (by : Option Cut) : Type 0 where
  pub all : List (List Event)
  pub count : length all ≡ states
  pub few : states ≤ most
  pub runs : (n : ℕ) → n < length all → IsFreeRun s (get_or all n [])
  pub closed : by ≡ None → IsClosed s [] all
  pub cause : (c : Cut) → by ≡ Some c → HasCut limit most all c

-- an answer says of each of the expectations what is so, and counts the states
pub record IsAnswer (s : Script) (limit most : ℕ) (xs : List Expectation) (a : Answer) : Type 0 where
  pub said : AreSaid s (is_some a.cut) xs a.verdicts.items
  pub counted : AreCounted s limit most a.states a.cut

-- ---- what a search tells

-- what is told of an expectation, by the number at which it is known to fail and by whether all states were found
abbrev pub TellsOf : Script → Bool → Expectation → Option ℕ → Type 0
TellsOf s whole x (Some at) = FailsAt s x at
TellsOf s whole x None = whole ≡ true → (x ≡ AlwaysEnds → ⊥) → Fails s x → ⊥

-- of each of these expectations, of which more may be known than they are
abbrev pub TellsOfAll : Script → Bool → List Expectation → List (Option ℕ) → Type 0
TellsOfAll s whole xs fails =
    (j : ℕ) (d : Expectation) → j < length xs → TellsOf s whole (get_or xs j d) (get_or fails j None)

-- ---- why a search was cut

abbrev pub cut_of : Stop → Cut
cut_of States = cut.States
cut_of Turns = cut.Turns
cut_of NoMemory = cut.Memory

abbrev pub cut_by : End → Option Cut
cut_by (Whole depths) = None
cut_by (Stopped stop) = Some (cut_of stop)
