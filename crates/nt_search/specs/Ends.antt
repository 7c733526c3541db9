-- How searches end, and what that tells of runs.
use Rattle.std.specs.Prelude.{Bool, Err, List, None, Ok, Option, Result, Some, false, get_or, length, true, ℕ, ◌≡◌, ◌≤◌}
use Rattle.nt_event.specs.declared.events.Event.{Event}
use Rattle.nt_event.specs.declared.scripts.Script.{Script}
use Rattle.nt_event.specs.Step.{IsRun}
use Rattle.nt_alike.specs.Free.{LooksAreShort}
use Rattle.nt_rounds.specs.declared.outcome.Depths.{Depths}
use Rattle.nt_rounds.specs.declared.outcome.Depths.TheVariants.{Finite, Round}
use Rattle.nt_rounds.specs.Depths.{AreDepths, IsRound}
use Rattle.nt_rounds.specs.Graph.{Drawn}
use Rattle.nt_verdict.specs.Fails.{IsEndless}
use Rattle.nt_search.specs.declared.found.End.{End}
use Rattle.nt_search.specs.declared.found.End.TheVariants.{Stopped, Whole}
use Rattle.nt_search.specs.declared.stop.Stop.{Stop}
use Rattle.nt_search.specs.declared.stop.Stop.TheVariants.{NoMemory}

-- all states were found and expanded
abbrev pub is_whole : End → Bool
is_whole (Whole depths) = true
is_whole (Stopped stop) = false

-- why it ended early
abbrev pub stop_of : End → Option Stop
stop_of (Whole depths) = None
stop_of (Stopped stop) = Some stop

-- the states lead so far, or there is this round
abbrev pub AreDepthsOf : List (List ℕ) → Depths → Type 0
AreDepthsOf closed (Finite depths) = AreDepths closed depths.items
AreDepthsOf closed (Round round) = IsRound closed round.items

-- how a search ends whose states lead so, by whether all of them were expanded
abbrev pub IsEndOf : Result (Unit {0}) Stop → Drawn → End → Type 0
IsEndOf (Ok done) graph (Whole depths) = AreDepthsOf graph.closed depths
IsEndOf (Ok done) graph (Stopped stop) = stop ≡ NoMemory
IsEndOf (Err early) graph (Whole depths) = ⊥
IsEndOf (Err early) graph (Stopped stop) = stop ≡ early

-- What the end of a search tells of runs: none is longer than the first depth, or there are runs of every length.
abbrev pub TellsOfEnds : Script → End → Type 0
TellsOfEnds s (Whole (Finite depths)) =
    (limit : ℕ) (h : List Event) → IsRun s limit h → LooksAreShort h → length h ≤ get_or depths.items 0 0
TellsOfEnds s (Whole (Round round)) = IsEndless s
TellsOfEnds s (Stopped stop) = Unit {0}
