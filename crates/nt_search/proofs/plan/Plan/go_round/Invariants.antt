use Rattle.std.proofs.Common.{[], List, get_or, length}
use Rattle.nt_event.specs.declared.events.Event.{Event}
use Rattle.nt_search.specs.Rounding.{AreOf, HasTaken}
use Rattle.nt_search.proofs.GoingRound.{IsRoundTo}
use Rattle.nt_search.proofs.plan.Plan.go_round.Given as goal

abbrev pub invariant-loop-place : goal.invariant-loop-place
invariant-loop-place l =
    (all : List (List Event)) → AreOf l.self all l.states →
    HasTaken l.self l.fn.turns.items (get_or all (get_or l.round 0 0) []) l.fn.machine →
    IsRoundTo l.self (get_or all (get_or l.round 0 0) []) l.place (length l.round) l.turns.items l.machine
