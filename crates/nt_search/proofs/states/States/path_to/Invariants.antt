use Rattle.std.proofs.Common.{[], List, get_or, length, reverse, ◌<◌}
use Rattle.std.specs.Prelude.{IfSome}
use Rattle.nt_event.specs.declared.events.Event.{Event}
use Rattle.nt_event.specs.declared.scripts.Script.{Script}
use Rattle.nt_search.specs.Stations.{IsPlaceOf}
use Rattle.nt_search.specs.Ways.{AreWays, Lead}
use Rattle.nt_search.proofs.states.States.path_to.Given as goal

abbrev pub invariant-loop-station : goal.invariant-loop-station
invariant-loop-station l = record {
  within : l.at < length l.self.ways;
  place : IfSome l.station (IsPlaceOf l.stations l.at);
  lead : (s : Script) (all : List (List Event)) → AreWays s all l.self.ways →
      Lead s (reverse l.turns.items) (get_or all l.at []) (get_or all l.number []);
}

abbrev pub decreases-loop-station : goal.decreases-loop-station
decreases-loop-station l = l.at
