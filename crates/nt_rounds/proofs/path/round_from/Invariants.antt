use Rattle.std.proofs.Common.{length, ◌-◌, ◌<◌}
use Rattle.nt_rounds.specs.Known.{IsUnknown}
use Rattle.nt_rounds.specs.Path.{IsPath}
use Rattle.nt_rounds.proofs.path.round_from.Given as goal

abbrev pub invariant-loop-path : goal.invariant-loop-path
invariant-loop-path l = record {
  path : IsPath l.graph.closed l.path.items l.places.items l.at;
  within : l.at < length l.graph.closed;
  unknown : IsUnknown l.depths l.at;
}

abbrev pub decreases-loop-path : goal.decreases-loop-path
decreases-loop-path l = length l.graph.closed - length l.path.items
