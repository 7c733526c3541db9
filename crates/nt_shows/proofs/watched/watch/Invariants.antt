use Rattle.std.proofs.Common.{take, ◌≡◌}
use Rattle.std.specs.List.{flat_map}
use Rattle.nt_verdict.specs.Closed.{watched_by}
use Rattle.nt_shows.proofs.watched.watch.Given as goal

abbrev pub invariant-loop-expectation : goal.invariant-loop-expectation
invariant-loop-expectation l = l.all.items ≡ flat_map watched_by (take l.expectation-index l.expectations)
