use Rattle.std.proofs.Common.{drop, ◌≡◌}
use Rattle.nt_shows.specs.Standing.{stand_together}
use Rattle.nt_shows.proofs.showing.stand_together.Given as goal

abbrev pub invariant-loop-place : goal.invariant-loop-place
invariant-loop-place l = stand_together l.one l.other l.cpus ≡ stand_together l.one l.other (drop l.place l.cpus)
