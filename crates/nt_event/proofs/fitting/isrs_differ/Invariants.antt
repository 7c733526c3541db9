use Rattle.std.proofs.Common.{◌≡◌, drop}
use Rattle.nt_event.specs.Script as spec
use Rattle.nt_event.proofs.fitting.isrs_differ.Given as goal

abbrev pub invariant-loop-place : goal.invariant-loop-place
invariant-loop-place l = spec.isrs_differ l.isrs ≡ spec.isrs_differ (drop l.place l.isrs)
