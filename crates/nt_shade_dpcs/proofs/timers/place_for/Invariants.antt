use Rattle.std.proofs.Common.{◌≡◌, ◌+◌, drop}
use Rattle.nt_shade_dpcs.specs.Keys.{place_for}
use Rattle.nt_shade_dpcs.proofs.timers.place_for.Given as goal

abbrev pub invariant-loop-other : goal.invariant-loop-other
invariant-loop-other l = record {
  count : l.place ≡ l.other-index;
  found : l.place + place_for l.due (drop l.other-index l.keys) ≡ place_for l.due l.keys;
}
