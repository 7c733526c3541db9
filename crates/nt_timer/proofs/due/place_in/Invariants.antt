use Rattle.std.proofs.Common.{◌≡◌, ◌+◌, drop}
use Rattle.nt_timer.specs.Due.{place_in}
use Rattle.nt_timer.proofs.due.place_in.Given as goal

abbrev pub invariant-loop-other : goal.invariant-loop-other
invariant-loop-other l = record {
  count : l.place ≡ l.other-index;
  found : l.place + place_in l.key (drop l.other-index l.keys) ≡ place_in l.key l.keys;
}
