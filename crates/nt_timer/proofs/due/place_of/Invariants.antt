use Rattle.std.proofs.Common.{◌≡◌, ◌+◌, drop}
use Rattle.nt_timer.specs.Due.{place_of}
use Rattle.nt_timer.proofs.due.place_of.Given as goal

abbrev pub invariant-loop-other : goal.invariant-loop-other
invariant-loop-other l = record {
  count : l.place ≡ l.other-index;
  found : l.place + place_of l.key (drop l.other-index l.keys) ≡ place_of l.key l.keys;
}
