use Rattle.std.proofs.Common.{◌≡◌}
use Rattle.std.specs.Vec.{vec_capacity, vec_len}
use Rattle.nt_timer.specs.Rings.{IsAlone}
use Rattle.nt_timer.proofs.rings.numbers.Given as goal

abbrev pub invariant-loop-number : goal.invariant-loop-number
invariant-loop-number l = record {
  alone : IsAlone l.number l.numbers.items;
  len : vec_len l.numbers ≡ l.number;
  room : vec_capacity l.numbers ≡ l.count;
}
