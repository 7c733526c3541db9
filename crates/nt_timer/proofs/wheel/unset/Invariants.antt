use Rattle.std.proofs.Common.{◌≡◌, None, replicate}
use Rattle.std.specs.Vec.{vec_capacity, vec_len}
use Rattle.nt_timer.proofs.wheel.unset.Given as goal

abbrev pub invariant-loop : goal.invariant-loop
invariant-loop l = record {
  items : l.settings.items ≡ replicate l.counter None;
  len : vec_len l.settings ≡ l.counter;
  room : vec_capacity l.settings ≡ l.count;
}
