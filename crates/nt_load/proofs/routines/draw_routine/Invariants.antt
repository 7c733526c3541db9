use Rattle.std.proofs.Common.{◌≡◌, ◌≤◌}
use Rattle.std.specs.Vec.{vec_capacity, vec_len}
use Rattle.nt_load.specs.Commands.{begin, commands}
use Rattle.nt_load.proofs.routines.draw_routine.Given as goal

abbrev pub invariant-loop-i : goal.invariant-loop-i
invariant-loop-i l = record {
  drawn : l.drawn.items ≡ commands l.i l.fn.draws.number;
  moved : l.draws.number ≡ begin l.i l.fn.draws.number;
  len : vec_len l.drawn ≡ l.i;
  room : 128 ≤ vec_capacity l.drawn;
}
