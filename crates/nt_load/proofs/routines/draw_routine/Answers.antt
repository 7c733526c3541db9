use Rattle.std.proofs.Common.{arith, refl, sym, ◌∙◌}
use Rattle.nt_load.proofs.Numbers.{begin_next, begin_none}
use Rattle.nt_event.proofs.Tables.{table_grown, table_none}
use Rattle.nt_load.proofs.routines.draw_routine.Goals as goal

pub loop-i-init : goal.loop-i-init
loop-i-init c = record {
  drawn = c.in_ok-drawn.ensures.items ∙ sym (table_none _);
  moved = begin_none _;
  len = c.in_ok-drawn.ensures.len;
  room = c.in_ok-drawn.ensures.capacity;
}

pub add_command-requires : goal.add_command-requires
add_command-requires c = omega (arith, c.loop-i.invariant.len, c.loop-i.invariant.room, c.loop-i-test.true)

pub loop-i-preserved : goal.loop-i-preserved
loop-i-preserved c = record {
  drawn = table_grown _ _ _ _ _ c.add_command.ensures.items c.loop-i.invariant.drawn (rw c.loop-i.invariant.moved refl);
  moved = begin_next _ _ _ _ c.loop-i.invariant.moved c.add_command.ensures.moved;
  len = omega (arith, c.add_command.ensures.len, c.loop-i.invariant.len);
  room = omega (arith, c.add_command.ensures.capacity, c.loop-i.invariant.room);
}
