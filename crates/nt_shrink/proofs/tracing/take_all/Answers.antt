use Rattle.std.proofs.Common.{[], ap, arith, length, length-append, ◌++◌, ◌≡◌, ◌∷◌}
use Rattle.nt_plain.specs.States.{view_of}
use Rattle.nt_shrink.proofs.Taking.{taking_next}
use Rattle.nt_shrink.proofs.tracing.take_all.Goals as goal

pub loop-walk-preserved : goal.loop-walk-preserved
loop-walk-preserved c =
    let p = c.loop-walk in
    let walk = c.next.ensures.some c.loop-walk-test.true in
    let made : c.put.new.self.events ≡ p.events.events ++ c.turn.new.event ∷ [] = rw c.put.ensures in
    let room : c.put.new.self.room ≡ p.events.room = rw c.put.ensures in
    record {
      taking = taking_next c.args.processors.now.script c.args.processors.now.limit c.args.list.now p.walk c.next.new.self c.next.new.turn p.processors
          c.turn.new.self p.floor.script c.turn.new.floor.script (view_of p.floor) (view_of c.turn.new.floor) p.events.events c.put.new.self.events
          c.turn.new.event p.invariant.taking walk c.in-Ok.ensures.ok c.in-Ok.ensures.kept made;
      room = omega (arith, ap length made, ap length walk, length-append p.events.events (c.turn.new.event ∷ []), room, p.invariant.room);
    }
