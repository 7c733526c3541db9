use Rattle.std.proofs.Common.{arith, refl}
use Rattle.nt_timer.proofs.Places.{within}
use Rattle.nt_timer.proofs.Turning.{turned_start}
use Rattle.nt_timer.proofs.wheel.turn.Goals as goal

pub loop-slot-init : goal.loop-slot-init
loop-slot-init c =
    let t = c.requires.time in
    let end = within c.args.past c.args.now t.0 t.1 in
    let m = c.max.ensures in
    let e = c.slot_index-end.ensures in
    let low = c.requires.lowest in
    record {
      turned = turned_start c.args.lowest.now c.max.result c.args.past c.args.now c.args.settings.now c.args.rings.now c.args.due.now.items t.0 t.1
          (λ h l later. omega arith) c.requires.wheel;
      small = omega arith;
      room = refl;
    }
