use Rattle.std.proofs.Common.{arith, ◌<◌, ◌∙◌}
use Rattle.nt_timer.specs.declared.rings.TheConstants.{HEADS}
use Rattle.nt_timer.proofs.Places.{within}
use Rattle.nt_timer.proofs.Turning.{emptied, step_room, stepped}
use Rattle.nt_timer.proofs.wheel.empty.Goals as goal

pub first-requires : goal.first-requires
first-requires c =
    let t = c.requires.time in
    let end = within c.args.past c.args.now t.0 t.1 in
    let n = c.loop-node.invariant.turned.nodes in (omega (arith, t.2), omega (arith, t.2))

pub stand-requires-clause-room : goal.stand-requires-clause-room
stand-requires-clause-room c =
    let t = c.requires.time in
    let end = within c.args.past c.args.now t.0 t.1 in
    let low : c.args.slot < HEADS = omega (arith, t.2) in
    let few = step_room c.loop-node.lowest c.args.past c.args.now c.args.slot c.in-Some.node c.args.settings.now c.loop-node.rings c.loop-node.due.items
    c.loop-node.invariant.turned low c.in-Some.ensures in
    let len = c.loop-node.due.ok in
    let room = c.loop-node.invariant.room in
    let whole = c.requires.room in omega arith

pub loop-node-smaller : goal.loop-node-smaller
loop-node-smaller c =
    let t = c.requires.time in
    (stepped c.loop-node.lowest c.stand.new.lowest c.args.past c.args.now c.args.slot c.in-Some.node c.in-Some-settings.setting c.args.settings.now
    c.loop-node.rings c.detach.new.self
    c.stand.new.rings c.loop-node.due.items c.stand.new.due.items c.loop-node.invariant.turned t.0 t.1 t.2 c.in-Some.ensures c.in-Some-settings.is
    c.detach.ensures c.stand.ensures.homes c.stand.ensures.due c.stand.ensures.lowest.0 c.stand.ensures.lowest.1).1

pub loop-node-preserved : goal.loop-node-preserved
loop-node-preserved c =
    let t = c.requires.time in
    record {
      turned =
          (stepped c.loop-node.lowest c.stand.new.lowest c.args.past c.args.now c.args.slot c.in-Some.node c.in-Some-settings.setting c.args.settings.now
          c.loop-node.rings c.detach.new.self
          c.stand.new.rings c.loop-node.due.items c.stand.new.due.items c.loop-node.invariant.turned t.0 t.1 t.2 c.in-Some.ensures c.in-Some-settings.is
          c.detach.ensures c.stand.ensures.homes c.stand.ensures.due c.stand.ensures.lowest.0 c.stand.ensures.lowest.1).0;
      small = let l = c.stand.ensures.lowest.0 in let n = c.loop-node.invariant.small in omega arith;
      room = c.stand.ensures.room ∙ c.loop-node.invariant.room;
    }

pub returns-clause-wheel : goal.returns-clause-wheel
returns-clause-wheel c =
    let t = c.requires.time in
    let end = within c.args.past c.args.now t.0 t.1 in
    let low : c.args.slot < HEADS = omega (arith, t.2) in
    emptied c.loop-node.lowest c.args.past c.args.now c.args.slot c.args.settings.now c.loop-node.rings c.loop-node.due.items low c.in_default.ensures
    c.loop-node.invariant.turned
