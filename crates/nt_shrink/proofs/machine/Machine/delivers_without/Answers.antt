use Rattle.std.proofs.Common.{arith, false, length, map, sym, ◌∙◌, ◌<◌, ◌≡◌}
use Rattle.std.proofs.lemmas.List.{get_or-map, length-map}
use Rattle.nt_shrink.specs.Shorter.{turn_without}
use Rattle.nt_shrink.proofs.Machines.{delivered_all, refused_next, sound, taken_all, taken_next, undelivered}
use Rattle.nt_shrink.proofs.machine.Machine.delivers_without.Goals as goal

pub take-requires : goal.take-requires
take-requires c =
    let a = c.loop-turn.invariant c.args.self.now.processors.script c.args.self.now.processors.limit c.requires.0 c.requires.1 in
    sound _ _ c.args.goal a.end c.loop-turn.self a.took

pub returns-then-not-take : goal.returns-then-not-take
returns-then-not-take c s limit past h =
    let shorter = map (turn_without c.args.at) c.args.later.now in
    let a = c.loop-turn.invariant s limit past h in
    let no : c.take.result ≡ false = (let y = c.if-not-take.true in cc) in
    let l = length-map c.args.later.now (turn_without c.args.at) in
    let more : c.loop-turn.turn-index < length shorter = omega (arith, l, c.loop-turn-test.true) in
    undelivered s limit c.args.goal shorter past
    (refused_next s limit c.args.goal shorter c.loop-turn.turn-index c.lessen.new.turn c.lessen.new.turn past c.loop-turn.self more
    (c.lessen.ensures ∙ sym (get_or-map (turn_without c.args.at) c.args.later.now c.loop-turn.turn-index _ _ c.loop-turn-test.true)) a
    (c.take.ensures.refused no s limit a.end a.took))

pub loop-turn-preserved : goal.loop-turn-preserved
loop-turn-preserved c s limit past h =
    let shorter = map (turn_without c.args.at) c.args.later.now in
    let a = c.loop-turn.invariant s limit past h in
    let l = length-map c.args.later.now (turn_without c.args.at) in
    let more : c.loop-turn.turn-index < length shorter = omega (arith, l, c.loop-turn-test.true) in
    taken_next s limit c.args.goal shorter c.loop-turn.turn-index c.lessen.new.turn c.lessen.new.turn past c.loop-turn.self c.take.new.self more
    (c.lessen.ensures ∙ sym (get_or-map (turn_without c.args.at) c.args.later.now c.loop-turn.turn-index _ _ c.loop-turn-test.true)) a
    (c.take.ensures.taken (let y = c.if-not-take.false in cc) s limit a.end a.took)

pub returns : goal.returns
returns c s limit past h =
    let shorter = map (turn_without c.args.at) c.args.later.now in
    let l = length-map c.args.later.now (turn_without c.args.at) in
    delivered_all s limit c.args.goal shorter past c.loop-turn.self (taken_all s limit c.args.goal shorter c.loop-turn.turn-index past c.loop-turn.self
    (omega (arith, l, c.loop-turn-test.false)) (c.loop-turn.invariant s limit past h))
