use Rattle.std.proofs.Common.{arith, false, refl, ◌≡◌}
use Rattle.nt_shrink.proofs.Machines.{refused_next, sound, taken_all, taken_next}
use Rattle.nt_shrink.proofs.machine.Machine.take_all.Goals as goal

pub take-requires : goal.take-requires
take-requires c =
    let a = c.loop-turn.invariant c.args.self.now.processors.script c.args.self.now.processors.limit c.requires.0 c.requires.1 in
    sound _ _ c.args.goal a.end c.loop-turn.self a.took

pub returns-then-not-take-clause-refused : goal.returns-then-not-take-clause-refused
returns-then-not-take-clause-refused c f s limit past h =
    let a = c.loop-turn.invariant s limit past h in
    let no : c.take.result ≡ false = (let y = c.if-not-take.true in cc) in
    refused_next s limit c.args.goal c.args.turns.now c.loop-turn.turn-index _ _ past c.loop-turn.self c.loop-turn-test.true refl a
    (c.take.ensures.refused no s limit a.end a.took)

pub loop-turn-preserved : goal.loop-turn-preserved
loop-turn-preserved c s limit past h =
    let a = c.loop-turn.invariant s limit past h in
    taken_next s limit c.args.goal c.args.turns.now c.loop-turn.turn-index _ _ past c.loop-turn.self c.take.new.self c.loop-turn-test.true refl a
    (c.take.ensures.taken (let y = c.if-not-take.false in cc) s limit a.end a.took)

pub returns-clause-taken : goal.returns-clause-taken
returns-clause-taken c f s limit past h =
    taken_all s limit c.args.goal c.args.turns.now c.loop-turn.turn-index past c.loop-turn.self (omega (arith, c.loop-turn-test.false))
    (c.loop-turn.invariant s limit past h)
