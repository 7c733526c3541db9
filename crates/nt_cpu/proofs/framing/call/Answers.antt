use Rattle.std.proofs.Common.{sym, ◌∙◌}
use Rattle.nt_cpu.specs.Moved.{effect_made}
use Rattle.nt_cpu.proofs.FramesLeft.{called_going, called_spins, called_stopped, place_changed, some_changed, spun_reply}
use Rattle.nt_cpu.proofs.framing.call.Goals as goal

pub advance_place-requires-clause-frame : goal.advance_place-requires-clause-frame
advance_place-requires-clause-frame c =
    some_changed
    (effect_made c.args.due c.args.command.now c.args.reply.now) c.args.frames.now c.take_effect.new.frames c.requires.nested c.take_effect.ensures
    c.requires.frame

pub advance_place-requires-clause-place : goal.advance_place-requires-clause-place
advance_place-requires-clause-place c =
    place_changed c.args.due c.args.command.now c.args.reply.now c.args.frames.now c.take_effect.new.frames 4294967295 c.requires.nested c.take_effect.ensures
    c.requires.place

pub returns-then-is_spin : goal.returns-then-is_spin
returns-then-is_spin c =
    let p = sym c.is_spin.ensures ∙ c.if-is_spin.true in
    called_spins c.args.due c.args.command.now c.args.reply.now c.args.frames.now c.take_effect.new.frames p
    (spun_reply c.args.command.now c.args.reply.now c.args.frames.now p c.requires.may) c.take_effect.ensures

pub returns-then-stops : goal.returns-then-stops
returns-then-stops c =
    called_stopped c.args.due c.args.command.now c.args.reply.now c.args.frames.now c.take_effect.new.frames c.advance_place.new.self c.switch_away.new.self
    c.requires.nested
    (sym c.is_spin.ensures ∙ c.if-is_spin.false) c.take_effect.ensures c.advance_place.ensures c.switch_away.ensures (sym c.stops.ensures ∙ c.if-stops.true)

pub returns-else-stops : goal.returns-else-stops
returns-else-stops c =
    called_going c.args.due c.args.command.now c.args.reply.now c.args.frames.now c.take_effect.new.frames c.advance_place.new.self c.requires.nested
    (sym c.is_spin.ensures ∙ c.if-is_spin.false) c.take_effect.ensures c.advance_place.ensures (sym c.stops.ensures ∙ c.if-stops.false)
