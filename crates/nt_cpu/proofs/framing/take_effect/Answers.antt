use Rattle.std.proofs.Common.{sym, ◌∙◌}
use Rattle.nt_cpu.proofs.FramesLeft.{done_made, spin_made, undone, wait_made}
use Rattle.nt_cpu.proofs.framing.take_effect.Goals as goal

pub returns-in-Some : goal.returns-in-Some
returns-in-Some c =
    c.set_wait.ensures
    ∙ wait_made c.args.due c.args.command.now c.args.reply.now c.in-Some.wait c.args.frames.now (sym c.wait_of.ensures ∙ c.in-Some.is)

pub returns-then-is_done : goal.returns-then-is_done
returns-then-is_done c =
    c.do_command.ensures
    ∙ done_made c.args.due c.args.command.now c.args.reply.now c.args.frames.now (sym c.wait_of.ensures ∙ c.in-None.is)
    (sym c.is_done.ensures ∙ c.if-is_done.true)

pub returns-then-is_spin : goal.returns-then-is_spin
returns-then-is_spin c =
    c.spin_on.ensures
    ∙ spin_made c.args.due c.args.command.now c.args.reply.now c.args.frames.now (sym c.wait_of.ensures ∙ c.in-None.is)
    (sym c.is_spin.ensures ∙ c.if-is_spin.true)

pub returns-else-is_spin : goal.returns-else-is_spin
returns-else-is_spin c =
    undone c.args.due c.args.command.now c.args.reply.now c.args.frames.now (sym c.wait_of.ensures ∙ c.in-None.is)
    (sym c.is_done.ensures ∙ c.if-is_done.false) (sym c.is_spin.ensures ∙ c.if-is_spin.false)
