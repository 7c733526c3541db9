use Rattle.std.proofs.Common.{List, arith, ap, ◌∙◌}
use Rattle.nt_event.specs.declared.commands.Command.{Command}
use Rattle.nt_verify.proofs.Lists.{take_all}
use Rattle.nt_verify.proofs.Loops.{here, passes_here, place_is, walk_more}
use Rattle.nt_verify.specs.Sites.{first_frame}
use Rattle.nt_verify.specs.Steps.{has_lock_below}
use Rattle.nt_verify.specs.Walks.{walked}
use Rattle.nt_verify.proofs.expected.walk_through.Goals as goal

pub loop-command-init : goal.loop-command-init
loop-command-init c = c.begin-walk.ensures

pub call-requires-clause-place : goal.call-requires-clause-place
call-requires-clause-place c =
    let t = c.loop-command-test.true in
    let few = c.requires.few in
    let p = place_is c.args.script.now c.args.site.now c.args.commands.now c.loop-command.command-index c.loop-command.walk t c.loop-command.invariant in
    omega (arith, p, t, few)

pub call-requires-clause-lock : goal.call-requires-clause-lock
call-requires-clause-lock c =
    passes_here (has_lock_below 64) c.args.commands.now c.loop-command.command-index c.command-item.result c.loop-command-test.true c.command-item.is
    c.requires.locks

pub loop-command-preserved : goal.loop-command-preserved
loop-command-preserved c =
    walk_more (first_frame c.args.script.now c.args.site.now) c.args.commands.now c.loop-command.command-index c.command-item.result c.loop-command.walk
    c.call.new.self (here c.args.commands.now c.loop-command.command-index c.command-item.result c.loop-command-test.true c.command-item.is)
    c.loop-command.invariant c.call.ensures

pub returns : goal.returns
returns c =
    c.loop-command.invariant
    ∙ ap (λ (cs : List Command). walked (first_frame c.args.script.now c.args.site.now) cs)
    (take_all c.loop-command.command-index c.args.commands.now c.loop-command-test.false)
