use Rattle.std.proofs.Common.{◌≡◌, List, ap, arith, length, sym, ℕ, ◌∙◌}
use Rattle.std.specs.List.{list_all}
use Rattle.nt_event.specs.Lists.{table}
use Rattle.nt_event.specs.declared.commands.Command.{Command}
use Rattle.nt_verify.proofs.Lists.{none_passes, table_fails, table_passes}
use Rattle.nt_verify.proofs.Loops.{few_places, here, low_lock_here, rises_here, stands, walk_more}
use Rattle.nt_verify.specs.Findings.{rises_at}
use Rattle.nt_verify.specs.Sites.{commands_at, first_frame}
use Rattle.nt_verify.proofs.order.is_ordered.Goals as goal

pub loop-command-init : goal.loop-command-init
loop-command-init c =
    record { commands = c.commands-commands.ensures; walk = c.begin-walk.ensures; passed = none_passes (rises_at c.args.script.now c.args.site.now) (λ k. k) }

pub call-requires-clause-place : goal.call-requires-clause-place
call-requires-clause-place c =
    few_places c.args.script.now c.args.site.now c.commands-commands.result.now c.loop-command.command-index c.loop-command.walk c.requires
    c.loop-command.invariant.commands c.loop-command-test.true c.loop-command.invariant.walk

pub call-requires-clause-lock : goal.call-requires-clause-lock
call-requires-clause-lock c =
    low_lock_here c.args.script.now c.args.site.now c.commands-commands.result.now c.loop-command.command-index c.command-item.result c.requires
    c.loop-command.invariant.commands c.loop-command-test.true c.command-item.is

pub returns-then-not-rises : goal.returns-then-not-rises
returns-then-not-rises c =
    let at = stands c.args.script.now c.args.site.now c.commands-commands.result.now c.loop-command.command-index c.command-item.result c.loop-command.walk
    c.loop-command.invariant.commands c.loop-command-test.true c.command-item.is c.loop-command.invariant.walk in
    let no = rises_here c.args.script.now c.args.site.now c.commands-commands.result.now c.loop-command.command-index c.command-item.result c.loop-command.walk
    at ∙ (sym c.rises.ensures ∙ c.if-not-rises.true) in
    let e = ap (λ (cs : List Command). length cs) c.loop-command.invariant.commands in
    let t = c.loop-command-test.true in
    sym (table_fails (rises_at c.args.script.now c.args.site.now) (length (commands_at c.args.script.now c.args.site.now)) c.loop-command.command-index (λ k. k)
    (omega (arith, e, t)) no)

pub loop-command-preserved : goal.loop-command-preserved
loop-command-preserved c =
    let at = stands c.args.script.now c.args.site.now c.commands-commands.result.now c.loop-command.command-index c.command-item.result c.loop-command.walk
    c.loop-command.invariant.commands c.loop-command-test.true c.command-item.is c.loop-command.invariant.walk in
    record {
      commands = c.loop-command.invariant.commands;
      walk = walk_more (first_frame c.args.script.now c.args.site.now) c.commands-commands.result.now c.loop-command.command-index c.command-item.result
          c.loop-command.walk c.call.new.self
          (here c.commands-commands.result.now c.loop-command.command-index c.command-item.result c.loop-command-test.true c.command-item.is)
          c.loop-command.invariant.walk c.call.ensures;
      passed = table_passes (rises_at c.args.script.now c.args.site.now) c.loop-command.command-index (λ k. k) c.loop-command.invariant.passed
          (rises_here c.args.script.now c.args.site.now c.commands-commands.result.now c.loop-command.command-index c.command-item.result c.loop-command.walk
          at ∙ (sym c.rises.ensures ∙ c.if-not-rises.false));
    }

pub returns : goal.returns
returns c =
    let e = ap (λ (cs : List Command). length cs) c.loop-command.invariant.commands in
    let t = c.loop-command-test.false in
    let u = c.loop-command.auto.command-index-end in
    let n : length (commands_at c.args.script.now c.args.site.now) ≡ c.loop-command.command-index = omega (arith, e, t, u) in
    sym (ap (λ (n : ℕ). list_all (rises_at c.args.script.now c.args.site.now) (table n (λ k. k))) n ∙ c.loop-command.invariant.passed)
