use Rattle.std.proofs.Common.{◌≡◌, List, ap, arith, length, sym, ℕ, ◌++◌, ◌∙◌}
use Rattle.std.specs.List.{filter_map}
use Rattle.nt_event.specs.declared.commands.Command.{Command}
use Rattle.nt_event.specs.Lists.{table}
use Rattle.nt_verify.proofs.Lists.{append_nil, picked_none}
use Rattle.nt_verify.proofs.Loops.{few_places, found_more, here, low_lock_here, stands, walk_more}
use Rattle.nt_verify.specs.declared.finding.Finding.{Finding}
use Rattle.nt_verify.specs.Findings.{finding_at}
use Rattle.nt_verify.specs.Sites.{commands_at, first_frame}
use Rattle.nt_verify.proofs.finding.add_findings.Goals as goal

pub loop-command-init : goal.loop-command-init
loop-command-init c =
    record {
      commands = c.commands-commands.ensures;
      walk = c.begin-walk.ensures;
      found = sym (ap (λ (fs : List Finding). c.args.found.now.items ++ fs) (picked_none (finding_at c.args.script.now c.args.site.now) (λ k. k))
          ∙ append_nil c.args.found.now.items);
    }

pub call-requires-clause-place : goal.call-requires-clause-place
call-requires-clause-place c =
    few_places c.args.script.now c.args.site.now c.commands-commands.result.now c.loop-command.command-index c.loop-command.walk c.requires
    c.loop-command.invariant.commands c.loop-command-test.true c.loop-command.invariant.walk

pub call-requires-clause-lock : goal.call-requires-clause-lock
call-requires-clause-lock c =
    low_lock_here c.args.script.now c.args.site.now c.commands-commands.result.now c.loop-command.command-index c.command-item.result c.requires
    c.loop-command.invariant.commands c.loop-command-test.true c.command-item.is

pub loop-command-preserved : goal.loop-command-preserved
loop-command-preserved c =
    let at = stands c.args.script.now c.args.site.now c.commands-commands.result.now c.loop-command.command-index c.command-item.result c.loop-command.walk
    c.loop-command.invariant.commands c.loop-command-test.true c.command-item.is c.loop-command.invariant.walk in
    record {
      commands = c.loop-command.invariant.commands;
      walk = walk_more (first_frame c.args.script.now c.args.site.now) c.commands-commands.result.now c.loop-command.command-index c.command-item.result
          c.loop-command.walk c.call.new.self
          (here c.commands-commands.result.now c.loop-command.command-index c.command-item.result c.loop-command-test.true c.command-item.is)
          c.loop-command.invariant.walk c.call.ensures;
      found = found_more c.args.script.now c.args.site.now c.commands-commands.result.now c.loop-command.command-index c.command-item.result
          c.loop-command.walk c.args.found.now.items _ _ at c.loop-command.invariant.found c.in_ok-add_if_refused.ensures;
    }

pub returns : goal.returns
returns c =
    let e = ap (λ (cs : List Command). length cs) c.loop-command.invariant.commands in
    let t = c.loop-command-test.false in
    let u = c.loop-command.auto.command-index-end in
    let n : c.loop-command.command-index ≡ length (commands_at c.args.script.now c.args.site.now) = omega (arith, e, t, u) in
    c.loop-command.invariant.found
    ∙ ap (λ (n : ℕ). c.args.found.now.items ++ filter_map (finding_at c.args.script.now c.args.site.now) (table n (λ k. k))) n
