use Rattle.std.proofs.Common.{ap, ◌∙◌}
use Rattle.std.specs.Prelude.{Bool, Option, ℕ, not}
use Rattle.nt_event.specs.declared.commands.Refusal.{Refusal}
use Rattle.nt_event.specs.Commands.{refusal}
use Rattle.nt_event.specs.Frames.{thread_part}
use Rattle.nt_event.specs.Jobs.{call_task}
use Rattle.nt_event.specs.Lists.{is_null}
use Rattle.nt_event.specs.Regions.{regions_of}
use Rattle.nt_cpu.specs.States.{CpuState}
use Rattle.nt_cpu.proofs.cpu.Cpu.call_in.Goals as goal

pub returns-clause-task : goal.returns-clause-task
returns-clause-task c =
    let f = c.args.frame.now in
    let k = c.args.command.now in
    let regions = regions_of (thread_part c.self.inside.frames) in
    let refused = c.refusal-refused.ensures
    ∙ (ap (λ (n : ℕ). refusal n c.has_own.result c.regions_for-regions.result f k) c.level.ensures
    ∙ (c.regions_for-regions.ensures f.level c.has_own.result f
    ∙ (ap (λ (b : Bool). refusal f.level b regions f k) c.has_own.ensures
    ∙ (ap (λ (y : CpuState). refusal f.level (not (is_null y.own.frames.own)) (regions_of (thread_part y.own.frames)) f k) c.self.view_is
    ∙ ap (λ (n : ℕ). refusal n (not (is_null c.args.self.now.own.frames.own)) (regions_of (thread_part c.args.self.now.own.frames)) f k) c.requires)))) in
    c.call_task.ensures.task ∙ ap (λ (r : Option Refusal). call_task f k r) refused
