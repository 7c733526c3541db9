use Rattle.std.proofs.Common.{ap, ◌∙◌}
use Rattle.std.specs.Prelude.{refl}
use Rattle.nt_event.specs.Jobs.{chosen_task}
use Rattle.nt_event.specs.Step.{is_cut}
use Rattle.nt_cpu.specs.States.{CpuState}
use Rattle.nt_cpu.proofs.StepsMade.{needed_job}
use Rattle.machine_table.proofs.Fresh.{fresh_serves}
use Rattle.machine_table.proofs.stepping.by_steps.Goals as goal

pub step_local-requires : goal.step_local-requires
step_local-requires c =
    record { serves = fresh_serves c.args.input.now.script c.args.limit _ _ c.requires.limit.0 c.requires.cpus c.in_ok-cpu.ensures c.in_ok-floor.ensures }

pub step_lane-requires-clause-uncut : goal.step_lane-requires-clause-uncut
step_lane-requires-clause-uncut c =
    let s : CpuState = c.in_ok-cpu.cpu in
    let m = c.in-NeedsLane.ensures.step in
    ap (λ (x : CpuState). is_cut x.limit x.own) m.2.left.0 ∙ (needed_job s m.0 c.in-NeedsLane.job m.2.answer).0

pub step_lane-requires-clause-job : goal.step_lane-requires-clause-job
step_lane-requires-clause-job c =
    let s : CpuState = c.in_ok-cpu.cpu in
    let m = c.in-NeedsLane.ensures.step in
    ap (λ (x : CpuState). chosen_task x.script x.cpu x.own) m.2.left.0 ∙ (needed_job s m.0 c.in-NeedsLane.job m.2.answer).1

pub step_lane-requires-clause-serves : goal.step_lane-requires-clause-serves
step_lane-requires-clause-serves c = c.in-NeedsLane.ensures.lane c.in-NeedsLane.job refl
