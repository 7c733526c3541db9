use Rattle.std.proofs.Common.{ap}
use Rattle.std.specs.Prelude.{Err, Result}
use Rattle.nt_event.specs.declared.jobs.Task.TheVariants.{Shared}
use Rattle.nt_event.specs.Jobs.{chosen_task}
use Rattle.nt_event.specs.Own.{stand_in}
use Rattle.nt_event.proofs.Options.{holds_at}
use Rattle.nt_event.specs.declared.acts.ActRefusal.{ActRefusal}
use Rattle.nt_cpu.specs.GoodTasks.{GoodTask}
use Rattle.nt_cpu.specs.States.{CpuState}
use Rattle.nt_cpu.proofs.NeverIdle.{chosen_due, chosen_good, never_refused, refused_memory}
use Rattle.nt_cpu.proofs.cpu.Cpu.step_lane.Goals as goal

pub make_shared-requires-clause-due : goal.make_shared-requires-clause-due
make_shared-requires-clause-due g c = chosen_due c.args.self.now c.args.job c.requires.job

pub make_shared-requires-clause-good : goal.make_shared-requires-clause-good
make_shared-requires-clause-good g c =
    let s : CpuState = c.args.self.now in
    holds_at (GoodTask s) (chosen_task s.script s.cpu s.own) (Shared c.args.job) (chosen_good s c.sound.ensures) c.requires.job

pub returns-in-Err-clause-memory : goal.returns-in-Err-clause-memory
returns-in-Err-clause-memory g c =
    let s : CpuState = c.args.self.now in
    let e = c.in-Err.ensures.err in
    let m = c.in-Err.ensures.memory in
    let err : ActRefusal → Result (Unit {0}) ActRefusal = (λ r. Err r) in
    λ a q. m a (ap err (refused_memory s.script e.0 (stand_in s.cpu s.own) c.args.job c.in-Err.field-0
    (never_refused s c.args.job c.sound.ensures c.requires.job) e.2.1))
