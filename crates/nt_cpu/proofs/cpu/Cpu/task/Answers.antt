use Rattle.std.proofs.Common.{ap, subst, sym, ◌∙◌}
use Rattle.std.specs.Prelude.{None, Some, false, true, ◌≡◌}
use Rattle.nt_event.specs.declared.events.Event.{Event}
use Rattle.nt_event.specs.Frames.{innermost}
use Rattle.nt_event.specs.Jobs.{must_task}
use Rattle.nt_cpu.specs.Plans.{IsWritten}
use Rattle.nt_cpu.specs.States.{CpuState}
use Rattle.nt_cpu.proofs.DueTasks.{none_of, task_of_frame, task_of_none, task_of_waiting, waits_here}
use Rattle.nt_cpu.proofs.Planned.{planned_none, unwritten_none}
use Rattle.nt_cpu.proofs.cpu.Cpu.task.Goals as goal

pub returns-then-waits_in-clause-task : goal.returns-then-waits_in-clause-task
returns-then-waits_in-clause-task c =
    let s : CpuState = c.args.self.now in
    let f = c.in-Some.frame.now in
    let nothing = none_of c.must_task-must.result (sym c.is_some.ensures ∙ c.if-is_some.false) in
    let must : must_task s.own ≡ None = sym c.must_task-must.ensures.task
    ∙ planned_none c.must_task-must.new.event c.must_task-must.result nothing in
    let top : innermost s.own.frames ≡ Some f = sym (c.in-Some.ensures.value ∙ ap (λ (x : CpuState). innermost x.own.frames) c.self.view_is) in
    sym (task_of_waiting s.script s.cpu s.own must (waits_here s.own f true top (sym c.waits_in.ensures ∙ c.if-waits_in.true)))

pub returns-then-waits_in-clause-written : goal.returns-then-waits_in-clause-written
returns-then-waits_in-clause-written c =
    let s : CpuState = c.args.self.now in
    let nothing = none_of c.must_task-must.result (sym c.is_some.ensures ∙ c.if-is_some.false) in
    unwritten_none s c.args.event.now c.must_task-must.new.event c.must_task-must.result c.must_task-must.ensures.written nothing

pub returns-else-waits_in-clause-task : goal.returns-else-waits_in-clause-task
returns-else-waits_in-clause-task c =
    let s : CpuState = c.args.self.now in
    let f = c.in-Some.frame.now in
    let nothing = none_of c.must_task-must.result (sym c.is_some.ensures ∙ c.if-is_some.false) in
    let must : must_task s.own ≡ None = sym c.must_task-must.ensures.task
    ∙ planned_none c.must_task-must.new.event c.must_task-must.result nothing in
    let top : innermost s.own.frames ≡ Some f = sym (c.in-Some.ensures.value ∙ ap (λ (x : CpuState). innermost x.own.frames) c.self.view_is) in
    let waits = waits_here s.own f false top (sym c.waits_in.ensures ∙ c.if-waits_in.false) in
    c.frame_task.ensures.task ∙ sym (task_of_frame s.script s.cpu s.own f must waits top)

pub returns-in-None-clause-task : goal.returns-in-None-clause-task
returns-in-None-clause-task c =
    let s : CpuState = c.args.self.now in
    let e = c.must_task-must.new.event in
    let nothing = none_of c.must_task-must.result (sym c.is_some.ensures ∙ c.if-is_some.false) in
    let must : must_task s.own ≡ None = sym c.must_task-must.ensures.task ∙ planned_none e c.must_task-must.result nothing in
    let top : innermost s.own.frames ≡ None = sym (c.in-None.ensures.value ∙ ap (λ (x : CpuState). innermost x.own.frames) c.self.view_is) in
    c.idle_task.ensures.task e ∙ sym (task_of_none s.script s.cpu s.own must top)

pub returns-in-None-clause-written : goal.returns-in-None-clause-written
returns-in-None-clause-written c =
    let s : CpuState = c.args.self.now in
    let e = c.must_task-must.new.event in
    let nothing = none_of c.must_task-must.result (sym c.is_some.ensures ∙ c.if-is_some.false) in
    let same = unwritten_none s c.args.event.now e c.must_task-must.result c.must_task-must.ensures.written nothing in
    subst (λ (old : Event). IsWritten s old e c.idle_task.result) same (c.idle_task.ensures.unwritten e)
