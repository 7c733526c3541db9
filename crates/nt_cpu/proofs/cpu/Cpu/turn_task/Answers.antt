use Rattle.nt_cpu.proofs.cpu.Cpu.turn_task.Goals as goal

pub returns-in-Switch-clause-task : goal.returns-in-Switch-clause-task
returns-in-Switch-clause-task c =
    rw (c.in-Switch.is) (c.switch_task.ensures.task c.args.event.now)

pub returns-in-Switch-clause-written : goal.returns-in-Switch-clause-written
returns-in-Switch-clause-written c = c.switch_task.ensures.unwritten c.args.event.now
