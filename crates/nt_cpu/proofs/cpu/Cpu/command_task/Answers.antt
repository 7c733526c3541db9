use Rattle.std.proofs.Common.{ap, sym, ◌∙◌}
use Rattle.std.specs.Prelude.{Some, ◌≡◌}
use Rattle.nt_event.specs.Routines.{next_command}
use Rattle.nt_cpu.specs.States.{CpuState}
use Rattle.nt_cpu.proofs.cpu.Cpu.command_task.Goals as goal

pub returns-in-Some-clause-task : goal.returns-in-Some-clause-task
returns-in-Some-clause-task c =
    let s : CpuState = c.args.self.now in
    let f = c.args.frame.now in
    let next : next_command s.script s.cpu f ≡ Some c.in-Some.command = sym c.next_command.ensures ∙ c.in-Some.is in
    rw next (ap Some c.call_in.ensures.task)
