-- What holds of a task that a processor has to do.
use Rattle.std.specs.Prelude.{None, Some, is_some, true, false, ◌≡◌}
use Rattle.nt_event.specs.declared.commands.Command.{Command}
use Rattle.nt_event.specs.declared.commands.Command.TheVariants.{ToUser}
use Rattle.nt_event.specs.Frame.{Frame}
use Rattle.nt_event.specs.declared.jobs.Job.{Job}
use Rattle.nt_event.specs.declared.jobs.Job.TheVariants.{Apcs as ApcsJob, Call as CallJob, Drain as DrainJob}
use Rattle.nt_event.specs.declared.jobs.Job.TheVariants.{Fire as FireJob, Free as FreeJob, Idle as IdleJob}
use Rattle.nt_event.specs.declared.jobs.Job.TheVariants.{Leave as LeaveJob, Pick as PickJob, Rewait as RewaitJob}
use Rattle.nt_event.specs.declared.jobs.Job.TheVariants.{Rundown as RundownJob, Switch as SwitchJob}
use Rattle.nt_event.specs.declared.jobs.Job.TheVariants.{Threaded as ThreadedJob, ToUser as ToUserJob}
use Rattle.nt_event.specs.declared.jobs.Job.TheVariants.{UserEnd as UserEndJob}
use Rattle.nt_event.specs.declared.jobs.Task.{Task}
use Rattle.nt_event.specs.declared.jobs.Task.TheVariants.{Alone, Shared}
use Rattle.nt_event.specs.declared.numbers.LockNo.{LockNo}
use Rattle.nt_event.specs.Frames.{innermost}
use Rattle.nt_event.specs.Jobs.{may_apcs, may_drain, may_switch, may_threaded}
use Rattle.nt_event.specs.Script.{command_fits, has_dpc, has_lock, has_thread}
use Rattle.nt_frame.specs.Rules.{is_leaving, refusal_in}
use Rattle.nt_cpu.specs.Alone.{MayBe}
use Rattle.nt_cpu.specs.States.{CpuState}

-- the innermost frame calls this command, which isn't refused
pub record Calls (c : CpuState) (k : Command) : Type 0 where
  pub frame : Frame
  pub is : innermost c.own.frames ≡ Some frame
  pub accepted : refusal_in k c.own.frames ≡ None
  pub fits : command_fits c.script k ≡ true

-- the innermost frame is not that of a leaving thread
pub record Runs (c : CpuState) : Type 0 where
  pub frame : Frame
  pub is : innermost c.own.frames ≡ Some frame
  pub leaving : frame.leaving ≡ false

-- the innermost frame has a wait to take up
pub record Awaits (c : CpuState) : Type 0 where
  pub frame : Frame
  pub is : innermost c.own.frames ≡ Some frame
  pub again : is_some frame.again ≡ true

-- the innermost frame holds this lock of the script
pub record Frees (c : CpuState) (k : LockNo) : Type 0 where
  pub frame : Frame
  pub is : innermost c.own.frames ≡ Some frame
  pub fits : has_lock c.script k ≡ true

abbrev pub GoodJob : CpuState → Job → Type 0
GoodJob c (CallJob k) = Calls c k
GoodJob c (FireJob d) = has_dpc c.script d ≡ true
GoodJob c (FreeJob k) = Frees c k
GoodJob c DrainJob = may_drain c.own ≡ true
GoodJob c ApcsJob = may_apcs c.own ≡ true
GoodJob c ThreadedJob = may_threaded c.own ≡ true
GoodJob c IdleJob = innermost c.own.frames ≡ None
GoodJob c (PickJob last) = may_switch c.own ≡ true
GoodJob c (SwitchJob t) = (may_switch c.own ≡ true) × (has_thread c.script t ≡ true)
GoodJob c RewaitJob = Awaits c
GoodJob c ToUserJob = Calls c ToUser
GoodJob c UserEndJob = Runs c
GoodJob c LeaveJob = Runs c
GoodJob c RundownJob = is_leaving c.own.frames ≡ true

abbrev pub GoodTask : CpuState → Task → Type 0
GoodTask c (Alone w) = MayBe c w
GoodTask c (Shared job) = GoodJob c job
