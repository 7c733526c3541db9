-- The lanes that are read before an event is made, and when they are held.
use Rattle.std.specs.Prelude.{List, [], is_some, option_and_then, ◌∷◌}
use Rattle.nt_event.specs.declared.commands.Command.{Command}
use Rattle.nt_event.specs.declared.events.What.{What}
use Rattle.nt_event.specs.declared.jobs.Job.{Job}
use Rattle.nt_event.specs.declared.jobs.Job.TheVariants as job
use Rattle.nt_event.specs.declared.jobs.Lane.{Lane}
use Rattle.nt_event.specs.declared.jobs.Lane.TheVariants.{Lock as LockLane, Object as ObjectLane, Queue as QueueLane}
use Rattle.nt_event.specs.declared.jobs.Lane.TheVariants.{Threads as ThreadsLane, Timers as TimersLane}
use Rattle.nt_event.specs.declared.jobs.Stand.{Stand}
use Rattle.nt_event.specs.declared.numbers.CpuNo.{CpuNo}
use Rattle.nt_event.specs.declared.scripts.Script.{Script}
use Rattle.nt_event.specs.Lanes.{lane_if}
use Rattle.nt_event.specs.Routines.{cpu_of, owner_of}
use Rattle.nt_event.specs.Families.{AcquireLock, DelaysIn, DpcCall, Family, ForApc, ForDpc, ForLevel, ForLock, ForOwn}
use Rattle.nt_event.specs.Families.{ForPlain, ForRegion, ForThread, ForTimer, GiveImportance, GiveTarget, GivesWay}
use Rattle.nt_event.specs.Families.{InsertDpc, LockCall, OwnCall, RemoveDpc, TestsAlert, UnlockLock, WaitsIn, apc_named}
use Rattle.nt_event.specs.Families.{by_dpc_call, family, in_call, in_fire, thread_named}

-- each of these lanes is held
abbrev pub AreHeld : (Lane → Type 0) → List Lane → Type 0
AreHeld held [] = Unit {0}
AreHeld held (x ∷ xs) = held x × AreHeld held xs

-- the lane of some processor's threads is held
pub record HoldsThreads (held : Lane → Type 0) : Type 0 where
  pub cpu : CpuNo
  pub lane : held (ThreadsLane cpu)

-- where the object stands tells what an insert or a removal replies
abbrev pub dpc_reads : DpcCall → List Lane
dpc_reads (InsertDpc d) = ObjectLane d ∷ []
dpc_reads (RemoveDpc d) = ObjectLane d ∷ []
dpc_reads (GiveImportance d i) = []
dpc_reads (GiveTarget d q) = []

abbrev pub own_reads : CpuNo → OwnCall → List Lane
own_reads p (WaitsIn m a) = ThreadsLane p ∷ []
own_reads p (DelaysIn m a units) = ThreadsLane p ∷ TimersLane ∷ []
own_reads p (TestsAlert m) = ThreadsLane p ∷ []
own_reads p GivesWay = []

abbrev pub lock_reads : LockCall → List Lane
lock_reads (AcquireLock k) = LockLane k ∷ []
lock_reads (UnlockLock k) = []

abbrev pub family_reads : Script → CpuNo → Family → List Lane
family_reads s p (ForDpc k) = dpc_reads k
family_reads s p (ForTimer k) = TimersLane ∷ []
family_reads s p (ForApc k) = ThreadsLane (cpu_of s (owner_of s (apc_named k))) ∷ []
family_reads s p (ForOwn k) = own_reads p k
family_reads s p (ForThread k) = ThreadsLane (cpu_of s (thread_named k)) ∷ []
family_reads s p (ForLock k) = lock_reads k
family_reads s p (ForLevel k) = []
family_reads s p (ForRegion k) = []
family_reads s p (ForPlain k) = []

-- the lanes that are read to find what a command of a routine on p replies
abbrev pub reply_lanes : Script → CpuNo → Command → List Lane
reply_lanes s p c = family_reads s p (family c)

-- the lanes that are read to find the event of a job: the first DPC of a queue and the first due key are found before
-- it is known
-- which object or thread they name
abbrev pub job_lanes : Script → Stand → Job → List Lane
job_lanes s st (job.Call c) = reply_lanes s st.cpu c
job_lanes s st (job.Fire d) = ObjectLane d ∷ []
job_lanes s st (job.Free k) = []
job_lanes s st job.Drain = QueueLane st.cpu ∷ lane_if st.sweep TimersLane
job_lanes s st job.Apcs = ThreadsLane st.cpu ∷ []
job_lanes s st job.Threaded = QueueLane st.cpu ∷ []
job_lanes s st job.Idle = QueueLane st.cpu ∷ ThreadsLane st.cpu ∷ []
job_lanes s st (job.Pick last) = QueueLane st.cpu ∷ ThreadsLane st.cpu ∷ []
job_lanes s st (job.Switch t) = ThreadsLane st.cpu ∷ []
job_lanes s st job.Rewait =
    ThreadsLane st.cpu ∷ lane_if (is_some (option_and_then (λ w. w.due) st.again)) TimersLane
job_lanes s st job.ToUser = ThreadsLane st.cpu ∷ []
job_lanes s st job.UserEnd = []
job_lanes s st job.Leave = []
job_lanes s st job.Rundown = ThreadsLane st.cpu ∷ []

-- the lanes that are read to find which lanes an event touches: the object, which says where an insert goes and where
-- it stands
abbrev pub found_lanes : What → List Lane
found_lanes w = in_call (λ f c y. by_dpc_call (λ k. dpc_reads k) [] c) (in_fire (λ d y. ObjectLane d ∷ []) [] w) w
