-- Jobs under lanes: the whole event that a job makes, by where its processor stands and the states of the lanes alone,
-- and what holds of a processor and a job in a run.
use Rattle.std.specs.Prelude.{Bool, IfSome, IsSome, IsTrue, Some, false, if◌then◌else◌, length, true, ℕ, ◌<◌, ◌≡◌, ◌≤◌}
use Rattle.std.specs.Prelude.{◌⊎◌}
use Rattle.nt_event.specs.declared.commands.Command.{Command}
use Rattle.nt_event.specs.declared.events.Begun.TheVariants as begun
use Rattle.nt_event.specs.declared.events.Event.{Event}
use Rattle.nt_event.specs.declared.events.What.{What}
use Rattle.nt_event.specs.declared.events.What.TheVariants as what
use Rattle.nt_event.specs.declared.jobs.Job.{Job}
use Rattle.nt_event.specs.declared.jobs.Job.TheVariants as jobs
use Rattle.nt_event.specs.declared.jobs.Stand.{Stand}
use Rattle.nt_event.specs.declared.jobs.Task.TheVariants.{Shared}
use Rattle.nt_event.specs.declared.numbers.CpuNo.{CpuNo}
use Rattle.nt_event.specs.declared.numbers.ThreadNo.{ThreadNo}
use Rattle.nt_event.specs.declared.scripts.Script.{Script}
use Rattle.nt_event.specs.declared.threads.Doing.TheVariants.{Running as IsRunning}
use Rattle.nt_event.specs.Calls.{stops}
use Rattle.nt_event.specs.Commands.{needs_lane}
use Rattle.nt_event.specs.Jobs.{may_switch, task}
use Rattle.nt_event.specs.Lanes.{Lanes, facts_at}
use Rattle.nt_event.specs.Locks.{Frees, Gets, LockMove, NoMove, Spins, call_move}
use Rattle.nt_event.specs.Own.{Own}
use Rattle.nt_event.specs.Routines.{cpu_of}
use Rattle.nt_event.specs.Step.{thread_field}
use Rattle.nt_event.specs.Threads.{doing_level}
use Rattle.nt_event.specs.Replies.{is_blocked}
use Rattle.nt_event.specs.Families.{DelaysIn, GivesWay, OwnCall, TestsAlert, WaitsIn, by_own_call}

-- ---- the event

-- the level after a call that moves a lock, else this one
abbrev pub move_level : Stand → LockMove → ℕ → ℕ
move_level st (Gets k) level = 2
move_level st (Spins k) level = 2
move_level st (Frees k) level = st.after
move_level st NoMove level = level

-- the level after an event that touches lanes, or is one of those that a job may give
abbrev pub acted_level : Stand → Lanes → What → ℕ
acted_level st l (what.Call f c y) = move_level st (call_move c y) (if stops c y then 0 else st.level)
acted_level st l (what.Begin (begun.Int level) from) = level
acted_level st l (what.Begin (begun.Dpc d) from) = 2
acted_level st l (what.Begin (begun.Threaded d) from) = 0
acted_level st l (what.Begin (begun.Apc a) from) = 1
acted_level st l (what.Switch t status) = doing_level (facts_at l t).doing
acted_level st l (what.Rewait f y) = if is_blocked y then 0 else st.level
acted_level st l (what.End f) = st.ended_level
acted_level st l (what.Flush a from) = 0
acted_level st l (what.Gone t) = 0
acted_level st l (what.Look r) = st.level
acted_level st l (what.Normal f) = st.level
acted_level st l (what.Expire key from) = st.level
acted_level st l (what.Fire d y) = st.level
acted_level st l (what.Clean class) = st.level
acted_level st l (what.Free f k) = st.after
acted_level st l what.Rest = st.level

-- the event of a processor that stands so
abbrev pub acted_event : Stand → Lanes → What → Event
acted_event st l w = record { cpu = st.cpu; thread = thread_field w st.thread; level = acted_level st l w; what = w }

-- ---- what holds of a processor in a run

-- the thread that runs on a processor is one of its own, and its facts say that it runs
pub record RunsThere (s : Script) (l : Lanes) (st : Stand) (t : ThreadNo) : Type 0 where
  pub named : t.0 < length s.threads
  pub own : cpu_of s t ≡ st.cpu
  pub runs : (facts_at l t).doing ≡ IsRunning

abbrev pub StandHolds : Script → Lanes → Stand → Type 0
StandHolds s l st = IfSome st.thread (λ t. RunsThere s l st t)

-- ---- what holds of a job that is to be done

-- a thread runs, at a level of at most n
pub record InThread (n : ℕ) (st : Stand) : Type 0 where
  pub thread : IsSome st.thread
  pub level : st.level ≤ n

-- a thread runs whose base routine has ended
pub record EndsThread (l : Lanes) (st : Stand) : Type 0 where
  pub thread : IsSome st.thread
  pub leaves : IfSome st.thread (λ t. (facts_at l t).leaving ≡ true)

pub record TakesUp (st : Stand) : Type 0 where
  pub thread : IsSome st.thread
  pub level : st.level ≤ 1
  pub wait : IsSome st.again

abbrev pub OwnIsCallable : Stand → OwnCall → Type 0
OwnIsCallable st (WaitsIn m a) = InThread 1 st
OwnIsCallable st (DelaysIn m a units) = InThread 1 st
OwnIsCallable st (TestsAlert m) = InThread 2 st
OwnIsCallable st GivesWay = InThread 1 st

-- a command that is called under lanes: a wait, a delay, a test of an alert or a yield is called in a thread
abbrev pub IsCallable : Stand → Command → Type 0
IsCallable st c = by_own_call (λ k. OwnIsCallable st k) (Unit {0}) c

abbrev pub IsAllowed : Lanes → Stand → Job → Type 0
IsAllowed l st (jobs.Call c) = IsTrue (needs_lane c) × IsCallable st c
IsAllowed l st jobs.Apcs = InThread 0 st
IsAllowed l st jobs.Rewait = TakesUp st
IsAllowed l st jobs.ToUser = InThread 0 st
IsAllowed l st jobs.UserEnd = IsSome st.thread
IsAllowed l st jobs.Leave = IsSome st.thread
IsAllowed l st jobs.Rundown = EndsThread l st
IsAllowed l st (jobs.Fire d) = Unit {0}
IsAllowed l st (jobs.Free k) = Unit {0}
IsAllowed l st jobs.Drain = Unit {0}
IsAllowed l st jobs.Threaded = Unit {0}
IsAllowed l st jobs.Idle = Unit {0}
IsAllowed l st (jobs.Pick last) = Unit {0}
IsAllowed l st (jobs.Switch t) = Unit {0}

-- the choice of a thread
abbrev pub is_choice : Job → Bool
is_choice (jobs.Switch t) = true
is_choice (jobs.Pick last) = true
is_choice (jobs.Call c) = false
is_choice (jobs.Fire d) = false
is_choice (jobs.Free k) = false
is_choice jobs.Drain = false
is_choice jobs.Apcs = false
is_choice jobs.Threaded = false
is_choice jobs.Idle = false
is_choice jobs.Rewait = false
is_choice jobs.ToUser = false
is_choice jobs.UserEnd = false
is_choice jobs.Leave = false
is_choice jobs.Rundown = false

-- the job is what the processor has to do next, or a choice of a thread where one may be made
abbrev pub IsDue : Script → CpuNo → Own → Job → Type 0
IsDue s p x job = (task s p x ≡ Some (Shared job)) ⊎ ((is_choice job ≡ true) × (may_switch x ≡ true))
