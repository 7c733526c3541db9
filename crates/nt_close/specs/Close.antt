-- What is left at the close: in a settled run, nothing that a processor which isn't cut had still to do.
use Rattle.std.specs.List.{Contains}
use Rattle.std.specs.Prelude.{Bool, List, None, Some, [], false, nat_lt, true, ℕ, ◌<◌, ◌==◌, ◌≡◌, ◌⊎◌}
use Rattle.nt_event.specs.declared.events.Event.{Event}
use Rattle.nt_event.specs.declared.inserts.Insert.{Insert}
use Rattle.nt_event.specs.declared.inserts.Part.TheVariants.{Ordinary as OrdinaryPart, Threaded as ThreadedPart}
use Rattle.nt_event.specs.declared.numbers.CpuNo.{CpuNo}
use Rattle.nt_event.specs.declared.numbers.ThreadNo.{ThreadNo}
use Rattle.nt_event.specs.declared.scripts.Script.{Script}
use Rattle.nt_event.specs.declared.threads.Doing.{Doing}
use Rattle.nt_event.specs.declared.threads.Doing.TheVariants.{Blocked as IsBlocked, Gone as IsGone}
use Rattle.nt_event.specs.declared.threads.Waiting.{Waiting}
use Rattle.nt_event.specs.Eligible.{Request, eligible}
use Rattle.nt_event.specs.Jobs.{rests, spins_still}
use Rattle.nt_event.specs.Own.{own_of, rested}
use Rattle.nt_event.specs.Queues.{is_in, pending}
use Rattle.nt_event.specs.Regions.{owes_sweep}
use Rattle.nt_event.specs.Requests.{asked, served}
use Rattle.nt_event.specs.Robin.{is_settled}
use Rattle.nt_event.specs.Routines.{cpu_of}
use Rattle.nt_event.specs.Script.{has_thread}
use Rattle.nt_event.specs.Step.{IsRun, is_cut}
use Rattle.nt_event.specs.Threads.{is_ready}
use Rattle.nt_event.specs.Timers.{SetKey, first_due, timers_at}
use Rattle.nt_event.specs.Waits.{facts}
use Rattle.nt_event.specs.Quiet.{IsQuiet}
use Rattle.nt_runs.specs.SomeFrame.{some_frame, holds_lock, spins_lock}
use Rattle.nt_event.specs.declared.numbers.LockNo.{LockNo}

-- the class was asked for on the processor, and no event that served the class there had noticed this yet
abbrev pub IsWanted : Script → CpuNo → ℕ → List Event → Type 0
IsWanted s p c past = served s p c past < asked s p c past

-- the run is settled, and p is a processor of the script that isn't cut
pub record IsClosed (s : Script) (limit : ℕ) (p : CpuNo) (past : List Event) : Type 0 where
  pub run : IsRun s limit past
  pub settled : is_settled s limit past ≡ true
  pub named : nat_lt p.0 s.cpus ≡ true
  pub uncut : is_cut limit (own_of s p past) ≡ false

-- ---- what is still to be done is wanted

-- in a run, while a threaded DPC is pending in the queue of p, class 0, that of threaded DPCs, is wanted there
abbrev pub ThreadedIsWanted : Type 0
ThreadedIsWanted = (s : Script) (limit : ℕ) (p : CpuNo) (x : Insert) (past : List Event) → IsRun s limit past →
    nat_lt p.0 s.cpus ≡ true → Contains (pending s p past) x → is_in ThreadedPart x ≡ true → IsWanted s p 0 past

-- in a run, while p rests with an ordinary DPC pending in its queue, class 2, that of the dispatch interrupt, is wanted
-- there
abbrev pub OrdinaryIsWanted : Type 0
OrdinaryIsWanted = (s : Script) (limit : ℕ) (p : CpuNo) (x : Insert) (past : List Event) → IsRun s limit past →
    nat_lt p.0 s.cpus ≡ true → rested p past ≡ true → Contains (pending s p past) x → is_in OrdinaryPart x ≡ true →
    IsWanted s p 2 past

-- in a run, while p rests with a thread of its own ready, class 2 is wanted there
abbrev pub ReadyIsWanted : Type 0
ReadyIsWanted = (s : Script) (limit : ℕ) (p : CpuNo) (t : ThreadNo) (past : List Event) → IsRun s limit past →
    has_thread s t ≡ true → (cpu_of s t).0 ≡ p.0 → rested p past ≡ true → is_ready (facts s t past) ≡ true →
    IsWanted s p 2 past

-- some processor of the script wants class 13, that of the clock interrupt, or owes a sweep of the timers
pub record IsOwed (s : Script) (past : List Event) : Type 0 where
  pub cpu : CpuNo
  pub named : nat_lt cpu.0 s.cpus ≡ true
  pub why : IsWanted s cpu 13 past ⊎ (owes_sweep cpu past ≡ true)

-- in a run, while a key is due, a sweep is owed or asked for
abbrev pub DueKeyIsOwed : Type 0
DueKeyIsOwed = (s : Script) (limit : ℕ) (k : SetKey) (past : List Event) → IsRun s limit past →
    first_due (timers_at s past) ≡ Some k → IsOwed s past

-- ---- at the close

-- no request may be delivered on the processor
abbrev pub NothingIsEligible : Type 0
NothingIsEligible = (s : Script) (limit : ℕ) (p : CpuNo) (past : List Event) (r : Request) → IsClosed s limit p past →
    eligible s p r past ≡ false

-- where it rests, no DPC is pending in its queue
abbrev pub NoDpcIsLeft : Type 0
NoDpcIsLeft = (s : Script) (limit : ℕ) (p : CpuNo) (past : List Event) → IsClosed s limit p past →
    rests (own_of s p past) ≡ true → pending s p past ≡ []

-- it is neither ready nor running
abbrev pub is_stopped : Doing → Bool
is_stopped (IsBlocked w) = true
is_stopped IsGone = true
is_stopped _ = false

-- where it rests, each of its threads is blocked or gone
abbrev pub NoThreadIsLeft : Type 0
NoThreadIsLeft = (s : Script) (limit : ℕ) (p : CpuNo) (t : ThreadNo) (past : List Event) → IsClosed s limit p past →
    rests (own_of s p past) ≡ true → has_thread s t ≡ true → (cpu_of s t).0 ≡ p.0 →
    is_stopped (facts s t past).doing ≡ true

-- in a run, at the close as at any time, a thread that is blocked in a wait has no kernel APC that is deliverable at
-- the level and in the regions of the wait, and where it is an alertable wait of user mode no user APC
abbrev pub NothingWaitsBehindABlock : Type 0
NothingWaitsBehindABlock = (s : Script) (limit : ℕ) (t : ThreadNo) (w : Waiting) (past : List Event) →
    IsRun s limit past → has_thread s t ≡ true → (facts s t past).doing ≡ IsBlocked w → IsQuiet w (facts s t past).apcs

-- no key is due, where no processor of the script is cut or spins still
abbrev pub NoDueKeyIsLeft : Type 0
NoDueKeyIsLeft = (s : Script) (limit : ℕ) (past : List Event) → IsRun s limit past → is_settled s limit past ≡ true →
    ((p : CpuNo) → nat_lt p.0 s.cpus ≡ true → (is_cut limit (own_of s p past) ≡ false) ×
    (spins_still (own_of s p past) ≡ false)) → first_due (timers_at s past) ≡ None

-- a frame of another processor of the script holds the lock, and that processor is cut or spins still
pub record IsHeldElsewhere (s : Script) (limit : ℕ) (p : CpuNo) (k : LockNo) (past : List Event) : Type 0 where
  pub cpu : CpuNo
  pub named : nat_lt cpu.0 s.cpus ≡ true
  pub other : (cpu.0 == p.0) ≡ false
  pub holds : some_frame (holds_lock k) s cpu past ≡ true
  pub why : (is_cut limit (own_of s cpu past) ≡ true) ⊎ (spins_still (own_of s cpu past) ≡ true)

-- where a frame of it spins on a lock of the script, the lock is held elsewhere
abbrev pub SpunLocksAreHeldElsewhere : Type 0
SpunLocksAreHeldElsewhere =
    (s : Script) (limit : ℕ) (p : CpuNo) (k : LockNo) (past : List Event) → IsClosed s limit p past → k.0 < s.locks →
    some_frame (spins_lock k) s p past ≡ true →
    IsHeldElsewhere s limit p k past
