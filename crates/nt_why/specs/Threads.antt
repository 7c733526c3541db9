-- Why a thread doesn't run: what each reason says of it, and when the reasons are complete.
use Rattle.std.specs.List.{list_any}
use Rattle.std.specs.Prelude.{Bool, Err, List, None, Ok, Option, Result, Some, false, is_some, reverse, true, ℕ, ◌<◌}
use Rattle.std.specs.Prelude.{◌==◌, ◌≡◌, ◌≤◌}
use Rattle.nt_event.specs.declared.events.Event.{Event}
use Rattle.nt_event.specs.declared.events.ScheduleKind.{ScheduleKind}
use Rattle.nt_event.specs.declared.events.ScheduleKind.TheVariants.{NoSuchCpu}
use Rattle.nt_event.specs.declared.events.Turn.TheVariants.{Switch as SwitchTurn}
use Rattle.nt_event.specs.declared.numbers.CpuNo.{CpuNo}
use Rattle.nt_event.specs.declared.numbers.ThreadNo.{ThreadNo}
use Rattle.nt_event.specs.declared.scripts.Script.{Script}
use Rattle.nt_event.specs.Jobs.{must, next_ready}
use Rattle.nt_event.specs.Lanes.{facts_at, lanes_at}
use Rattle.nt_event.specs.Lists.{head_of, is_null}
use Rattle.nt_event.specs.Numbers.{is_thread}
use Rattle.nt_event.specs.Own.{own_of}
use Rattle.nt_event.specs.Routines.{cpu_of}
use Rattle.nt_event.specs.Step.{is_cut, step}
use Rattle.nt_event.specs.Threads.{is_ready}
use Rattle.nt_why.specs.Past.{past_at}
use Rattle.nt_why.specs.declared.reasons.Away.{Away}
use Rattle.nt_why.specs.declared.reasons.Reason.{Reason}
use Rattle.nt_why.specs.declared.reasons.Reason.TheVariants.{ExpiresFirst, IsDue, IsSet, NoSweep, NotDue, NotSet}
use Rattle.nt_why.specs.declared.reasons.Reason.TheVariants.{OwesSweep}
use Rattle.nt_why.specs.declared.reasons.Reason.TheVariants.{AskedNothing, Behind, Cut, Ended, First, InRegions}
use Rattle.nt_why.specs.declared.reasons.Reason.TheVariants.{MustFirst, NeverInserted, Next, NoNext, NotAsked}
use Rattle.nt_why.specs.declared.reasons.Reason.TheVariants.{NotRunning, NotTaken, Noticed, OnOwn, Ready, Runs}
use Rattle.nt_why.specs.declared.reasons.Reason.TheVariants.{Stands, TakenFirst, Then, TooHigh, Unnoticed, Waits}
use Rattle.nt_why.specs.declared.sought.Sought.TheVariants as sought
use Rattle.nt_why.specs.Says.{IsAway, IsStood, holds_back}
use Rattle.nt_why.specs.Sought.{begun_by, first_from}

-- it runs on the processor to which it is bound
abbrev pub runs_there : Script → List Event → ThreadNo → Bool
runs_there s past t = is_thread (own_of s (cpu_of s t) past).frames.running t

-- no frame stands on the own part of its processor
abbrev pub has_no_own : Script → List Event → ThreadNo → Bool
has_no_own s past t = is_null (own_of s (cpu_of s t) past).frames.own

-- the thread is this one, and does this on its processor, where it doesn't run
abbrev pub IsAwayThere : Script → List Event → ThreadNo → Away → Type 0
IsAwayThere s past t a = (a.thread ≡ t) × (IsAway s past a × (cpu_of s t ≡ a.cpu))

-- what a reason says of the thread after the first `end` of these events
abbrev pub SaysThread : Script → ℕ → List Event → ℕ → ThreadNo → Reason → Type 0
SaysThread s limit events end t (Runs u) = (u ≡ t) × (runs_there s (past_at end events) t ≡ true)
SaysThread s limit events end t (NotRunning a) = IsAwayThere s (past_at end events) t a
SaysThread s limit events end t (Ready a) = IsAwayThere s (past_at end events) t a
    × ((is_ready (facts_at (lanes_at s (past_at end events)) t) ≡ true) × (a.runs ≡ None))
SaysThread s limit events end t (TakenFirst q u) = (cpu_of s t ≡ q)
    × ((next_ready s q (own_of s q (past_at end events)).took (lanes_at s (past_at end events)) ≡ Some u)
    × ((u.0 == t.0) ≡ false))
SaysThread s limit events end t (Stands st) =
    IsStood s (past_at end events) st × ((cpu_of s t ≡ st.cpu) × (has_no_own s (past_at end events) t ≡ true))
SaysThread s limit events end t (OnOwn st) =
    IsStood s (past_at end events) st × ((cpu_of s t ≡ st.cpu) × (has_no_own s (past_at end events) t ≡ false))
SaysThread s limit events end t (Cut q) =
    (cpu_of s t ≡ q) × (is_cut limit (own_of s q (past_at end events)) ≡ true)
SaysThread s limit events end t (MustFirst q) = (cpu_of s t ≡ q) × (must (own_of s q (past_at end events)) ≡ true)
SaysThread s limit events end t (NotTaken q k) =
    (cpu_of s t ≡ q) × (step s limit (SwitchTurn q t) (past_at end events) ≡ Err k)
SaysThread s limit events end t (Then f) = begun_by (first_from (sought.Thread t) end (reverse events)) ≡ f
SaysThread s limit events end t (NotAsked r) = ⊥
SaysThread s limit events end t (Unnoticed r n) = ⊥
SaysThread s limit events end t (Noticed r n k) = ⊥
SaysThread s limit events end t (TooHigh st) = ⊥
SaysThread s limit events end t (Next q w) = ⊥
SaysThread s limit events end t (NoNext q k) = ⊥
SaysThread s limit events end t NeverInserted = ⊥
SaysThread s limit events end t (Ended n f) = ⊥
SaysThread s limit events end t (Waits i) = ⊥
SaysThread s limit events end t (First q) = ⊥
SaysThread s limit events end t (Behind q o n) = ⊥
SaysThread s limit events end t (InRegions u r) = ⊥
SaysThread s limit events end t (AskedNothing r n) = ⊥
SaysThread s limit events end t (NotSet u n) = ⊥
SaysThread s limit events end t (IsSet u x) = ⊥
SaysThread s limit events end t (IsDue due now) = ⊥
SaysThread s limit events end t (NotDue due now) = ⊥
SaysThread s limit events end t (ExpiresFirst key n) = ⊥
SaysThread s limit events end t (OwesSweep q) = ⊥
SaysThread s limit events end t NoSweep = ⊥

-- why a turn is refused
abbrev pub refusal_of : Result Event ScheduleKind → Option ScheduleKind
refusal_of (Ok e) = None
refusal_of (Err k) = Some k

-- the line of that
abbrev pub taken_line : CpuNo → Option ScheduleKind → Option Reason
taken_line p None = None
taken_line p (Some k) = Some (NotTaken p k)

-- the turn that takes up the thread on its processor is refused
abbrev pub is_refused : Script → ℕ → List Event → ThreadNo → Bool
is_refused s limit past t = is_some (refusal_of (step s limit (SwitchTurn (cpu_of s t) t) past))

-- a processor that the script lacks: the first reason says so; a thread that runs: the first reason says so; one that
-- doesn't: some reason says what holds it back, exactly where the turn that takes it up is refused
pub record IsWholeThread (s : Script) (limit : ℕ) (events : List Event) (end : ℕ) (t : ThreadNo) (rs : List Reason)
    : Type 0 where
  pub lacks : s.cpus ≤ (cpu_of s t).0 → head_of rs ≡ Some (NotTaken (cpu_of s t) NoSuchCpu)
  pub runs : (cpu_of s t).0 < s.cpus → runs_there s (past_at end events) t ≡ true → head_of rs ≡ Some (Runs t)
  pub held : (cpu_of s t).0 < s.cpus → runs_there s (past_at end events) t ≡ false → list_any holds_back rs
      ≡ is_refused s limit (past_at end events) t
