-- Why an interrupt has not begun on a processor: what each reason says of it, and when the reasons are complete.
use Rattle.std.specs.List.{list_any}
use Rattle.std.specs.Prelude.{Bool, Err, List, Ok, Result, Some, false, nat_lt, not, reverse, true, ℕ, ◌<◌, ◌||◌, ◌≡◌}
use Rattle.std.specs.Prelude.{◌≤◌}
use Rattle.nt_event.specs.declared.events.Event.{Event}
use Rattle.nt_event.specs.declared.events.ScheduleKind.{ScheduleKind}
use Rattle.nt_event.specs.declared.events.ScheduleKind.TheVariants.{NoSuchCpu}
use Rattle.nt_event.specs.declared.events.Turn.TheVariants.{Next as NextTurn}
use Rattle.nt_event.specs.declared.events.What.{What}
use Rattle.nt_event.specs.declared.numbers.CpuNo.{CpuNo}
use Rattle.nt_event.specs.declared.scripts.Script.{Script}
use Rattle.nt_event.specs.Families.{in_begin}
use Rattle.nt_event.specs.Jobs.{is_due, level_at}
use Rattle.nt_event.specs.Lists.{head_of, value_at}
use Rattle.nt_event.specs.Own.{own_of}
use Rattle.nt_event.specs.Requests.{asked, begins_class}
use Rattle.nt_event.specs.Step.{is_cut, step}
use Rattle.nt_why.specs.Past.{past_at}
use Rattle.nt_why.specs.declared.reasons.Reason.{Reason}
use Rattle.nt_why.specs.declared.reasons.Reason.TheVariants.{ExpiresFirst, IsDue, IsSet, NoSweep, NotDue, NotSet}
use Rattle.nt_why.specs.declared.reasons.Reason.TheVariants.{OwesSweep}
use Rattle.nt_why.specs.declared.reasons.Reason.TheVariants.{AskedNothing, Behind, Cut, Ended, First, InRegions}
use Rattle.nt_why.specs.declared.reasons.Reason.TheVariants.{NeverInserted, Next, NoNext, NotAsked, NotRunning, Noticed}
use Rattle.nt_why.specs.declared.reasons.Reason.TheVariants.{Runs, Stands, Then, TooHigh, Unnoticed, Waits}
use Rattle.nt_why.specs.declared.reasons.Reason.TheVariants.{MustFirst, NotTaken, OnOwn, Ready, TakenFirst}
use Rattle.nt_why.specs.declared.reasons.Request.{Request}
use Rattle.nt_why.specs.declared.sought.Sought.TheVariants as sought
use Rattle.nt_why.specs.Says.{IsNotAsked, IsNoticed, IsStood, IsUnnoticed, holds_back}
use Rattle.nt_why.specs.Sought.{begun_by, first_from}

-- it is asked for on the processor and not served: above what was noticed, or noticed and not begun since
abbrev pub is_wanted : Script → List Event → CpuNo → ℕ → Bool
is_wanted s past p l = nat_lt (value_at (own_of s p past).seen l) (asked s p l past) || is_due (own_of s p past) l

-- the level of the processor lets it through
abbrev pub is_below : Script → List Event → CpuNo → ℕ → Bool
is_below s past p l = nat_lt (level_at (own_of s p past)) l

-- the request is for this interrupt
abbrev pub IsFor : CpuNo → ℕ → Request → Type 0
IsFor p l r = (r.cpu ≡ p) × (r.class ≡ l)

-- what a reason says of the interrupt of level l on p after the first `end` of these events
abbrev pub SaysInterrupt : Script → ℕ → List Event → ℕ → CpuNo → ℕ → Reason → Type 0
SaysInterrupt s limit events end p l (NotAsked r) = IsNotAsked s (past_at end events) r × IsFor p l r
SaysInterrupt s limit events end p l (Unnoticed r n) = IsUnnoticed s (past_at end events) r n × IsFor p l r
SaysInterrupt s limit events end p l (Noticed r n k) = IsNoticed s (past_at end events) r n k × IsFor p l r
SaysInterrupt s limit events end p l (Stands st) =
    IsStood s (past_at end events) st × ((st.cpu ≡ p) × (is_below s (past_at end events) p l ≡ true))
SaysInterrupt s limit events end p l (TooHigh st) =
    IsStood s (past_at end events) st × ((st.cpu ≡ p) × (is_below s (past_at end events) p l ≡ false))
SaysInterrupt s limit events end p l (Cut q) = (q ≡ p) × (is_cut limit (own_of s p (past_at end events)) ≡ true)
SaysInterrupt s limit events end p l (Next q w) =
    (q ≡ p) × ((e : Event) × ((step s limit (NextTurn p) (past_at end events) ≡ Ok e) × (e.what ≡ w)))
SaysInterrupt s limit events end p l (NoNext q k) =
    (q ≡ p) × (step s limit (NextTurn p) (past_at end events) ≡ Err k)
SaysInterrupt s limit events end p l (Then f) =
    begun_by (first_from (sought.Interrupt p l) end (reverse events)) ≡ f
SaysInterrupt s limit events end p l NeverInserted = ⊥
SaysInterrupt s limit events end p l (Ended n f) = ⊥
SaysInterrupt s limit events end p l (Waits i) = ⊥
SaysInterrupt s limit events end p l (First q) = ⊥
SaysInterrupt s limit events end p l (Behind q o n) = ⊥
SaysInterrupt s limit events end p l (Runs t) = ⊥
SaysInterrupt s limit events end p l (NotRunning a) = ⊥
SaysInterrupt s limit events end p l (InRegions t r) = ⊥
SaysInterrupt s limit events end p l (AskedNothing r n) = ⊥
SaysInterrupt s limit events end p l (Ready a) = ⊥
SaysInterrupt s limit events end p l (TakenFirst q u) = ⊥
SaysInterrupt s limit events end p l (OnOwn st) = ⊥
SaysInterrupt s limit events end p l (MustFirst q) = ⊥
SaysInterrupt s limit events end p l (NotTaken q k) = ⊥
SaysInterrupt s limit events end p l (NotSet u n) = ⊥
SaysInterrupt s limit events end p l (IsSet u x) = ⊥
SaysInterrupt s limit events end p l (IsDue due now) = ⊥
SaysInterrupt s limit events end p l (NotDue due now) = ⊥
SaysInterrupt s limit events end p l (ExpiresFirst key n) = ⊥
SaysInterrupt s limit events end p l (OwesSweep q) = ⊥
SaysInterrupt s limit events end p l NoSweep = ⊥

-- the event begins the interrupt of this level
abbrev pub begins : ℕ → What → Bool
begins l w = in_begin (λ b from. begins_class l b) false w

-- the event that a turn gave begins it
abbrev pub gives_begin : ℕ → Result Event ScheduleKind → Bool
gives_begin l (Ok e) = begins l e.what
gives_begin l (Err k) = false

-- a processor that the script lacks: the first reason says so; an interrupt that isn't wanted: the first reason says
-- so; one that is: some reason says what holds it back, exactly where the next event of the processor doesn't begin it
pub record IsWholeInterrupt (s : Script) (limit : ℕ) (events : List Event) (end : ℕ) (p : CpuNo) (l : ℕ)
    (rs : List Reason) : Type 0 where
  pub lacks : s.cpus ≤ p.0 → head_of rs ≡ Some (NoNext p NoSuchCpu)
  pub none : p.0 < s.cpus → is_wanted s (past_at end events) p l ≡ false → head_of rs
      ≡ Some (NotAsked (record { cpu = p; class = l }))
  pub held : p.0 < s.cpus → is_wanted s (past_at end events) p l ≡ true → list_any holds_back rs
      ≡ not (gives_begin l (step s limit (NextTurn p) (past_at end events)))

abbrev pub gives_begin_what : ℕ → Result What ScheduleKind → Bool
gives_begin_what l (Ok w) = begins l w
gives_begin_what l (Err k) = false
