-- Why a timer has not expired: what each reason says of it, and when the reasons are complete.
use Rattle.std.specs.List.{list_any}
use Rattle.std.specs.Option.{option_or}
use Rattle.std.specs.Prelude.{Bool, Err, List, None, Ok, Option, Result, Some, false, if◌then◌else◌, is_none, nat_lt}
use Rattle.std.specs.Prelude.{option_map, reverse, suc, true, zero, ℕ, ◌<◌, ◌≡◌, ◌≤◌}
use Rattle.nt_event.specs.declared.commands.TimerKey.{TimerKey}
use Rattle.nt_event.specs.declared.commands.TimerKey.TheVariants as keys
use Rattle.nt_event.specs.declared.events.Event.{Event}
use Rattle.nt_event.specs.declared.events.ScheduleKind.{ScheduleKind}
use Rattle.nt_event.specs.declared.events.Turn.TheVariants.{Next as NextTurn}
use Rattle.nt_event.specs.declared.events.What.{What}
use Rattle.nt_event.specs.declared.inserts.Setting.{Setting}
use Rattle.nt_event.specs.declared.numbers.CpuNo.{CpuNo}
use Rattle.nt_event.specs.declared.numbers.TimerNo.{TimerNo}
use Rattle.nt_event.specs.declared.scripts.Script.{Script}
use Rattle.nt_event.specs.Eligible.{same_key}
use Rattle.nt_event.specs.Frames.{time}
use Rattle.nt_event.specs.Jobs.{level_at}
use Rattle.nt_event.specs.Lanes.{lanes_at}
use Rattle.nt_event.specs.Lists.{head_of}
use Rattle.nt_event.specs.Numbers.{cpu}
use Rattle.nt_event.specs.Own.{own_of}
use Rattle.nt_event.specs.Step.{is_cut, step}
use Rattle.nt_event.specs.Timers.{first_due, timer_setting}
use Rattle.nt_why.specs.Past.{past_at}
use Rattle.nt_why.specs.declared.reasons.Reason.{Reason}
use Rattle.nt_why.specs.declared.reasons.Reason.TheVariants.{AskedNothing, Behind, Cut, Ended, ExpiresFirst, First}
use Rattle.nt_why.specs.declared.reasons.Reason.TheVariants.{InRegions, IsDue, IsSet, MustFirst, NeverInserted, Next}
use Rattle.nt_why.specs.declared.reasons.Reason.TheVariants.{NoNext, NoSweep, NotAsked, NotDue, NotRunning, NotSet}
use Rattle.nt_why.specs.declared.reasons.Reason.TheVariants.{NotTaken, Noticed, OnOwn, OwesSweep, Ready, Runs, Stands}
use Rattle.nt_why.specs.declared.reasons.Reason.TheVariants.{TakenFirst, Then, TooHigh, Unnoticed, Waits}
use Rattle.nt_why.specs.declared.sought.Sought.TheVariants as sought
use Rattle.nt_why.specs.Says.{IsStood, holds_back}
use Rattle.nt_why.specs.Sought.{begun_by, expires, first_from, last_in}

-- the event that a turn gave expires the timer
abbrev pub gives_expiry : TimerNo → Result Event ScheduleKind → Bool
gives_expiry t (Ok e) = expires t e.what
gives_expiry t (Err k) = false

abbrev pub gives_expiry_what : TimerNo → Result What ScheduleKind → Bool
gives_expiry_what t (Ok w) = expires t w
gives_expiry_what t (Err k) = false

-- the processor's next event expires the timer
abbrev pub expires_next : Script → ℕ → List Event → TimerNo → CpuNo → Bool
expires_next s limit past t p = gives_expiry t (step s limit (NextTurn p) past)

-- the processor owes a sweep of the timers
abbrev pub owes : Script → List Event → CpuNo → Bool
owes s past p = (own_of s p past).sweep

-- the first of n processors of which this is so
abbrev pub first_cpu : (CpuNo → Bool) → ℕ → Option CpuNo
first_cpu f zero = None
first_cpu f (suc n) = option_or (first_cpu f n) (if f (cpu n) then Some (cpu n) else None)

-- the first processor whose next event expires the timer
abbrev pub first_expiring : Script → ℕ → List Event → TimerNo → Option CpuNo
first_expiring s limit past t = first_cpu (expires_next s limit past t) s.cpus

-- the first processor that owes a sweep
abbrev pub first_sweeping : Script → List Event → Option CpuNo
first_sweeping s past = first_cpu (owes s past) s.cpus

-- the processor that the reasons speak of
abbrev pub spoken : Script → ℕ → List Event → TimerNo → Option CpuNo
spoken s limit past t = option_or (first_expiring s limit past t) (first_sweeping s past)

-- the first due key and the number of the event that set it
abbrev pub first_key : Script → List Event → Option (TimerKey × ℕ)
first_key s past = option_map (λ x. (x.key, x.setting.number)) (first_due (lanes_at s past).timers)

-- when the timer is due, where it is set
abbrev pub due_time : List Event → TimerNo → Option ℕ
due_time past t = option_map (λ x. x.due) (timer_setting t past)

-- what a reason says of the timer after the first `end` of these events
abbrev pub SaysTimer : Script → ℕ → List Event → ℕ → TimerNo → Reason → Type 0
SaysTimer s limit events end t (NotSet u at) = (u ≡ t)
    × ((timer_setting t (past_at end events) ≡ None) × (last_in (sought.Timer t) (past_at end events) ≡ at))
SaysTimer s limit events end t (IsSet u x) = (u ≡ t) × (timer_setting t (past_at end events) ≡ Some x)
SaysTimer s limit events end t (IsDue due now) =
    (due_time (past_at end events) t ≡ Some due) × ((time (past_at end events) ≡ now) × (due ≤ now))
SaysTimer s limit events end t (NotDue due now) =
    (due_time (past_at end events) t ≡ Some due) × ((time (past_at end events) ≡ now) × (now < due))
SaysTimer s limit events end t (ExpiresFirst key at) =
    (first_key s (past_at end events) ≡ Some (key, at)) × (same_key key (keys.Timer t) ≡ false)
SaysTimer s limit events end t (OwesSweep p) =
    (spoken s limit (past_at end events) t ≡ Some p) × (owes s (past_at end events) p ≡ true)
SaysTimer s limit events end t NoSweep = first_sweeping s (past_at end events) ≡ None
SaysTimer s limit events end t (Stands st) = (spoken s limit (past_at end events) t ≡ Some st.cpu)
    × (IsStood s (past_at end events) st × (nat_lt (level_at (own_of s st.cpu (past_at end events))) 2 ≡ true))
SaysTimer s limit events end t (TooHigh st) = (spoken s limit (past_at end events) t ≡ Some st.cpu)
    × (IsStood s (past_at end events) st × (nat_lt (level_at (own_of s st.cpu (past_at end events))) 2 ≡ false))
SaysTimer s limit events end t (Cut p) = (spoken s limit (past_at end events) t ≡ Some p)
    × (is_cut limit (own_of s p (past_at end events)) ≡ true)
SaysTimer s limit events end t (Next p w) = (spoken s limit (past_at end events) t ≡ Some p)
    × ((e : Event) × ((step s limit (NextTurn p) (past_at end events) ≡ Ok e) × (e.what ≡ w)))
SaysTimer s limit events end t (NoNext p k) = (spoken s limit (past_at end events) t ≡ Some p)
    × (step s limit (NextTurn p) (past_at end events) ≡ Err k)
SaysTimer s limit events end t (Then f) = begun_by (first_from (sought.Timer t) end (reverse events)) ≡ f
SaysTimer s limit events end t (NotAsked r) = ⊥
SaysTimer s limit events end t (Unnoticed r n) = ⊥
SaysTimer s limit events end t (Noticed r n k) = ⊥
SaysTimer s limit events end t NeverInserted = ⊥
SaysTimer s limit events end t (Ended n f) = ⊥
SaysTimer s limit events end t (Waits i) = ⊥
SaysTimer s limit events end t (First q) = ⊥
SaysTimer s limit events end t (Behind q o n) = ⊥
SaysTimer s limit events end t (Runs u) = ⊥
SaysTimer s limit events end t (NotRunning a) = ⊥
SaysTimer s limit events end t (InRegions u r) = ⊥
SaysTimer s limit events end t (AskedNothing r n) = ⊥
SaysTimer s limit events end t (Ready a) = ⊥
SaysTimer s limit events end t (TakenFirst q u) = ⊥
SaysTimer s limit events end t (OnOwn st) = ⊥
SaysTimer s limit events end t (MustFirst q) = ⊥
SaysTimer s limit events end t (NotTaken q k) = ⊥

-- a timer that isn't set: the first reason says so; one that is set: some reason says what holds it back, exactly where
-- no processor's next event expires it
pub record IsWholeTimer (s : Script) (limit : ℕ) (events : List Event) (end : ℕ) (t : TimerNo) (rs : List Reason)
    : Type 0 where
  pub none : timer_setting t (past_at end events) ≡ None → head_of rs
      ≡ Some (NotSet t (last_in (sought.Timer t) (past_at end events)))
  pub held : (x : Setting) → timer_setting t (past_at end events) ≡ Some x → list_any holds_back rs
      ≡ is_none (first_expiring s limit (past_at end events) t)
