-- What a history is: a settled run, or where it goes wrong first.
use Rattle.std.specs.Prelude.{Err, List, Ok, Result, Some, false, length, reverse, slice_get, take, true, ℕ, ◌≡◌, ◌⊎◌}
use Rattle.nt_event.specs.declared.events.Event.{Event}
use Rattle.nt_event.specs.declared.scripts.Script.{Script}
use Rattle.nt_event.specs.Robin.{is_settled}
use Rattle.nt_event.specs.Step.{IsLegal, IsRun}
use Rattle.nt_cpus.specs.declared.refusals.CoreRefusal.{CoreRefusal}
use Rattle.nt_check.specs.declared.checking.Verdict.{Verdict}
use Rattle.nt_check.specs.declared.checking.Verdict.TheVariants.{IllegalAt, Legal}

-- the first n of the events, as a past: the newest first
abbrev pub past_at : ℕ → List Event → List Event
past_at n events = reverse (take n events)

-- what a turn gave that was taken or refused so, and left this event where events are written
abbrev pub made_by : Result (Unit {0}) CoreRefusal → Event → Result Event CoreRefusal
made_by (Ok u) e = Ok e
made_by (Err r) e = Err r

-- event n is the first that isn't legal after those before it
pub record IsFirstIllegal (s : Script) (limit : ℕ) (events : List Event) (n : ℕ) (e : Event) : Type 0 where
  pub there : slice_get events n ≡ Some e
  pub before : IsRun s limit (past_at n events)
  pub illegal : IsLegal s limit e (past_at n events) → ⊥

-- all events are legal, n is their number, and some processor has more to do
pub record IsUnfinished (s : Script) (limit : ℕ) (events : List Event) (n : ℕ) : Type 0 where
  pub number : n ≡ length events
  pub run : IsRun s limit (reverse events)
  pub unsettled : is_settled s limit (reverse events) ≡ false

-- the verdict on these events in order
abbrev pub IsVerdict : Script → ℕ → List Event → Verdict → Type 0
IsVerdict s limit events Legal = IsRun s limit (reverse events) × (is_settled s limit (reverse events) ≡ true)
IsVerdict s limit events (IllegalAt n) =
    ((e : Event) × IsFirstIllegal s limit events n e) ⊎ IsUnfinished s limit events n

-- each history has exactly one verdict
abbrev pub OneVerdict : Type 0
OneVerdict = (s : Script) (limit : ℕ) (events : List Event) →
    (v : Verdict) × (IsVerdict s limit events v × ((w : Verdict) → IsVerdict s limit events w → w ≡ v))
