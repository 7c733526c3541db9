-- Lines of reasons: which are put, and the line of the next event.
use Rattle.std.specs.Prelude.{Bool, Err, IfSome, List, None, Ok, Option, Result, Some, [], false, if◌then◌else◌, true}
use Rattle.std.specs.Prelude.{◌&&◌, ◌++◌, ◌∷◌, ◌≡◌}
use Rattle.nt_event.specs.declared.events.Event.{Event}
use Rattle.nt_event.specs.declared.events.ScheduleKind.{ScheduleKind}
use Rattle.nt_event.specs.declared.events.What.{What}
use Rattle.nt_event.specs.declared.numbers.CpuNo.{CpuNo}
use Rattle.nt_why.specs.declared.lines.Lines.{Lines}
use Rattle.nt_why.specs.declared.reasons.Reason.{Reason}
use Rattle.nt_why.specs.declared.reasons.Reason.TheVariants.{Next, NoNext}
use Rattle.nt_why.specs.Says.{holds_back}

-- the line at the end; where the thing is free, none that says what holds it back
abbrev pub put_to : Bool → Option Reason → List Reason → List Reason
put_to free None rs = rs
put_to free (Some r) rs = if free && holds_back r then rs else (rs ++ r ∷ [])

-- what the event that a turn gave does, or why it gave none
abbrev pub IsWhat : Result Event ScheduleKind → Result What ScheduleKind → Type 0
IsWhat (Ok e) (Ok w) = e.what ≡ w
IsWhat (Err k) (Err j) = k ≡ j
IsWhat (Ok e) (Err j) = ⊥
IsWhat (Err k) (Ok w) = ⊥

abbrev pub next_reason : CpuNo → Result What ScheduleKind → Reason
next_reason p (Ok w) = Next p w
next_reason p (Err k) = NoNext p k

-- each line is true
pub record AreTrue (P : Reason → Type 0) (x : Lines) : Type 0 where
  pub first : IfSome x.first P
  pub runs : IfSome x.runs P
  pub regions : IfSome x.regions P
  pub level : IfSome x.level P
  pub cut : IfSome x.cut P
  pub insert : IfSome x.insert P
  pub asked : IfSome x.asked P

-- the lines at the end of these reasons; where the thing is free, none that says what holds it back
abbrev pub with_place : Bool → Lines → List Reason → List Reason
with_place free x rs = put_to free x.regions (put_to free x.runs (put_to free x.first rs))

abbrev pub with_processor : Bool → Lines → List Reason → List Reason
with_processor free x rs =
    put_to free x.asked (put_to free x.insert (put_to free x.cut (put_to free x.level rs)))

abbrev pub with_each : Bool → Lines → List Reason → List Reason
with_each free x rs = with_processor free x (with_place free x rs)

-- and behind them, where it isn't free, that of the next event
abbrev pub with_all : Bool → Lines → Reason → List Reason → List Reason
with_all true x next rs = with_processor true x (with_place true x rs)
with_all false x next rs = with_processor false x (with_place false x rs) ++ next ∷ []
