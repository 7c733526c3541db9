-- Why a list of turns isn't traced or shrunk.
use Rattle.std.specs.Prelude.{Err, List, Ok, false, length, ℕ, ◌<◌, ◌≡◌, ◌≤◌}
use Rattle.nt_event.specs.declared.events.Event.{Event}
use Rattle.nt_event.specs.declared.events.ScheduleKind.{ScheduleKind}
use Rattle.nt_event.specs.declared.events.ScheduleKind.TheVariants.{Unfinished}
use Rattle.nt_event.specs.declared.events.Turn.{Turn}
use Rattle.nt_event.specs.declared.scripts.Script.{Script}
use Rattle.nt_shrink.specs.declared.goals.Goal.{Goal}
use Rattle.nt_shrink.specs.declared.refusals.ShrinkRefusal.{ShrinkRefusal}
use Rattle.nt_shrink.specs.declared.refusals.ShrinkRefusal.TheVariants as shrinks
use Rattle.nt_shrink.specs.declared.refusals.TraceRefusal.{TraceRefusal}
use Rattle.nt_shrink.specs.declared.refusals.TraceRefusal.TheVariants.{Bad, NoMemory}
use Rattle.nt_shrink.specs.Goals.{delivers}
use Rattle.nt_shrink.specs.Traces.{traced}

-- a turn is refused so: Unfinished is no refusal of a turn
abbrev pub IsBad : Script → ℕ → List Turn → ℕ → ScheduleKind → Type 0
IsBad s limit list at kind = (traced s limit list ≡ Err (Bad at kind)) × (kind ≡ Unfinished → ⊥)

-- a turn of the list is refused so, or no memory was found
abbrev pub IsTraceRefused : Script → ℕ → List Turn → TraceRefusal → Type 0
IsTraceRefused s limit list (Bad at kind) = IsBad s limit list at kind
IsTraceRefused s limit list NoMemory = Unit {0}

-- the refusal of a trace, where a list is to be shrunk
abbrev pub as_shrink : TraceRefusal → ShrinkRefusal
as_shrink (Bad at kind) = shrinks.Bad at kind
as_shrink NoMemory = shrinks.NoMemory

-- the list has more than 1,000 turns; or a turn is refused so; or the history of the turns doesn't deliver the request;
-- or no memory was found
abbrev pub IsShrinkRefused : Script → ℕ → Goal → List Turn → ShrinkRefusal → Type 0
IsShrinkRefused s limit g list shrinks.TooMany = 1000 < length list
IsShrinkRefused s limit g list (shrinks.Bad at kind) = (length list ≤ 1000) × IsBad s limit list at kind
IsShrinkRefused s limit g list shrinks.NotDelivered =
    (length list ≤ 1000) × ((past : List Event) × ((traced s limit list ≡ Ok past) × (delivers g past ≡ false)))
IsShrinkRefused s limit g list shrinks.NoMemory = Unit {0}
