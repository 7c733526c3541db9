-- What a turn gives after a history, and runs.
use Rattle.std.specs.List.{list_any}
use Rattle.std.specs.Prelude.{Bool, Err, List, None, Ok, Option, Result, Some, [], false, length, map, nat_le, nat_lt}
use Rattle.std.specs.Prelude.{not, reverse, suc, true, ℕ, ◌&&◌, ◌+◌, ◌==◌, ◌||◌, ◌∷◌, ◌≡◌}
use Rattle.nt_event.specs.declared.events.Event.{Event}
use Rattle.nt_event.specs.declared.events.Rises.{Rises}
use Rattle.nt_event.specs.declared.events.ScheduleKind.{ScheduleKind}
use Rattle.nt_event.specs.declared.events.ScheduleKind.TheVariants.{BadChoice, BadLook, NoSuchCpu, NothingToDo}
use Rattle.nt_event.specs.declared.events.Turn.{Turn}
use Rattle.nt_event.specs.declared.events.Turn.TheVariants.{Look as LookTurn, Next, Switch as SwitchTurn}
use Rattle.nt_event.specs.declared.events.What.{What}
use Rattle.nt_event.specs.declared.events.What.TheVariants as what
use Rattle.nt_event.specs.declared.jobs.Job.TheVariants as jobs
use Rattle.nt_event.specs.declared.numbers.CpuNo.{CpuNo}
use Rattle.nt_event.specs.declared.numbers.ThreadNo.{ThreadNo}
use Rattle.nt_event.specs.declared.scripts.Script.{Script}
use Rattle.nt_event.specs.Frames.{Frames, frames_after, level_in}
use Rattle.nt_event.specs.Jobs.{job_event, may_switch, next_what}
use Rattle.nt_event.specs.Lanes.{Lanes, lanes_at}
use Rattle.nt_event.specs.Own.{Own, own_of, stand_in}
use Rattle.nt_event.specs.Requests.{asks}
use Rattle.nt_event.specs.Lists.{value_at, when}
use Rattle.nt_event.specs.Families.{in_look, in_switch}

-- ---- an event

abbrev pub thread_field : What → Option ThreadNo → Option ThreadNo
thread_field w r = in_switch (λ t status. Some t) (in_look (λ x. None) r w) w

abbrev pub is_look : What → Bool
is_look w = in_look (λ r. true) false w

-- the event without its level
abbrev pub unleveled : CpuNo → What → Frames → Event
unleveled p w x = record { cpu = p; thread = thread_field w x.running; level = 0; what = w }

-- an event's level is the processor's after it, and for a Look 0
abbrev pub level_field : What → Frames → ℕ
level_field (what.Look r) x = 0
level_field w x = level_in x

-- the event: its level depends neither on its number nor on a due time
abbrev pub event_at : Script → CpuNo → What → Frames → Event
event_at s p w x =
    record (unleveled p w x) { level = level_field w (frames_after s 0 None (unleveled p w x) x) }

abbrev pub event_or : Script → CpuNo → Own → ScheduleKind → Option What → Result Event ScheduleKind
event_or s p x k None = Err k
event_or s p x k (Some w) = Ok (event_at s p w x.frames)

-- ---- the turns

-- the turn Next makes the next event
abbrev pub next_step : Script → CpuNo → Own → Lanes → Result Event ScheduleKind
next_step s p x l = event_or s p x NothingToDo (next_what s p x l)

-- the turn Switch takes up a thread of the processor that is ready, where none runs and nothing must be done
abbrev pub switch_step : Script → CpuNo → ThreadNo → Own → Lanes → Result Event ScheduleKind
switch_step s p t x l =
    event_or s p x BadChoice (when (may_switch x) (job_event s (stand_in p x) l (jobs.Switch t)))

-- the value is one more than the number of an earlier event that asks for the class on the processor
abbrev pub was_asked : Script → CpuNo → ℕ → ℕ → List Event → Bool
was_asked s p c v [] = false
was_asked s p c v (e ∷ past) = ((v == length past + 1) && asks s p c e past) || was_asked s p c v past

-- each value from this class on that rises is above what was seen, and was asked
abbrev pub good_rises : Script → CpuNo → ℕ → List ℕ → Own → List Event → Bool
good_rises s p c [] x past = true
good_rises s p c (v ∷ vs) x past =
    ((v == 0) || (nat_lt (value_at x.seen c) v && was_asked s p c v past)) && good_rises s p (suc c) vs x past

-- some value rises, and each that does is above what was seen and was asked
abbrev pub is_good_look : Script → CpuNo → List ℕ → Own → List Event → Bool
is_good_look s p vs x past = list_any (λ v. nat_lt 0 v) vs && good_rises s p 0 vs x past

-- the turn Look notices requests
abbrev pub look_step : Script → CpuNo → Rises → Own → List Event → Result Event ScheduleKind
look_step s p r x past = event_or s p x BadLook (when (is_good_look s p r.value x past) (Some (what.Look r)))

abbrev pub cpu_at : Turn → CpuNo
cpu_at (Next p) = p
cpu_at (LookTurn p r) = p
cpu_at (SwitchTurn p t) = p

abbrev pub uncut_step : Script → Turn → Own → Lanes → List Event → Result Event ScheduleKind
uncut_step s (Next p) x l past = next_step s p x l
uncut_step s (LookTurn p r) x l past = look_step s p r x past
uncut_step s (SwitchTurn p t) x l past = switch_step s p t x l

-- a processor is cut where it made as many events as the turn limit
abbrev pub is_cut : ℕ → Own → Bool
is_cut limit x = nat_le limit x.made

abbrev pub refused_if : Bool → ScheduleKind → Result Event ScheduleKind → Result Event ScheduleKind
refused_if true k r = Err k
refused_if false k r = r

-- what the turn gives after this past, by what its processor keeps and the states of the lanes
abbrev pub step : Script → ℕ → Turn → List Event → Result Event ScheduleKind
step s limit turn past =
    refused_if (not (nat_lt (cpu_at turn).0 s.cpus)) NoSuchCpu
    (refused_if (is_cut limit (own_of s (cpu_at turn) past)) NothingToDo
    (uncut_step s turn (own_of s (cpu_at turn) past) (lanes_at s past) past))

-- ---- turns and runs

abbrev pub turn_at : CpuNo → What → Turn
turn_at p w = in_look (λ r. LookTurn p r) (in_switch (λ t status. SwitchTurn p t) (Next p) w) w

-- the turn of an event
abbrev pub turn_of : Event → Turn
turn_of e = turn_at e.cpu e.what

-- the turns of a history, in order
abbrev pub turns : List Event → List Turn
turns past = map turn_of (reverse past)

-- the event is the one that its turn gives after this past
abbrev pub IsLegal : Script → ℕ → Event → List Event → Type 0
IsLegal s limit e past = step s limit (turn_of e) past ≡ Ok e

-- each event of the history is legal after those before it; the newest event comes first
abbrev pub IsRun : Script → ℕ → List Event → Type 0
IsRun s limit [] = Unit {0}
IsRun s limit (e ∷ past) = IsLegal s limit e past × IsRun s limit past
