-- What a turn of a processor is and leaves.
use Rattle.std.specs.List.{list_any}
use Rattle.std.specs.Prelude.{Bool, Err, IfSome, List, None, Ok, Option, Result, Some, [], if◌then◌else◌, length}
use Rattle.std.specs.Prelude.{nat_lt, not, option_and_then, option_map, suc, true, ℕ, ◌&&◌, ◌==◌, ◌||◌, ◌∷◌, ◌<◌, ◌≡◌}
use Rattle.std.specs.Prelude.{◌≤◌, ◌⊎◌, false}
use Rattle.nt_event.specs.declared.events.Event.{Event}
use Rattle.nt_event.specs.declared.events.ScheduleKind.{ScheduleKind}
use Rattle.nt_event.specs.declared.events.ScheduleKind.TheVariants as kind
use Rattle.nt_event.specs.declared.events.Turn.{Turn}
use Rattle.nt_event.specs.declared.events.Turn.TheVariants.{Look as LookTurn, Next, Switch as SwitchTurn}
use Rattle.nt_event.specs.declared.events.What.TheVariants.{Look}
use Rattle.nt_event.specs.declared.jobs.Job.{Job}
use Rattle.nt_event.specs.declared.jobs.Job.TheVariants.{Switch as SwitchJob}
use Rattle.nt_event.specs.declared.jobs.Task.{Task}
use Rattle.nt_event.specs.declared.jobs.Task.TheVariants.{Alone, Shared}
use Rattle.nt_event.specs.declared.numbers.CpuNo.{CpuNo}
use Rattle.nt_event.specs.declared.scripts.Script.{Script}
use Rattle.nt_event.specs.Acting.{IsAllowed, IsDue, StandHolds, acted_event}
use Rattle.nt_event.specs.Frames.{due_of}
use Rattle.nt_event.specs.Jobs.{job_event, may_switch, task}
use Rattle.nt_event.specs.Lanes.{Lanes, what_lanes}
use Rattle.nt_event.specs.Own.{Own, own_after_event, stand_in}
use Rattle.nt_event.specs.Requests.{asks_in}
use Rattle.nt_event.specs.Script.{has_thread}
use Rattle.nt_event.specs.Step.{event_at, is_cut}
use Rattle.nt_event.specs.Lists.{value_at, when}
use Rattle.nt_event.specs.Acts.{Found, told_over}
use Rattle.nt_floor.specs.Views.{HasWord, IsMoved, Tells, View}
use Rattle.nt_frame.specs.Nesting.{AreNamedBelow}
use Rattle.nt_cpu.specs.States.{CpuState}
use Rattle.nt_cpu.specs.declared.turn.TurnRefusal.{TurnRefusal}
use Rattle.nt_cpu.specs.declared.turn.TurnRefusal.TheVariants.{BadChoice, BadLook, NoMemory, NothingToDo}

-- ---- conditions

-- the lanes have a state for each thing of the script
pub record HaveStates (s : Script) (l : Lanes) : Type 0 where
  pub objects : length l.objects ≡ length s.dpcs
  pub queues : length l.queues ≡ s.cpus
  pub threads : length l.threads ≡ length s.threads
  pub timers : length l.timers.timers ≡ length s.timers
  pub delays : length l.timers.delays ≡ length s.threads
  pub locks : length l.locks ≡ s.locks

-- in these states of the lanes the processor stands as it keeps, and each job that is due is allowed
pub record StandsIn (c : CpuState) (l : Lanes) : Type 0 where
  pub lanes : HaveStates c.script l
  pub standing : StandHolds c.script l (stand_in c.cpu c.own)
  pub jobs : (job : Job) → IsDue c.script c.cpu c.own job → IsAllowed l (stand_in c.cpu c.own) job

-- the words serve the processor: they have the script's processors; unless it is cut, a number may be drawn; they know
-- what it has seen; the least next number is not below it, and above the numbers that name its frames; and where the
-- states of the lanes are told, it stands in them. Where nobody else marks, no value is above the least next number
pub record Serves (c : CpuState) (v : View) : Type 0 where
  pub cpus : v.cpus ≡ c.script.cpus
  pub drawable : is_cut c.limit c.own ≡ false → 1 ≤ v.drawable
  pub known : (k : ℕ) → k < 16 → value_at c.own.seen k ≤ v.value c.cpu k
  pub below : (k : ℕ) → k < 16 → value_at c.own.seen k ≤ v.next
  pub named : AreNamedBelow v.next c.own.frames
  pub stands : IfSome v.states (λ l. StandsIn c l)
  pub values : v.alone ≡ true → (q : CpuNo) (k : ℕ) → HasWord v q k → v.value q k ≤ v.next

-- ---- the event of a turn

-- each value from this class on that rises is above what was seen
abbrev pub rise_above : ℕ → List ℕ → List ℕ → Bool
rise_above k [] seen = true
rise_above k (v ∷ vs) seen = ((v == 0) || nat_lt (value_at seen k) v) && rise_above (suc k) vs seen

-- some value rises, and each that does is above what was seen
abbrev pub rises : List ℕ → List ℕ → Bool
rises vs seen = list_any (λ v. nat_lt 0 v) vs && rise_above 0 vs seen

-- what the turn has the processor do, or none where it is refused
abbrev pub turn_task : Script → CpuNo → Own → Turn → Option Task
turn_task s p x (Next q) = task s p x
turn_task s p x (LookTurn q r) = when (rises r.value x.seen) (Some (Alone (Look r)))
turn_task s p x (SwitchTurn q t) = when (may_switch x && has_thread s t) (Some (Shared (SwitchJob t)))

-- the event of a task in these states of the lanes, or none where there is nothing to do
abbrev pub task_makes : Script → CpuNo → Own → Lanes → Task → Option Event
task_makes s p x l (Alone w) = Some (event_at s p w x.frames)
task_makes s p x l (Shared job) =
    option_map (acted_event (stand_in p x) l) (job_event s (stand_in p x) l job)

-- why a turn is refused that gives no event
abbrev pub turn_refusal : Turn → TurnRefusal
turn_refusal (Next q) = NothingToDo
turn_refusal (LookTurn q r) = BadLook
turn_refusal (SwitchTurn q t) = BadChoice

abbrev pub event_or_refusal : TurnRefusal → Option Event → Result Event TurnRefusal
event_or_refusal r None = Err r
event_or_refusal r (Some e) = Ok e

-- what the turn gives in these states of the lanes
abbrev pub turn_gives : CpuState → Lanes → Turn → Result Event TurnRefusal
turn_gives c l t =
    if is_cut c.limit c.own then Err NothingToDo
    else event_or_refusal (turn_refusal t)
    (option_and_then (task_makes c.script c.cpu c.own l) (turn_task c.script c.cpu c.own t))

abbrev pub is_shared : Option Task → Bool
is_shared (Some (Shared job)) = true
is_shared _ = false

-- the turn is tried under lanes
abbrev pub acts : CpuState → Turn → Bool
acts c t = not (is_cut c.limit c.own) && is_shared (turn_task c.script c.cpu c.own t)

-- ---- what it leaves

-- what the processor keeps after its event of this number, made in the states found
abbrev pub own_then : CpuState → Found → ℕ → Event → Own
own_then c f n e =
    own_after_event c.script n (due_of e.what f.lanes.timers.now) e
    (λ k. asks_in c.script (stand_in c.cpu c.own) e.what f.lanes c.cpu k)
    (λ k. told_over f.told (what_lanes c.script (stand_in c.cpu c.own) e.what f.lanes) c.cpu k) c.own

abbrev pub state_then : CpuState → Found → ℕ → Event → CpuState
state_then c f n e = record c { own = own_then c f n e }

-- a job gave this event, under this number and in the states found; the processor and the floor are as it leaves them
pub record IsShared (c d : CpuState) (job : Job) (f : Found) (n : ℕ) (e : Event) (v w : View) : Type 0 where
  pub what : job_event c.script (stand_in c.cpu c.own) f.lanes job ≡ Some e.what
  pub event : e ≡ acted_event (stand_in c.cpu c.own) f.lanes e.what
  pub state : d ≡ state_then c f n e
  pub floor : IsMoved c.script n e (stand_in c.cpu c.own) f v w

-- the turn gave this event, under this number and in the states found; the processor and the floor are as it leaves
-- them
pub record IsTurned (c d : CpuState) (t : Turn) (f : Found) (n : ℕ) (e : Event) (v w : View) : Type 0 where
  pub event : turn_gives c f.lanes t ≡ Ok e
  pub state : d ≡ state_then c f n e
  pub floor : IsMoved c.script n e (stand_in c.cpu c.own) f v w

-- the turn is refused so in the states found, or no memory was found
pub record IsTurnRefused (c : CpuState) (t : Turn) (f : Found) (r : TurnRefusal) (v : View) : Type 0 where
  pub cause : (r ≡ NoMemory) ⊎ (turn_gives c f.lanes t ≡ Err r)
  pub told : Tells v.states f.lanes

-- ---- refusals

-- the kind of a refusal: want of memory is a turn that does nothing
abbrev pub kind_of_refusal : TurnRefusal → ScheduleKind
kind_of_refusal NothingToDo = kind.NothingToDo
kind_of_refusal BadLook = kind.BadLook
kind_of_refusal BadChoice = kind.BadChoice
kind_of_refusal NoMemory = kind.NothingToDo
