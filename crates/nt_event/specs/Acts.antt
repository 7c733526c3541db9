-- What one event under lanes is and leaves, by the states of the lanes that it was made in.
use Rattle.std.specs.List.{list_any}
use Rattle.std.specs.Prelude.{All, Bool, IfSome, IsTrue, List, None, Option, Some, [], max, true, ℕ, ◌&&◌, ◌<◌, ◌^◌}
use Rattle.std.specs.Prelude.{◌∷◌, ◌≡◌}
use Rattle.nt_event.specs.declared.events.Event.{Event}
use Rattle.nt_event.specs.declared.events.Rises.{Rises}
use Rattle.nt_event.specs.declared.events.What.{What}
use Rattle.nt_event.specs.declared.jobs.Job.{Job}
use Rattle.nt_event.specs.declared.jobs.Job.TheVariants as jobs
use Rattle.nt_event.specs.declared.jobs.Lane.{Lane}
use Rattle.nt_event.specs.declared.jobs.Stand.{Stand}
use Rattle.nt_event.specs.declared.numbers.CpuNo.{CpuNo}
use Rattle.nt_event.specs.declared.scripts.Script.{Script}
use Rattle.nt_event.specs.Acting.{IsAllowed, StandHolds, acted_event}
use Rattle.nt_event.specs.Frames.{due_of}
use Rattle.nt_event.specs.Jobs.{job_event}
use Rattle.nt_event.specs.Lanes.{Lanes, same_lane, what_lanes}
use Rattle.nt_event.specs.Requests.{asks_in, raised}
use Rattle.nt_event.specs.Routines.{kind_of}
use Rattle.nt_event.specs.Script.{command_fits, has_cpu, has_dpc, has_lock, has_thread}
use Rattle.nt_event.specs.Lists.{value_at}
use Rattle.nt_event.specs.declared.acts.ActRefusal.{ActRefusal}
use Rattle.nt_event.specs.declared.acts.ActRefusal.TheVariants.{BadChoice, NoMemory, NothingToDo}
use Rattle.nt_event.specs.declared.acts.Acted.{Acted}
use Rattle.nt_event.specs.declared.acts.Made.{Made}

-- ---- conditions

-- each number in the job names a thing of the script
abbrev pub job_fits : Script → Job → Bool
job_fits s (jobs.Call c) = command_fits s c
job_fits s (jobs.Fire d) = has_dpc s d
job_fits s (jobs.Free k) = has_lock s k
job_fits s (jobs.Switch t) = has_thread s t
job_fits s jobs.Drain = true
job_fits s jobs.Apcs = true
job_fits s jobs.Threaded = true
job_fits s jobs.Idle = true
job_fits s (jobs.Pick last) = true
job_fits s jobs.Rewait = true
job_fits s jobs.ToUser = true
job_fits s jobs.UserEnd = true
job_fits s jobs.Leave = true
job_fits s jobs.Rundown = true

-- the processor and the thread name things of the script, and a due time is below 2 ^ 51
pub record StandFits (s : Script) (st : Stand) : Type 0 where
  pub cpu : IsTrue (has_cpu s st.cpu)
  pub thread : IfSome st.thread (λ t. IsTrue (has_thread s t))
  pub due : IfSome st.again (λ w. IfSome w.due (λ due. due < 2 ^ 51))

-- where the states are told, the processor stands in them so and the job is allowed
abbrev pub IsMet : Script → Option Lanes → Stand → Job → Type 0
IsMet s None st job = Unit {0}
IsMet s (Some l) st job = StandHolds s l st × IsAllowed l st job

-- ---- what an act found, and what it made of it

-- the greatest value asked for a class of a processor by the events that touched the lane
abbrev pub Told : Type 0
Told = Lane → CpuNo → ℕ → ℕ

-- the states of the lanes in which an event was made, and what they tell of the requests before it
pub record Found : Type 0 where
  pub lanes : Lanes
  pub told : Told

-- the greatest value that these lanes tell
abbrev pub told_over : Told → List Lane → CpuNo → ℕ → ℕ
told_over told [] p c = 0
told_over told (x ∷ xs) p c = max (told x p c) (told_over told xs p c)

-- the lane is one of these
abbrev pub is_among : Lane → List Lane → Bool
is_among x lanes = list_any (same_lane x) lanes

-- each pending APC of each thread has the kind that the script gives its object
abbrev pub KindsFit : Script → Lanes → Type 0
KindsFit s l = All (λ x. All (λ pick. pick.kind ≡ kind_of s pick.apc) x.apcs.pending) l.threads

-- what the lanes tell after the event of this number: those that it touches know its asks
abbrev pub told_after : Script → ℕ → Stand → What → Found → Told
told_after s n st w f x p c =
    raised (is_among x (what_lanes s st w f.lanes) && asks_in s st w f.lanes p c) n (f.told x p c)

-- all that an act made, which answered this and wrote this event and what was told
abbrev pub acted_of : Made → Event → Rises → Acted
acted_of m e told = record { number = m.number; event = e; due = m.due; told = told }

-- the answer of an act that found these states: the event is the one of the job there; the APCs that are pending there
-- are of their objects' kinds; the event's due time, if it calls a delay; and per class the greatest value that the
-- touched lanes tell for the processor, the event's own asks among them
pub record IsActed (s : Script) (f : Found) (st : Stand) (job : Job) (a : Acted) : Type 0 where
  pub what : job_event s st f.lanes job ≡ Some a.event.what
  pub event : a.event ≡ acted_event st f.lanes a.event.what
  pub kinds : KindsFit s f.lanes
  pub due : a.due ≡ due_of a.event.what f.lanes.timers.now
  pub due_fits : IfSome a.due (λ due. due < 2 ^ 51)
  pub told : (c : ℕ) → c < 16 → value_at a.told.value c
      ≡ raised (asks_in s st a.event.what f.lanes st.cpu c) a.number
      (told_over f.told (what_lanes s st a.event.what f.lanes) st.cpu c)

-- ---- refusals

-- why no event was made: nothing is to be done, of an idle processor that has no ordinary DPC and a ready thread; or
-- the thread of a switch isn't the processor's, or isn't ready
abbrev pub IsRefused : Script → Found → Stand → Job → ActRefusal → Type 0
IsRefused s f st jobs.Idle NothingToDo = job_event s st f.lanes jobs.Idle ≡ None
IsRefused s f st (jobs.Call c) NothingToDo = ⊥
IsRefused s f st (jobs.Fire d) NothingToDo = ⊥
IsRefused s f st (jobs.Free k) NothingToDo = ⊥
IsRefused s f st jobs.Drain NothingToDo = ⊥
IsRefused s f st jobs.Apcs NothingToDo = ⊥
IsRefused s f st jobs.Threaded NothingToDo = ⊥
IsRefused s f st (jobs.Pick last) NothingToDo = ⊥
IsRefused s f st (jobs.Switch t) NothingToDo = ⊥
IsRefused s f st jobs.Rewait NothingToDo = ⊥
IsRefused s f st jobs.ToUser NothingToDo = ⊥
IsRefused s f st jobs.UserEnd NothingToDo = ⊥
IsRefused s f st jobs.Leave NothingToDo = ⊥
IsRefused s f st jobs.Rundown NothingToDo = ⊥
IsRefused s f st (jobs.Switch t) BadChoice = job_event s st f.lanes (jobs.Switch t) ≡ None
IsRefused s f st (jobs.Call c) BadChoice = ⊥
IsRefused s f st (jobs.Fire d) BadChoice = ⊥
IsRefused s f st (jobs.Free k) BadChoice = ⊥
IsRefused s f st jobs.Drain BadChoice = ⊥
IsRefused s f st jobs.Apcs BadChoice = ⊥
IsRefused s f st jobs.Threaded BadChoice = ⊥
IsRefused s f st jobs.Idle BadChoice = ⊥
IsRefused s f st (jobs.Pick last) BadChoice = ⊥
IsRefused s f st jobs.Rewait BadChoice = ⊥
IsRefused s f st jobs.ToUser BadChoice = ⊥
IsRefused s f st jobs.UserEnd BadChoice = ⊥
IsRefused s f st jobs.Leave BadChoice = ⊥
IsRefused s f st jobs.Rundown BadChoice = ⊥
IsRefused s f st job NoMemory = Unit {0}
