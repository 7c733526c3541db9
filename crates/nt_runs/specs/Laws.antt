-- Laws over the definitions, each the contract of a function in src/lib.rt.
use Rattle.std.specs.Option.{option_map_or}
use Rattle.std.specs.Prelude.{List, None, Ok, Some, [], false, if◌then◌else◌, is_some, length, nat_lt, not, true, ℕ}
use Rattle.std.specs.Prelude.{◌↔◌, ◌∷◌, ◌≡◌, ◌≤◌}
use Rattle.nt_event.specs.declared.events.Event.{Event}
use Rattle.nt_event.specs.declared.events.Turn.{Turn}
use Rattle.nt_event.specs.declared.events.What.{What}
use Rattle.nt_event.specs.declared.frames.Body.TheVariants.{Base as OnBase}
use Rattle.nt_event.specs.Frame.{Frame}
use Rattle.nt_event.specs.declared.numbers.CpuNo.{CpuNo}
use Rattle.nt_event.specs.declared.numbers.ThreadNo.{ThreadNo}
use Rattle.nt_event.specs.declared.scripts.Script.{Script}
use Rattle.nt_event.specs.declared.threads.Doing.{Doing}
use Rattle.nt_event.specs.declared.threads.Doing.TheVariants.{Blocked as IsBlocked, Gone as IsGone, Ready as IsReady}
use Rattle.nt_event.specs.declared.threads.Doing.TheVariants.{Running as IsRunning}
use Rattle.nt_event.specs.Frames.{due_of, frames_of, is_base_body, level_in, running, thread_frames, thread_part, time}
use Rattle.nt_event.specs.Jobs.{chosen_what, is_still, job_event}
use Rattle.nt_event.specs.Lanes.{lanes_after, lanes_at}
use Rattle.nt_event.specs.Own.{own_after_event, own_of}
use Rattle.nt_event.specs.Regions.{regions_of, stand_at}
use Rattle.nt_event.specs.Requests.{asked, asks, seen, told}
use Rattle.nt_event.specs.Robin.{go_on_turn, is_settled, robin}
use Rattle.nt_event.specs.Routines.{cpu_of}
use Rattle.nt_event.specs.Script.{has_thread}
use Rattle.nt_event.specs.Step.{IsLegal, IsRun, event_at, is_cut, is_look, step, turn_of, turns}
use Rattle.nt_event.specs.Waits.{facts}
use Rattle.nt_event.specs.Lists.{head_of}
use Rattle.nt_event.specs.Numbers.{is_of}
use Rattle.nt_event.specs.declared.jobs.Job.{Job}
use Rattle.nt_event.specs.Acting.{IsAllowed, IsDue, StandHolds, acted_event}

-- what a processor keeps moves as the history does
abbrev pub OwnMoves : Type 0
OwnMoves = (s : Script) (p : CpuNo) (e : Event) (past : List Event) → own_of s p (e ∷ past)
    ≡ (if is_of e p then own_after_event s (length past) (due_of e.what (time past)) e (λ c. asks s p c e past)
    (λ c. told s p c e past) (own_of s p past) else own_of s p past)

-- the states of the lanes move as the history does
abbrev pub LanesMove : Type 0
LanesMove = (s : Script) (e : Event) (past : List Event) → lanes_at s (e ∷ past)
    ≡ lanes_after s (length past) (stand_at s e.cpu past) e (lanes_at s past)

-- two runs of the same turns are equal
abbrev pub TurnsDecide : Type 0
TurnsDecide = (s : Script) (limit : ℕ) (h k : List Event) → IsRun s limit h → IsRun s limit k → turns h ≡ turns k → h
    ≡ k

-- an event but a Look names the level that its processor has after it
abbrev pub LevelsHold : Type 0
LevelsHold = (s : Script) (limit : ℕ) (e : Event) (past : List Event) → IsLegal s limit e past → is_look e.what
    ≡ false → level_in (frames_of s e.cpu (e ∷ past)) ≡ e.level

-- a frame of an APC or a rundown routine: it is no base, and its thread isn't leaving by it
abbrev pub IsInner : Frame → Type 0
IsInner f = (is_base_body f.body ≡ false) × (f.leaving ≡ false)

-- the frames of a thread are its base frame, and the others begun on it
abbrev pub HasBase : ThreadNo → List Frame → Type 0
HasBase t [] = ⊥
HasBase t (f ∷ []) = f.body ≡ OnBase t
HasBase t (f ∷ (g ∷ fs)) = IsInner f × HasBase t (g ∷ fs)

-- in a run, the thread that runs on a processor is one of its own, and has its base frame
abbrev pub RunningHasBase : Type 0
RunningHasBase = (s : Script) (limit : ℕ) (p : CpuNo) (t : ThreadNo) (past : List Event) → IsRun s limit past →
    running p past ≡ Some t → ((cpu_of s t).0 ≡ p.0) × (has_thread s t ≡ true) ×
    HasBase t (thread_part (frames_of s p past))

-- a run goes on by a step, and the event has the turn that gave it
abbrev pub RunGrows : Type 0
RunGrows = (s : Script) (limit : ℕ) (t : Turn) (past : List Event) (e : Event) → IsRun s limit past →
    step s limit t past ≡ Ok e → IsRun s limit (e ∷ past) × (turn_of e ≡ t)

-- the turn of the robin rule is accepted
abbrev pub RobinIsAccepted : Type 0
RobinIsAccepted = (s : Script) (limit : ℕ) (past : List Event) (t : Turn) → IsRun s limit past → robin s limit past
    ≡ Some t → (e : Event) × (step s limit t past ≡ Ok e)

-- in a run, what was noticed was asked
abbrev pub SeenWasAsked : Type 0
SeenWasAsked = (s : Script) (limit : ℕ) (p : CpuNo) (c : ℕ) (past : List Event) → IsRun s limit past →
    seen s p c past ≤ asked s p c past

-- in a run, the robin rule has no turn exactly where the history is settled
abbrev pub RobinEndsSettled : Type 0
RobinEndsSettled = (s : Script) (limit : ℕ) (past : List Event) → IsRun s limit past →
    (robin s limit past ≡ None) ↔ (is_settled s limit past ≡ true)

-- in a run, what an uncut processor that picks its threads itself does is what the robin rule's turn of it gives, but
-- for looks
abbrev pub ChosenIsItsTurn : Type 0
ChosenIsItsTurn = (s : Script) (limit : ℕ) (p : CpuNo) (past : List Event) (w : What) → IsRun s limit past →
    nat_lt p.0 s.cpus ≡ true → is_cut limit (own_of s p past) ≡ false →
    chosen_what s p (own_of s p past) (lanes_at s past) ≡ Some w →
    step s limit (go_on_turn s p (own_of s p past) (lanes_at s past)) past ≡ Ok (event_at s p w (frames_of s p past))

-- and there is such an event exactly where the processor neither rests nor spins still
abbrev pub ChosenComes : Type 0
ChosenComes = (s : Script) (limit : ℕ) (p : CpuNo) (past : List Event) → IsRun s limit past →
    is_some (chosen_what s p (own_of s p past) (lanes_at s past)) ≡ not (is_still (own_of s p past))

-- the level of the innermost frame of a thread
abbrev pub level_of : List Frame → ℕ
level_of fs = option_map_or (λ f. f.level) (head_of fs) 0

-- what the facts say of the frames, where the thread runs or not
abbrev pub Says : Doing → List Frame → Type 0 → Type 0
Says IsRunning fs runs = runs
Says (IsReady level st) fs runs = (runs → ⊥) × (level ≡ level_of fs)
Says (IsBlocked w) fs runs = (runs → ⊥) × (w.level ≡ level_of fs) × (w.regions ≡ regions_of fs)
Says IsGone fs runs = (runs → ⊥) × (fs ≡ [])

abbrev pub Agrees : Script → ThreadNo → List Event → Type 0
Agrees s t past = Says (facts s t past).doing (thread_frames s (cpu_of s t) t past) (running (cpu_of s t) past ≡ Some t)

-- in a run, the facts of each thread agree with its frames: it runs where they say so, and one that doesn't run has the
-- level and, blocked, the regions with which it stopped; one that is gone has no frame
abbrev pub FactsAgree : Type 0
FactsAgree = (s : Script) (limit : ℕ) (t : ThreadNo) (past : List Event) → IsRun s limit past → Agrees s t past

-- in a run each processor stands so
abbrev pub ProcessorsStand : Type 0
ProcessorsStand = (s : Script) (limit : ℕ) (p : CpuNo) (past : List Event) → IsRun s limit past →
    StandHolds s (lanes_at s past) (stand_at s p past)

-- in a run a job that is due is allowed
abbrev pub JobsAllowed : Type 0
JobsAllowed = (s : Script) (limit : ℕ) (p : CpuNo) (job : Job) (past : List Event) → IsRun s limit past →
    IsDue s p (own_of s p past) job → IsAllowed (lanes_at s past) (stand_at s p past) job

-- in a run the event of a job that is due is the one that the processor's frames give
abbrev pub EventsAgree : Type 0
EventsAgree = (s : Script) (limit : ℕ) (p : CpuNo) (job : Job) (w : What) (past : List Event) → IsRun s limit past →
    IsDue s p (own_of s p past) job → job_event s (stand_at s p past) (lanes_at s past) job ≡ Some w →
    event_at s p w (frames_of s p past) ≡ acted_event (stand_at s p past) (lanes_at s past) w
