-- The event of a turn Next or Switch is determined by what its processor keeps and the states of the lanes that it touches.
use Rattle.std.proofs.Common.{ap, subst, sym, ◌∙◌}
use Rattle.std.specs.Prelude.{List, None, Ok, Option, Some, [], false, length, nat_lt, not, option_and_then, refl, true, ℕ, ◌∷◌, ◌≡◌}
use Rattle.nt_event.specs.declared.events.Event.{Event}
use Rattle.nt_event.specs.declared.events.ScheduleKind.{ScheduleKind}
use Rattle.nt_event.specs.declared.events.ScheduleKind.TheVariants.{BadChoice, NothingToDo}
use Rattle.nt_event.specs.declared.events.Turn.{Turn}
use Rattle.nt_event.specs.declared.events.Turn.TheVariants.{Look as LookTurn, Next, Switch as SwitchTurn}
use Rattle.nt_event.specs.declared.events.What.{What}
use Rattle.nt_event.specs.declared.jobs.Job.{Job}
use Rattle.nt_event.specs.declared.jobs.Job.TheVariants.{Pick as PickJob, Switch as SwitchJob}
use Rattle.nt_event.specs.declared.jobs.Task.{Task}
use Rattle.nt_event.specs.declared.jobs.Task.TheVariants.{Alone, Shared}
use Rattle.nt_event.specs.declared.numbers.CpuNo.{CpuNo}
use Rattle.nt_event.specs.declared.scripts.Script.{Script}
use Rattle.nt_event.specs.Frames.{frames_of}
use Rattle.nt_event.specs.Jobs.{job_event, may_switch, may_take, next_what, switch_event, task, task_event}
use Rattle.nt_event.specs.LaneStates.{LaneState}
use Rattle.nt_event.specs.Lanes.{Lanes, lanes_at, lanes_of, what_lanes}
use Rattle.nt_event.specs.Own.{Own, own_of, stand_in}
use Rattle.nt_event.specs.Regions.{stand_at}
use Rattle.nt_event.specs.Step.{IsRun, cpu_at, event_at, event_or, is_cut, step, uncut_step}
use Rattle.nt_event.specs.Waits.{facts}
use Rattle.nt_event.specs.Numbers.{thread}
use Rattle.nt_event.specs.Lists.{when}
use Rattle.nt_event.proofs.Options.{holds_at}
use Rattle.nt_runs.proofs.Running.{own_runs}
use Rattle.nt_runs.proofs.Steps.{next_gives, step_uncut, switch_gives}
use Rattle.nt_runs.proofs.Turns.{NextTask, is_chosen, task_next}
use Rattle.nt_laws.specs.Locality.{SameOnEach, makes}
use Rattle.nt_event.proofs.Tables.{length-table_from}
use Rattle.nt_event.specs.declared.jobs.Lane.{Lane}
use Rattle.nt_runs.proofs.Locality.Jobs.{SameOn, is_pick, job_goes}

-- lanes with the same states after two histories have the same content
pub contents : (s : Script) (h k : List Event) (xs : List Lane) → SameOnEach s h k xs → SameOn s (lanes_at s h) (lanes_at s k) xs
contents s h k [] q = tt
contents s h k (x ∷ xs) q = (ap (λ (y : LaneState). y.content) q.0, contents s h k xs q.1)

-- the states of the lanes have facts of each thread of the script
pub all_threads : (s : Script) (h : List Event) → length (lanes_at s h).threads ≡ length s.threads
all_threads s h = length-table_from 0 (length s.threads) (λ t. facts s (thread t) h)

-- anything follows from a test that is both false and true
no_bool : {A : Type 0} → false ≡ true → A
no_bool h = cc

-- ---- the step

-- what a turn gives after an uncut processor's history, by what it names
step_names : (s : Script) (limit : ℕ) (t : Turn) (past : List Event) (kind : ScheduleKind) (o : Option What) (w : What) → not (nat_lt (cpu_at t).0 s.cpus)
    ≡ false → is_cut limit (own_of s (cpu_at t) past) ≡ false → uncut_step s t (own_of s (cpu_at t) past) (lanes_at s past) past
    ≡ event_or s (cpu_at t) (own_of s (cpu_at t) past) kind o → o ≡ Some w → step s limit t past ≡ Ok (event_at s (cpu_at t) w (frames_of s (cpu_at t) past))
step_names s limit t past kind o w below uncut u c =
    rw (below, uncut) (u ∙ ap (event_or s (cpu_at t) (own_of s (cpu_at t) past) kind) c)

-- the lanes of an event, by where its processor stood
pub lanes_named : (s : Script) (h k : List Event) (p : CpuNo) (w : What) (e : Event) → event_at s p w (frames_of s p h) ≡ e →
    SameOnEach s h k (lanes_of s e h) → SameOnEach s h k (what_lanes s (stand_at s p h) w (lanes_at s h))
lanes_named s h k p w e i q = subst (λ (e : Event). SameOnEach s h k (lanes_of s e h)) (sym i) q

-- the next event
next_goes : (s : Script) (limit : ℕ) (h k : List Event) (p : CpuNo) (w : What) → IsRun s limit h → next_what s p (own_of s p h) (lanes_at s h) ≡ Some w →
    SameOnEach s h k (what_lanes s (stand_at s p h) w (lanes_at s h)) → next_what s p (own_of s p h) (lanes_at s k) ≡ Some w
next_goes s limit h k p w r e q = go (task s p (own_of s p h)) refl
  where
    go : (o : Option Task) → task s p (own_of s p h) ≡ o → next_what s p (own_of s p h) (lanes_at s k) ≡ Some w
    go None z =
        let none : None ≡ Some w = ap (λ (o : Option Task). option_and_then (task_event s (stand_at s p h) (lanes_at s h)) o) (sym z) ∙ e in cc
    go (Some (Alone v)) z =
        ap (λ (o : Option Task). option_and_then (task_event s (stand_at s p h) (lanes_at s k)) o) z
        ∙ (ap (λ (o : Option Task). option_and_then (task_event s (stand_at s p h) (lanes_at s h)) o) (sym z) ∙ e)
    go (Some (Shared j)) z =
        let job : job_event s (stand_at s p h) (lanes_at s h) j
        ≡ Some w = ap (λ (o : Option Task). option_and_then (task_event s (stand_at s p h) (lanes_at s h)) o) (sym z) ∙ e in
        let chosen : is_chosen j ≡ false = holds_at NextTask (task s p (own_of s p h)) (Shared j) (task_next s p (own_of s p h)) z in
        ap (λ (o : Option Task). option_and_then (task_event s (stand_at s p h) (lanes_at s k)) o) z
        ∙ job_goes s (lanes_at s h) (lanes_at s k) (all_threads s h) (all_threads s k) (stand_at s p h) (own_runs s limit p h r) j (no_pick j chosen) w job
        (contents s h k _ q)
      where
        no_pick : (j : Job) → is_chosen j ≡ false → is_pick j ≡ false
        no_pick (PickJob last) h = cc
        no_pick (SwitchJob t) h = refl
        no_pick j h = refl

-- what a processor keeps decides whether it is cut, what it has to do, and its frames
same_step : (s : Script) (limit : ℕ) (h k : List Event) (t : Turn) (e : Event) (kind : ScheduleKind) (w : What) (f : Own → Lanes → Option What) →
    own_of s (cpu_at t) h ≡ own_of s (cpu_at t) k → not (nat_lt (cpu_at t).0 s.cpus) ≡ false → is_cut limit (own_of s (cpu_at t) h) ≡ false →
    event_at s (cpu_at t) w (frames_of s (cpu_at t) h) ≡ e →
    ((past : List Event) → uncut_step s t (own_of s (cpu_at t) past) (lanes_at s past) past
    ≡ event_or s (cpu_at t) (own_of s (cpu_at t) past) kind (f (own_of s (cpu_at t) past) (lanes_at s past))) → f (own_of s (cpu_at t) h) (lanes_at s k)
    ≡ Some w → step s limit t k ≡ Ok e
same_step s limit h k t e kind w f own below uncut i u c =
    let cut : is_cut limit (own_of s (cpu_at t) k) ≡ false = ap (is_cut limit) (sym own) ∙ uncut in
    let named : f (own_of s (cpu_at t) k) (lanes_at s k) ≡ Some w = ap (λ (x : Own). f x (lanes_at s k)) (sym own) ∙ c in
    step_names s limit t k kind (f (own_of s (cpu_at t) k) (lanes_at s k)) w below cut (u k) named
    ∙ ap (λ (y : Event). Ok y) (ap (λ (x : Own). event_at s (cpu_at t) w x.frames) (sym own) ∙ i)

-- a turn that makes an event gives it in each run with the same kept part and states of the lanes it touches
pub step_is_local : (s : Script) (limit : ℕ) (h k : List Event) (t : Turn) (e : Event) → IsRun s limit h → IsRun s limit k → makes t ≡ true →
    own_of s (cpu_at t) h ≡ own_of s (cpu_at t) k → step s limit t h ≡ Ok e → SameOnEach s h k (lanes_of s e h) → step s limit t k ≡ Ok e
step_is_local s limit h k (Next p) e r v m own g q =
    let n = next_gives s limit p h e g in
    let a = step_uncut s limit (Next p) h e g in
    same_step s limit h k (Next p) e NothingToDo n.0 (next_what s p) own a.0 a.1 n.2 (λ past. refl)
    (next_goes s limit h k p n.0 r n.1 (lanes_named s h k p n.0 e n.2 q))
step_is_local s limit h k (SwitchTurn p t) e r v m own g q =
    let n = switch_gives s limit p t h e g in
    let a = step_uncut s limit (SwitchTurn p t) h e g in
    let l : Lanes = lanes_at s h in
    let there = lanes_named s h k p (switch_event t l) e n.2 q in
    let given : when (may_take s p t l) (Some (switch_event t l)) ≡ Some (switch_event t l) = rw n.1 refl in
    let goes = job_goes s l (lanes_at s k) (all_threads s h) (all_threads s k) (stand_at s p h) (own_runs s limit p h r) (SwitchJob t) refl
    (switch_event t l) given (contents s h k (what_lanes s (stand_at s p h) (switch_event t l) l) there) in
    same_step s limit h k (SwitchTurn p t) e BadChoice (switch_event t l)
    (λ x l. when (may_switch x) (job_event s (stand_in p x) l (SwitchJob t))) own a.0 a.1 n.2 (λ past. refl) (rw n.0 goes)
step_is_local s limit h k (LookTurn p rises) e r v m own g q = no_bool m
