-- An event that a step gives has the step's turn; so a run goes on by a step, and the turns decide a run.
use Rattle.std.proofs.Common.{ap, subst, sym, ◌∙◌}
use Rattle.std.proofs.lemmas.List.{map_push, reverse-append, reverse-reverse}
use Rattle.std.specs.Option.{option_or}
use Rattle.std.specs.Prelude.{Bool, List, None, Ok, Option, Result, Some, [], false, find, if◌then◌else◌, is_none, is_some, map, not, option_and_then}
use Rattle.std.specs.Prelude.{option_map, refl, reverse, true, ℕ, ◌&&◌, ◌++◌, ◌-◌, ◌∷◌, ◌≡◌}
use Rattle.nt_event.specs.declared.commands.ApcKind.TheVariants.{User as UserApc}
use Rattle.nt_event.specs.declared.commands.Command.{Command}
use Rattle.nt_event.specs.declared.commands.Command.TheVariants.{ToUser}
use Rattle.nt_event.specs.declared.commands.Refusal.{Refusal}
use Rattle.nt_event.specs.declared.commands.Reply.TheVariants.{Done}
use Rattle.nt_event.specs.declared.events.Begun.TheVariants.{Int}
use Rattle.nt_event.specs.declared.events.Event.{Event}
use Rattle.nt_event.specs.declared.events.ScheduleKind.{ScheduleKind}
use Rattle.nt_event.specs.declared.events.Turn.{Turn}
use Rattle.nt_event.specs.declared.events.Turn.TheVariants.{Look as LookTurn, Next, Switch as SwitchTurn}
use Rattle.nt_event.specs.declared.events.What.{What}
use Rattle.nt_event.specs.declared.events.What.TheVariants.{Begin, Call, Clean, Flush, Gone, Look, Normal, Rest, Rewait, Switch}
use Rattle.nt_event.specs.declared.frames.Body.{Body}
use Rattle.nt_event.specs.declared.frames.Body.TheVariants.{Apc as OnApc, Base as OnBase}
use Rattle.nt_event.specs.Frame.{Frame}
use Rattle.nt_event.specs.declared.inserts.Insert.{Insert}
use Rattle.nt_event.specs.declared.inserts.Part.{Part}
use Rattle.nt_event.specs.declared.inserts.Part.TheVariants.{Ordinary as OrdinaryPart, Threaded as ThreadedPart}
use Rattle.nt_event.specs.declared.jobs.Job.{Job}
use Rattle.nt_event.specs.declared.jobs.Job.TheVariants.{Apcs as ApcsJob, Call as CallJob, Drain as DrainJob, Fire as FireJob, Free as FreeJob, Idle as IdleJob}
use Rattle.nt_event.specs.declared.jobs.Job.TheVariants.{Leave as LeaveJob, Pick as PickJob, Rewait as RewaitJob, Rundown as RundownJob, Switch as SwitchJob}
use Rattle.nt_event.specs.declared.jobs.Job.TheVariants.{Threaded as ThreadedJob, ToUser as ToUserJob, UserEnd as UserEndJob}
use Rattle.nt_event.specs.declared.jobs.Stand.{Stand}
use Rattle.nt_event.specs.declared.jobs.Task.{Task}
use Rattle.nt_event.specs.declared.jobs.Task.TheVariants.{Alone, Shared}
use Rattle.nt_event.specs.declared.numbers.CpuNo.{CpuNo}
use Rattle.nt_event.specs.declared.scripts.Script.{Script}
use Rattle.nt_event.specs.Apcs.{deliverable, first_user}
use Rattle.nt_event.specs.Commands.{needs_lane}
use Rattle.nt_event.specs.Frames.{innermost}
use Rattle.nt_event.specs.Jobs.{begin_apc, begin_dpc, begin_first, call_task, command_task, end_task, expire_key, fire_task, frame_task, free_task, go_on_task}
use Rattle.nt_event.specs.Jobs.{has_normal, idle_event, idle_task, interrupt_task, job_event, may_apcs, may_drain, may_interrupt, may_threaded, must_task}
use Rattle.nt_event.specs.Jobs.{next_what, normal_task, ready, rewait_reply, rewait_task, rundown_event, rundown_task, task, task_event, user_due}
use Rattle.nt_event.specs.Jobs.{waits_for_lock}
use Rattle.nt_event.specs.Classes.{interrupt_classes}
use Rattle.nt_event.specs.Lanes.{Lanes, facts_at, facts_of, lanes_at, queue_at}
use Rattle.nt_event.specs.Own.{Own, own_of, stand_in}
use Rattle.nt_event.specs.Queues.{QueueState, first_dpc}
use Rattle.nt_event.specs.Routines.{next_command}
use Rattle.nt_event.specs.Step.{IsRun, step, turn_at, turn_of, turns}
use Rattle.nt_event.specs.Timers.{first_due}
use Rattle.nt_event.specs.Lists.{head_of, is_null, value_at, when}
use Rattle.nt_event.proofs.Options.{Holds, holds_at, holds_else, holds_map, holds_or, holds_then, holds_when}
use Rattle.nt_runs.proofs.Steps.{Gives, look_gives, next_gives, switch_gives}

-- ---- the next event is neither a Look nor a Switch

abbrev pub is_next : What → Bool
is_next (Look r) = false
is_next (Switch t st) = false
is_next w = true

abbrev IsNext : What → Type 0
IsNext w = is_next w ≡ true

abbrev pub is_chosen : Job → Bool
is_chosen (PickJob last) = true
is_chosen (SwitchJob t) = true
is_chosen j = false

-- a task that makes no choice of thread
abbrev pub NextTask : Task → Type 0
NextTask (Alone w) = IsNext w
NextTask (Shared j) = is_chosen j ≡ false

-- the begin of the first DPC of a part is one of the events that a turn Next gives
first_next : (part : Part) (q : QueueState) → Holds IsNext (begin_first part q)
first_next part q = holds_map IsNext (begin_dpc part) (first_dpc part q.pending) (λ i e. begins part i)
  where
    begins : (part : Part) (i : Insert) → IsNext (begin_dpc part i)
    begins OrdinaryPart i = refl
    begins ThreadedPart i = refl

-- the idle event is one of those that a turn Next gives
pub idle_next : (s : Script) (st : Stand) (l : Lanes) → Holds IsNext (idle_event s st l)
idle_next s st l =
    holds_or IsNext (begin_first OrdinaryPart (queue_at l st.cpu)) _ (first_next OrdinaryPart (queue_at l st.cpu))
    (λ e. holds_when IsNext (is_null (ready s st.cpu l)) (Some Rest) (λ h. refl))

-- the event of a job that chooses no thread is one that a turn Next gives
job_next : (s : Script) (st : Stand) (l : Lanes) (j : Job) → is_chosen j ≡ false → Holds IsNext (job_event s st l j)
job_next s st l (CallJob c) h = refl
job_next s st l (FireJob d) h = refl
job_next s st l (FreeJob k) h = refl
job_next s st l DrainJob h =
    holds_else IsNext (option_or (option_map expire_key (when st.sweep (first_due l.timers))) (begin_first OrdinaryPart (queue_at l st.cpu))) (Clean 2)
    (holds_or IsNext (option_map expire_key (when st.sweep (first_due l.timers))) (begin_first OrdinaryPart (queue_at l st.cpu))
    (holds_map IsNext expire_key (when st.sweep (first_due l.timers)) (λ x e. refl)) (λ e. first_next OrdinaryPart (queue_at l st.cpu))) (λ e. refl)
job_next s st l ApcsJob h =
    holds_else IsNext (option_map begin_apc (deliverable (facts_of l st.thread).apcs st.regions st.level)) (Clean 1)
    (holds_map IsNext begin_apc (deliverable (facts_of l st.thread).apcs st.regions st.level) (λ x e. refl)) (λ e. refl)
job_next s st l ThreadedJob h =
    holds_else IsNext (begin_first ThreadedPart (queue_at l st.cpu)) (Clean 0) (first_next ThreadedPart (queue_at l st.cpu)) (λ e. refl)
job_next s st l IdleJob h = idle_next s st l
job_next s st l (PickJob last) h = cc
job_next s st l (SwitchJob t) h = cc
job_next s st l RewaitJob h =
    holds_map IsNext (λ w. Rewait st.frame (rewait_reply st l w)) st.again (λ w e. refl)
job_next s st l ToUserJob h =
    holds_else IsNext (option_map begin_apc (user_due (facts_of l st.thread))) (Call st.frame ToUser Done)
    (holds_map IsNext begin_apc (user_due (facts_of l st.thread)) (λ x e. refl)) (λ e. refl)
job_next s st l UserEndJob h = refl
job_next s st l LeaveJob h = refl
job_next s st l RundownJob h =
    holds_map IsNext (rundown_event l) st.thread (λ t e. holds_else IsNext (option_map (λ x. Flush x.apc x.number) (first_user (facts_at l t).apcs)) (Gone t)
    (holds_map IsNext (λ x. Flush x.apc x.number) (first_user (facts_at l t).apcs) (λ x k. refl)) (λ k. refl))

-- a task that must be done first chooses no thread
must_next : (x : Own) → Holds NextTask (must_task x)
must_next x =
    holds_or NextTask (fire_task x) _ (holds_map NextTask (λ d. Shared (FireJob d)) x.fire (λ d e. refl))
    (λ e. holds_or NextTask (interrupt_task x) _ (holds_map NextTask (λ c. Alone (Begin (Int c) (value_at x.seen c - 1)))
    (find (may_interrupt x) interrupt_classes) (λ c k. refl))
    (λ k. holds_or NextTask (when (may_drain x) (Some (Shared DrainJob))) _ (holds_when NextTask (may_drain x) (Some (Shared DrainJob)) (λ h. refl))
    (λ k2. holds_or NextTask (when (may_apcs x) (Some (Shared ApcsJob))) _ (holds_when NextTask (may_apcs x) (Some (Shared ApcsJob)) (λ h. refl))
    (λ k3. holds_when NextTask (may_threaded x) (Some (Shared ThreadedJob)) (λ h. refl)))))

-- the task of a command chooses no thread
call_next : (f : Frame) (c : Command) (r : Option Refusal) → NextTask (call_task f c r)
call_next f c (Some r) = refl
call_next f ToUser None = refl
call_next f c None = lane (needs_lane c)
  where
    lane : (b : Bool) → NextTask (if b then Shared (CallJob c) else Alone (Call f.name c Done))
    lane true = refl
    lane false = refl

-- the task that ends a frame chooses no thread
end_next : (n : ℕ) (b : Body) → NextTask (end_task n b)
end_next n (OnBase t) = refl
end_next n (OnApc a UserApc) = refl
end_next n b = refl

-- the task of the next command, if there is one, chooses no thread
command_next : (x : Own) (f : Frame) (o : Option Command) → Holds NextTask (command_task x f o)
command_next x f None = tt
command_next x f (Some c) = call_next f c _

-- no task of a frame chooses a thread
frame_next : (s : Script) (p : CpuNo) (x : Own) (f : Frame) → Holds NextTask (frame_task s p x f)
frame_next s p x f =
    holds_or NextTask (rewait_task f) _ (holds_when NextTask (is_some f.again) (Some (Shared RewaitJob)) (λ h. refl))
    (λ e. holds_or NextTask (rundown_task f) _ (holds_when NextTask f.leaving (Some (Shared RundownJob)) (λ h. refl))
    (λ k. holds_or NextTask (command_task x f (next_command s p f)) _ (command_next x f (next_command s p f))
    (λ k2. holds_or NextTask (free_task f) _ (holds_map NextTask (λ h. Shared (FreeJob h.lock)) (head_of f.held) (λ h e. refl))
    (λ k4. holds_or NextTask (normal_task f) _ (holds_when NextTask (f.kernel_phase && has_normal f.body) (Some (Alone (Normal f.name))) (λ h. refl))
    (λ k3. end_next f.name f.body)))))

-- a processor's task is one that makes no choice of thread
pub task_next : (s : Script) (p : CpuNo) (x : Own) → Holds NextTask (task s p x)
task_next s p x =
    holds_or NextTask (must_task x) _ (must_next x) (λ e. holds_when NextTask (not (waits_for_lock x)) (go_on_task s p x)
    (λ q. holds_or NextTask (option_and_then (frame_task s p x) (innermost x.frames)) (idle_task x)
    (holds_then NextTask (frame_task s p x) (innermost x.frames) (λ f k. frame_next s p x f))
    (λ k. holds_when NextTask (not (x.rested && is_none x.frames.running)) (Some (Shared IdleJob)) (λ h. refl))))

-- what a processor does next is one of those that a turn Next gives
pub next_is_next : (s : Script) (p : CpuNo) (x : Own) (l : Lanes) → Holds (λ w. is_next w ≡ true) (next_what s p x l)
next_is_next s p x l =
    holds_then IsNext (task_event s (stand_in p x) l) (task s p x) (λ t e. events t (holds_at NextTask (task s p x) t (task_next s p x) e))
  where
    events : (t : Task) → NextTask t → Holds IsNext (task_event s (stand_in p x) l t)
    events (Alone w) h = h
    events (Shared j) h = job_next s (stand_in p x) l j h

-- ---- turns

-- the turn of an event that is no Look and no Switch is Next of its processor
turn_next : (p : CpuNo) (w : What) → IsNext w → turn_at p w ≡ Next p
turn_next p (Look r) h = cc
turn_next p (Switch t st) h = cc
turn_next p w h = refl

-- an event that a step gives has the step's turn
pub turn_same : (s : Script) (limit : ℕ) (t : Turn) (past : List Event) (e : Event) → Gives (step s limit t past) e → turn_of e ≡ t
turn_same s limit (Next p) past e h =
    let k = next_gives s limit p past e h in
    ap turn_of (sym k.2) ∙ turn_next p k.0 (holds_at IsNext (next_what s p (own_of s p past) (lanes_at s past)) k.0
    (next_is_next s p (own_of s p past) (lanes_at s past)) k.1)
turn_same s limit (SwitchTurn p t) past e h = ap turn_of (sym (switch_gives s limit p t past e h).2)
turn_same s limit (LookTurn p r) past e h = ap turn_of (sym (look_gives s limit p r past e h).1)

-- a run goes on by a step
pub run_grows : (s : Script) (limit : ℕ) (t : Turn) (past : List Event) (e : Event) → IsRun s limit past → Gives (step s limit t past) e →
    IsRun s limit (e ∷ past)
run_grows s limit t past e r h =
    (subst (λ (u : Turn). Gives (step s limit u past) e) (sym (turn_same s limit t past e h)) h, r)

-- ---- turns decide the run

-- two events that are equal as accepted answers are equal
same_event : (e f : Event) → ◌≡◌ {A = Result Event ScheduleKind} (Ok e) (Ok f) → e ≡ f
same_event e f h = cc

-- two runs of the same turns, the newest first, are the same run
newest_decide : (s : Script) (limit : ℕ) (h k : List Event) → IsRun s limit h → IsRun s limit k → map turn_of h ≡ map turn_of k → h ≡ k
newest_decide s limit [] [] r q t = refl
newest_decide s limit [] (f ∷ k) r q t = cc
newest_decide s limit (e ∷ h) [] r q t = cc
newest_decide s limit (e ∷ h) (f ∷ k) r q t =
    let same : h ≡ k = newest_decide s limit h k r.1 q.1 (tails _ _ _ _ t) in
    let first : e ≡ f = same_event e f (sym r.0 ∙ ap (λ (x : List Event). step s limit (turn_of e) x) same
    ∙ ap (λ (x : Turn). step s limit x k) (heads _ _ _ _ t) ∙ q.0) in
    cc
  where
    heads : (a b : Turn) (x y : List Turn) → a ∷ x ≡ b ∷ y → a ≡ b
    heads a b x y e = cc

    tails : (a b : Turn) (x y : List Turn) → a ∷ x ≡ b ∷ y → x ≡ y
    tails a b x y e = cc

-- mapping a reversed list is reversing the mapped list
map-reverse : {A B : Type 0} (f : A → B) (xs : List A) → map f (reverse xs) ≡ reverse (map f xs)
map-reverse f [] = refl
map-reverse f (x ∷ xs) =
    ap (map f) (reverse-append (x ∷ []) xs) ∙ (map_push f (reverse xs) x
    ∙ (ap (λ l. l ++ f x ∷ []) (map-reverse f xs) ∙ sym (reverse-append (f x ∷ []) (map f xs))))

-- the turns in order are those of the newest event first, the other way round
turns_back : (past : List Event) → map turn_of past ≡ reverse (turns past)
turns_back past = sym (reverse-reverse (map turn_of past)) ∙ ap reverse (sym (map-reverse turn_of past))

-- two runs of the same turns are equal
pub turns_decide : (s : Script) (limit : ℕ) (h k : List Event) → IsRun s limit h → IsRun s limit k → turns h ≡ turns k → h ≡ k
turns_decide s limit h k r q t =
    newest_decide s limit h k r q (turns_back h ∙ (ap reverse t ∙ sym (turns_back k)))
