-- In a run the event of a job that is due is told by where its processor stands and the states of the lanes alone.
use Rattle.std.proofs.Common.{ap, inl, inr, subst, sym, ◌∙◌}
use Rattle.std.proofs.lemmas.Bool.{both_ways, eq-eqb, eqb-true, ltb-true}
use Rattle.std.specs.Option.{option_map_or, option_or}
use Rattle.std.specs.Prelude.{Bool, List, None, Option, Some, [], false, find, if◌then◌else◌, is_none, is_some, length, not, option_and_then, option_map, refl}
use Rattle.std.specs.Prelude.{true, ℕ, ◌&&◌, ◌-◌, ◌==◌, ◌∷◌, ◌≡◌}
use Rattle.nt_event.specs.declared.commands.ApcKind.TheVariants.{User as UserApc}
use Rattle.nt_event.specs.declared.commands.Command.{Command}
use Rattle.nt_event.specs.declared.commands.Command.TheVariants.{Acquire, Delay, EnterCrit, EnterGuard, LeaveCrit, LeaveGuard, Lower, Queue, Raise, StartWait}
use Rattle.nt_event.specs.declared.commands.Command.TheVariants.{ToUser, Unlock, Yield}
use Rattle.nt_event.specs.declared.commands.Refusal.{Refusal}
use Rattle.nt_event.specs.declared.commands.Reply.{Reply}
use Rattle.nt_event.specs.declared.commands.Reply.TheVariants.{Blocked, Done, Spin}
use Rattle.nt_event.specs.declared.events.Begun.TheVariants.{Apc, Int}
use Rattle.nt_event.specs.declared.events.Event.{Event}
use Rattle.nt_event.specs.declared.events.What.{What}
use Rattle.nt_event.specs.declared.events.What.TheVariants.{Begin, Call, Clean, End, Expire, Fire, Flush, Free, Gone, Normal, Rest, Rewait, Switch}
use Rattle.nt_event.specs.declared.frames.Body.{Body}
use Rattle.nt_event.specs.declared.frames.Body.TheVariants.{Apc as OnApc, Base as OnBase}
use Rattle.nt_event.specs.Frame.{Frame}
use Rattle.nt_event.specs.declared.inserts.Insert.{Insert}
use Rattle.nt_event.specs.declared.inserts.Part.{Part}
use Rattle.nt_event.specs.declared.inserts.Part.TheVariants.{Ordinary as OrdinaryPart, Threaded as ThreadedPart}
use Rattle.nt_event.specs.declared.jobs.Job.{Job}
use Rattle.nt_event.specs.declared.jobs.Job.TheVariants.{Apcs as ApcsJob, Call as CallJob, Drain as DrainJob, Fire as FireJob, Free as FreeJob, Idle as IdleJob}
use Rattle.nt_event.specs.declared.jobs.Job.TheVariants.{Leave as LeaveJob, Pick as PickJob, Rewait as RewaitJob, Rundown as RundownJob, Switch as SwitchJob}
use Rattle.nt_event.specs.declared.jobs.Job.TheVariants.{Threaded as ThreadedJob, ToUser as ToUserJob, UserEnd as UserEndJob}
use Rattle.nt_event.specs.declared.jobs.Stand.{Stand}
use Rattle.nt_event.specs.declared.jobs.Task.{Task}
use Rattle.nt_event.specs.declared.jobs.Task.TheVariants.{Alone, Shared}
use Rattle.nt_event.specs.declared.numbers.ApcNo.{ApcNo}
use Rattle.nt_event.specs.declared.numbers.CpuNo.{CpuNo}
use Rattle.nt_event.specs.declared.numbers.RoutineNo.{RoutineNo}
use Rattle.nt_event.specs.declared.numbers.ThreadNo.{ThreadNo}
use Rattle.nt_event.specs.declared.scripts.Script.{Script}
use Rattle.nt_event.specs.declared.threads.Doing.{Doing}
use Rattle.nt_event.specs.declared.threads.Doing.TheVariants.{Ready as IsReady}
use Rattle.nt_event.specs.Acting.{IsDue, acted_event, acted_level, move_level}
use Rattle.nt_event.specs.Apcs.{first_user}
use Rattle.nt_event.specs.Commands.{needs_lane, reply}
use Rattle.nt_event.specs.Calls.{stops}
use Rattle.nt_event.specs.Frames.{Frames, at_name, called, effect, end_on_thread, flushed, frames_after, frames_in, frames_of, freed, freed_level, innermost}
use Rattle.nt_event.specs.Frames.{is_base_body, is_on_thread, is_user_apc_body, level_in, level_moved, own_after, own_frames, rewaited, running, running_after}
use Rattle.nt_event.specs.Frames.{switched_to, thread_after, thread_frames, thread_if, thread_part, without}
use Rattle.nt_event.specs.Jobs.{begin_apc, begin_dpc, begin_first, call_task, command_task, end_task, expire_key, fire_task, frame_task, free_task, go_on_task}
use Rattle.nt_event.specs.Jobs.{has_normal, idle_event, idle_task, interrupt_task, job_event, level_at, may_apcs, may_drain, may_interrupt, may_switch}
use Rattle.nt_event.specs.Jobs.{may_take, may_threaded, must, must_task, next_ready, normal_task, ready, rewait_reply, rewait_task, rundown_event, rundown_task}
use Rattle.nt_event.specs.Jobs.{switch_event, task, user_due, waits_for_lock}
use Rattle.nt_event.specs.Classes.{interrupt_classes}
use Rattle.nt_event.specs.Lanes.{Lanes, facts_at, facts_of, lanes_at, queue_at}
use Rattle.nt_runs.specs.Laws.{HasBase, Says, level_of}
use Rattle.nt_event.specs.Own.{Own, own_of}
use Rattle.nt_event.specs.Queues.{first_dpc}
use Rattle.nt_event.specs.Regions.{ended_level_in, first_level, freed_in, owes_sweep, stand_at}
use Rattle.nt_event.specs.Routines.{cpu_of, next_command, rundown_of}
use Rattle.nt_event.specs.Script.{has_thread}
use Rattle.nt_event.specs.Step.{IsRun, event_at, level_field, thread_field, unleveled}
use Rattle.nt_event.specs.Threads.{ThreadFacts, doing_level, ended_status, is_ready, ready_doing, start_facts}
use Rattle.nt_event.specs.Timers.{first_due, timers_at}
use Rattle.nt_event.specs.Waits.{facts}
use Rattle.nt_event.specs.Lists.{head_of, is_null, table, tail_of, value_at, when}
use Rattle.nt_event.specs.Replies.{is_blocked}
use Rattle.nt_event.specs.Numbers.{is_by, is_thread, thread}
use Rattle.nt_runs.proofs.Calm.{AllCalm, all_calm, leaving_low}
use Rattle.nt_runs.proofs.Chosen.{null_head, switch_parts}
use Rattle.nt_runs.proofs.Facts.{agree, if_none, level_on_thread, named_level, rewait_keeps}
use Rattle.nt_runs.proofs.Known.{Deliverable, Good, Known, KnownBegin, KnownCall, KnownFree, KnownRewait, KnownRundown, task_known}
use Rattle.nt_event.proofs.Options.{Holds, both, holds_at, holds_else, holds_map, holds_more, holds_or, holds_then, holds_when}
use Rattle.nt_runs.proofs.OwnPart.{AllOwn, all_own, is_own_body}
use Rattle.nt_runs.proofs.Robin.{Comes}
use Rattle.nt_event.proofs.Ready.{next_ready_taken}
use Rattle.nt_runs.proofs.Running.{part_of_running, running_has_base, running_here}
use Rattle.nt_runs.proofs.Stops.{blocked_call, none_again, rewait_on_thread, yield_call}
use Rattle.nt_event.proofs.Tables.{get_or-table, table-same}
use Rattle.nt_runs.proofs.Turns.{NextTask, is_chosen, task_next}
use Rattle.nt_runs.proofs.UserApcs.{touser_low}
use Rattle.nt_event.specs.declared.numbers.LockNo.{LockNo}
use Rattle.nt_event.specs.Locks.{Frees, Gets, LockMove, NoMove, Spins, call_move}

-- ---- what a job of the next event is known by, beside its event

abbrev JobIs : Own → Job → Type 0
JobIs x (CallJob c) = needs_lane c ≡ true
JobIs x UserEndJob = (f : Frame) × (innermost x.frames ≡ Some f) × (is_user_apc_body f.body ≡ true)
JobIs x LeaveJob = (f : Frame) × (innermost x.frames ≡ Some f) × (is_base_body f.body ≡ true)
JobIs x j = Unit {0}

abbrev TaskIs : Own → Task → Type 0
TaskIs x (Alone w) = Unit {0}
TaskIs x (Shared j) = JobIs x j

-- a task that must be done first has what is known of its job
must_is : (x : Own) → Holds (TaskIs x) (must_task x)
must_is x =
    holds_or (TaskIs x) (fire_task x) _ (holds_map (TaskIs x) (λ d. Shared (FireJob d)) x.fire (λ d e. tt))
    (λ e. holds_or (TaskIs x) (interrupt_task x) _ (holds_map (TaskIs x) (λ c. Alone (Begin (Int c) (value_at x.seen c - 1)))
    (find (may_interrupt x) interrupt_classes) (λ c k. tt))
    (λ k. holds_or (TaskIs x) (when (may_drain x) (Some (Shared DrainJob))) _ (holds_when (TaskIs x) (may_drain x) (Some (Shared DrainJob)) (λ h. tt))
    (λ k2. holds_or (TaskIs x) (when (may_apcs x) (Some (Shared ApcsJob))) _ (holds_when (TaskIs x) (may_apcs x) (Some (Shared ApcsJob)) (λ h. tt))
    (λ k3. holds_when (TaskIs x) (may_threaded x) (Some (Shared ThreadedJob)) (λ h. tt)))))

-- where the task of a command is the job of a call, the call needs a lane
call_is : (x : Own) (f : Frame) (c : Command) (r : Option Refusal) → TaskIs x (call_task f c r)
call_is x f c (Some r) = tt
call_is x f ToUser None = tt
call_is x f c None = lane (needs_lane c) refl
  where
    lane : (b : Bool) → needs_lane c ≡ b → TaskIs x (if b then Shared (CallJob c) else Alone (Call f.name c Done))
    lane true h = h
    lane false h = tt

-- the task of the next command, if there is one, has what is known of its job
command_is : (x : Own) (f : Frame) (o : Option Command) → Holds (TaskIs x) (command_task x f o)
command_is x f None = tt
command_is x f (Some c) = call_is x f c _

-- the task that ends the innermost frame has what is known of its job: the kind of that frame
end_is : (x : Own) (f : Frame) (n : ℕ) → innermost x.frames ≡ Some f → TaskIs x (end_task n f.body)
end_is x f n h = go f.body refl
  where
    go : (b : Body) → f.body ≡ b → TaskIs x (end_task n b)
    go (OnBase t) e = (f, h, ap is_base_body e)
    go (OnApc a UserApc) e = (f, h, ap is_user_apc_body e)
    go b e = tt

-- each task that the innermost frame gives has what is known of its job
frame_is : (s : Script) (p : CpuNo) (x : Own) (f : Frame) → innermost x.frames ≡ Some f → Holds (TaskIs x) (frame_task s p x f)
frame_is s p x f h =
    holds_or (TaskIs x) (rewait_task f) _ (holds_when (TaskIs x) (is_some f.again) (Some (Shared RewaitJob)) (λ e. tt))
    (λ e. holds_or (TaskIs x) (rundown_task f) _ (holds_when (TaskIs x) f.leaving (Some (Shared RundownJob)) (λ e. tt))
    (λ k. holds_or (TaskIs x) (command_task x f (next_command s p f)) _ (command_is x f (next_command s p f))
    (λ k2. holds_or (TaskIs x) (free_task f) _ (holds_map (TaskIs x) (λ h. Shared (FreeJob h.lock)) (head_of f.held) (λ h e. tt))
    (λ k4. holds_or (TaskIs x) (normal_task f) _ (holds_when (TaskIs x) (f.kernel_phase && has_normal f.body) (Some (Alone (Normal f.name))) (λ e. tt))
    (λ k3. end_is x f f.name h)))))

-- the next task of a processor has what is known of its job
task_is : (s : Script) (p : CpuNo) (x : Own) → Holds (TaskIs x) (task s p x)
task_is s p x =
    holds_or (TaskIs x) (must_task x) _ (must_is x) (λ e. holds_when (TaskIs x) (not (waits_for_lock x)) (go_on_task s p x)
    (λ q. holds_or (TaskIs x) (option_and_then (frame_task s p x) (innermost x.frames)) (idle_task x)
    (holds_then (TaskIs x) (frame_task s p x) (innermost x.frames) (λ f k. frame_is s p x f k))
    (λ k. holds_when (TaskIs x) (not (x.rested && is_none x.frames.running)) (Some (Shared IdleJob)) (λ h. tt))))

-- ---- the level after an event

-- the event says the level that its processor has after it
abbrev Tells : Script → CpuNo → List Event → What → Type 0
Tells s p past w = level_field w (frames_after s 0 None (unleveled p w (frames_of s p past)) (frames_of s p past))
    ≡ acted_level (stand_at s p past) (lanes_at s past) w

-- the running thread's part after an event that names it
part_after : (s : Script) (due : Option ℕ) (e : Event) (x : Frames) (t : ThreadNo) → has_thread s t ≡ true → running_after e.what x.running ≡ Some t →
    is_by e t ≡ true → thread_part (frames_after s 0 due e x) ≡ thread_after s 0 due e.what (frames_in x.threads t)
part_after s due e x t h r b =
    ap (λ (o : Option ThreadNo). option_map_or (frames_in (frames_after s 0 due e x).threads) o []) r
    ∙ (get_or-table (length s.threads) t.0 (λ k. thread_if (is_by e (thread k)) s 0 due e.what (frames_in x.threads (thread k))) []
    (ltb-true t.0 (length s.threads) h) ∙ ap (λ (c : Bool). thread_if c s 0 due e.what (frames_in x.threads t)) b)

-- where no thread runs, the part of the running thread is empty
pub none_part : (x : Frames) → x.running ≡ None → thread_part x ≡ []
none_part x h = ap (λ (o : Option ThreadNo). option_map_or (frames_in x.threads) o []) h

-- the thread that runs passes the test of being that thread
by_itself : (t : ThreadNo) (o : Option ThreadNo) → o ≡ Some t → is_thread o t ≡ true
by_itself t o h = ap (λ (o : Option ThreadNo). is_thread o t) h ∙ eq-eqb t.0 t.0 refl

-- where no frame stands on the own part, the level after is that of the running thread's innermost frame, or 0
level_where : (x : Frames) → is_null x.own ≡ true → level_in x ≡ level_of (thread_part x)
level_where x h = level_on_thread x (thread_part x) h refl

-- ---- an event that leaves the frames

abbrev keeps_frames : What → Bool
keeps_frames (Expire key from) = true
keeps_frames (Fire d y) = true
keeps_frames (Clean c) = true
keeps_frames Rest = true
keeps_frames w = false

-- an expiry, a Fire, a Clean or a Rest leaves the own part
kept_own : (w : What) (n : ℕ) (due : Option ℕ) (fs : List Frame) → keeps_frames w ≡ true → own_after n due w fs ≡ fs
kept_own (Expire key from) n due fs h = refl
kept_own (Fire d y) n due fs h = refl
kept_own (Clean c) n due fs h = refl
kept_own Rest n due fs h = refl
kept_own w n due fs h = cc

-- an expiry, a Fire, a Clean or a Rest leaves each thread's frames
kept_thread : (w : What) (b : Bool) (s : Script) (n : ℕ) (due : Option ℕ) (fs : List Frame) → keeps_frames w ≡ true → thread_if b s n due w fs ≡ fs
kept_thread w false s n due fs h = refl
kept_thread (Expire key from) true s n due fs h = refl
kept_thread (Fire d y) true s n due fs h = refl
kept_thread (Clean c) true s n due fs h = refl
kept_thread Rest true s n due fs h = refl
kept_thread w true s n due fs h = cc

-- an expiry, a Fire, a Clean or a Rest leaves the running thread
kept_running : (w : What) (r : Option ThreadNo) → keeps_frames w ≡ true → running_after w r ≡ r
kept_running (Expire key from) r h = refl
kept_running (Fire d y) r h = refl
kept_running (Clean c) r h = refl
kept_running Rest r h = refl
kept_running w r h = cc

-- an expiry, a Fire, a Clean or a Rest leaves all frames of its processor
kept_frames : (s : Script) (p : CpuNo) (past : List Event) (e : Event) → keeps_frames e.what ≡ true → frames_after s 0 None e (frames_of s p past)
    ≡ frames_of s p past
kept_frames s p past e h =
    λ i. record { own = kept_own e.what 0 None (own_frames p past) h i; running = kept_running e.what (running p past) h i; threads = t i }
  where
    t : table (length s.threads) (λ t. thread_if (is_by e (thread t)) s 0 None e.what (frames_in (frames_of s p past).threads (thread t)))
        ≡ table (length s.threads) (λ t. thread_frames s p (thread t) past)
    t = table-same _ _ _ (λ k l. kept_thread e.what (is_by e (thread k)) s 0 None (frames_in (frames_of s p past).threads (thread k)) h
        ∙ get_or-table (length s.threads) k (λ k. thread_frames s p (thread k) past) [] l)

-- an expiry, a Fire, a Clean or a Rest says the level that its processor has after it
kept_tells : (s : Script) (p : CpuNo) (past : List Event) (w : What) → keeps_frames w ≡ true → Tells s p past w
kept_tells s p past w h = go w h
  where
    go : (w : What) → keeps_frames w ≡ true → Tells s p past w
    go (Expire key from) h =
        ap level_in (kept_frames s p past (unleveled p (Expire key from) (frames_of s p past)) refl)
    go (Fire d y) h = ap level_in (kept_frames s p past (unleveled p (Fire d y) (frames_of s p past)) refl)
    go (Clean c) h = ap level_in (kept_frames s p past (unleveled p (Clean c) (frames_of s p past)) refl)
    go Rest h = ap level_in (kept_frames s p past (unleveled p Rest (frames_of s p past)) refl)
    go w h = cc

-- ---- an event on the running thread's part

-- the thread that runs, and its frames
abbrev Runs : Script → CpuNo → List Event → Type 0
Runs s p past = (t : ThreadNo) × (running p past ≡ Some t)

-- an innermost frame on a thread's part has a running thread
pub thread_runs : (x : Frames) (f : Frame) → innermost x ≡ Some f → is_null x.own ≡ true → Comes x.running
thread_runs x f h n = go x.running refl
  where
    go : (r : Option ThreadNo) → x.running ≡ r → Comes x.running
    go (Some t) e = (t, e)
    go None e =
        let a : head_of (thread_part x) ≡ Some f = sym (ap (λ (o : Option Frame). option_or o (head_of (thread_part x))) (null_head x.own n)) ∙ h in
        let b : head_of {A = Frame} [] ≡ Some f = subst (λ (fs : List Frame). head_of fs ≡ Some f) (none_part x e) a in
        cc

-- where the own part is empty, the innermost frame is the head of the running thread's part
pub part_head : (x : Frames) (f : Frame) → innermost x ≡ Some f → is_null x.own ≡ true → head_of (thread_part x) ≡ Some f
part_head x f h n =
    sym (ap (λ (o : Option Frame). option_or o (head_of (thread_part x))) (null_head x.own n)) ∙ h

-- the level after an event that the running thread makes, by which it doesn't stop
thread_level : (s : Script) (limit : ℕ) (p : CpuNo) (past : List Event) (t : ThreadNo) (w : What) → IsRun s limit past → running p past ≡ Some t →
    thread_field w (running p past) ≡ running p past → running_after w (running p past) ≡ Some t → is_null (own_after 0 None w (own_frames p past)) ≡ true →
    level_in (frames_after s 0 None (unleveled p w (frames_of s p past)) (frames_of s p past))
    ≡ level_of (thread_after s 0 None w (thread_part (frames_of s p past)))
thread_level s limit p past t w r run field still null =
    let h = running_here s limit p t past r run in
    let x : Frames = frames_of s p past in
    let e : Event = unleveled p w x in
    let b : is_by e t ≡ true = by_itself t e.thread (field ∙ run) in
    let part : thread_part x ≡ frames_in x.threads t = ap (λ (o : Option ThreadNo). option_map_or (frames_in x.threads) o []) run in
    level_where (frames_after s 0 None e x) null ∙ (ap level_of (part_after s None e x t h.0 still b)
    ∙ ap (λ (fs : List Frame). level_of (thread_after s 0 None w fs)) (sym part))

-- an event by which the running thread stops, with no frame on the own part
stop_level : (s : Script) (p : CpuNo) (past : List Event) (w : What) → running_after w (running p past) ≡ None →
    is_null (own_after 0 None w (own_frames p past)) ≡ true → level_in (frames_after s 0 None (unleveled p w (frames_of s p past)) (frames_of s p past)) ≡ 0
stop_level s p past w r null =
    let x : Frames = frames_after s 0 None (unleveled p w (frames_of s p past)) (frames_of s p past) in
    level_where x null ∙ ap level_of (none_part x r)

-- an APC begins
apc_tells : (s : Script) (limit : ℕ) (p : CpuNo) (past : List Event) (a : ApcNo) (from : ℕ) (f : Frame) → IsRun s limit past → innermost (frames_of s p past)
    ≡ Some f → is_null (own_frames p past) ≡ true → Tells s p past (Begin (Apc a) from)
apc_tells s limit p past a from f r h n =
    let k = thread_runs (frames_of s p past) f h n in
    thread_level s limit p past k.0 (Begin (Apc a) from) r k.1 refl k.1 n

-- where a processor is on a thread, it has an innermost frame
pub on_thread_frame : (x : Frames) → is_on_thread x ≡ true → Comes (innermost x)
on_thread_frame x h = go (thread_part x) refl
  where
    k : (is_null x.own ≡ true) × (not (is_null (thread_part x)) ≡ true)
    k = both (is_null x.own) _ h

    go : (fs : List Frame) → thread_part x ≡ fs → Comes (innermost x)
    go [] e = let n : not (is_null {A = Frame} []) ≡ true = subst (λ (fs : List Frame). not (is_null fs) ≡ true) e k.1 in cc
    go (f ∷ fs) e =
        (f, ap (λ (o : Option Frame). option_or o (head_of (thread_part x))) (null_head x.own k.0) ∙ ap (λ (fs : List Frame). head_of fs) e)

-- ---- calls

-- the command is a raise or a lower of the level
raises : Command → Bool
raises (Raise l) = true
raises (Lower l) = true
raises c = false

-- a command that touches a lane and moves no lock keeps its frame's level
call_keeps : (due : Option ℕ) (c : Command) (y : Reply) (f : Frame) → needs_lane c ≡ true → call_move c y ≡ NoMove → (called due c y f).level ≡ f.level
call_keeps due (Raise l) y f h m = cc
call_keeps due (Lower l) y f h m = cc
call_keeps due (StartWait m a) y f h n = refl
call_keeps due (Delay m a u) y f h n = refl
call_keeps due Yield Done f h m = refl
call_keeps due (Queue d) Done f h m = refl
call_keeps due EnterCrit y f h m = cc
call_keeps due EnterGuard y f h m = cc
call_keeps due LeaveCrit y f h m = cc
call_keeps due LeaveGuard y f h m = cc
call_keeps due (Acquire k) Done f h m = cc
call_keeps due (Acquire k) Spin f h m = cc
call_keeps due (Unlock k) Done f h m = cc
call_keeps due c Done f h m = refl
call_keeps due c y f h m = refl

-- a call that halts moves no lock
pub halts_move : (c : Command) (y : Reply) → stops c y ≡ true → call_move c y ≡ NoMove
halts_move (Acquire k) Done h = cc
halts_move (Acquire k) Spin h = cc
halts_move (Unlock k) Done h = cc
halts_move c y h = refl

-- a call that stops the thread leaves no thread running
halts_running : (f : ℕ) (c : Command) (y : Reply) (r : Option ThreadNo) → stops c y ≡ true → running_after (Call f c y) r ≡ None
halts_running f c y r h = rw h refl

-- a call that doesn't stop the thread leaves it running
goes_running : (f : ℕ) (c : Command) (y : Reply) (r : Option ThreadNo) → stops c y ≡ false → running_after (Call f c y) r ≡ r
goes_running f c y r h = if_none (stops c y) r h

-- a call that stops the thread has PASSIVE_LEVEL as level after it
halts_level : (st : Stand) (l : Lanes) (f : ℕ) (c : Command) (y : Reply) → stops c y ≡ true → acted_level st l (Call f c y) ≡ 0
halts_level st l f c y h =
    ap (λ (m : LockMove). move_level st m (if stops c y then 0 else st.level)) (halts_move c y h) ∙ ap (λ (b : Bool). if b then 0 else st.level) h

-- a call that moves no lock and doesn't stop the thread keeps the processor's level
goes_level : (st : Stand) (l : Lanes) (f : ℕ) (c : Command) (y : Reply) → call_move c y ≡ NoMove → stops c y ≡ false → acted_level st l (Call f c y)
    ≡ st.level
goes_level st l f c y m h =
    ap (λ (m : LockMove). move_level st m (if stops c y then 0 else st.level)) m ∙ go (stops c y) h
  where
    go : (b : Bool) → b ≡ false → (if b then 0 else st.level) ≡ st.level
    go true h = cc
    go false h = refl

-- a call that halts is made on a thread's part
halts_null : (s : Script) (p : CpuNo) (x : Own) (l : Lanes) (n : ℕ) (c : Command) (y : Reply) → KnownCall s p x l n c y → stops c y ≡ true →
    is_null x.frames.own ≡ true
halts_null s p x l n Yield Done k h = yield_call s p x l n k
halts_null s p x l n c Blocked k h = (blocked_call s p x l n c k).1
halts_null s p x l n c y k h = cc

-- a change by name of a list of frames keeps whether it is empty
named_null : (n : ℕ) (g : Frame → Frame) (fs : List Frame) → is_null (at_name n g fs) ≡ is_null fs
named_null n g [] = refl
named_null n g (f ∷ fs) = refl

-- a call that touches a lane and moves no lock keeps the level of the named frame
named_lane_level : (n : ℕ) (due : Option ℕ) (c : Command) (y : Reply) (fs : List Frame) → needs_lane c ≡ true → call_move c y ≡ NoMove →
    level_of (at_name n (called due c y) fs) ≡ level_of fs
named_lane_level n due c y [] h m = refl
named_lane_level n due c y (f ∷ fs) h m = go (f.name == n)
  where
    go : (b : Bool) → (if b then called due c y f else f).level ≡ f.level
    go true = call_keeps due c y f h m
    go false = refl

-- with a frame on the own part, a call leaves the level
own_call_level : (n : ℕ) (c : Command) (y : Reply) (x y' : Frames) (fs : List Frame) → x.own ≡ fs → y'.own ≡ at_name n (called None c y) fs → is_null fs
    ≡ false → needs_lane c ≡ true → call_move c y ≡ NoMove → level_in y' ≡ level_in x
own_call_level n c y x y' [] a b h k m = cc
own_call_level n c y x y' (f ∷ fs) a b h k m =
    let u : level_in y' ≡ level_of (at_name n (called None c y) (f ∷ fs)) = ap
    (λ (gs : List Frame). option_map_or (λ f. f.level) (option_or (head_of gs) (head_of (thread_part y'))) 0) b in
    let v : level_in x ≡ level_of (f ∷ fs) = ap (λ (gs : List Frame). option_map_or (λ f. f.level) (option_or (head_of gs) (head_of (thread_part x))) 0) a in
    u ∙ (named_lane_level n None c y (f ∷ fs) k m ∙ sym v)

-- the level after an event that changes the innermost frame alone
named_head_level : (n : ℕ) (g : Frame → Frame) (i : Frame) (fs : List Frame) → head_of fs ≡ Some i → n ≡ i.name → level_of (at_name n g fs) ≡ (g i).level
named_head_level n g i [] h e = cc
named_head_level n g i (f ∷ fs) h e =
    let same : f ≡ i = cc in
    let named : (f.name == n) ≡ true = eq-eqb f.name n (ap (λ (x : Frame). x.name) same ∙ sym e) in
    rw named (ap (λ (z : Frame). (g z).level) same)

-- after a change of the innermost frame by name, the level is the changed frame's
inner_level : (s : Script) (limit : ℕ) (p : CpuNo) (past : List Event) (w : What) (n : ℕ) (g : Frame → Frame) (i : Frame) → IsRun s limit past →
    innermost (frames_of s p past) ≡ Some i → n ≡ i.name → thread_field w (running p past) ≡ running p past →
    running_after w (running p past) ≡ running p past → own_after 0 None w (own_frames p past) ≡ at_name n g (own_frames p past) →
    ((fs : List Frame) → thread_after s 0 None w fs ≡ at_name n g fs) →
    level_in (frames_after s 0 None (unleveled p w (frames_of s p past)) (frames_of s p past)) ≡ (g i).level
inner_level s limit p past w n g i r h e field still own thr = go (own_frames p past) refl
  where
    x : Frames
    x = frames_of s p past

    go : (fs : List Frame) → own_frames p past ≡ fs →
        level_in (frames_after s 0 None (unleveled p w (frames_of s p past)) (frames_of s p past)) ≡ (g i).level
    go [] o =
        let null : is_null (own_frames p past) ≡ true = ap (λ (fs : List Frame). is_null fs) o in
        let t = thread_runs (frames_of s p past) i h null in
        let after : is_null (own_after 0 None w (own_frames p past)) ≡ true = ap (λ (fs : List Frame). is_null fs) own
        ∙ (named_null n g (own_frames p past) ∙ null) in
        thread_level s limit p past t.0 w r t.1 field (still ∙ t.1) after
        ∙ (ap level_of (thr (thread_part (frames_of s p past)))
        ∙ named_head_level n g i (thread_part (frames_of s p past)) (part_head (frames_of s p past) i h null) e)
    go (f ∷ fs) o =
        let first : option_or (head_of (f ∷ fs)) (head_of (thread_part (frames_of s p past)))
        ≡ Some i = subst (λ (gs : List Frame). option_or (head_of gs) (head_of (thread_part (frames_of s p past))) ≡ Some i) o h in
        let after : own_after 0 None w (own_frames p past) ≡ at_name n g (f ∷ fs) = own ∙ ap (at_name n g) o in
        let y : Frames = frames_after s 0 None (unleveled p w (frames_of s p past)) (frames_of s p past) in
        ap (λ (gs : List Frame). option_map_or (λ f. f.level) (option_or (head_of gs) (head_of (thread_part y))) 0) after
        ∙ named_head_level n g i (f ∷ fs) first e

-- a call that moves a lock
moved_tells : (s : Script) (limit : ℕ) (p : CpuNo) (past : List Event) (n : ℕ) (c : Command) (y : Reply) → IsRun s limit past →
    KnownCall s p (own_of s p past) (lanes_at s past) n c y → stops c y ≡ false → (m : LockMove) → call_move c y ≡ m → (m ≡ NoMove → ⊥) →
    Tells s p past (Call n c y)
moved_tells s limit p past n c y r k still m e moves =
    inner_level s limit p past (Call n c y) n (called None c y) k.frame r k.goes_on.inner k.name refl (goes_running n c y (running p past) still) refl
    (λ fs. refl) ∙ go m e moves
  where
    go : (m : LockMove) → call_move c y ≡ m → (m ≡ NoMove → ⊥) →
        level_moved (call_move c y) k.frame (effect None c y k.frame).level
        ≡ move_level (stand_at s p past) (call_move c y) (if stops c y then 0 else (stand_at s p past).level)
    go (Gets x) e moves = rw e refl
    go (Spins x) e moves = rw e refl
    go (Frees x) e moves =
        let freed : freed_in (frames_of s p past) ≡ freed_level k.frame = ap (λ (o : Option Frame). option_map_or freed_level o 0) k.goes_on.inner in
        rw e (sym freed)
    go NoMove e moves = absurd (moves refl)

-- so does a Free
free_tells : (s : Script) (limit : ℕ) (p : CpuNo) (past : List Event) (n : ℕ) (k : LockNo) → IsRun s limit past → KnownFree s p (own_of s p past) n k →
    Tells s p past (Free n k)
free_tells s limit p past n c r k =
    let same : freed_in (frames_of s p past) ≡ freed_level k.frame = ap (λ (o : Option Frame). option_map_or freed_level o 0) k.goes_on.inner in
    inner_level s limit p past (Free n c) n freed k.frame r k.goes_on.inner k.name refl refl refl (λ fs. refl) ∙ sym same

-- a call that moves none
still_tells : (s : Script) (limit : ℕ) (p : CpuNo) (past : List Event) (n : ℕ) (c : Command) (y : Reply) → IsRun s limit past →
    KnownCall s p (own_of s p past) (lanes_at s past) n c y → needs_lane c ≡ true → call_move c y ≡ NoMove → Tells s p past (Call n c y)
still_tells s limit p past n c y r k lane m = go (stops c y) (is_null (own_frames p past)) refl refl
  where
    x : Frames
    x = frames_of s p past

    null_after : is_null (own_frames p past) ≡ true → is_null (at_name n (called None c y) (own_frames p past)) ≡ true
    null_after h = named_null n (called None c y) (own_frames p past) ∙ h

    go : (b o : Bool) → stops c y ≡ b → is_null (own_frames p past) ≡ o → Tells s p past (Call n c y)
    go true o a e =
        let null : is_null (own_frames p past) ≡ true = halts_null s p (own_of s p past) (lanes_at s past) n c y k a in
        stop_level s p past (Call n c y) (halts_running n c y (running p past) a) (null_after null)
        ∙ sym (halts_level (stand_at s p past) (lanes_at s past) n c y a)
    go false true a e =
        let t = thread_runs (frames_of s p past) k.frame k.goes_on.inner e in
        thread_level s limit p past t.0 (Call n c y) r t.1 refl (goes_running n c y (running p past) a ∙ t.1) (null_after e)
        ∙ (named_lane_level n None c y (thread_part (frames_of s p past)) lane m
        ∙ (sym (level_on_thread (frames_of s p past) (thread_part (frames_of s p past)) e refl)
        ∙ sym (goes_level (stand_at s p past) (lanes_at s past) n c y m a)))
    go false false a e =
        own_call_level n c y (frames_of s p past) (frames_after s 0 None (unleveled p (Call n c y) (frames_of s p past)) (frames_of s p past))
        (own_frames p past) refl refl e lane m ∙ sym (goes_level (stand_at s p past) (lanes_at s past) n c y m a)

-- in a run a known call that needs a lane says the level after it
call_tells : (s : Script) (limit : ℕ) (p : CpuNo) (past : List Event) (n : ℕ) (c : Command) (y : Reply) → IsRun s limit past →
    KnownCall s p (own_of s p past) (lanes_at s past) n c y → needs_lane c ≡ true → Tells s p past (Call n c y)
call_tells s limit p past n c y r k lane = either (call_move c y) refl
  where
    move_stays : (m : LockMove) → call_move c y ≡ m → (m ≡ NoMove → ⊥) → stops c y ≡ false
    move_stays m e moves = go (stops c y) refl
      where
        go : (b : Bool) → stops c y ≡ b → stops c y ≡ false
        go true h = absurd (moves (sym e ∙ halts_move c y h))
        go false h = h

    either : (m : LockMove) → call_move c y ≡ m → Tells s p past (Call n c y)
    either NoMove e = still_tells s limit p past n c y r k lane e
    either (Gets x) e = let d : Gets x ≡ NoMove → ⊥ = λ q. differ_gets q in moved_tells s limit p past n c y r k (move_stays (Gets x) e d) (Gets x) e d
      where
        differ_gets : Gets x ≡ NoMove → ⊥
        differ_gets q = cc
    either (Spins x) e = let d : Spins x ≡ NoMove → ⊥ = λ q. differ_spins q in moved_tells s limit p past n c y r k (move_stays (Spins x) e d) (Spins x) e d
      where
        differ_spins : Spins x ≡ NoMove → ⊥
        differ_spins q = cc
    either (Frees x) e = let d : Frees x ≡ NoMove → ⊥ = λ q. differ_frees q in moved_tells s limit p past n c y r k (move_stays (Frees x) e d) (Frees x) e d
      where
        differ_frees : Frees x ≡ NoMove → ⊥
        differ_frees q = cc

-- ---- a wait that is taken up again

-- in a run a known take-up of a wait says the level after it
rewait_tells : (s : Script) (limit : ℕ) (p : CpuNo) (past : List Event) (n : ℕ) (y : Reply) → IsRun s limit past →
    KnownRewait p (own_of s p past) (lanes_at s past) n y → Tells s p past (Rewait n y)
rewait_tells s limit p past n y r k = go (is_blocked y) refl
  where
    null : is_null (own_frames p past) ≡ true
    null = rewait_on_thread p (own_of s p past) (lanes_at s past) n y k (none_again s limit p past r)

    go : (b : Bool) → is_blocked y ≡ b → Tells s p past (Rewait n y)
    go true e =
        stop_level s p past (Rewait n y) (ap (λ (b : Bool). if b then None else running p past) e) null
        ∙ sym (ap (λ (b : Bool). if b then 0 else (stand_at s p past).level) e)
    go false e =
        let t = thread_runs (frames_of s p past) k.frame k.goes_on.inner null in
        thread_level s limit p past t.0 (Rewait n y) r t.1 refl (ap (λ (b : Bool). if b then None else running p past) e ∙ t.1) null
        ∙ (named_level n (rewaited y) (thread_part (frames_of s p past)) (rewait_keeps y)
        ∙ (sym (level_on_thread (frames_of s p past) (thread_part (frames_of s p past)) null refl)
        ∙ sym (ap (λ (b : Bool). if b then 0 else (stand_at s p past).level) e)))

-- ---- ends

-- the innermost frame stands on the running thread's part, since nothing else stands on the own part
pub not_own : (s : Script) (p : CpuNo) (past : List Event) (f : Frame) → innermost (frames_of s p past) ≡ Some f → is_own_body f.body ≡ false →
    is_null (own_frames p past) ≡ true
not_own s p past f h b = go (own_frames p past) refl (all_own p past)
  where
    go : (fs : List Frame) → own_frames p past ≡ fs → AllOwn fs → is_null fs ≡ true
    go [] e o = refl
    go (g ∷ fs) e o =
        let first : option_or (head_of (g ∷ fs)) (head_of (thread_part (frames_of s p past)))
        ≡ Some f = subst (λ (gs : List Frame). option_or (head_of gs) (head_of (thread_part (frames_of s p past))) ≡ Some f) e h in
        let same : g ≡ f = cc in
        let yes : is_own_body f.body ≡ true = ap (λ (g : Frame). is_own_body g.body) (sym same) ∙ o.0.0 in
        absurd (both_ways (is_own_body f.body) b yes)

-- an empty own part stays empty when a frame is taken out by name
without_null : (n : ℕ) (fs : List Frame) → is_null fs ≡ true → is_null (without n fs) ≡ true
without_null n [] h = refl
without_null n (f ∷ fs) h = cc

-- the end of a base frame leaves it at PASSIVE_LEVEL, and that of another frame the one that it stands on
end_level : (t : ThreadNo) (n : ℕ) (f : Frame) (fs : List Frame) → head_of fs ≡ Some f → n ≡ f.name → HasBase t fs → level_of (end_on_thread n fs)
    ≡ first_level [] (tail_of fs)
end_level t n f [] h e b = cc
end_level t n f (g ∷ []) h e b =
    let same : g ≡ f = cc in
    let named : (g.name == n) ≡ true = eq-eqb g.name n (ap (λ (x : Frame). x.name) same ∙ sym e) in
    let base : is_base_body g.body ≡ true = ap is_base_body b in
    rw (named, base) refl
end_level t n f (g ∷ (x ∷ fs)) h e b =
    let same : g ≡ f = cc in
    let named : (g.name == n) ≡ true = eq-eqb g.name n (ap (λ (x : Frame). x.name) same ∙ sym e) in
    rw (named, b.0.0) refl

-- where the own part is empty, the level after an end is that of the frames under the thread's innermost
after_null : (x : Frames) → is_null x.own ≡ true → ended_level_in x ≡ first_level [] (tail_of (thread_part x))
after_null x h =
    ap (λ (b : Bool). if b then first_level [] (tail_of (thread_part x)) else first_level (tail_of x.own) (thread_part x)) h

-- in a run the end of an innermost frame off the own part says the level after it
end_tells : (s : Script) (limit : ℕ) (p : CpuNo) (past : List Event) (n : ℕ) (f : Frame) → IsRun s limit past → innermost (frames_of s p past) ≡ Some f → n
    ≡ f.name → is_own_body f.body ≡ false → Tells s p past (End n)
end_tells s limit p past n f r h e own =
    let null : is_null (own_frames p past) ≡ true = not_own s p past f h own in
    let t = thread_runs (frames_of s p past) f h null in
    let b = running_has_base s limit p t.0 past r t.1 in
    thread_level s limit p past t.0 (End n) r t.1 refl t.1 (without_null n (own_frames p past) null)
    ∙ (end_level t.0 n f (thread_part (frames_of s p past)) (part_head (frames_of s p past) f h null) e b.2 ∙ sym (after_null (frames_of s p past) null))

-- what runs in a base frame is no body of a processor's own part
pub base_not_own : (b : Body) → is_base_body b ≡ true → is_own_body b ≡ false
base_not_own (OnBase t) h = refl
base_not_own b h = cc

-- the body of a user APC isn't one of the own part
user_not_own : (b : Body) → is_user_apc_body b ≡ true → is_own_body b ≡ false
user_not_own (OnApc a UserApc) h = refl
user_not_own b h = cc

-- ---- the thread's end

-- where the innermost frame is leaving, the processor's own part is empty
pub leaving_null : (s : Script) (p : CpuNo) (past : List Event) (f : Frame) → innermost (frames_of s p past) ≡ Some f → f.leaving ≡ true →
    is_null (own_frames p past) ≡ true
leaving_null s p past f h l = go (own_frames p past) refl (all_own p past)
  where
    go : (fs : List Frame) → own_frames p past ≡ fs → AllOwn fs → is_null fs ≡ true
    go [] e o = refl
    go (g ∷ fs) e o =
        let first : option_or (head_of (g ∷ fs)) (head_of (thread_part (frames_of s p past)))
        ≡ Some f = subst (λ (gs : List Frame). option_or (head_of gs) (head_of (thread_part (frames_of s p past))) ≡ Some f) e h in
        let same : g ≡ f = cc in
        let no : f.leaving ≡ false = ap (λ (g : Frame). g.leaving) (sym same) ∙ o.0.1 in
        absurd (both_ways f.leaving no l)

-- a flush from PASSIVE_LEVEL leaves the level
flush_level : (n : ℕ) (a : ApcNo) (o : Option RoutineNo) (fs : List Frame) → level_of fs ≡ 0 → level_of (flushed n a o fs) ≡ 0
flush_level n a None fs h = h
flush_level n a (Some r) fs h = refl

-- in a run a known flush of an APC says the level after it
flush_tells : (s : Script) (limit : ℕ) (p : CpuNo) (past : List Event) (a : ApcNo) (from : ℕ) (t : ThreadNo) → IsRun s limit past →
    KnownRundown (own_of s p past) t → Tells s p past (Flush a from)
flush_tells s limit p past a from t r k =
    let null : is_null (own_frames p past) ≡ true = leaving_null s p past k.frame k.goes_on.inner k.leaving in
    let b = running_here s limit p t past r k.thread in
    let part : thread_part (frames_of s p past) ≡ thread_frames s p t past = part_of_running s p t past b.0 k.thread in
    let low : level_of (thread_part (frames_of s p past))
    ≡ 0 = leaving_low k.frame (thread_part (frames_of s p past)) (part_head (frames_of s p past) k.frame k.goes_on.inner null) k.leaving
    (subst AllCalm (sym part) (all_calm s limit p t past r)) in
    thread_level s limit p past t (Flush a from) r k.thread refl k.thread null ∙ flush_level 0 a (rundown_of s a) (thread_part (frames_of s p past)) low

-- a thread that is gone says the level after it
gone_tells : (s : Script) (p : CpuNo) (past : List Event) (t : ThreadNo) → KnownRundown (own_of s p past) t → Tells s p past (Gone t)
gone_tells s p past t k =
    stop_level s p past (Gone t) refl (leaving_null s p past k.frame k.goes_on.inner k.leaving)

-- ---- a thread is taken up

-- a switch to a thread leaves the level of its frames
switched_level : (n : ℕ) (t : ThreadNo) (st : Option ℕ) (fs : List Frame) → level_of (switched_to n t st fs) ≡ level_of fs
switched_level n t st [] = refl
switched_level n t None (f ∷ fs) = refl
switched_level n t (Some x) (f ∷ fs) = refl

-- a ready thread's frames have the level that its doing says
ready_level : (d : Doing) (fs : List Frame) (runs : Type 0) → ready_doing d ≡ true → Says d fs runs → level_of fs ≡ doing_level d
ready_level (IsReady level st) fs runs h k = sym k.1
ready_level d fs runs h k = cc

-- in a run a switch that may be made says the level after it
switch_tells : (s : Script) (limit : ℕ) (p : CpuNo) (past : List Event) (t : ThreadNo) → IsRun s limit past → may_switch (own_of s p past) ≡ true →
    may_take s p t (lanes_at s past) ≡ true → Tells s p past (switch_event t (lanes_at s past))
switch_tells s limit p past t r may take =
    let null : is_null (own_frames p past) ≡ true = (switch_parts (running p past) (is_null (own_frames p past)) (must (own_of s p past)) may).1 in
    let a = both (has_thread s t) _ take in
    let b = both ((cpu_of s t).0 == p.0) _ a.1 in
    let here : cpu_of s t ≡ p = ap (λ (n : ℕ). record { 0 = n }) (eqb-true (cpu_of s t).0 p.0 b.0) in
    let status : Option ℕ = ended_status (facts_at (lanes_at s past) t) in
    let e : Event = unleveled p (Switch t status) (frames_of s p past) in
    let known : facts_at (lanes_at s past) t ≡ facts s t past = get_or-table (length s.threads) t.0 (λ k. facts s (thread k) past) start_facts
    (ltb-true t.0 (length s.threads) a.0) in
    let fs : frames_in (frames_of s p past).threads t ≡ thread_frames s p t past = get_or-table (length s.threads) t.0
    (λ k. thread_frames s p (thread k) past) [] (ltb-true t.0 (length s.threads) a.0) in
    let ready : is_ready (facts s t past) ≡ true = ap is_ready (sym known) ∙ b.1 in
    let says : Says (facts s t past).doing (thread_frames s p t past) (running p past ≡ Some t) = subst
    (λ (q : CpuNo). Says (facts s t past).doing (thread_frames s q t past) (running q past ≡ Some t)) here (agree s limit t past r) in
    level_where (frames_after s 0 None e (frames_of s p past)) null
    ∙ (ap level_of (part_after s None e (frames_of s p past) t a.0 refl (by_itself t (Some t) refl))
    ∙ (switched_level 0 t status (frames_in (frames_of s p past).threads t)
    ∙ (ap level_of fs ∙ (ready_level (facts s t past).doing (thread_frames s p t past) (running p past ≡ Some t) ready says
    ∙ ap (λ (x : ThreadFacts). doing_level x.doing) (sym known)))))

-- ---- the jobs

-- the begin of a DPC says the level after it
dpc_tells : (s : Script) (p : CpuNo) (past : List Event) (part : Part) (i : Insert) → Tells s p past (begin_dpc part i)
dpc_tells s p past OrdinaryPart i = refl
dpc_tells s p past ThreadedPart i = refl

-- the begin of the first DPC of a part says the level after it
first_tells : (s : Script) (p : CpuNo) (past : List Event) (part : Part) → Holds (Tells s p past) (begin_first part (queue_at (lanes_at s past) p))
first_tells s p past part =
    holds_map (Tells s p past) (begin_dpc part) (first_dpc part (queue_at (lanes_at s past) p).pending) (λ i e. dpc_tells s p past part i)

-- the event of a processor that idles says the level after it
idle_tells : (s : Script) (p : CpuNo) (past : List Event) → Holds (Tells s p past) (idle_event s (stand_at s p past) (lanes_at s past))
idle_tells s p past =
    holds_or (Tells s p past) (begin_first OrdinaryPart (queue_at (lanes_at s past) p)) (when (is_null (ready s p (lanes_at s past))) (Some Rest))
    (first_tells s p past OrdinaryPart) (λ e. holds_when (Tells s p past) (is_null (ready s p (lanes_at s past))) (Some Rest)
    (λ h. kept_tells s p past Rest refl))

-- a known event tells its level
abbrev KnownTells : Script → CpuNo → List Event → What → Type 0
KnownTells s p past w = Known s p (own_of s p past) (lanes_at s past) w → Tells s p past w

-- where a property holds of an option and implies another there, the other holds of it
holds_apply : {A : Type 0} (P Q : A → Type 0) (o : Option A) → Holds P o → Holds (λ x. P x → Q x) o → Holds Q o
holds_apply P Q None h k = tt
holds_apply P Q (Some x) h k = k h

-- in a run the known begin of an APC says the level after it
begin_tells : (s : Script) (limit : ℕ) (p : CpuNo) (past : List Event) (a : ApcNo) (from : ℕ) → IsRun s limit past →
    KnownBegin s p (own_of s p past) (lanes_at s past) (Apc a) from → Tells s p past (Begin (Apc a) from)
begin_tells s limit p past a from r (inl b) =
    let on = both (is_on_thread (frames_of s p past)) _ (both (level_at (own_of s p past) == 0) _ b.0).1 in
    let f = on_thread_frame (frames_of s p past) on.0 in
    apc_tells s limit p past a from f.0 r f.1 (both (is_null (own_frames p past)) _ on.0).0
begin_tells s limit p past a from r (inr b) =
    apc_tells s limit p past a from b.0.frame r b.0.goes_on.inner (touser_low s p (own_of s p past) b.0).1

-- the innermost frame's name is the one at which the processor stands
named_stand : (s : Script) (p : CpuNo) (past : List Event) (f : Frame) → innermost (frames_of s p past) ≡ Some f → (stand_at s p past).frame ≡ f.name
named_stand s p past f h = ap (λ (o : Option Frame). option_map_or (λ f. f.name) o 0) h

-- a job that the next event needs
next_job_tells : (s : Script) (limit : ℕ) (p : CpuNo) (past : List Event) (j : Job) → IsRun s limit past → is_chosen j ≡ false → JobIs (own_of s p past) j →
    Holds (KnownTells s p past) (job_event s (stand_at s p past) (lanes_at s past) j)
next_job_tells s limit p past (CallJob c) r n is = λ k. call_tells s limit p past _ c _ r k is
next_job_tells s limit p past (FireJob d) r n is =
    λ k. kept_tells s p past (Fire d (reply s (stand_at s p past) (lanes_at s past) (Queue d))) refl
next_job_tells s limit p past (FreeJob c) r n is = λ k. free_tells s limit p past _ c r k
next_job_tells s limit p past DrainJob r n is =
    let keys : Option What = option_map expire_key (when (owes_sweep p past) (first_due (timers_at s past))) in
    let dpcs : Option What = begin_first OrdinaryPart (queue_at (lanes_at s past) p) in
    λ k. holds_else (Tells s p past) (option_or keys dpcs) (Clean 2)
    (holds_or (Tells s p past) keys dpcs (holds_map (Tells s p past) expire_key (when (owes_sweep p past) (first_due (timers_at s past)))
    (λ x e. kept_tells s p past (expire_key x) refl)) (λ e. first_tells s p past OrdinaryPart)) (λ e. kept_tells s p past (Clean 2) refl)
next_job_tells s limit p past ApcsJob r n is =
    holds_else (KnownTells s p past) (option_map begin_apc (Deliverable (own_of s p past) (lanes_at s past))) (Clean 1)
    (holds_map (KnownTells s p past) begin_apc (Deliverable (own_of s p past) (lanes_at s past)) (λ x e k. begin_tells s limit p past x.apc x.number r k))
    (λ e k. kept_tells s p past (Clean 1) refl)
next_job_tells s limit p past ThreadedJob r n is =
    λ k. holds_else (Tells s p past) (begin_first ThreadedPart (queue_at (lanes_at s past) p)) (Clean 0) (first_tells s p past ThreadedPart)
    (λ e. kept_tells s p past (Clean 0) refl)
next_job_tells s limit p past IdleJob r n is =
    holds_more (Tells s p past) (KnownTells s p past) (idle_event s (stand_at s p past) (lanes_at s past)) (idle_tells s p past) (λ w e t k. t)
next_job_tells s limit p past (PickJob last) r n is = cc
next_job_tells s limit p past (SwitchJob t) r n is = cc
next_job_tells s limit p past RewaitJob r n is =
    holds_map (KnownTells s p past) (λ w. Rewait (stand_at s p past).frame (rewait_reply (stand_at s p past) (lanes_at s past) w)) (stand_at s p past).again
    (λ w e k. rewait_tells s limit p past _ _ r k)
next_job_tells s limit p past ToUserJob r n is =
    holds_else (KnownTells s p past) (option_map begin_apc (user_due (facts_of (lanes_at s past) (running p past))))
    (Call (stand_at s p past).frame ToUser Done) (holds_map (KnownTells s p past) begin_apc (user_due (facts_of (lanes_at s past) (running p past)))
    (λ x e k. begin_tells s limit p past x.apc x.number r k)) (λ e k. call_tells s limit p past _ ToUser Done r k refl)
next_job_tells s limit p past UserEndJob r n is =
    λ k. end_tells s limit p past (stand_at s p past).frame is.0 r is.1 (named_stand s p past is.0 is.1) (user_not_own is.0.body is.2)
next_job_tells s limit p past LeaveJob r n is =
    λ k. end_tells s limit p past (stand_at s p past).frame is.0 r is.1 (named_stand s p past is.0 is.1) (base_not_own is.0.body is.2)
next_job_tells s limit p past RundownJob r n is =
    holds_map (KnownTells s p past) (rundown_event (lanes_at s past)) (running p past)
    (λ t e. holds_else (KnownTells s p past) (option_map (λ x. Flush x.apc x.number) (first_user (facts_at (lanes_at s past) t).apcs)) (Gone t)
    (holds_map (KnownTells s p past) (λ x. Flush x.apc x.number) (first_user (facts_at (lanes_at s past) t).apcs)
    (λ x m k. flush_tells s limit p past x.apc x.number k.0 r k.1)) (λ m k. gone_tells s p past t k.0))

-- the next event's job
task_tells : (s : Script) (limit : ℕ) (p : CpuNo) (past : List Event) (j : Job) → IsRun s limit past → task s p (own_of s p past) ≡ Some (Shared j) →
    Holds (Tells s p past) (job_event s (stand_at s p past) (lanes_at s past) j)
task_tells s limit p past j r h =
    let x : Own = own_of s p past in
    let is : JobIs x j = holds_at (TaskIs x) (task s p x) (Shared j) (task_is s p x) h in
    let chosen : is_chosen j ≡ false = holds_at NextTask (task s p x) (Shared j) (task_next s p x) h in
    let known : Holds (Known s p x (lanes_at s past)) (job_event s (stand_at s p past) (lanes_at s past) j) = holds_at (Good s p x (lanes_at s past))
    (task s p x) (Shared j) (task_known s p x (lanes_at s past)) h in
    holds_apply (Known s p x (lanes_at s past)) (Tells s p past) (job_event s (stand_at s p past) (lanes_at s past) j) known
    (next_job_tells s limit p past j r chosen is)

-- in a run the event of the job of a switch says the level after it
switch_job_tells : (s : Script) (limit : ℕ) (p : CpuNo) (past : List Event) (t : ThreadNo) → IsRun s limit past → may_switch (own_of s p past) ≡ true →
    Holds (Tells s p past) (job_event s (stand_at s p past) (lanes_at s past) (SwitchJob t))
switch_job_tells s limit p past t r may =
    holds_when (Tells s p past) (may_take s p t (lanes_at s past)) (Some (switch_event t (lanes_at s past))) (λ h. switch_tells s limit p past t r may h)

-- in a run the event of the job of picking a thread says the level after it
pick_job_tells : (s : Script) (limit : ℕ) (p : CpuNo) (past : List Event) (last : Option ThreadNo) → IsRun s limit past → may_switch (own_of s p past) ≡ true →
    Holds (Tells s p past) (job_event s (stand_at s p past) (lanes_at s past) (PickJob last))
pick_job_tells s limit p past last r may =
    let l : Lanes = lanes_at s past in
    holds_or (Tells s p past) (option_map (λ t. switch_event t l) (next_ready s p last l)) (idle_event s (stand_at s p past) l)
    (holds_map (Tells s p past) (λ t. switch_event t l) (next_ready s p last l)
    (λ t e. switch_tells s limit p past t r may (holds_at (λ t. may_take s p t l ≡ true) (next_ready s p last l) t (next_ready_taken s p last l) e)))
    (λ e. idle_tells s p past)

-- in a run the event of a job that is due says the level after it
job_tells : (s : Script) (limit : ℕ) (p : CpuNo) (past : List Event) (j : Job) → IsRun s limit past → IsDue s p (own_of s p past) j →
    Holds (Tells s p past) (job_event s (stand_at s p past) (lanes_at s past) j)
job_tells s limit p past j r (inl a) = task_tells s limit p past j r a
job_tells s limit p past (SwitchJob t) r (inr a) = switch_job_tells s limit p past t r a.1
job_tells s limit p past (PickJob last) r (inr a) = pick_job_tells s limit p past last r a.1
job_tells s limit p past j r (inr a) = cc

-- the event of a job that is due is the one that the processor's frames give
pub events_agree : (s : Script) (limit : ℕ) (p : CpuNo) (j : Job) (w : What) (past : List Event) → IsRun s limit past → IsDue s p (own_of s p past) j →
    job_event s (stand_at s p past) (lanes_at s past) j ≡ Some w → event_at s p w (frames_of s p past) ≡ acted_event (stand_at s p past) (lanes_at s past) w
events_agree s limit p j w past r a h =
    let level : Tells s p past w = holds_at (Tells s p past) (job_event s (stand_at s p past) (lanes_at s past) j) w (job_tells s limit p past j r a) h in
    ap (λ (n : ℕ). record { cpu = p; thread = thread_field w (running p past); level = n; what = w }) level
