-- The next event of a processor: what it has to do by what it keeps alone, and what a job gives by the states of the
-- lanes.
use Rattle.std.specs.Option.{option_map_or, option_or}
use Rattle.std.specs.Prelude.{Bool, List, None, Option, Some, [], false, find, if◌then◌else◌, is_none, is_some, nat_lt}
use Rattle.std.specs.Prelude.{not, option_and_then, option_map, suc, true, unwrap_or, ℕ, ◌&&◌, ◌-◌, ◌==◌, ◌||◌, ◌∷◌}
use Rattle.nt_event.specs.declared.commands.ApcKind.TheVariants.{Special as SpecialApc, User as UserApc}
use Rattle.nt_event.specs.declared.commands.Command.{Command}
use Rattle.nt_event.specs.declared.commands.Command.TheVariants as cmd
use Rattle.nt_event.specs.declared.commands.Refusal.{Refusal}
use Rattle.nt_event.specs.declared.commands.Reply.{Reply}
use Rattle.nt_event.specs.declared.commands.Reply.TheVariants.{Done, Refused}
use Rattle.nt_event.specs.declared.events.Begun.TheVariants as begun
use Rattle.nt_event.specs.declared.events.What.{What}
use Rattle.nt_event.specs.declared.events.What.TheVariants as what
use Rattle.nt_event.specs.declared.frames.Again.{Again}
use Rattle.nt_event.specs.declared.frames.Body.{Body}
use Rattle.nt_event.specs.declared.frames.Body.TheVariants as on
use Rattle.nt_event.specs.Frame.{Frame}
use Rattle.nt_event.specs.declared.inserts.Insert.{Insert}
use Rattle.nt_event.specs.declared.inserts.Part.{Part}
use Rattle.nt_event.specs.declared.inserts.Part.TheVariants.{Ordinary as OrdinaryPart, Threaded as ThreadedPart}
use Rattle.nt_event.specs.declared.inserts.Pick.{Pick}
use Rattle.nt_event.specs.declared.jobs.Job.{Job}
use Rattle.nt_event.specs.declared.jobs.Job.TheVariants as jobs
use Rattle.nt_event.specs.declared.jobs.Stand.{Stand}
use Rattle.nt_event.specs.declared.jobs.Task.{Task}
use Rattle.nt_event.specs.declared.jobs.Task.TheVariants.{Alone, Shared}
use Rattle.nt_event.specs.declared.numbers.CpuNo.{CpuNo}
use Rattle.nt_event.specs.declared.numbers.ThreadNo.{ThreadNo}
use Rattle.nt_event.specs.declared.scripts.Script.{Script}
use Rattle.nt_event.specs.declared.scripts.ThreadDecl.{ThreadDecl}
use Rattle.nt_event.specs.Apcs.{deliverable, first_user}
use Rattle.nt_event.specs.Commands.{is_reached, needs_lane, refusal, reply}
use Rattle.nt_event.specs.Frames.{innermost, is_on_thread, level_in, thread_part}
use Rattle.nt_event.specs.Lanes.{Lanes, facts_at, facts_of, queue_at}
use Rattle.nt_event.specs.Own.{Own, stand_in}
use Rattle.nt_event.specs.Queues.{QueueState, first_dpc}
use Rattle.nt_event.specs.Regions.{regions_of}
use Rattle.nt_event.specs.Routines.{cpu_of, next_command}
use Rattle.nt_event.specs.Script.{has_thread}
use Rattle.nt_event.specs.Threads.{ThreadFacts, ended_status, is_ready}
use Rattle.nt_event.specs.Timers.{SetKey, first_due}
use Rattle.nt_event.specs.Waits.{wait_reply}
use Rattle.nt_event.specs.Lists.{head_of, is_null, value_at, when}
use Rattle.nt_event.specs.Numbers.{thread}
use Rattle.nt_event.specs.Classes.{apc_class, dispatch_class, interrupt_classes, lock_class, threaded_class}

-- ---- where the processor stands

abbrev pub level_at : Own → ℕ
level_at x = level_in x.frames

-- a request of the class was noticed and not served
abbrev pub is_due : Own → ℕ → Bool
is_due x c = nat_lt (value_at x.served c) (value_at x.seen c)

-- ---- the cases of the next event, in their order

-- 1: an expired timer's DPC is to be inserted
abbrev pub fire_task : Own → Option Task
fire_task x = option_map (λ d. Shared (jobs.Fire d)) x.fire

-- an interrupt is pending and above the level (Windows Internals, "Interrupt request levels")
abbrev pub may_interrupt : Own → ℕ → Bool
may_interrupt x c = nat_lt (level_at x) c && is_due x c

-- 2: the greatest one begins
abbrev pub interrupt_task : Own → Option Task
interrupt_task x =
    option_map (λ c. Alone (what.Begin (begun.Int c) (value_at x.seen c - 1)))
    (find (may_interrupt x) interrupt_classes)

-- 3: DPCs and timers, below DISPATCH_LEVEL
abbrev pub may_drain : Own → Bool
may_drain x = nat_lt (level_at x) 2 && (is_due x dispatch_class || x.sweep)

-- 4: kernel APCs, at PASSIVE_LEVEL in a thread
abbrev pub may_apcs : Own → Bool
may_apcs x = (level_at x == 0) && (is_on_thread x.frames && is_due x apc_class)

-- 5: threaded DPCs, at PASSIVE_LEVEL with no frame on the own part (profile)
abbrev pub may_threaded : Own → Bool
may_threaded x = (level_at x == 0) && (is_null x.frames.own && is_due x threaded_class)

-- what the processor must do before it goes on: cases 1 to 5
abbrev pub must_task : Own → Option Task
must_task x =
    option_or (fire_task x) (option_or (interrupt_task x)
    (option_or (when (may_drain x) (Some (Shared jobs.Drain)))
    (option_or (when (may_apcs x) (Some (Shared jobs.Apcs)))
    (when (may_threaded x) (Some (Shared jobs.Threaded))))))

abbrev pub must : Own → Bool
must x = is_some (must_task x)

-- 5a: the innermost frame spins, and no release was noticed since its last try
abbrev pub waits_for_lock : Own → Bool
waits_for_lock x = option_map_or (λ f. is_some f.spin) (innermost x.frames) false && not (is_due x lock_class)

-- 6: a wait is taken up again
abbrev pub rewait_task : Frame → Option Task
rewait_task f = when (is_some f.again) (Some (Shared jobs.Rewait))

-- 7: a leaving thread's user APCs are flushed, and then it is gone
abbrev pub rundown_task : Frame → Option Task
rundown_task f = when f.leaving (Some (Shared jobs.Rundown))

-- 8: the next command, which is refused, begins a user APC at `touser`, or is called
abbrev pub call_task : Frame → Command → Option Refusal → Task
call_task f c (Some r) = Alone (what.Call f.name c (Refused r))
call_task f cmd.ToUser None = Shared jobs.ToUser
call_task f c None = if needs_lane c then Shared (jobs.Call c) else Alone (what.Call f.name c Done)

abbrev pub command_task : Own → Frame → Option Command → Option Task
command_task x f None = None
command_task x f (Some c) =
    Some (call_task f c (refusal (level_at x) (not (is_null x.frames.own)) (regions_of (thread_part x.frames)) f c))

-- 8a: the frame has no more commands and holds a lock: the one that it acquired last is freed (profile)
abbrev pub free_task : Frame → Option Task
free_task f = option_map (λ h. Shared (jobs.Free h.lock)) (head_of f.held)

-- 9: an APC with a normal routine goes on to it
abbrev pub has_normal : Body → Bool
has_normal (on.Apc a SpecialApc) = false
has_normal (on.Apc a kind) = true
has_normal (on.Int level) = false
has_normal (on.Dpc d) = false
has_normal (on.Threaded d) = false
has_normal (on.Base t) = false
has_normal (on.Rundown a) = false

abbrev pub normal_task : Frame → Option Task
normal_task f = when (f.kernel_phase && has_normal f.body) (Some (Alone (what.Normal f.name)))

-- 10: the frame ends
abbrev pub end_task : ℕ → Body → Task
end_task n (on.Base t) = Shared jobs.Leave
end_task n (on.Apc a UserApc) = Shared jobs.UserEnd
end_task n (on.Int level) = Alone (what.End n)
end_task n (on.Dpc d) = Alone (what.End n)
end_task n (on.Threaded d) = Alone (what.End n)
end_task n (on.Apc a kind) = Alone (what.End n)
end_task n (on.Rundown a) = Alone (what.End n)

-- cases 6 to 10, of the innermost frame
abbrev pub frame_task : Script → CpuNo → Own → Frame → Option Task
frame_task s p x f =
    option_or (rewait_task f) (option_or (rundown_task f)
    (option_or (command_task x f (next_command s p f))
    (option_or (free_task f) (option_or (normal_task f) (Some (end_task f.name f.body))))))

-- 11: at rest with no running thread there is nothing to do; 12 to 14: else ordinary DPCs, a needed Switch, or Rest
abbrev pub idle_task : Own → Option Task
idle_task x = when (not (x.rested && is_none x.frames.running)) (Some (Shared jobs.Idle))

-- cases 6 to 14
abbrev pub go_on_task : Script → CpuNo → Own → Option Task
go_on_task s p x = option_or (option_and_then (frame_task s p x) (innermost x.frames)) (idle_task x)

-- what the processor has to do next, or none where there is nothing
abbrev pub task : Script → CpuNo → Own → Option Task
task s p x = option_or (must_task x) (when (not (waits_for_lock x)) (go_on_task s p x))

-- ---- what a job gives

abbrev pub begin_dpc : Part → Insert → What
begin_dpc OrdinaryPart x = what.Begin (begun.Dpc x.dpc) x.number
begin_dpc ThreadedPart x = what.Begin (begun.Threaded x.dpc) x.number

-- the first of a part of the queue begins
abbrev pub begin_first : Part → QueueState → Option What
begin_first part q = option_map (begin_dpc part) (first_dpc part q.pending)

abbrev pub begin_apc : Pick → What
begin_apc x = what.Begin (begun.Apc x.apc) x.number

abbrev pub expire_key : SetKey → What
expire_key x = what.Expire x.key x.setting.number

abbrev pub drain_event : Stand → Lanes → What
drain_event st l =
    unwrap_or (option_or (option_map expire_key (when st.sweep (first_due l.timers)))
    (begin_first OrdinaryPart (queue_at l st.cpu))) (what.Clean dispatch_class)

abbrev pub apcs_event : Stand → Lanes → What
apcs_event st l =
    unwrap_or (option_map begin_apc (deliverable (facts_of l st.thread).apcs st.regions st.level))
    (what.Clean apc_class)

abbrev pub threaded_event : Stand → Lanes → What
threaded_event st l = unwrap_or (begin_first ThreadedPart (queue_at l st.cpu)) (what.Clean threaded_class)

-- the threads of p that are ready, from this number on
abbrev pub ready_from : CpuNo → ℕ → List ThreadDecl → Lanes → List ThreadNo
ready_from p n [] l = []
ready_from p n (x ∷ xs) l =
    if (x.cpu.0 == p.0) && is_ready (facts_at l (thread n)) then (thread n ∷ ready_from p (suc n) xs l)
    else ready_from p (suc n) xs l

abbrev pub ready : Script → CpuNo → Lanes → List ThreadNo
ready s p l = ready_from p 0 s.threads l

abbrev pub idle_event : Script → Stand → Lanes → Option What
idle_event s st l =
    option_or (begin_first OrdinaryPart (queue_at l st.cpu)) (when (is_null (ready s st.cpu l)) (Some what.Rest))

abbrev pub is_after : Option ThreadNo → ThreadNo → Bool
is_after None t = true
is_after (Some u) t = nat_lt u.0 t.0

-- the ready thread of least number above the one that was taken last, else of least number (profile)
abbrev pub next_ready : Script → CpuNo → Option ThreadNo → Lanes → Option ThreadNo
next_ready s p last l = option_or (find (is_after last) (ready s p l)) (head_of (ready s p l))

abbrev pub switch_event : ThreadNo → Lanes → What
switch_event t l = what.Switch t (ended_status (facts_at l t))

-- the thread is one of p's, and ready
abbrev pub may_take : Script → CpuNo → ThreadNo → Lanes → Bool
may_take s p t l = has_thread s t && (((cpu_of s t).0 == p.0) && is_ready (facts_at l t))

-- a delay that is taken up again has its old due time
abbrev pub rewait_reply : Stand → Lanes → Again → Reply
rewait_reply st l w =
    wait_reply (facts_of l st.thread) st.regions st.level w.mode w.alertable
    (option_map (is_reached l.timers.now) w.due)

-- the first user APC, where the mark is set and one is queued
abbrev pub user_due : ThreadFacts → Option Pick
user_due x = when x.user_pending (first_user x.apcs)

abbrev pub touser_event : Stand → Lanes → What
touser_event st l =
    unwrap_or (option_map begin_apc (user_due (facts_of l st.thread))) (what.Call st.frame cmd.ToUser Done)

abbrev pub rundown_event : Lanes → ThreadNo → What
rundown_event l t = unwrap_or (option_map (λ x. what.Flush x.apc x.number) (first_user (facts_at l t).apcs))
    (what.Gone t)

-- the event of a job, or none where there is nothing to do
abbrev pub job_event : Script → Stand → Lanes → Job → Option What
job_event s st l (jobs.Call c) = Some (what.Call st.frame c (reply s st l c))
job_event s st l (jobs.Fire d) = Some (what.Fire d (reply s st l (cmd.Queue d)))
job_event s st l (jobs.Free k) = Some (what.Free st.frame k)
job_event s st l jobs.Drain = Some (drain_event st l)
job_event s st l jobs.Apcs = Some (apcs_event st l)
job_event s st l jobs.Threaded = Some (threaded_event st l)
job_event s st l jobs.Idle = idle_event s st l
job_event s st l (jobs.Pick last) =
    option_or (option_map (λ t. switch_event t l) (next_ready s st.cpu last l)) (idle_event s st l)
job_event s st l (jobs.Switch t) = when (may_take s st.cpu t l) (Some (switch_event t l))
job_event s st l jobs.Rewait = option_map (λ w. what.Rewait st.frame (rewait_reply st l w)) st.again
job_event s st l jobs.ToUser = Some (touser_event st l)
job_event s st l jobs.UserEnd = Some (what.End st.frame)
job_event s st l jobs.Leave = Some (what.End st.frame)
job_event s st l jobs.Rundown = option_map (rundown_event l) st.thread

abbrev pub task_event : Script → Stand → Lanes → Task → Option What
task_event s st l (Alone w) = Some w
task_event s st l (Shared j) = job_event s st l j

-- the next event of p
abbrev pub next_what : Script → CpuNo → Own → Lanes → Option What
next_what s p x l = option_and_then (task_event s (stand_in p x) l) (task s p x)

-- ---- a choice of thread

-- no thread runs, the own part has no frame, and nothing must be done
abbrev pub may_switch : Own → Bool
may_switch x = is_none x.frames.running && (is_null x.frames.own && not (must x))

-- a processor rests where its last event is Rest and nothing must be done
abbrev pub rests : Own → Bool
rests x = x.rested && not (must x)

-- a processor spins still where it waits for a lock and nothing must be done
abbrev pub spins_still : Own → Bool
spins_still x = waits_for_lock x && not (must x)

-- it has nothing to do: it rests, or spins still
abbrev pub is_still : Own → Bool
is_still x = rests x || spins_still x

-- what a processor that chooses its threads itself has to do next: where a Switch may be made, it picks a ready thread
abbrev pub chosen_task : Script → CpuNo → Own → Option Task
chosen_task s p x =
    if is_still x then None else (if may_switch x then Some (Shared (jobs.Pick x.took)) else task s p x)

-- the event that it makes so
abbrev pub chosen_what : Script → CpuNo → Own → Lanes → Option What
chosen_what s p x l = option_and_then (task_event s (stand_in p x) l) (chosen_task s p x)
