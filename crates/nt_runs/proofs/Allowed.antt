-- In a run each processor stands as its lanes say, and a job that is due is allowed.
use Rattle.std.proofs.Common.{ap, arith, inl, inr, subst, sym, ◌∙◌}
use Rattle.std.proofs.lemmas.Bool.{both_ways, ltb-false, ltb-true}
use Rattle.std.specs.Option.{option_or}
use Rattle.std.specs.Prelude.{Bool, IfSome, IsSome, IsTrue, List, None, Option, Some, [], false, find, if◌then◌else◌, is_none, is_some, length, nat_lt, not}
use Rattle.std.specs.Prelude.{option_and_then, refl, true, ℕ, ◌&&◌, ◌-◌, ◌<◌, ◌==◌, ◌∷◌, ◌≡◌, ◌≤◌}
use Rattle.nt_event.specs.declared.commands.ApcKind.TheVariants.{User as UserApc}
use Rattle.nt_event.specs.declared.commands.Command.{Command}
use Rattle.nt_event.specs.declared.commands.Command.TheVariants.{Delay, StartWait, TestAlert, ToUser, Yield}
use Rattle.nt_event.specs.declared.commands.Refusal.{Refusal}
use Rattle.nt_event.specs.declared.commands.Refusal.TheVariants.{NotBase, NotThread, TooHigh}
use Rattle.nt_event.specs.declared.commands.Reply.TheVariants.{Done}
use Rattle.nt_event.specs.declared.events.Begun.TheVariants.{Int}
use Rattle.nt_event.specs.declared.events.Event.{Event}
use Rattle.nt_event.specs.declared.events.What.TheVariants.{Begin, Call, Normal}
use Rattle.nt_event.specs.declared.frames.Again.{Again}
use Rattle.nt_event.specs.declared.frames.Body.{Body}
use Rattle.nt_event.specs.declared.frames.Body.TheVariants.{Apc as OnApc, Base as OnBase}
use Rattle.nt_event.specs.Frame.{Frame}
use Rattle.nt_event.specs.declared.jobs.Job.{Job}
use Rattle.nt_event.specs.declared.jobs.Job.TheVariants.{Apcs as ApcsJob, Call as CallJob, Drain as DrainJob, Fire as FireJob, Free as FreeJob, Idle as IdleJob}
use Rattle.nt_event.specs.declared.jobs.Job.TheVariants.{Leave as LeaveJob, Pick as PickJob, Rewait as RewaitJob, Rundown as RundownJob, Switch as SwitchJob}
use Rattle.nt_event.specs.declared.jobs.Job.TheVariants.{Threaded as ThreadedJob, ToUser as ToUserJob, UserEnd as UserEndJob}
use Rattle.nt_event.specs.declared.jobs.Task.{Task}
use Rattle.nt_event.specs.declared.jobs.Task.TheVariants.{Alone, Shared}
use Rattle.nt_event.specs.declared.numbers.CpuNo.{CpuNo}
use Rattle.nt_event.specs.declared.numbers.ThreadNo.{ThreadNo}
use Rattle.nt_event.specs.declared.scripts.Script.{Script}
use Rattle.nt_event.specs.declared.threads.Doing.TheVariants.{Running as IsRunning}
use Rattle.nt_event.specs.Acting.{EndsThread, InThread, IsAllowed, IsCallable, IsDue, StandHolds, RunsThere, TakesUp}
use Rattle.nt_event.specs.Commands.{needs_lane, not_above, refuse}
use Rattle.nt_event.specs.Frames.{frames_of, innermost, is_base_body, is_on_thread, level_in, own_frames, running, thread_frames, thread_part}
use Rattle.nt_event.specs.Jobs.{call_task, command_task, end_task, fire_task, frame_task, free_task, go_on_task, has_normal, idle_task, interrupt_task}
use Rattle.nt_event.specs.Jobs.{level_at, may_apcs, may_drain, may_interrupt, may_threaded, must_task, normal_task, rewait_task, rundown_task, task}
use Rattle.nt_event.specs.Jobs.{waits_for_lock}
use Rattle.nt_event.specs.Classes.{interrupt_classes}
use Rattle.nt_event.specs.Lanes.{facts_at, lanes_at}
use Rattle.nt_runs.specs.Laws.{level_of}
use Rattle.nt_event.specs.Own.{Own, own_of}
use Rattle.nt_event.specs.Regions.{stand_at}
use Rattle.nt_event.specs.Routines.{cpu_of, next_command}
use Rattle.nt_event.specs.Step.{IsRun}
use Rattle.nt_event.specs.Threads.{ThreadFacts, start_facts}
use Rattle.nt_event.specs.Waits.{facts}
use Rattle.nt_event.specs.Lists.{head_of, is_null, value_at, when}
use Rattle.nt_event.specs.Numbers.{thread}
use Rattle.nt_runs.proofs.Agree.{runs_as}
use Rattle.nt_runs.proofs.Calm.{AllCalm, again_low, all_calm, next_test, not_above_gives}
use Rattle.nt_runs.proofs.Facts.{agree, level_on_thread}
use Rattle.nt_runs.proofs.Known.{refusal_in}
use Rattle.nt_runs.proofs.Leaving.{base_leaving, leaves_as, leaving_base}
use Rattle.nt_event.proofs.Options.{Holds, both, holds_at, holds_map, holds_or, holds_then, holds_when}
use Rattle.nt_runs.proofs.OwnPart.{is_own_body}
use Rattle.nt_runs.proofs.Robin.{Comes}
use Rattle.nt_runs.proofs.Running.{part_of_running, running_has_base, running_here}
use Rattle.nt_runs.proofs.Shared.{leaving_null, not_own, on_thread_frame, part_head, thread_runs}
use Rattle.nt_runs.proofs.Stops.{NoneAgain, none_again, null_of, refuse_none}
use Rattle.nt_event.proofs.Tables.{get_or-table}
use Rattle.nt_runs.proofs.UserApcs.{apcs_low}

-- in a run the thread that runs on a processor is a declared one of its own, and its facts say that it runs
pub processors_stand : (s : Script) (limit : ℕ) (p : CpuNo) (past : List Event) → IsRun s limit past → StandHolds s (lanes_at s past) (stand_at s p past)
processors_stand s limit p past r = go (running p past) refl
  where
    go : (o : Option ThreadNo) → running p past ≡ o → IfSome o (λ t. RunsThere s (lanes_at s past) (stand_at s p past) t)
    go None e = tt
    go (Some t) e =
        let h = running_here s limit p t past r e in
        let below : t.0 < length s.threads = ltb-true t.0 (length s.threads) h.0 in
        let own : cpu_of s t ≡ p = ap (λ (n : ℕ). record { 0 = n }) h.1 in
        let known : facts_at (lanes_at s past) t ≡ facts s t past = get_or-table (length s.threads) t.0 (λ k. facts s (thread k) past) start_facts below in
        let runs : (facts s t past).doing ≡ IsRunning = runs_as (facts s t past).doing (thread_frames s (cpu_of s t) t past)
        (running (cpu_of s t) past ≡ Some t) (agree s limit t past r) (ap (λ (q : CpuNo). running q past) own ∙ e) in
        record { named = below; own = own; runs = ap (λ (x : ThreadFacts). x.doing) known ∙ runs }

-- ---- what a due job is known by

abbrev DueIs : Own → Job → Type 0
DueIs x (CallJob c) = (needs_lane c ≡ true) × (f : Frame) × (innermost x.frames ≡ Some f) × (refusal_in x f c ≡ None)
DueIs x ApcsJob = may_apcs x ≡ true
DueIs x RewaitJob = (f : Frame) × (innermost x.frames ≡ Some f) × (is_some f.again ≡ true)
DueIs x ToUserJob = (f : Frame) × (innermost x.frames ≡ Some f) × (refusal_in x f ToUser ≡ None)
DueIs x UserEndJob = (f : Frame) × (innermost x.frames ≡ Some f) × (is_own_body f.body ≡ false)
DueIs x LeaveJob = (f : Frame) × (innermost x.frames ≡ Some f) × (is_own_body f.body ≡ false)
DueIs x RundownJob = (f : Frame) × (innermost x.frames ≡ Some f) × (f.leaving ≡ true)
DueIs x j = Unit {0}

abbrev TaskDue : Own → Task → Type 0
TaskDue x (Alone w) = Unit {0}
TaskDue x (Shared j) = DueIs x j

-- a job among the tasks that must be done first is due
must_due : (x : Own) → Holds (TaskDue x) (must_task x)
must_due x =
    holds_or (TaskDue x) (fire_task x) _ (holds_map (TaskDue x) (λ d. Shared (FireJob d)) x.fire (λ d e. tt))
    (λ e. holds_or (TaskDue x) (interrupt_task x) _ (holds_map (TaskDue x) (λ c. Alone (Begin (Int c) (value_at x.seen c - 1)))
    (find (may_interrupt x) interrupt_classes) (λ c k. tt))
    (λ k. holds_or (TaskDue x) (when (may_drain x) (Some (Shared DrainJob))) _ (holds_when (TaskDue x) (may_drain x) (Some (Shared DrainJob)) (λ h. tt))
    (λ k2. holds_or (TaskDue x) (when (may_apcs x) (Some (Shared ApcsJob))) _ (holds_when (TaskDue x) (may_apcs x) (Some (Shared ApcsJob)) (λ h. h))
    (λ k3. holds_when (TaskDue x) (may_threaded x) (Some (Shared ThreadedJob)) (λ h. tt)))))

-- the task of a command of the innermost frame is due, with the refusal that the command gets there
call_due : (x : Own) (f : Frame) (c : Command) → innermost x.frames ≡ Some f → TaskDue x (call_task f c (refusal_in x f c))
call_due x f c h = go c (refusal_in x f c) refl
  where
    lane : (c : Command) → refusal_in x f c ≡ None → (b : Bool) → needs_lane c ≡ b → TaskDue x (if b then Shared (CallJob c) else Alone (Call f.name c Done))
    lane c e true n = (n, f, h, e)
    lane c e false n = tt

    go : (c : Command) (o : Option Refusal) → refusal_in x f c ≡ o → TaskDue x (call_task f c o)
    go c (Some r) e = tt
    go ToUser None e = (f, h, e)
    go c None e = lane c e (needs_lane c) refl

-- the task of the next command of the innermost frame, if it has one, is due
command_due : (x : Own) (f : Frame) (o : Option Command) → innermost x.frames ≡ Some f → Holds (TaskDue x) (command_task x f o)
command_due x f None h = tt
command_due x f (Some c) h = call_due x f c h

-- the task that ends the innermost frame is due
end_due : (x : Own) (f : Frame) (n : ℕ) → innermost x.frames ≡ Some f → TaskDue x (end_task n f.body)
end_due x f n h = go f.body refl
  where
    go : (b : Body) → f.body ≡ b → TaskDue x (end_task n b)
    go (OnBase t) e = (f, h, ap is_own_body e)
    go (OnApc a UserApc) e = (f, h, ap is_own_body e)
    go b e = tt

-- each task that the innermost frame gives is due
frame_due : (s : Script) (p : CpuNo) (x : Own) (f : Frame) → innermost x.frames ≡ Some f → Holds (TaskDue x) (frame_task s p x f)
frame_due s p x f h =
    holds_or (TaskDue x) (rewait_task f) _ (holds_when (TaskDue x) (is_some f.again) (Some (Shared RewaitJob)) (λ e. (f, h, e)))
    (λ e. holds_or (TaskDue x) (rundown_task f) _ (holds_when (TaskDue x) f.leaving (Some (Shared RundownJob)) (λ e. (f, h, e)))
    (λ k. holds_or (TaskDue x) (command_task x f (next_command s p f)) _ (command_due x f (next_command s p f) h)
    (λ k2. holds_or (TaskDue x) (free_task f) _ (holds_map (TaskDue x) (λ h. Shared (FreeJob h.lock)) (head_of f.held) (λ h e. tt))
    (λ k4. holds_or (TaskDue x) (normal_task f) _ (holds_when (TaskDue x) (f.kernel_phase && has_normal f.body) (Some (Alone (Normal f.name))) (λ e. tt))
    (λ k3. end_due x f f.name h)))))

-- the next task of a processor is due
task_due : (s : Script) (p : CpuNo) (x : Own) → Holds (TaskDue x) (task s p x)
task_due s p x =
    holds_or (TaskDue x) (must_task x) _ (must_due x) (λ e. holds_when (TaskDue x) (not (waits_for_lock x)) (go_on_task s p x)
    (λ q. holds_or (TaskDue x) (option_and_then (frame_task s p x) (innermost x.frames)) (idle_task x)
    (holds_then (TaskDue x) (frame_task s p x) (innermost x.frames) (λ f k. frame_due s p x f k))
    (λ k. holds_when (TaskDue x) (not (x.rested && is_none x.frames.running)) (Some (Shared IdleJob)) (λ h. tt))))

-- ---- so it is allowed

-- an answer that comes is some answer
some_runs : (o : Option ThreadNo) → Comes o → IsSome o
some_runs o h = rw h.1 refl

-- a command that is called in a thread alone is accepted there, at a level of at most n
accepted_in : (n level : ℕ) (own : Bool) → refuse own NotThread (not_above n level None) ≡ None → (own ≡ false) × (level ≤ n)
accepted_in n level own h = (refuse_none own NotThread _ h, not_above_gives n level (next_test own NotThread _ h))

-- an innermost frame on a thread's part at a level of at most n has its thread run there at such a level
in_thread : (s : Script) (p : CpuNo) (past : List Event) (f : Frame) (n : ℕ) → innermost (frames_of s p past) ≡ Some f →
    (not (is_null (own_frames p past)) ≡ false) × (level_in (frames_of s p past) ≤ n) → InThread n (stand_at s p past)
in_thread s p past f n h k =
    record { thread = some_runs (running p past) (thread_runs (frames_of s p past) f h (null_of (is_null (own_frames p past)) k.0)); level = k.1 }

-- a command that isn't refused may be called where its processor stands
call_allowed : (s : Script) (p : CpuNo) (past : List Event) (f : Frame) (c : Command) → innermost (frames_of s p past) ≡ Some f →
    refusal_in (own_of s p past) f c ≡ None → IsCallable (stand_at s p past) c
call_allowed s p past f (StartWait m a) h e = in_thread s p past f 1 h (accepted_in 1 (level_in (frames_of s p past)) _ e)
call_allowed s p past f (Delay m a u) h e = in_thread s p past f 1 h (accepted_in 1 (level_in (frames_of s p past)) _ e)
call_allowed s p past f (TestAlert m) h e = in_thread s p past f 2 h (accepted_in 2 (level_in (frames_of s p past)) _ e)
call_allowed s p past f Yield h e = in_thread s p past f 1 h (accepted_in 1 (level_in (frames_of s p past)) _ e)
call_allowed s p past f c h e = tt

-- `touser` is accepted at PASSIVE_LEVEL in a thread
touser_allowed : (s : Script) (p : CpuNo) (past : List Event) (f : Frame) → innermost (frames_of s p past) ≡ Some f → refusal_in (own_of s p past) f ToUser
    ≡ None → InThread 0 (stand_at s p past)
touser_allowed s p past f h e =
    let own : not (is_null (own_frames p past)) ≡ false = refuse_none (not (is_null (own_frames p past))) NotThread _ e in
    let rest = next_test (not (is_null (own_frames p past))) NotThread _ e in
    let low = next_test (not (is_base_body f.body)) NotBase _ rest in
    let b : nat_lt 0 (level_in (frames_of s p past)) ≡ false = refuse_none (nat_lt 0 (level_in (frames_of s p past))) TooHigh _ low in
    in_thread s p past f 0 h (own, ltb-false 0 (level_in (frames_of s p past)) b)

-- where APCs may be delivered a thread runs at PASSIVE_LEVEL
apcs_allowed : (s : Script) (p : CpuNo) (past : List Event) → may_apcs (own_of s p past) ≡ true → InThread 0 (stand_at s p past)
apcs_allowed s p past h =
    let k = apcs_low (own_of s p past) h in
    let on = both (is_on_thread (frames_of s p past)) _ (both (level_at (own_of s p past) == 0) _ h).1 in
    let f = on_thread_frame (frames_of s p past) on.0 in
    let z : level_in (frames_of s p past) ≡ 0 = k.0 in
    record { thread = some_runs (running p past) (thread_runs (frames_of s p past) f.0 f.1 k.1); level = omega (arith, z) }

-- a wait to take up stands on a thread's part, at APC_LEVEL or below
again_null : (s : Script) (p : CpuNo) (past : List Event) (f : Frame) → innermost (frames_of s p past) ≡ Some f → is_some f.again ≡ true →
    NoneAgain (own_frames p past) → is_null (own_frames p past) ≡ true
again_null s p past f h a own = go (own_frames p past) refl own
  where
    go : (gs : List Frame) → own_frames p past ≡ gs → NoneAgain gs → is_null gs ≡ true
    go [] e o = refl
    go (g ∷ gs) e o =
        let first : option_or (head_of (g ∷ gs)) (head_of (thread_part (frames_of s p past)))
        ≡ Some f = subst (λ (gs : List Frame). option_or (head_of gs) (head_of (thread_part (frames_of s p past))) ≡ Some f) e h in
        let same : g ≡ f = cc in
        let none : is_some f.again ≡ false = ap (λ (z : Frame). is_some z.again) (sym same) ∙ ap (λ (q : Option Again). is_some q) o.0 in
        absurd (both_ways (is_some f.again) none a)

-- a wait to take up that passes the test of presence is there
some_is : (o : Option Again) → is_some o ≡ true → IsSome o
some_is None h = cc
some_is (Some x) h = refl

-- in a run a processor whose innermost frame has a wait to take up stands where one may be taken up
rewait_allowed : (s : Script) (limit : ℕ) (p : CpuNo) (past : List Event) (f : Frame) → IsRun s limit past → innermost (frames_of s p past) ≡ Some f →
    is_some f.again ≡ true → TakesUp (stand_at s p past)
rewait_allowed s limit p past f r h a =
    let null : is_null (own_frames p past) ≡ true = again_null s p past f h a (none_again s limit p past r) in
    let t = thread_runs (frames_of s p past) f h null in
    let b = running_here s limit p t.0 past r t.1 in
    let part : thread_part (frames_of s p past) ≡ thread_frames s p t.0 past = part_of_running s p t.0 past b.0 t.1 in
    let low : level_of (thread_part (frames_of s p past)) ≤ 1 = again_low f (thread_part (frames_of s p past)) (part_head (frames_of s p past) f h null) a
    (subst AllCalm (sym part) (all_calm s limit p t.0 past r)) in
    let level : level_in (frames_of s p past) ≡ level_of (thread_part (frames_of s p past)) = level_on_thread (frames_of s p past)
    (thread_part (frames_of s p past)) null refl in
    let wait : (stand_at s p past).again ≡ f.again = ap (λ (o : Option Frame). option_and_then (λ g. g.again) o) h in
    record { thread = some_runs (running p past) t; level = omega (arith, low, level); wait = subst IsSome (sym wait) (some_is f.again a) }

-- in a run a processor whose innermost frame is leaving runs a thread that is leaving
rundown_allowed : (s : Script) (limit : ℕ) (p : CpuNo) (past : List Event) (f : Frame) → IsRun s limit past → innermost (frames_of s p past) ≡ Some f →
    f.leaving ≡ true → EndsThread (lanes_at s past) (stand_at s p past)
rundown_allowed s limit p past f r h l =
    record {
      thread = some_runs (running p past) t;
      leaves = subst (λ (o : Option ThreadNo). IfSome o (λ t. (facts_at (lanes_at s past) t).leaving ≡ true))
          (sym t.1) leaves;
    }
  where
    null : is_null (own_frames p past) ≡ true
    null = leaving_null s p past f h l

    t : Comes (running p past)
    t = thread_runs (frames_of s p past) f h null

    leaves : (facts_at (lanes_at s past) t.0).leaving ≡ true
    leaves =
        let b = running_has_base s limit p t.0 past r t.1 in
        let own : cpu_of s t.0 ≡ p = ap (λ (n : ℕ). record { 0 = n }) b.0 in
        let part : thread_part (frames_of s p past) ≡ thread_frames s p t.0 past = part_of_running s p t.0 past b.1 t.1 in
        let base : base_leaving (thread_frames s p t.0 past)
        ≡ true = subst (λ (fs : List Frame). base_leaving fs ≡ true) part
        (leaving_base t.0 f (thread_part (frames_of s p past)) (part_head (frames_of s p past) f h null) l b.2) in
        let known : facts_at (lanes_at s past) t.0 ≡ facts s t.0 past = get_or-table (length s.threads) t.0.0 (λ k. facts s (thread k) past) start_facts
        (ltb-true t.0.0 (length s.threads) b.1) in
        ap (λ (x : ThreadFacts). x.leaving) known ∙ (leaves_as s limit t.0 past r ∙ (ap (λ (q : CpuNo). base_leaving (thread_frames s q t.0 past)) own ∙ base))

-- in a run a job that is known to be due by its own tests is allowed
due_allowed : (s : Script) (limit : ℕ) (p : CpuNo) (j : Job) (past : List Event) → IsRun s limit past → DueIs (own_of s p past) j →
    IsAllowed (lanes_at s past) (stand_at s p past) j
due_allowed s limit p (CallJob c) past r d = (T_of (needs_lane c) d.0, call_allowed s p past d.1 c d.2 d.3)
  where
    T_of : (b : Bool) → b ≡ true → IsTrue b
    T_of true h = refl
    T_of false h = cc
due_allowed s limit p ApcsJob past r d = apcs_allowed s p past d
due_allowed s limit p RewaitJob past r d = rewait_allowed s limit p past d.0 r d.1 d.2
due_allowed s limit p ToUserJob past r d = touser_allowed s p past d.0 d.1 d.2
due_allowed s limit p UserEndJob past r d =
    some_runs (running p past) (thread_runs (frames_of s p past) d.0 d.1 (not_own s p past d.0 d.1 d.2))
due_allowed s limit p LeaveJob past r d =
    some_runs (running p past) (thread_runs (frames_of s p past) d.0 d.1 (not_own s p past d.0 d.1 d.2))
due_allowed s limit p RundownJob past r d = rundown_allowed s limit p past d.0 r d.1 d.2
due_allowed s limit p j past r d = tt

-- in a run a job that is due is allowed
pub jobs_allowed : (s : Script) (limit : ℕ) (p : CpuNo) (j : Job) (past : List Event) → IsRun s limit past → IsDue s p (own_of s p past) j →
    IsAllowed (lanes_at s past) (stand_at s p past) j
jobs_allowed s limit p j past r (inl d) =
    due_allowed s limit p j past r (holds_at (TaskDue (own_of s p past)) (task s p (own_of s p past)) (Shared j) (task_due s p (own_of s p past)) d)
jobs_allowed s limit p (SwitchJob t) past r (inr d) = tt
jobs_allowed s limit p (PickJob last) past r (inr d) = tt
jobs_allowed s limit p j past r (inr d) = cc
