-- A processor that chooses its threads itself never has the job Idle, nor a Switch of a given thread.
use Rattle.std.proofs.Common.{ap, inl, inr, subst, ◌∙◌}
use Rattle.std.specs.Option.{option_map_or, option_or}
use Rattle.std.specs.Prelude.{Bool, List, None, Option, Some, [], false, find, if◌then◌else◌, is_none, is_some, not, option_and_then, refl, true, ℕ, ◌&&◌, ◌-◌}
use Rattle.std.specs.Prelude.{◌||◌, ◌∷◌, ◌≡◌}
use Rattle.nt_event.specs.declared.commands.ApcKind.TheVariants.{User as UserApc}
use Rattle.nt_event.specs.declared.commands.Command.{Command}
use Rattle.nt_event.specs.declared.commands.Command.TheVariants.{ToUser}
use Rattle.nt_event.specs.declared.commands.Refusal.{Refusal}
use Rattle.nt_event.specs.declared.commands.Reply.TheVariants.{Done}
use Rattle.nt_event.specs.declared.events.Begun.TheVariants.{Int}
use Rattle.nt_event.specs.declared.events.What.TheVariants.{Begin, Call, Normal}
use Rattle.nt_event.specs.declared.frames.Body.{Body}
use Rattle.nt_event.specs.declared.frames.Body.TheVariants.{Apc as OnApc, Base as OnBase}
use Rattle.nt_event.specs.Frame.{Frame}
use Rattle.nt_event.specs.declared.jobs.Job.{Job}
use Rattle.nt_event.specs.declared.jobs.Job.TheVariants.{Apcs as ApcsJob, Call as CallJob, Drain as DrainJob, Fire as FireJob, Free as FreeJob, Idle as IdleJob}
use Rattle.nt_event.specs.declared.jobs.Job.TheVariants.{Pick as PickJob, Rewait as RewaitJob, Rundown as RundownJob, Switch as SwitchJob}
use Rattle.nt_event.specs.declared.jobs.Job.TheVariants.{Threaded as ThreadedJob}
use Rattle.nt_event.specs.declared.jobs.Stand.{Stand}
use Rattle.nt_event.specs.declared.jobs.Task.{Task}
use Rattle.nt_event.specs.declared.jobs.Task.TheVariants.{Alone, Shared}
use Rattle.nt_event.specs.declared.numbers.CpuNo.{CpuNo}
use Rattle.nt_event.specs.declared.numbers.ThreadNo.{ThreadNo}
use Rattle.nt_event.specs.declared.scripts.Script.{Script}
use Rattle.nt_event.specs.Acting.{IsDue, is_choice}
use Rattle.nt_event.specs.Commands.{needs_lane, refusal}
use Rattle.nt_event.specs.Frames.{Frames, frames_in, innermost, thread_part}
use Rattle.nt_event.specs.Jobs.{call_task, chosen_task, command_task, end_task, fire_task, frame_task, free_task, go_on_task, has_normal, idle_task}
use Rattle.nt_event.specs.Jobs.{interrupt_task, is_still, level_at, may_apcs, may_drain, may_interrupt, may_switch, may_threaded, must, must_task, normal_task}
use Rattle.nt_event.specs.Jobs.{rests, rewait_task, rundown_task, spins_still, task, waits_for_lock}
use Rattle.nt_event.specs.Classes.{interrupt_classes}
use Rattle.nt_event.specs.Own.{Own}
use Rattle.nt_event.specs.Regions.{regions_of}
use Rattle.nt_event.specs.Routines.{next_command}
use Rattle.nt_event.specs.Lists.{head_of, is_null, value_at, when}
use Rattle.nt_event.proofs.Options.{Holds, holds_at, holds_map, holds_or, holds_then, holds_when}
use Rattle.nt_cpu.specs.Sound.{AreBased, EndsInBase, IsSound}
use Rattle.nt_cpu.specs.States.{CpuState}
use Rattle.nt_event.specs.declared.acts.ActRefusal.{ActRefusal}
use Rattle.nt_event.specs.declared.acts.ActRefusal.TheVariants.{NoMemory}
use Rattle.nt_event.specs.Acts.{Found, IsRefused}
use Rattle.nt_cpu.specs.GoodTasks.{GoodTask}
use Rattle.nt_cpu.proofs.DueTasks.{no_frame, task_good}

-- no job is Idle where a thread may be taken up, or a Switch
abbrev pub IsChosen : Own → Task → Type 0
IsChosen x (Shared IdleJob) = may_switch x ≡ true
IsChosen x (Shared (SwitchJob t)) = ⊥
IsChosen x t = Unit {0}

-- the task of a call is neither Idle nor a given switch
call_chosen : (x : Own) (f : Frame) (k : Command) (r : Option Refusal) → IsChosen x (call_task f k r)
call_chosen x f k (Some r) = tt
call_chosen x f ToUser None = tt
call_chosen x f k None = go (needs_lane k)
  where
    go : (b : Bool) → IsChosen x (if b then Shared (CallJob k) else Alone (Call f.name k Done))
    go true = tt
    go false = tt

-- the task of an optional command is neither Idle nor a given switch
command_chosen : (x : Own) (f : Frame) (o : Option Command) → Holds (IsChosen x) (command_task x f o)
command_chosen x f None = tt
command_chosen x f (Some k) =
    call_chosen x f k (refusal (level_at x) (not (is_null x.frames.own)) (regions_of (thread_part x.frames)) f k)

-- the task that ends a frame is neither Idle nor a given switch
end_chosen : (x : Own) (n : ℕ) (b : Body) → IsChosen x (end_task n b)
end_chosen x n (OnBase t) = tt
end_chosen x n (OnApc a UserApc) = tt
end_chosen x n _ = tt

-- the task of a frame is neither Idle nor a given switch
frame_chosen : (s : Script) (p : CpuNo) (x : Own) (f : Frame) → Holds (IsChosen x) (frame_task s p x f)
frame_chosen s p x f =
    holds_or (IsChosen x) (rewait_task f) _ (holds_when (IsChosen x) (is_some f.again) (Some (Shared RewaitJob)) (λ _. tt))
    (λ _. holds_or (IsChosen x) (rundown_task f) _ (holds_when (IsChosen x) f.leaving (Some (Shared RundownJob)) (λ _. tt))
    (λ _. holds_or (IsChosen x) (command_task x f (next_command s p f)) _ (command_chosen x f (next_command s p f))
    (λ _. holds_or (IsChosen x) (free_task f) _ (holds_map (IsChosen x) (λ h. Shared (FreeJob h.lock)) (head_of f.held) (λ h e. tt))
    (λ _. holds_or (IsChosen x) (normal_task f) _ (holds_when (IsChosen x) (f.kernel_phase && has_normal f.body) (Some (Alone (Normal f.name))) (λ _. tt))
    (λ _. end_chosen x f.name f.body)))))

-- the task that must come first is neither Idle nor a given switch
must_chosen : (x : Own) → Holds (IsChosen x) (must_task x)
must_chosen x =
    holds_or (IsChosen x) (fire_task x) _ (holds_map (IsChosen x) (λ d. Shared (FireJob d)) x.fire (λ d e. tt))
    (λ _. holds_or (IsChosen x) (interrupt_task x) _
    (holds_map (IsChosen x) (λ k. Alone (Begin (Int k) (value_at x.seen k - 1))) (find (may_interrupt x) interrupt_classes) (λ k e. tt))
    (λ _. holds_or (IsChosen x) (when (may_drain x) (Some (Shared DrainJob))) _ (holds_when (IsChosen x) (may_drain x) (Some (Shared DrainJob)) (λ _. tt))
    (λ _. holds_or (IsChosen x) (when (may_apcs x) (Some (Shared ApcsJob))) _ (holds_when (IsChosen x) (may_apcs x) (Some (Shared ApcsJob)) (λ _. tt))
    (λ _. holds_when (IsChosen x) (may_threaded x) (Some (Shared ThreadedJob)) (λ _. tt)))))

-- where no frame stands, no thread runs
no_runner : (x : Frames) → AreBased x → head_of (thread_part x) ≡ None → x.running ≡ None
no_runner x h k = go x.running refl k
  where
    based : (fs : List Frame) → EndsInBase fs → head_of fs ≡ None → ⊥
    based [] b e = b
    based (f ∷ fs) b e = cc

    go : (r : Option ThreadNo) → x.running ≡ r → head_of (option_map_or (frames_in x.threads) r []) ≡ None → x.running ≡ None
    go None e q = e
    go (Some t) e q = absurd (based (frames_in x.threads t) (rw e at h.runs) q)

-- without an innermost frame a processor has no own frame and its thread has none
no_own : (x : Frames) → innermost x ≡ None → (x.own ≡ []) × (head_of (thread_part x) ≡ None)
no_own x k = go x.own refl k
  where
    go : (os : List Frame) → x.own ≡ os → option_or (head_of os) (head_of (thread_part x)) ≡ None → (x.own ≡ []) × (head_of (thread_part x) ≡ None)
    go [] e q = (e, q)
    go (f ∷ fs) e q = absurd cc

-- three tests of which the last must fail hold together
all_free : (a b d : Bool) → a ≡ true → b ≡ true → d ≡ false → (a && (b && not d)) ≡ true
all_free a b d p q r = rw (p, q, r) refl

-- a sound processor with no frame and no task that must come first may switch
free_there : (c : CpuState) → IsSound c → must_task c.own ≡ None → innermost c.own.frames ≡ None → may_switch c.own ≡ true
free_there c h m i =
    let o = no_own c.own.frames i in
    all_free (is_none c.own.frames.running) (is_null c.own.frames.own) (must c.own)
    (ap (λ (r : Option ThreadNo). is_none r) (no_runner c.own.frames h.based o.1)) (ap (λ (fs : List Frame). is_null fs) o.0)
    (ap (λ (t : Option Task). is_some t) m)

-- the task of a sound processor is neither Idle nor a given switch
task_chosen : (c : CpuState) → IsSound c → Holds (IsChosen c.own) (task c.script c.cpu c.own)
task_chosen c h =
    holds_or (IsChosen c.own) (must_task c.own) _ (must_chosen c.own)
    (λ m. holds_when (IsChosen c.own) (not (waits_for_lock c.own)) (go_on_task c.script c.cpu c.own)
    (λ _. holds_or (IsChosen c.own) (option_and_then (frame_task c.script c.cpu c.own) (innermost c.own.frames)) _
    (holds_then (IsChosen c.own) (frame_task c.script c.cpu c.own) (innermost c.own.frames) (λ f i. frame_chosen c.script c.cpu c.own f))
    (λ e. holds_when (IsChosen c.own) (not (c.own.rested && is_none c.own.frames.running)) (Some (Shared IdleJob)) (λ _. free_there c h m (no_frame c e)))))

-- ---- what a processor chooses

-- the job that it chooses is one that no floor refuses
abbrev pub is_refusable : Job → Bool
is_refusable IdleJob = true
is_refusable (SwitchJob t) = true
is_refusable job = false

-- a processor that chooses its threads itself never chooses the job Idle or a Switch to a given thread
pub never_refused : (c : CpuState) (job : Job) → IsSound c → chosen_task c.script c.cpu c.own ≡ Some (Shared job) → is_refusable job ≡ false
never_refused c job h e = resting (is_still c.own) e
  where
    good : (job : Job) → may_switch c.own ≡ false → IsChosen c.own (Shared job) → is_refusable job ≡ false
    good IdleJob m k = absurd cc
    good (SwitchJob t) m k = absurd k
    good _ m k = refl

    choosing : (b : Bool) → may_switch c.own ≡ b → (if b then Some (Shared (PickJob c.own.took)) else task c.script c.cpu c.own) ≡ Some (Shared job) →
        is_refusable job ≡ false
    choosing true m q =
        let i : PickJob c.own.took ≡ job = cc in subst (λ (j : Job). is_refusable j ≡ false) i refl
    choosing false m q =
        good job m (holds_at (IsChosen c.own) (task c.script c.cpu c.own) (Shared job) (task_chosen c h) q)

    resting : (b : Bool) → (if b then None else (if may_switch c.own then Some (Shared (PickJob c.own.took)) else task c.script c.cpu c.own))
        ≡ Some (Shared job) → is_refusable job ≡ false
    resting true q = absurd cc
    resting false q = choosing (may_switch c.own) refl q

-- the job is due
pub chosen_due : (c : CpuState) (job : Job) → chosen_task c.script c.cpu c.own ≡ Some (Shared job) → IsDue c.script c.cpu c.own job
chosen_due c job e = resting (is_still c.own) e
  where
    choosing : (b : Bool) → may_switch c.own ≡ b → (if b then Some (Shared (PickJob c.own.took)) else task c.script c.cpu c.own) ≡ Some (Shared job) →
        IsDue c.script c.cpu c.own job
    choosing true m q =
        let i : PickJob c.own.took ≡ job = cc in inr (subst (λ (j : Job). is_choice j ≡ true) i refl, m)
    choosing false m q = inl q

    resting : (b : Bool) → (if b then None else (if may_switch c.own then Some (Shared (PickJob c.own.took)) else task c.script c.cpu c.own))
        ≡ Some (Shared job) → IsDue c.script c.cpu c.own job
    resting true q = absurd cc
    resting false q = choosing (may_switch c.own) refl q

-- what holds of what it chooses
pub chosen_good : (c : CpuState) → IsSound c → Holds (GoodTask c) (chosen_task c.script c.cpu c.own)
chosen_good c h = resting (is_still c.own)
  where
    choosing : (b : Bool) → may_switch c.own ≡ b → Holds (GoodTask c) (if b then Some (Shared (PickJob c.own.took)) else task c.script c.cpu c.own)
    choosing true m = m
    choosing false m = task_good c h

    resting : (b : Bool) → Holds (GoodTask c) (if b then None else (if may_switch c.own then Some (Shared (PickJob c.own.took)) else task c.script c.cpu c.own))
    resting true = tt
    resting false = choosing (may_switch c.own) refl

-- a processor that waits for a lock, and has nothing that it must do, is still
still_waiting : (x : Own) → waits_for_lock x ≡ true → must_task x ≡ None → is_still x ≡ true
still_waiting x w a =
    let m : must x ≡ false = ap (λ (o : Option Task). is_some o) a in
    let s : spins_still x ≡ true = ap (λ (b : Bool). b && not (must x)) w ∙ ap (λ (b : Bool). not b) m in
    ap (λ (b : Bool). rests x || b) s ∙ or_true (rests x)
  where
    or_true : (b : Bool) → (b || true) ≡ true
    or_true true = refl
    or_true false = refl

-- it chooses nothing only where it rests or spins still
pub none_still : (c : CpuState) → IsSound c → chosen_task c.script c.cpu c.own ≡ None → is_still c.own ≡ true
none_still c h e = resting (is_still c.own) refl e
  where
    resting : (b : Bool) → is_still c.own ≡ b →
        (if b then None else (if may_switch c.own then Some (Shared (PickJob c.own.took)) else task c.script c.cpu c.own)) ≡ None →
        is_still c.own ≡ true
    resting true r q = r
    resting false r q = choosing (may_switch c.own) refl q
      where
        choosing : (b : Bool) → may_switch c.own ≡ b → (if b then Some (Shared (PickJob c.own.took)) else task c.script c.cpu c.own) ≡ None →
            is_still c.own ≡ true
        choosing true m q = absurd cc
        choosing false m q = absurd (busy (must_task c.own) refl q)
          where
            idle : (o : Option Task) → must_task c.own ≡ None → option_and_then (frame_task c.script c.cpu c.own) (innermost c.own.frames) ≡ o →
                option_or o (idle_task c.own) ≡ None → ⊥
            idle None a i k = let f = free_there c h a (no_frame c i) in cc
            idle (Some x) a i k = cc

            waiting : (b : Bool) → waits_for_lock c.own ≡ b → must_task c.own ≡ None → when (not b) (go_on_task c.script c.cpu c.own) ≡ None → ⊥
            waiting true w a k =
                let still : is_still c.own ≡ true = still_waiting c.own w a in cc
            waiting false w a k =
                idle (option_and_then (frame_task c.script c.cpu c.own) (innermost c.own.frames)) a refl k

            busy : (o : Option Task) → must_task c.own ≡ o → option_or o (when (not (waits_for_lock c.own)) (go_on_task c.script c.cpu c.own)) ≡ None → ⊥
            busy None a k = waiting (waits_for_lock c.own) refl a k
            busy (Some x) a k = cc

-- a floor refuses such a job for want of memory alone
pub refused_memory : (s : Script) (f : Found) (st : Stand) (job : Job) (r : ActRefusal) → is_refusable job ≡ false → IsRefused s f st job r → r ≡ NoMemory
refused_memory s f st IdleJob r h k = absurd cc
refused_memory s f st (SwitchJob t) r h k = absurd cc
refused_memory s f st _ NoMemory h k = refl
refused_memory s f st _ _ h k = absurd k
