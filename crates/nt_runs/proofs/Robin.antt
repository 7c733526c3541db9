-- The turn of the robin rule is accepted.
use Rattle.std.proofs.Common.{ap, arith, inl, inr, subst, sym, ◌∙◌}
use Rattle.std.proofs.Math.Bool.{and-true}
use Rattle.std.proofs.lemmas.Bool.{eq-eqb, lt-ltb, ltb-false, ltb-true}
use Rattle.std.specs.Option.{option_map_or, option_or}
use Rattle.std.specs.Prelude.{Bool, List, None, Ok, Option, Some, [], false, find, if◌then◌else◌, is_none, is_some, length, nat_lt, not, option_and_then}
use Rattle.std.specs.Prelude.{option_map, refl, suc, true, zero, ℕ, ◌&&◌, ◌+◌, ◌-◌, ◌<◌, ◌==◌, ◌||◌, ◌∷◌, ◌≡◌, ◌≤◌, ◌⊎◌}
use Rattle.nt_event.specs.declared.commands.ApcKind.TheVariants.{User as UserApc}
use Rattle.nt_event.specs.declared.commands.Command.{Command}
use Rattle.nt_event.specs.declared.commands.Command.TheVariants.{ToUser}
use Rattle.nt_event.specs.declared.commands.Refusal.{Refusal}
use Rattle.nt_event.specs.declared.commands.Reply.TheVariants.{Done}
use Rattle.nt_event.specs.declared.events.Begun.TheVariants.{Int}
use Rattle.nt_event.specs.declared.events.Event.{Event}
use Rattle.nt_event.specs.declared.events.Rises.{Rises}
use Rattle.nt_event.specs.declared.events.ScheduleKind.{ScheduleKind}
use Rattle.nt_event.specs.declared.events.ScheduleKind.TheVariants.{BadChoice, BadLook, NothingToDo}
use Rattle.nt_event.specs.declared.events.Turn.{Turn}
use Rattle.nt_event.specs.declared.events.Turn.TheVariants.{Look as LookTurn, Next, Switch as SwitchTurn}
use Rattle.nt_event.specs.declared.events.What.{What}
use Rattle.nt_event.specs.declared.events.What.TheVariants.{Begin, Call, Look, Normal, Rest, Rewait}
use Rattle.nt_event.specs.declared.frames.Again.{Again}
use Rattle.nt_event.specs.declared.frames.Body.{Body}
use Rattle.nt_event.specs.declared.frames.Body.TheVariants.{Apc as OnApc, Base as OnBase}
use Rattle.nt_event.specs.Frame.{Frame}
use Rattle.nt_event.specs.declared.inserts.Part.TheVariants.{Ordinary as OrdinaryPart}
use Rattle.nt_event.specs.declared.jobs.Job.TheVariants.{Apcs as ApcsJob, Call as CallJob, Drain as DrainJob, Fire as FireJob, Free as FreeJob}
use Rattle.nt_event.specs.declared.jobs.Job.TheVariants.{Rewait as RewaitJob, Rundown as RundownJob, Threaded as ThreadedJob}
use Rattle.nt_event.specs.declared.jobs.Stand.{Stand}
use Rattle.nt_event.specs.declared.jobs.Task.{Task}
use Rattle.nt_event.specs.declared.jobs.Task.TheVariants.{Alone, Shared}
use Rattle.nt_event.specs.declared.numbers.CpuNo.{CpuNo}
use Rattle.nt_event.specs.declared.numbers.ThreadNo.{ThreadNo}
use Rattle.nt_event.specs.declared.scripts.Script.{Script}
use Rattle.nt_event.specs.Commands.{needs_lane}
use Rattle.nt_event.specs.Frames.{Frames, frames_in, frames_of, innermost, running, thread_part}
use Rattle.nt_event.specs.Jobs.{begin_first, call_task, command_task, end_task, fire_task, frame_task, free_task, go_on_task, has_normal, idle_task}
use Rattle.nt_event.specs.Jobs.{interrupt_task, is_after, is_still, may_apcs, may_drain, may_interrupt, may_switch, may_take, may_threaded, must, must_task}
use Rattle.nt_event.specs.Jobs.{next_ready, next_what, normal_task, ready, rests, rewait_reply, rewait_task, rundown_task, spins_still, switch_event, task}
use Rattle.nt_event.specs.Jobs.{task_event, waits_for_lock}
use Rattle.nt_event.specs.Classes.{interrupt_classes}
use Rattle.nt_event.specs.Lanes.{Lanes, lanes_at, queue_at}
use Rattle.nt_runs.specs.Laws.{HasBase}
use Rattle.nt_event.specs.Own.{Own, own_of, rested, stand_in, took}
use Rattle.nt_event.specs.Regions.{stand_of}
use Rattle.nt_event.specs.Requests.{asked, asks}
use Rattle.nt_event.specs.Robin.{first_cpu, go_on_turn, is_behind, look_value, look_values, robin, robin_at, robin_from, robin_of, switch_or_next}
use Rattle.nt_event.specs.Routines.{next_command}
use Rattle.nt_event.specs.Step.{IsLegal, IsRun, cpu_at, event_at, event_or, good_rises, is_cut, is_good_look, step, turn_of, uncut_step, was_asked}
use Rattle.nt_event.specs.Numbers.{cpu}
use Rattle.nt_event.specs.Lists.{head_of, is_null, table_from, value_at, when}
use Rattle.nt_event.proofs.Ready.{next_ready_taken}
use Rattle.nt_event.proofs.Options.{Holds, holds_at, holds_map, holds_or, holds_when, not_false, not_true}
use Rattle.nt_runs.proofs.OwnPart.{AllOwn, all_own}
use Rattle.nt_runs.proofs.Running.{running_has_base}
use Rattle.nt_runs.proofs.Steps.{cpu_at-turn_at, step_uncut}

-- an answer comes
abbrev pub Comes : {A : Type 0} → Option A → Type 0
Comes {A} o = (x : A) × (o ≡ Some x)

-- one of two answers comes if the second one does
pub comes_or : {A : Type 0} (a b : Option A) → Comes b → Comes (option_or a b)
comes_or None b h = h
comes_or (Some x) b h = (x, refl)

-- an answer under a true condition comes if it comes without it
pub comes_when : {A : Type 0} (t : Bool) (a : Option A) → t ≡ true → Comes a → Comes (when t a)
comes_when true a e h = h
comes_when false a e h = cc

-- an answer made from another one comes if the other comes and what is made from it comes
pub comes_then : {A B : Type 0} (f : A → Option B) (a : Option A) (x : A) → a ≡ Some x → Comes (f x) → Comes (option_and_then f a)
comes_then f None x e h = cc
comes_then f (Some y) x e h = let k : x ≡ y = cc in subst (λ v. Comes (f v)) k h

-- ---- what must be done gives an event

abbrev EventOf : Script → Stand → Lanes → Task → Type 0
EventOf s st l t = Comes (task_event s st l t)

-- each task that must be done first gives an event
must_comes : (s : Script) (st : Stand) (l : Lanes) (x : Own) → Holds (EventOf s st l) (must_task x)
must_comes s st l x =
    holds_or (EventOf s st l) (fire_task x) _ (holds_map (EventOf s st l) (λ d. Shared (FireJob d)) x.fire (λ d e. (_, refl)))
    (λ e. holds_or (EventOf s st l) (interrupt_task x) _
    (holds_map (EventOf s st l) (λ c. Alone (Begin (Int c) (value_at x.seen c - 1))) (find (may_interrupt x) interrupt_classes) (λ c k. (_, refl)))
    (λ k. holds_or (EventOf s st l) (when (may_drain x) (Some (Shared DrainJob))) _
    (holds_when (EventOf s st l) (may_drain x) (Some (Shared DrainJob)) (λ h. (_, refl)))
    (λ k2. holds_or (EventOf s st l) (when (may_apcs x) (Some (Shared ApcsJob))) _
    (holds_when (EventOf s st l) (may_apcs x) (Some (Shared ApcsJob)) (λ h. (_, refl)))
    (λ k3. holds_when (EventOf s st l) (may_threaded x) (Some (Shared ThreadedJob)) (λ h. (_, refl))))))

-- ---- a frame gives an event

-- the task of a command gives an event, refused or not
call_comes : (s : Script) (st : Stand) (l : Lanes) (f : Frame) (c : Command) (r : Option Refusal) → EventOf s st l (call_task f c r)
call_comes s st l f c (Some r) = (_, refl)
call_comes s st l f ToUser None = (_, refl)
call_comes s st l f c None = lane (needs_lane c)
  where
    lane : (b : Bool) → EventOf s st l (if b then Shared (CallJob c) else Alone (Call f.name c Done))
    lane true = (_, refl)
    lane false = (_, refl)

-- the next command, if there is one, gives an event
command_comes : (s : Script) (st : Stand) (l : Lanes) (x : Own) (f : Frame) (o : Option Command) → Holds (EventOf s st l) (command_task x f o)
command_comes s st l x f None = tt
command_comes s st l x f (Some c) = call_comes s st l f c _

-- the task that ends a frame gives an event
end_comes : (s : Script) (st : Stand) (l : Lanes) (n : ℕ) (b : Body) → EventOf s st l (end_task n b)
end_comes s st l n (OnBase t) = (_, refl)
end_comes s st l n (OnApc a UserApc) = (_, refl)
end_comes s st l n b = (_, refl)

-- the job that takes up a wait again gives an event where there is a wait
rewait_comes : (s : Script) (st : Stand) (l : Lanes) (f : Frame) → st.again ≡ f.again → is_some f.again ≡ true → EventOf s st l (Shared RewaitJob)
rewait_comes s st l f e h = go f.again e h
  where
    go : (o : Option Again) → st.again ≡ o → is_some o ≡ true → Comes (option_map (λ w. Rewait st.frame (rewait_reply st l w)) st.again)
    go None e h = cc
    go (Some w) e h = rw e (_, refl)

-- the rundown of a running thread gives an event
rundown_comes : (s : Script) (st : Stand) (l : Lanes) → Comes st.thread → EventOf s st l (Shared RundownJob)
rundown_comes s st l h = rw h.1 (_, refl)

-- each task of a frame gives an event, if a leaving one has its thread running
frame_comes : (s : Script) (st : Stand) (l : Lanes) (p : CpuNo) (x : Own) (f : Frame) → st.again ≡ f.again → (f.leaving ≡ true → Comes st.thread) →
    Holds (EventOf s st l) (frame_task s p x f)
frame_comes s st l p x f again leaves =
    holds_or (EventOf s st l) (rewait_task f) _ (holds_when (EventOf s st l) (is_some f.again) (Some (Shared RewaitJob)) (λ h. rewait_comes s st l f again h))
    (λ e. holds_or (EventOf s st l) (rundown_task f) _
    (holds_when (EventOf s st l) f.leaving (Some (Shared RundownJob)) (λ h. rundown_comes s st l (leaves h)))
    (λ k. holds_or (EventOf s st l) (command_task x f (next_command s p f)) _ (command_comes s st l x f (next_command s p f))
    (λ k2. holds_or (EventOf s st l) (free_task f) _ (holds_map (EventOf s st l) (λ h. Shared (FreeJob h.lock)) (head_of f.held) (λ h e. (_, refl)))
    (λ k4. holds_or (EventOf s st l) (normal_task f) _
    (holds_when (EventOf s st l) (f.kernel_phase && has_normal f.body) (Some (Alone (Normal f.name))) (λ h. (_, refl)))
    (λ k3. end_comes s st l f.name f.body)))))

-- a frame always has something to do
pub frame_has : (s : Script) (p : CpuNo) (x : Own) (f : Frame) → Comes (frame_task s p x f)
frame_has s p x f =
    comes_or (rewait_task f) _ (comes_or (rundown_task f) _ (comes_or (command_task x f (next_command s p f)) _
    (comes_or (free_task f) _ (comes_or (normal_task f) _ (_, refl)))))

-- ---- where a processor stands

-- the innermost frame stands on the own part, or on that of a thread that runs
innermost_stands : (x : Frames) (f : Frame) → innermost x ≡ Some f → AllOwn x.own → f.leaving ≡ true → Comes x.running
innermost_stands x f h own leaving = go x.own x.running refl refl
  where
    go : (fs : List Frame) (r : Option ThreadNo) → x.own ≡ fs → x.running ≡ r → Comes x.running
    go (g ∷ fs) r a b =
        let first : option_or (head_of (g ∷ fs)) (head_of (thread_part x))
        ≡ Some f = subst (λ (fs : List Frame). option_or (head_of fs) (head_of (thread_part x)) ≡ Some f) a h in
        let same : g ≡ f = cc in
        let o : AllOwn (g ∷ fs) = subst AllOwn a own in
        let no : f.leaving ≡ false = ap (λ (f : Frame). f.leaving) (sym same) ∙ o.0.1 in
        cc
    go [] None a b =
        let none : option_or (head_of {A = Frame} []) (head_of {A = Frame} [])
        ≡ Some f = subst (λ (r : Option ThreadNo). option_or (head_of {A = Frame} []) (head_of (option_map_or (frames_in x.threads) r [])) ≡ Some f) b
        (subst (λ (fs : List Frame). option_or (head_of fs) (head_of (thread_part x)) ≡ Some f) a h) in
        cc
    go [] (Some t) a b = (t, b)

-- where a processor stands has the wait to take up of its innermost frame
pub again_stands : (p : CpuNo) (x : Frames) (sweep : Bool) (f : Frame) → innermost x ≡ Some f → (stand_of p x sweep).again ≡ f.again
again_stands p x sweep f h = ap (λ (o : Option Frame). option_and_then (λ g. g.again) o) h

-- a processor without frames has no running thread
based_none : (t : ThreadNo) (part : List Frame) → HasBase t part → head_of part ≡ None → ⊥
based_none t [] h e = h
based_none t (f ∷ fs) h e = cc

-- a processor with no innermost frame has an empty own part
no_frame : (x : Frames) → innermost x ≡ None → is_null x.own ≡ true
no_frame x h = go x.own h
  where
    go : (fs : List Frame) → option_or (head_of fs) (head_of (thread_part x)) ≡ None → is_null fs ≡ true
    go [] k = refl
    go (f ∷ fs) k = cc

-- with no innermost frame the running thread's part has no frame
no_part : (x : Frames) → innermost x ≡ None → head_of (thread_part x) ≡ None
no_part x h = go x.own h
  where
    go : (fs : List Frame) → option_or (head_of fs) (head_of (thread_part x)) ≡ None → head_of (thread_part x) ≡ None
    go [] k = k
    go (f ∷ fs) k = cc

-- in a run a processor without innermost frame runs no thread
no_thread : (s : Script) (limit : ℕ) (p : CpuNo) (past : List Event) → IsRun s limit past → innermost (frames_of s p past) ≡ None → running p past ≡ None
no_thread s limit p past r h = go (running p past) refl
  where
    go : (o : Option ThreadNo) → running p past ≡ o → running p past ≡ None
    go None e = e
    go (Some t) e =
        absurd (based_none t (thread_part (frames_of s p past)) (running_has_base s limit p t past r e).2 (no_part (frames_of s p past) h))

-- no thread, an empty part and nothing to be done first together pass the test of a switch
may_where : (o : Option ThreadNo) (a m : Bool) → o ≡ None → a ≡ true → m ≡ false → (is_none o && (a && not m)) ≡ true
may_where None true false f h q = refl
may_where None true true f h q = cc
may_where None false m f h q = cc
may_where (Some t) a m f h q = cc

-- ---- the next event

-- nothing must be done, and there is no frame: the processor is idle
idle_comes : (s : Script) (limit : ℕ) (p : CpuNo) (past : List Event) → IsRun s limit past → must_task (own_of s p past) ≡ None →
    innermost (frames_of s p past) ≡ None → rests (own_of s p past) ≡ false →
    (may_switch (own_of s p past) ≡ true → is_null (ready s p (lanes_at s past)) ≡ true) →
    Comes (option_and_then (task_event s (stand_in p (own_of s p past)) (lanes_at s past)) (idle_task (own_of s p past)))
idle_comes s limit p past r m h n w =
    let x : Own = own_of s p past in
    let l : Lanes = lanes_at s past in
    let st : Stand = stand_in p x in
    let free : running p past ≡ None = no_thread s limit p past r h in
    let quiet : must x ≡ false = ap (λ (o : Option Task). is_some o) m in
    let both : (rested p past && true) ≡ false = rw quiet at n in
    let awake : rested p past ≡ false = sym (and-true (rested p past)) ∙ both in
    let may : may_switch x ≡ true = may_where (running p past) (is_null x.frames.own) (must x) free (no_frame (frames_of s p past) h) quiet in
    let none : is_null (ready s p l) ≡ true = w may in
    rw awake (comes_or (begin_first OrdinaryPart (queue_at l st.cpu)) (when (is_null (ready s p l)) (Some Rest))
    (comes_when (is_null (ready s p l)) (Some Rest) none (_, refl)))

-- the task of a processor, where something must be done, where it has a frame, and where it is idle

-- nothing must be done and the processor waits for no lock: it goes on
pub task_goes_on : (s : Script) (p : CpuNo) (x : Own) → must_task x ≡ None → waits_for_lock x ≡ false → task s p x ≡ go_on_task s p x
task_goes_on s p x m q =
    ap (λ (o : Option Task). option_or o (when (not (waits_for_lock x)) (go_on_task s p x))) m
    ∙ ap (λ (b : Bool). when (not b) (go_on_task s p x)) q

-- where neither of two tests holds, each fails
or_false : (a b : Bool) → (a || b) ≡ false → (a ≡ false) × (b ≡ false)
or_false true b h = cc
or_false false b h = (refl, h)

-- a processor that isn't still and has nothing that it must do doesn't rest, and waits for no lock
pub awake : (x : Own) → is_still x ≡ false → must_task x ≡ None → (rests x ≡ false) × (waits_for_lock x ≡ false)
awake x h m =
    let k = or_false (rests x) (spins_still x) h in
    let quiet : must x ≡ false = ap (λ (o : Option Task). is_some o) m in
    let both : (waits_for_lock x && true) ≡ false = rw quiet at k.1 in
    (k.0, sym (and-true (waits_for_lock x)) ∙ both)

-- in a run a task that must be done first gives the next event
task_must : (s : Script) (limit : ℕ) (p : CpuNo) (past : List Event) (t : Task) → must_task (own_of s p past) ≡ Some t →
    Comes (next_what s p (own_of s p past) (lanes_at s past))
task_must s limit p past t m =
    let x : Own = own_of s p past in
    let l : Lanes = lanes_at s past in
    let st : Stand = stand_in p x in
    let task_is : task s p x ≡ Some t = ap (λ (o : Option Task). option_or o (when (not (waits_for_lock x)) (go_on_task s p x))) m in
    comes_then (task_event s st l) (task s p x) t task_is (holds_at (EventOf s st l) (must_task x) t (must_comes s st l x) m)

-- a frame that may go on gives the next event
task_frame : (s : Script) (p : CpuNo) (past : List Event) (f : Frame) → must_task (own_of s p past) ≡ None → waits_for_lock (own_of s p past) ≡ false →
    innermost (frames_of s p past) ≡ Some f → Comes (next_what s p (own_of s p past) (lanes_at s past))
task_frame s p past f m q h =
    let x : Own = own_of s p past in
    let l : Lanes = lanes_at s past in
    let st : Stand = stand_in p x in
    let t = frame_has s p x f in
    let framed : option_and_then (frame_task s p x) (innermost x.frames) ≡ Some t.0 = ap (λ (o : Option Frame). option_and_then (frame_task s p x) o) h ∙ t.1 in
    let task_is : task s p x ≡ Some t.0 = task_goes_on s p x m q ∙ ap (λ (o : Option Task). option_or o (idle_task x)) framed in
    comes_then (task_event s st l) (task s p x) t.0 task_is
    (holds_at (EventOf s st l) (frame_task s p x f) t.0
    (frame_comes s st l p x f (again_stands p x.frames x.sweep f h) (innermost_stands x.frames f h (all_own p past))) t.1)

-- in a run a processor without frames that doesn't rest and can't switch to a ready thread has a next event
task_idle : (s : Script) (limit : ℕ) (p : CpuNo) (past : List Event) → IsRun s limit past → must_task (own_of s p past) ≡ None →
    waits_for_lock (own_of s p past) ≡ false → innermost (frames_of s p past) ≡ None → rests (own_of s p past) ≡ false → (may_switch (own_of s p past)
    ≡ true → is_null (ready s p (lanes_at s past)) ≡ true) →
    Comes (next_what s p (own_of s p past) (lanes_at s past))
task_idle s limit p past r m q h n w =
    let x : Own = own_of s p past in
    let task_is : task s p x ≡ idle_task x = task_goes_on s p x m q
    ∙ ap (λ (o : Option Frame). option_or (option_and_then (frame_task s p x) o) (idle_task x)) h in
    subst (λ (o : Option Task). Comes (option_and_then (task_event s (stand_in p x) (lanes_at s past)) o)) (sym task_is) (idle_comes s limit p past r m h n w)

-- a processor that isn't still has a next event, or a thread to take up
pub next_comes : (s : Script) (limit : ℕ) (p : CpuNo) (past : List Event) → IsRun s limit past → is_still (own_of s p past) ≡ false →
    (may_switch (own_of s p past) ≡ true → is_null (ready s p (lanes_at s past)) ≡ true) → Comes (next_what s p (own_of s p past) (lanes_at s past))
next_comes s limit p past r n w = go (must_task (own_of s p past)) (innermost (frames_of s p past)) refl refl
  where
    go : (o : Option Task) (f : Option Frame) → must_task (own_of s p past) ≡ o → innermost (frames_of s p past) ≡ f →
        Comes (next_what s p (own_of s p past) (lanes_at s past))
    go (Some t) f m h = task_must s limit p past t m
    go None (Some f) m h = task_frame s p past f m (awake (own_of s p past) n m).1 h
    go None None m h = let a = awake (own_of s p past) n m in task_idle s limit p past r m a.1 h a.0 w

-- ---- a step that is accepted

abbrev Accepts : Script → ℕ → Turn → List Event → Type 0
Accepts s limit t past = (e : Event) × (step s limit t past ≡ Ok e)

-- an uncut processor's turn is accepted where it names an event
accepted : (s : Script) (limit : ℕ) (t : Turn) (past : List Event) (k : ScheduleKind) (o : Option What) → nat_lt (cpu_at t).0 s.cpus ≡ true →
    is_cut limit (own_of s (cpu_at t) past) ≡ false → uncut_step s t (own_of s (cpu_at t) past) (lanes_at s past) past
    ≡ event_or s (cpu_at t) (own_of s (cpu_at t) past) k o → Comes o → Accepts s limit t past
accepted s limit t past k o below uncut u c =
    (event_at s (cpu_at t) c.0 (frames_of s (cpu_at t) past), rw (below, uncut) (u ∙ ap (event_or s (cpu_at t) (own_of s (cpu_at t) past) k) c.1))

-- ---- ready threads

-- where there is none, no thread is ready
pub none_ready : (s : Script) (p : CpuNo) (last : Option ThreadNo) (l : Lanes) → next_ready s p last l ≡ None → is_null (ready s p l) ≡ true
none_ready s p last l h = go (ready s p l) h
  where
    go : (ts : List ThreadNo) → option_or (find (is_after last) ts) (head_of ts) ≡ None → is_null ts ≡ true
    go [] e = refl
    go (t ∷ ts) e = absurd (some (find (is_after last) (t ∷ ts)) e)
      where
        some : (o : Option ThreadNo) → option_or o (Some t) ≡ None → ⊥
        some None e = cc
        some (Some u) e = cc

-- ---- looks

-- a disjunction is true if its second part is true
pub or_yes : (a b : Bool) → b ≡ true → (a || b) ≡ true
or_yes true b h = refl
or_yes false b h = h

-- the greatest asked value is 0 or was asked
pub asked_was : (s : Script) (p : CpuNo) (c : ℕ) (past : List Event) → (asked s p c past ≡ 0) ⊎ (was_asked s p c (asked s p c past) past ≡ true)
asked_was s p c [] = inl refl
asked_was s p c (e ∷ past) = go (asks s p c e past) refl (asked_was s p c past)
  where
    go : (b : Bool) → asks s p c e past ≡ b → (asked s p c past ≡ 0) ⊎ (was_asked s p c (asked s p c past) past ≡ true) → (asked s p c (e ∷ past) ≡ 0) ⊎
        (was_asked s p c (asked s p c (e ∷ past)) (e ∷ past) ≡ true)
    go true k h =
        let a : asked s p c (e ∷ past) ≡ length past + 1 = rw k in
        inr (subst (λ (v : ℕ). was_asked s p c v (e ∷ past) ≡ true) (sym a) (rw (k, eq-eqb (length past + 1) (length past + 1) refl) refl))
    go false k (inl z) = inl (rw k z)
    go false k (inr w) =
        let a : asked s p c (e ∷ past) ≡ asked s p c past = rw k in inr (subst (λ (v : ℕ). was_asked s p c v (e ∷ past) ≡ true) (sym a) (or_yes _ _ w))

-- the value of a look in a class is none or above what was seen, and was asked for
value_good : (s : Script) (p : CpuNo) (c : ℕ) (x : Own) (past : List Event) (b : Bool) → nat_lt (value_at x.seen c) (asked s p c past) ≡ b →
    (((if b then asked s p c past else 0) == 0) || (nat_lt (value_at x.seen c) (if b then asked s p c past else 0)
    && was_asked s p c (if b then asked s p c past else 0) past)) ≡ true
value_good s p c x past false k = refl
value_good s p c x past true k = go (asked_was s p c past)
  where
    go : (asked s p c past ≡ 0) ⊎ (was_asked s p c (asked s p c past) past ≡ true) →
        ((asked s p c past == 0) || (nat_lt (value_at x.seen c) (asked s p c past) && was_asked s p c (asked s p c past) past)) ≡ true
    go (inl z) = rw (eq-eqb (asked s p c past) 0 z) refl
    go (inr w) = rw (k, w) (or_yes _ _ refl)

-- the values of a look in the classes rise only to what was asked for
looks_good : (s : Script) (p : CpuNo) (x : Own) (past : List Event) (n c : ℕ) → good_rises s p c (table_from c n (look_value x (λ k. asked s p k past))) x past
    ≡ true
unfolding table_from
looks_good s p x past zero c = refl
looks_good s p x past (suc n) c =
    let v = value_good s p c x past (nat_lt (value_at x.seen c) (asked s p c past)) refl in
    rw v (looks_good s p x past n (suc c))

-- where p is behind, the look of the robin rule is a good one
pub behind_looks : (s : Script) (p : CpuNo) (x : Own) (past : List Event) → is_behind x (λ c. asked s p c past) ≡ true →
    is_good_look s p (look_values x (λ c. asked s p c past)) x past ≡ true
behind_looks s p x past h = rw (h, looks_good s p x past 16 0)

-- ---- the turn of a processor

-- the turn of an uncut processor to make its next event is accepted if there is one
next_accepted : (s : Script) (limit : ℕ) (p : CpuNo) (past : List Event) → nat_lt p.0 s.cpus ≡ true → is_cut limit (own_of s p past) ≡ false →
    Comes (next_what s p (own_of s p past) (lanes_at s past)) → Accepts s limit (Next p) past
next_accepted s limit p past below uncut c =
    accepted s limit (Next p) past NothingToDo (next_what s p (own_of s p past) (lanes_at s past)) below uncut refl c

-- the turn of an uncut processor to switch is accepted where it may switch and take the thread
switch_accepted : (s : Script) (limit : ℕ) (p : CpuNo) (t : ThreadNo) (past : List Event) → nat_lt p.0 s.cpus ≡ true → is_cut limit (own_of s p past) ≡ false →
    may_switch (own_of s p past) ≡ true → may_take s p t (lanes_at s past) ≡ true → Accepts s limit (SwitchTurn p t) past
switch_accepted s limit p t past below uncut may take =
    let x : Own = own_of s p past in
    let l : Lanes = lanes_at s past in
    accepted s limit (SwitchTurn p t) past BadChoice (when (may_switch x) (when (may_take s p t l) (Some (switch_event t l)))) below uncut refl
    (comes_when (may_switch x) _ may (comes_when (may_take s p t l) _ take (_, refl)))

-- the turn of an uncut processor to look is accepted if the look is good
look_accepted : (s : Script) (limit : ℕ) (p : CpuNo) (r : Rises) (past : List Event) → nat_lt p.0 s.cpus ≡ true → is_cut limit (own_of s p past) ≡ false →
    is_good_look s p r.value (own_of s p past) past ≡ true → Accepts s limit (LookTurn p r) past
look_accepted s limit p r past below uncut good =
    accepted s limit (LookTurn p r) past BadLook (when (is_good_look s p r.value (own_of s p past) past) (Some (Look r))) below uncut refl
    (comes_when (is_good_look s p r.value (own_of s p past) past) _ good (_, refl))

-- in a run the go-on turn of an uncut processor that isn't still is accepted
go_on_accepted : (s : Script) (limit : ℕ) (p : CpuNo) (past : List Event) → IsRun s limit past → nat_lt p.0 s.cpus ≡ true → is_cut limit (own_of s p past)
    ≡ false → is_still (own_of s p past) ≡ false → Accepts s limit (go_on_turn s p (own_of s p past) (lanes_at s past)) past
go_on_accepted s limit p past r below uncut awake = go (may_switch (own_of s p past)) refl
  where
    choice : (o : Option ThreadNo) → next_ready s p (took p past) (lanes_at s past) ≡ o → may_switch (own_of s p past) ≡ true →
        Accepts s limit (switch_or_next p o) past
    choice None e may =
        next_accepted s limit p past below uncut (next_comes s limit p past r awake (λ m. none_ready s p (took p past) (lanes_at s past) e))
    choice (Some t) e may =
        switch_accepted s limit p t past below uncut may
        (holds_at (λ t. may_take s p t (lanes_at s past) ≡ true) (next_ready s p (took p past) (lanes_at s past)) t
        (next_ready_taken s p (took p past) (lanes_at s past)) e)

    go : (b : Bool) → may_switch (own_of s p past) ≡ b →
        Accepts s limit (if b then switch_or_next p (next_ready s p (took p past) (lanes_at s past)) else Next p) past
    go true m = choice (next_ready s p (took p past) (lanes_at s past)) refl m
    go false m = next_accepted s limit p past below uncut (next_comes s limit p past r awake (λ k. no m k))
      where
        no : {A : Type 0} → may_switch (own_of s p past) ≡ false → may_switch (own_of s p past) ≡ true → A
        no a b = cc

-- the robin rule's turn of an uncut processor is accepted in a run
pub robin_at_accepted : (s : Script) (limit : ℕ) (p : CpuNo) (past : List Event) → IsRun s limit past → nat_lt p.0 s.cpus ≡ true →
    is_cut limit (own_of s p past) ≡ false → Holds (λ t. Accepts s limit t past) (robin_at s p (own_of s p past) (lanes_at s past) (λ c. asked s p c past))
robin_at_accepted s limit p past r below uncut =
    looks (is_behind (own_of s p past) (λ c. asked s p c past)) refl
  where
    goes : (b : Bool) → is_still (own_of s p past) ≡ b → Holds (λ t. Accepts s limit t past)
        (if b then None else Some (go_on_turn s p (own_of s p past) (lanes_at s past)))
    goes true e = tt
    goes false e = go_on_accepted s limit p past r below uncut e

    looks : (b : Bool) → is_behind (own_of s p past) (λ c. asked s p c past) ≡ b →
        Holds (λ t. Accepts s limit t past) (if b then Some (LookTurn p (record { value = look_values (own_of s p past) (λ c. asked s p c past) }))
        else (if is_still (own_of s p past) then None else Some (go_on_turn s p (own_of s p past) (lanes_at s past))))
    looks true e =
        look_accepted s limit p (record { value = look_values (own_of s p past) (λ c. asked s p c past) }) past below uncut
        (behind_looks s p (own_of s p past) past e)
    looks false e = goes (is_still (own_of s p past)) refl

-- ---- the cycle

-- in a run the turn that the robin rule gives a processor is accepted
robin_of_accepted : (s : Script) (limit : ℕ) (p : ℕ) (past : List Event) → IsRun s limit past → p < s.cpus →
    Holds (λ t. Accepts s limit t past) (robin_of s limit (cpu p) past)
robin_of_accepted s limit p past r below =
    holds_when (λ t. Accepts s limit t past) (not (is_cut limit (own_of s (cpu p) past))) _
    (λ h. robin_at_accepted s limit (cpu p) past r (lt-ltb p s.cpus below) (not_true (is_cut limit (own_of s (cpu p) past)) h))

-- the one after p in the cycle
pub cycle_below : (s : Script) (p : ℕ) → p < s.cpus → (if suc p == s.cpus then 0 else suc p) < s.cpus
cycle_below s p h = go (suc p == s.cpus) refl
  where
    go : (b : Bool) → (suc p == s.cpus) ≡ b → (if b then 0 else suc p) < s.cpus
    go true e = omega arith
    go false e =
        let n : suc p ≡ s.cpus → ⊥ = λ k. let t : (suc p == s.cpus) ≡ true = eq-eqb (suc p) s.cpus k in cc in
        omega (arith, n)

-- in a run the first turn found in a cycle of processors is accepted
robin_from_accepted : (s : Script) (limit : ℕ) (n p : ℕ) (past : List Event) → IsRun s limit past → p < s.cpus →
    Holds (λ t. Accepts s limit t past) (robin_from s limit n p past)
robin_from_accepted s limit zero p past r below = tt
robin_from_accepted s limit (suc n) p past r below =
    holds_or (λ t. Accepts s limit t past) (robin_of s limit (cpu p) past) _ (robin_of_accepted s limit p past r below)
    (λ e. robin_from_accepted s limit n (if suc p == s.cpus then 0 else suc p) past r (cycle_below s p below))

-- in a run the processor of each event is one of the script's
pub cpu_below : (s : Script) (limit : ℕ) (e : Event) (past : List Event) → IsLegal s limit e past → e.cpu.0 < s.cpus
cpu_below s limit e past h =
    let k = (step_uncut s limit (turn_of e) past e h).0 in
    let t : nat_lt (cpu_at (turn_of e)).0 s.cpus ≡ true = not_false (nat_lt (cpu_at (turn_of e)).0 s.cpus) k in
    let b : (cpu_at (turn_of e)).0 < s.cpus = ltb-true (cpu_at (turn_of e)).0 s.cpus t in
    subst (λ (q : CpuNo). q.0 < s.cpus) (cpu_at-turn_at e.cpu e.what) b

-- in a run the robin turn is accepted if there is at least one processor
robin_nonempty : (s : Script) (limit : ℕ) (past : List Event) → IsRun s limit past → 0 < s.cpus → Holds (λ t. Accepts s limit t past) (robin s limit past)
robin_nonempty s limit [] r some = robin_from_accepted s limit s.cpus 0 [] r some
robin_nonempty s limit (e ∷ past) r some =
    robin_from_accepted s limit s.cpus (first_cpu s (e ∷ past)) (e ∷ past) r (cycle_below s e.cpu.0 (cpu_below s limit e past r.0))

-- a cycle over no processor gives no turn that could be refused
robin_of_none : (s : Script) (limit : ℕ) (n p : ℕ) (past : List Event) → n ≡ 0 → Holds (λ t. Accepts s limit t past) (robin_from s limit n p past)
robin_of_none s limit zero p past h = tt
robin_of_none s limit (suc n) p past h = absurd (omega (arith, h))

-- the turn of the robin rule is accepted in a run
pub robin_accepted : (s : Script) (limit : ℕ) (past : List Event) (t : Turn) → IsRun s limit past → robin s limit past ≡ Some t → Accepts s limit t past
robin_accepted s limit past t r h = holds_at (λ t. Accepts s limit t past) (robin s limit past) t (go (nat_lt 0 s.cpus) refl) h
  where
    go : (b : Bool) → nat_lt 0 s.cpus ≡ b → Holds (λ t. Accepts s limit t past) (robin s limit past)
    go true e = robin_nonempty s limit past r (ltb-true 0 s.cpus e)
    go false e = robin_of_none s limit s.cpus (first_cpu s past) past (let k : s.cpus ≤ 0 = ltb-false 0 s.cpus e in omega arith)
