-- What a processor that picks its threads itself does.
use Rattle.std.proofs.Common.{ap, sym, ◌∙◌}
use Rattle.std.proofs.Math.Bool.{and-true}
use Rattle.std.specs.Option.{option_map_or, option_or}
use Rattle.std.specs.Prelude.{Bool, List, None, Ok, Option, Some, [], false, if◌then◌else◌, is_none, is_some, nat_lt, not, option_and_then, option_map, refl}
use Rattle.std.specs.Prelude.{true, ℕ, ◌&&◌, ◌∷◌, ◌≡◌}
use Rattle.nt_event.specs.declared.events.Event.{Event}
use Rattle.nt_event.specs.declared.events.ScheduleKind.{ScheduleKind}
use Rattle.nt_event.specs.declared.events.ScheduleKind.TheVariants.{BadChoice, NothingToDo}
use Rattle.nt_event.specs.declared.events.Turn.{Turn}
use Rattle.nt_event.specs.declared.events.Turn.TheVariants.{Next, Switch as SwitchTurn}
use Rattle.nt_event.specs.declared.events.What.{What}
use Rattle.nt_event.specs.declared.events.What.TheVariants.{Rest}
use Rattle.nt_event.specs.Frame.{Frame}
use Rattle.nt_event.specs.declared.inserts.Part.TheVariants.{Ordinary as OrdinaryPart}
use Rattle.nt_event.specs.declared.jobs.Job.TheVariants.{Idle as IdleJob, Pick as PickJob}
use Rattle.nt_event.specs.declared.jobs.Task.{Task}
use Rattle.nt_event.specs.declared.jobs.Task.TheVariants.{Shared}
use Rattle.nt_event.specs.declared.numbers.CpuNo.{CpuNo}
use Rattle.nt_event.specs.declared.numbers.ThreadNo.{ThreadNo}
use Rattle.nt_event.specs.declared.scripts.Script.{Script}
use Rattle.nt_event.specs.Frames.{frames_in, frames_of, innermost, running, thread_part}
use Rattle.nt_event.specs.Jobs.{begin_first, chosen_what, frame_task, idle_event, idle_task, is_still, may_switch, may_take, must, must_task, next_ready}
use Rattle.nt_event.specs.Jobs.{next_what, ready, switch_event, task, task_event}
use Rattle.nt_event.specs.Lanes.{Lanes, lanes_at, queue_at}
use Rattle.nt_event.specs.Own.{Own, own_of, rested, stand_in, took}
use Rattle.nt_event.specs.Robin.{go_on_turn, switch_or_next}
use Rattle.nt_event.specs.Step.{IsRun, cpu_at, event_at, event_or, is_cut, step, uncut_step}
use Rattle.nt_event.specs.Lists.{head_of, is_null, when}
use Rattle.nt_event.proofs.Options.{holds_at}
use Rattle.nt_runs.proofs.Robin.{Comes, awake as is_awake, comes_or, comes_when, next_comes, none_ready, task_goes_on}
use Rattle.nt_event.proofs.Ready.{next_ready_taken}

-- an uncut processor's turn gives the event that it names
gives : (s : Script) (limit : ℕ) (t : Turn) (past : List Event) (k : ScheduleKind) (o : Option What) (w : What) → nat_lt (cpu_at t).0 s.cpus ≡ true →
    is_cut limit (own_of s (cpu_at t) past) ≡ false → uncut_step s t (own_of s (cpu_at t) past) (lanes_at s past) past
    ≡ event_or s (cpu_at t) (own_of s (cpu_at t) past) k o → o ≡ Some w → step s limit t past ≡ Ok (event_at s (cpu_at t) w (frames_of s (cpu_at t) past))
gives s limit t past k o w below uncut u c =
    rw (below, uncut) (u ∙ ap (event_or s (cpu_at t) (own_of s (cpu_at t) past) k) c)

-- a task that fails the test of presence is none
none_of_false : (o : Option Task) → is_some o ≡ false → o ≡ None
none_of_false None h = refl
none_of_false (Some t) h = cc

-- where a processor may switch, no thread runs, its own part is empty and it has nothing that it must do first
pub switch_parts : (o : Option ThreadNo) (a m : Bool) → (is_none o && (a && not m)) ≡ true → (o ≡ None) × (a ≡ true) × (m ≡ false)
switch_parts None true false h = (refl, refl, refl)
switch_parts None true true h = cc
switch_parts None false m h = cc
switch_parts (Some t) a m h = cc

-- a list of frames that is empty has no head
pub null_head : (fs : List Frame) → is_null fs ≡ true → head_of fs ≡ None
null_head [] h = refl
null_head (f ∷ fs) h = cc

-- where a thread may be taken up, and the processor doesn't rest, it is idle
idle_where : (s : Script) (p : CpuNo) (past : List Event) → may_switch (own_of s p past) ≡ true → is_still (own_of s p past) ≡ false →
    task s p (own_of s p past)
    ≡ Some (Shared IdleJob)
idle_where s p past may awake =
    let x : Own = own_of s p past in
    let k = switch_parts (running p past) (is_null x.frames.own) (must x) may in
    let quiet : must_task x ≡ None = none_of_false (must_task x) k.2 in
    let up = is_awake x awake quiet in
    let both : (rested p past && true) ≡ false = rw k.2 at up.0 in
    let moved : rested p past ≡ false = sym (and-true (rested p past)) ∙ both in
    let part : thread_part x.frames ≡ [] = ap (λ (o : Option ThreadNo). option_map_or (frames_in x.frames.threads) o []) k.0 in
    let none : innermost x.frames ≡ None = ap (λ (o : Option Frame). option_or o (head_of (thread_part x.frames))) (null_head x.frames.own k.1)
    ∙ ap (λ (fs : List Frame). head_of fs) part in
    let idle : idle_task x ≡ Some (Shared IdleJob) = ap (λ (b : Bool). when (not (b && is_none x.frames.running)) (Some (Shared IdleJob))) moved in
    task_goes_on s p x quiet up.1
    ∙ (ap (λ (o : Option Frame). option_or (option_and_then (frame_task s p x) o) (idle_task x)) none ∙ idle)

-- what an uncut processor chooses itself is the event of its go-on turn in the robin rule
pub chosen_is_its_turn : (s : Script) (limit : ℕ) (p : CpuNo) (past : List Event) (w : What) → IsRun s limit past → nat_lt p.0 s.cpus ≡ true →
    is_cut limit (own_of s p past) ≡ false → chosen_what s p (own_of s p past) (lanes_at s past) ≡ Some w →
    step s limit (go_on_turn s p (own_of s p past) (lanes_at s past)) past ≡ Ok (event_at s p w (frames_of s p past))
chosen_is_its_turn s limit p past w r below uncut h =
    rest (is_still (own_of s p past)) (may_switch (own_of s p past)) refl refl h
  where
    x : Own
    x = own_of s p past

    l : Lanes
    l = lanes_at s past

    turn : Bool → Turn
    turn b = if b then switch_or_next p (next_ready s p (took p past) (lanes_at s past)) else Next p

    picked : (o : Option ThreadNo) → next_ready s p (took p past) (lanes_at s past) ≡ o → may_switch (own_of s p past) ≡ true → is_still (own_of s p past)
        ≡ false → option_or (option_map (λ t. switch_event t (lanes_at s past)) o) (idle_event s (stand_in p (own_of s p past)) (lanes_at s past)) ≡ Some w →
        step s limit (switch_or_next p o) past ≡ Ok (event_at s p w (frames_of s p past))
    picked (Some t) e may awake k =
        let take : may_take s p t (lanes_at s past) ≡ true = holds_at (λ t. may_take s p t (lanes_at s past) ≡ true)
        (next_ready s p (took p past) (lanes_at s past)) t (next_ready_taken s p (took p past) (lanes_at s past)) e in
        gives s limit (SwitchTurn p t) past BadChoice (when (may_switch (own_of s p past))
        (when (may_take s p t (lanes_at s past)) (Some (switch_event t (lanes_at s past))))) w below uncut refl (rw (may, take) k)
    picked None e may awake k =
        let idle : task s p (own_of s p past) ≡ Some (Shared IdleJob) = idle_where s p past may awake in
        gives s limit (Next p) past NothingToDo (next_what s p (own_of s p past) (lanes_at s past)) w below uncut refl
        (ap (λ (o : Option Task). option_and_then (task_event s (stand_in p (own_of s p past)) (lanes_at s past)) o) idle ∙ k)

    rest : (b m : Bool) → is_still (own_of s p past) ≡ b → may_switch (own_of s p past) ≡ m →
        option_and_then (task_event s (stand_in p (own_of s p past)) (lanes_at s past))
        (if b then None else (if m then Some (Shared (PickJob (took p past))) else task s p (own_of s p past))) ≡ Some w →
        step s limit (if m then switch_or_next p (next_ready s p (took p past) (lanes_at s past)) else Next p) past ≡ Ok (event_at s p w (frames_of s p past))
    rest true m a b k = cc
    rest false true a b k = picked (next_ready s p (took p past) (lanes_at s past)) refl b a k
    rest false false a b k =
        gives s limit (Next p) past NothingToDo (next_what s p (own_of s p past) (lanes_at s past)) w below uncut refl k

-- an answer that comes passes the test of presence
some_of : {A : Type 0} (o : Option A) → Comes o → is_some o ≡ true
some_of o h = rw h.1 refl

-- a processor has an event to choose exactly where it isn't still
pub chosen_comes : (s : Script) (limit : ℕ) (p : CpuNo) (past : List Event) → IsRun s limit past →
    is_some (chosen_what s p (own_of s p past) (lanes_at s past)) ≡ not (is_still (own_of s p past))
chosen_comes s limit p past r = go (is_still (own_of s p past)) (may_switch (own_of s p past)) refl refl
  where
    picked : (o : Option ThreadNo) → next_ready s p (took p past) (lanes_at s past) ≡ o → may_switch (own_of s p past) ≡ true → is_still (own_of s p past)
        ≡ false → is_some (option_or (option_map (λ t. switch_event t (lanes_at s past)) o) (idle_event s (stand_in p (own_of s p past)) (lanes_at s past)))
        ≡ true
    picked (Some t) e may awake = refl
    picked None e may awake =
        let none : is_null (ready s p (lanes_at s past)) ≡ true = none_ready s p (took p past) (lanes_at s past) e in
        some_of (idle_event s (stand_in p (own_of s p past)) (lanes_at s past))
        (comes_or (begin_first OrdinaryPart (queue_at (lanes_at s past) p)) (when (is_null (ready s p (lanes_at s past))) (Some Rest))
        (comes_when (is_null (ready s p (lanes_at s past))) (Some Rest) none (_, refl)))

    go : (b m : Bool) → is_still (own_of s p past) ≡ b → may_switch (own_of s p past) ≡ m →
        is_some (option_and_then (task_event s (stand_in p (own_of s p past)) (lanes_at s past))
        (if b then None else (if m then Some (Shared (PickJob (took p past))) else task s p (own_of s p past)))) ≡ not b
    go true m a b = refl
    go false true a b = picked (next_ready s p (took p past) (lanes_at s past)) refl b a
    go false false a b =
        some_of (next_what s p (own_of s p past) (lanes_at s past)) (next_comes s limit p past r a (λ m. no b m))
      where
        no : {A : Type 0} → may_switch (own_of s p past) ≡ false → may_switch (own_of s p past) ≡ true → A
        no u v = cc
