-- What a processor has to do next, but for numbers, is told by its bare frames and by which classes are due.
use Rattle.std.proofs.Common.{ap, arith, sym, ◌∙◌}
use Rattle.std.proofs.lemmas.Bool.{ltb-true}
use Rattle.std.specs.List.{list_all}
use Rattle.std.specs.Option.{option_map_or, option_or}
use Rattle.std.specs.Prelude.{Bool, List, None, Option, Some, [], false, find, if◌then◌else◌, is_some, nat_lt, not, option_and_then, option_map, refl, true, ℕ}
use Rattle.std.specs.Prelude.{◌&&◌, ◌-◌, ◌<◌, ◌∷◌, ◌≡◌, ◌||◌}
use Rattle.nt_event.specs.declared.commands.ApcKind.TheVariants.{User as UserApc}
use Rattle.nt_event.specs.declared.commands.Command.{Command}
use Rattle.nt_event.specs.declared.commands.Command.TheVariants.{ToUser}
use Rattle.nt_event.specs.declared.commands.Refusal.{Refusal}
use Rattle.nt_event.specs.declared.commands.Regions.{Regions}
use Rattle.nt_event.specs.declared.commands.Reply.TheVariants.{Done}
use Rattle.nt_event.specs.declared.events.Begun.TheVariants.{Int}
use Rattle.nt_event.specs.declared.events.What.{What}
use Rattle.nt_event.specs.declared.events.What.TheVariants.{Begin, Call, Normal}
use Rattle.nt_event.specs.declared.frames.Body.{Body}
use Rattle.nt_event.specs.declared.frames.Body.TheVariants.{Apc as OnApc, Base as OnBase}
use Rattle.nt_event.specs.Frame.{Frame}
use Rattle.nt_event.specs.declared.jobs.Job.{Job}
use Rattle.nt_event.specs.declared.jobs.Job.TheVariants.{Apcs as ApcsJob, Call as CallJob, Drain as DrainJob, Threaded as ThreadedJob}
use Rattle.nt_event.specs.declared.jobs.Stand.{Stand}
use Rattle.nt_event.specs.declared.jobs.Task.{Task}
use Rattle.nt_event.specs.declared.jobs.Task.TheVariants.{Alone, Shared}
use Rattle.nt_event.specs.declared.numbers.CpuNo.{CpuNo}
use Rattle.nt_event.specs.declared.scripts.Script.{Script}
use Rattle.nt_event.specs.Classes.{interrupt_classes}
use Rattle.nt_event.specs.Commands.{needs_lane, refusal}
use Rattle.nt_event.specs.Frames.{Frames, innermost, is_on_thread, thread_part}
use Rattle.nt_event.specs.Jobs.{call_task, command_task, end_task, fire_task, frame_task, free_task, go_on_task, has_normal, idle_task, interrupt_task, is_due}
use Rattle.nt_event.specs.Jobs.{is_still, job_event, level_at, may_apcs, may_drain, may_interrupt, may_switch, may_threaded, must, must_task, next_what}
use Rattle.nt_event.specs.Jobs.{normal_task, rests, rewait_task, rundown_task, spins_still, task, task_event, waits_for_lock}
use Rattle.nt_event.specs.Lanes.{Lanes}
use Rattle.nt_event.specs.Lists.{is_null, value_at, when}
use Rattle.nt_event.specs.Own.{Own, stand_in}
use Rattle.nt_event.specs.Regions.{regions_of}
use Rattle.nt_event.specs.Routines.{next_command}
use Rattle.nt_event.proofs.Options.{both}
use Rattle.nt_event.proofs.Tables.{get_or-table}
use Rattle.nt_alike.specs.Bare.{bare_frame, bare_frames, bare_but_timers, bare_own, bare_stand, bare_what}
use Rattle.nt_alike.proofs.Frames.{innermost_bare, level_bare, null_map, part_bare, regions_bare, stand_bare}
use Rattle.nt_alike.proofs.Jobs.{job_bare}
use Rattle.nt_alike.proofs.Mapped.{map_or}

abbrev bare_task : Task → Task
bare_task (Alone w) = Alone (bare_what w)
bare_task (Shared j) = Shared j

-- ---- which classes are due

-- one is above zero just where the condition holds that makes it one rather than zero
one_due : (b : Bool) → nat_lt 0 (if b then 1 else 0) ≡ b
one_due true = refl
one_due false = refl

-- whether one of the 16 classes is due does not depend on numbers
pub due_bare : (x : Own) (c : ℕ) → c < 16 → is_due (bare_own x) c ≡ is_due x c
due_bare x c h =
    let a = get_or-table {A = ℕ} 16 c (λ c. if is_due x c then 1 else 0) 0 h in
    let b = get_or-table {A = ℕ} 16 c (λ c. 0) 0 h in
    rw (a, b) (one_due (is_due x c))

-- the level at which a processor stands does not depend on numbers
level_same : (x : Own) → level_at (bare_own x) ≡ level_at x
level_same x = level_bare x.frames

-- whether an interrupt of a class may begin does not depend on numbers, for the first sixteen classes
interrupt_bare : (x : Own) (c : ℕ) → c < 16 → may_interrupt (bare_own x) c ≡ may_interrupt x c
interrupt_bare x c h = rw (level_same x, due_bare x c h) refl

-- that each number of a list is below sixteen
AllSmall : List ℕ → Type 0
AllSmall [] = Unit {0}
AllSmall (c ∷ cs) = (c < 16) × AllSmall cs

-- the first class of a list that may interrupt is the same without numbers, if all are small
found_bare : (x : Own) (cs : List ℕ) → AllSmall cs → find (may_interrupt (bare_own x)) cs ≡ find (may_interrupt x) cs
unfolding AllSmall
found_bare x [] h = refl
found_bare x (c ∷ cs) h = rw (interrupt_bare x c h.0, found_bare x cs h.1) refl

-- by computing
all_small : (cs : List ℕ) → list_all (λ c. nat_lt c 16) cs ≡ true → AllSmall cs
unfolding AllSmall
all_small [] h = tt
all_small (c ∷ cs) h = let k = both (nat_lt c 16) (list_all (λ c. nat_lt c 16) cs) h in (ltb-true c 16 k.0, all_small cs k.1)

-- each interrupt class is below sixteen
small_classes : AllSmall interrupt_classes
small_classes = all_small interrupt_classes refl

-- the begin of an optional interrupt class is, but for its number, the same without numbers
begun_or : (x : Own) (o : Option ℕ) →
    option_map bare_task (option_map (λ c. Alone (Begin (Int c) (value_at x.seen c - 1))) o)
    ≡ option_map bare_task (option_map (λ c. Alone (Begin (Int c) (value_at (bare_own x).seen c - 1))) o)
begun_or x None = refl
begun_or x (Some c) = refl

-- ---- what must be done

-- the first of two optional tasks is, but for numbers, that of two others if each is like its other
or_task : (a b c d : Option Task) → option_map bare_task a ≡ option_map bare_task c → option_map bare_task b ≡ option_map bare_task d →
    option_map bare_task (option_or a b) ≡ option_map bare_task (option_or c d)
or_task a b c d h k =
    sym (map_or bare_task a b) ∙ ap (λ (o : Option Task). option_or o (option_map bare_task b)) h
    ∙ ap (λ (o : Option Task). option_or (option_map bare_task c) o) k ∙ map_or bare_task c d

-- an optional task kept under a test is, but for numbers, the same under an equal test
when_task : (a b : Bool) (o : Option Task) → a ≡ b → option_map bare_task (when a o) ≡ option_map bare_task (when b o)
when_task a b o h = ap (λ (c : Bool). option_map bare_task (when c o)) h

-- whether a processor may drain its DPC queue does not depend on numbers
drain_same : (x : Own) → may_drain x ≡ may_drain (bare_own x)
drain_same x = let d = due_bare x 2 (omega arith) in rw (level_same x, d) refl

-- whether a processor stands on a thread does not depend on the names of its frames
on_thread_bare : (x : Frames) → is_on_thread (bare_frames x) ≡ is_on_thread x
on_thread_bare x = rw (null_map x.own, part_bare x, null_map (thread_part x)) refl

-- whether a processor may deliver APCs does not depend on numbers
apcs_same : (x : Own) → may_apcs x ≡ may_apcs (bare_own x)
apcs_same x = let d = due_bare x 1 (omega arith) in rw (level_same x, d, on_thread_bare x.frames) refl

-- whether a processor may run threaded DPCs does not depend on numbers
threaded_same : (x : Own) → may_threaded x ≡ may_threaded (bare_own x)
threaded_same x = let d = due_bare x 0 (omega arith) in rw (level_same x, d, null_map x.frames.own) refl

-- the task of beginning an interrupt does not depend on numbers, but for its own
interrupts_bare : (x : Own) → option_map bare_task (interrupt_task x) ≡ option_map bare_task (interrupt_task (bare_own x))
interrupts_bare x =
    begun_or x (find (may_interrupt x) interrupt_classes)
    ∙ ap (λ (o : Option ℕ). option_map bare_task (option_map (λ c. Alone (Begin (Int c) (value_at (bare_own x).seen c - 1))) o))
    (sym (found_bare x interrupt_classes small_classes))

-- the task that a processor must do does not depend on numbers, but for its own
must_bare : (x : Own) → option_map bare_task (must_task x) ≡ option_map bare_task (must_task (bare_own x))
must_bare x =
    or_task (fire_task x) _ (fire_task (bare_own x)) _ refl
    (or_task (interrupt_task x) _ (interrupt_task (bare_own x)) _ (interrupts_bare x)
    (or_task (when (may_drain x) (Some (Shared DrainJob))) _ (when (may_drain (bare_own x)) (Some (Shared DrainJob))) _ (when_task _ _ _ (drain_same x))
    (or_task (when (may_apcs x) (Some (Shared ApcsJob))) _ (when (may_apcs (bare_own x)) (Some (Shared ApcsJob))) _ (when_task _ _ _ (apcs_same x))
    (when_task _ _ (Some (Shared ThreadedJob)) (threaded_same x)))))

-- of two optional tasks that are the same but for numbers, both are there or neither
is_some_task : (a b : Option Task) → option_map bare_task a ≡ option_map bare_task b → is_some a ≡ is_some b
is_some_task None None h = refl
is_some_task (Some x) (Some y) h = refl
is_some_task None (Some y) h = cc
is_some_task (Some x) None h = cc

-- whether a processor must do a task does not depend on numbers
is_must_bare : (x : Own) → must x ≡ must (bare_own x)
is_must_bare x = is_some_task (must_task x) (must_task (bare_own x)) (must_bare x)

-- whether a processor may switch depends on no number that it keeps
pub may_switch_bare : (x : Own) → may_switch x ≡ may_switch (bare_own x)
may_switch_bare x = rw (is_must_bare x, null_map x.frames.own) refl

-- whether a processor rests depends on no number that it keeps
pub rests_bare : (x : Own) → rests x ≡ rests (bare_own x)
rests_bare x = rw (is_must_bare x) refl

-- ---- it waits for a lock

-- whether an optional frame spins does not depend on its name
spins_or : (o : Option Frame) → option_map_or (λ (f : Frame). is_some f.spin) (option_map bare_frame o) false
    ≡ option_map_or (λ (f : Frame). is_some f.spin) o false
spins_or None = refl
spins_or (Some f) = refl

-- whether a processor waits for a lock does not depend on numbers
waits_bare : (x : Own) → waits_for_lock x ≡ waits_for_lock (bare_own x)
waits_bare x =
    let d = due_bare x 12 (omega arith) in
    let i : option_map_or (λ (f : Frame). is_some f.spin) (innermost (bare_own x).frames) false
    ≡ option_map_or (λ (f : Frame). is_some f.spin) (innermost x.frames) false =
    ap (λ (o : Option Frame). option_map_or (λ (f : Frame). is_some f.spin) o false) (innermost_bare x.frames) ∙ spins_or (innermost x.frames) in
    rw (i, d) refl

-- whether a processor still spins on a lock depends on no number that it keeps
pub spins_bare : (x : Own) → spins_still x ≡ spins_still (bare_own x)
spins_bare x = rw (waits_bare x, is_must_bare x) refl

-- whether a processor has nothing to do depends on no number that it keeps
pub still_bare : (x : Own) → is_still x ≡ is_still (bare_own x)
still_bare x = ap (λ (b : Bool). b || spins_still x) (rests_bare x) ∙ ap (λ (b : Bool). rests (bare_own x) || b) (spins_bare x)

-- ---- the innermost frame goes on

-- the task of ending a body does not depend on the name of its frame, but for that name
end_bare : (n : ℕ) (b : Body) → bare_task (end_task n b) ≡ bare_task (end_task 0 b)
end_bare n (OnBase t) = refl
end_bare n (OnApc a UserApc) = refl
end_bare n b = refl

-- the task of a call does not depend on the name of its frame, but for that name
call_bare : (f : Frame) (c : Command) (r : Option Refusal) → bare_task (call_task f c r) ≡ bare_task (call_task (bare_frame f) c r)
call_bare f c (Some r) = refl
call_bare f ToUser None = refl
call_bare f c None = go (needs_lane c)
  where
    go : (b : Bool) → bare_task (if b then Shared (CallJob c) else Alone (Call f.name c Done))
        ≡ bare_task (if b then Shared (CallJob c) else Alone (Call 0 c Done))
    go true = refl
    go false = refl

-- whether a command is refused does not depend on the name of its frame
refusal_bare : (level : ℕ) (own : Bool) (r : Regions) (f : Frame) (c : Command) → refusal level own r (bare_frame f) c ≡ refusal level own r f c
refusal_bare level own r f c = refl

-- the task of an optional command does not depend on numbers, but for its own
command_bare : (x : Own) (f : Frame) (o : Option Command) →
    option_map bare_task (command_task x f o) ≡ option_map bare_task (command_task (bare_own x) (bare_frame f) o)
command_bare x f None = refl
command_bare x f (Some c) =
    let r : refusal (level_at (bare_own x)) (not (is_null (bare_own x).frames.own)) (regions_of (thread_part (bare_own x).frames)) (bare_frame f) c
    ≡ refusal (level_at x) (not (is_null x.frames.own)) (regions_of (thread_part x.frames)) f c =
    rw (level_same x, null_map x.frames.own, part_bare x.frames, regions_bare (thread_part x.frames))
    (refusal_bare (level_at x) (not (is_null x.frames.own)) (regions_of (thread_part x.frames)) f c) in
    ap Some (call_bare f c (refusal (level_at x) (not (is_null x.frames.own)) (regions_of (thread_part x.frames)) f c)
    ∙ ap (λ (o : Option Refusal). bare_task (call_task (bare_frame f) c o)) (sym r))

-- the task of a normal routine of a frame does not depend on its name, but for that name
normal_bare : (f : Frame) → option_map bare_task (normal_task f) ≡ option_map bare_task (normal_task (bare_frame f))
normal_bare f = go (f.kernel_phase && has_normal f.body)
  where
    go : (b : Bool) → option_map bare_task (when b (Some (Alone (Normal f.name)))) ≡ option_map bare_task (when b (Some (Alone (Normal 0))))
    go true = refl
    go false = refl

-- the task of a frame does not depend on numbers, but for its own
frame_bare : (s : Script) (p : CpuNo) (x : Own) (f : Frame) →
    option_map bare_task (frame_task s p x f) ≡ option_map bare_task (frame_task s p (bare_own x) (bare_frame f))
frame_bare s p x f =
    or_task (rewait_task f) _ (rewait_task (bare_frame f)) _ refl
    (or_task (rundown_task f) _ (rundown_task (bare_frame f)) _ refl
    (or_task (command_task x f (next_command s p f)) _ (command_task (bare_own x) (bare_frame f) (next_command s p (bare_frame f))) _
    (command_bare x f (next_command s p f))
    (or_task (free_task f) _ (free_task (bare_frame f)) _ refl
    (or_task (normal_task f) (Some (end_task f.name f.body)) (normal_task (bare_frame f)) (Some (end_task 0 f.body))
    (normal_bare f) (ap Some (end_bare f.name f.body))))))

-- the task of an optional frame does not depend on numbers, but for its own
then_bare : (s : Script) (p : CpuNo) (x : Own) (o : Option Frame) →
    option_map bare_task (option_and_then (frame_task s p x) o)
    ≡ option_map bare_task (option_and_then (frame_task s p (bare_own x)) (option_map bare_frame o))
then_bare s p x None = refl
then_bare s p x (Some f) = frame_bare s p x f

-- the task of going on does not depend on numbers, but for its own
go_on_bare : (s : Script) (p : CpuNo) (x : Own) → option_map bare_task (go_on_task s p x) ≡ option_map bare_task (go_on_task s p (bare_own x))
go_on_bare s p x =
    or_task (option_and_then (frame_task s p x) (innermost x.frames)) (idle_task x)
    (option_and_then (frame_task s p (bare_own x)) (innermost (bare_own x).frames)) (idle_task (bare_own x))
    (then_bare s p x (innermost x.frames)
    ∙ ap (λ (o : Option Frame). option_map bare_task (option_and_then (frame_task s p (bare_own x)) o)) (sym (innermost_bare x.frames))) refl

-- what a processor has to do next does not depend on numbers, but for the task's own
task_bare : (s : Script) (p : CpuNo) (x : Own) → option_map bare_task (task s p x) ≡ option_map bare_task (task s p (bare_own x))
task_bare s p x =
    or_task (must_task x) _ (must_task (bare_own x)) _ (must_bare x)
    (unless (waits_for_lock x) (waits_for_lock (bare_own x)) (go_on_task s p x) (go_on_task s p (bare_own x)) (waits_bare x) (go_on_bare s p x))
  where
    unless : (a b : Bool) (o q : Option Task) → a ≡ b → option_map bare_task o ≡ option_map bare_task q →
        option_map bare_task (when (not a) o) ≡ option_map bare_task (when (not b) q)
    unless true true o q h k = refl
    unless false false o q h k = k
    unless true false o q h k = cc
    unless false true o q h k = cc

-- ---- the next event

-- where a processor stands, by what it keeps without numbers, is where it stands, without the frame's name
pub stand_in_bare : (p : CpuNo) (x : Own) → stand_in p (bare_own x) ≡ bare_stand (stand_in p x)
stand_in_bare p x = stand_bare p x.frames x.sweep

-- tasks that are the same but for numbers give events that are the same but for numbers
event_of_task : (s : Script) (st : Stand) (l : Lanes) (a b : Task) → bare_task a ≡ bare_task b →
    option_map bare_what (task_event s st l a) ≡ option_map bare_what (task_event s (bare_stand st) (bare_but_timers l) b)
event_of_task s st l (Alone w) (Alone v) h = alone w v h
  where
    alone : (w v : What) → Alone (bare_what w) ≡ Alone (bare_what v) → option_map bare_what (Some w) ≡ option_map bare_what (Some v)
    alone w v h = let e : bare_what w ≡ bare_what v = cc in ap Some e
event_of_task s st l (Shared i) (Shared j) h =
    let e : i ≡ j = cc in job_bare s st l i ∙ ap (λ (k : Job). option_map bare_what (job_event s (bare_stand st) (bare_but_timers l) k)) e
event_of_task s st l (Alone w) (Shared j) h = cc
event_of_task s st l (Shared i) (Alone v) h = cc

-- optional tasks that are the same but for numbers give such optional events
event_then : (s : Script) (st : Stand) (l : Lanes) (a b : Option Task) → option_map bare_task a ≡ option_map bare_task b →
    option_map bare_what (option_and_then (task_event s st l) a) ≡ option_map bare_what (option_and_then (task_event s (bare_stand st) (bare_but_timers l)) b)
event_then s st l None None h = refl
event_then s st l (Some a) (Some b) h = event_of_task s st l a b (inside h)
  where
    inside : {x y : Task} → ◌≡◌ {A = Option Task} (Some x) (Some y) → x ≡ y
    inside q = cc
event_then s st l None (Some b) h = cc
event_then s st l (Some a) None h = cc

-- the next event of a processor, but for numbers
pub next_bare : (s : Script) (p : CpuNo) (x : Own) (l : Lanes) →
    option_map bare_what (next_what s p x l) ≡ option_map bare_what (next_what s p (bare_own x) (bare_but_timers l))
next_bare s p x l =
    event_then s (stand_in p x) l (task s p x) (task s p (bare_own x)) (task_bare s p x)
    ∙ ap (λ (st : Stand). option_map bare_what (option_and_then (task_event s st (bare_but_timers l)) (task s p (bare_own x)))) (sym (stand_in_bare p x))
