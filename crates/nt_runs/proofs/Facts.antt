-- In a run the facts of each thread agree with its frames.
use Rattle.std.proofs.Common.{ap, subst, sym, ◌∙◌}
use Rattle.std.proofs.lemmas.Bool.{eq-eqb}
use Rattle.std.specs.List.{list_any}
use Rattle.std.specs.Option.{option_map_or, option_or}
use Rattle.std.specs.Prelude.{Bool, List, None, Option, Some, [], false, fold, if◌then◌else◌, is_some, length, refl, sum_by, true, ℕ, ◌&&◌, ◌+◌, ◌==◌, ◌||◌}
use Rattle.std.specs.Prelude.{◌∷◌, ◌≡◌}
use Rattle.nt_event.specs.declared.commands.ApcKind.{ApcKind}
use Rattle.nt_event.specs.declared.commands.ApcKind.TheVariants.{User as UserApc}
use Rattle.nt_event.specs.declared.commands.Command.{Command}
use Rattle.nt_event.specs.declared.commands.Command.TheVariants.{Delay, StartWait, TestAlert, Yield}
use Rattle.nt_event.specs.declared.commands.Mode.{Mode}
use Rattle.nt_event.specs.declared.commands.Mode.TheVariants.{Kernel as KernelMode, User as UserMode}
use Rattle.nt_event.specs.declared.commands.Regions.{Regions}
use Rattle.nt_event.specs.declared.commands.Reply.{Reply}
use Rattle.nt_event.specs.declared.commands.Reply.TheVariants.{Blocked, Done, Status}
use Rattle.nt_event.specs.declared.events.Begun.TheVariants.{Apc}
use Rattle.nt_event.specs.declared.events.Event.{Event}
use Rattle.nt_event.specs.declared.events.Turn.TheVariants.{Switch as SwitchTurn}
use Rattle.nt_event.specs.declared.events.What.{What}
use Rattle.nt_event.specs.declared.events.What.TheVariants.{Begin, Call, End, Gone, Look, Rewait, Switch}
use Rattle.nt_event.specs.declared.frames.Again.{Again}
use Rattle.nt_event.specs.declared.frames.Body.{Body}
use Rattle.nt_event.specs.declared.frames.Body.TheVariants.{Apc as OnApc, Base as OnBase}
use Rattle.nt_event.specs.Frame.{Frame}
use Rattle.nt_event.specs.declared.jobs.Stand.{Stand}
use Rattle.nt_event.specs.declared.numbers.ApcNo.{ApcNo}
use Rattle.nt_event.specs.declared.numbers.CpuNo.{CpuNo}
use Rattle.nt_event.specs.declared.numbers.ThreadNo.{ThreadNo}
use Rattle.nt_event.specs.declared.scripts.Script.{Script}
use Rattle.nt_event.specs.declared.threads.Doing.{Doing}
use Rattle.nt_event.specs.declared.threads.Doing.TheVariants.{Blocked as IsBlocked, Running as IsRunning}
use Rattle.nt_event.specs.Apcs.{has_user}
use Rattle.nt_event.specs.Calls.{stops}
use Rattle.nt_event.specs.Frames.{Frames, at_name, called, due_of, frames_of, is_normal_apc_body, level_in, own_frames, rewaited, running, running_after}
use Rattle.nt_event.specs.Frames.{thread_after, thread_frames, thread_part, time}
use Rattle.nt_event.specs.Jobs.{must}
use Rattle.nt_event.specs.Lanes.{Lanes, lanes_at}
use Rattle.nt_runs.specs.Laws.{Agrees, Says, level_of}
use Rattle.nt_event.specs.Own.{Own, own_of, stand_in}
use Rattle.nt_event.specs.Regions.{regions_of, stand_at}
use Rattle.nt_event.specs.Routines.{cpu_of, kind_of}
use Rattle.nt_event.specs.Step.{IsLegal, IsRun, step, thread_field, turn_at}
use Rattle.nt_event.specs.Threads.{ThreadFacts, is_alerted, set_alerted}
use Rattle.nt_event.specs.Waits.{alert_taken, alert_tested, answered, apc_taken, facts, frame_ended, is_of_thread, made_facts, named_facts, waited}
use Rattle.nt_event.specs.Waits.{waited_again}
use Rattle.nt_event.specs.Replies.{alerted, is_answer, is_blocked, is_user, satisfied, user_apc}
use Rattle.nt_event.specs.Lists.{head_of, is_null}
use Rattle.nt_event.specs.Numbers.{is_by, is_of, is_thread}
use Rattle.nt_runs.proofs.Agree.{Ends, named_ends, runs_as, says_ended, says_same}
use Rattle.nt_runs.proofs.Chosen.{null_head, switch_parts}
use Rattle.nt_runs.proofs.Known.{Known, again_known, legal_known}
use Rattle.nt_runs.proofs.Running.{frames_when, is_switch, not_itself, part_of_running, running_here, running_own, same_cpu, same_thread, taken, thread_named}
use Rattle.nt_runs.proofs.Running.{unnamed_by}
use Rattle.nt_runs.proofs.Steps.{Gives, switch_gives}
use Rattle.nt_runs.proofs.Stops.{NoneAgain, blocked_call, is_wait, none_again, rewait_on_thread, yield_call}
use Rattle.nt_runs.proofs.Turns.{is_next}

-- ---- what a stop leaves

-- a change of a frame that keeps its level, its regions and what runs in it
pub record KeepsRegions (g : Frame → Frame) : Type 0 where
  pub level : (f : Frame) → (g f).level ≡ f.level
  pub crit : (f : Frame) → (g f).crit ≡ f.crit
  pub guard : (f : Frame) → (g f).guard ≡ f.guard
  pub body : (f : Frame) → (g f).body ≡ f.body

-- an accepted yield keeps a frame's level, its regions and what runs in it
yield_keeps : (due : Option ℕ) → KeepsRegions (called due Yield Done)
yield_keeps due =
    record { level = λ f. refl; crit = λ f. refl; guard = λ f. refl; body = λ f. refl }

-- a wait or delay that blocks keeps its frame's level, its regions and what runs in it
wait_keeps : (due : Option ℕ) (c : Command) → is_wait c ≡ true → KeepsRegions (called due c Blocked)
wait_keeps due (StartWait m a) h =
    record { level = λ f. refl; crit = λ f. refl; guard = λ f. refl; body = λ f. refl }
wait_keeps due (Delay m a u) h =
    record { level = λ f. refl; crit = λ f. refl; guard = λ f. refl; body = λ f. refl }
wait_keeps due c h = cc

-- taking up a wait again keeps a frame's level, its regions and what runs in it
pub rewait_keeps : (y : Reply) → KeepsRegions (rewaited y)
rewait_keeps y =
    record { level = λ f. refl; crit = λ f. refl; guard = λ f. refl; body = λ f. refl }

-- a change of a named frame that keeps levels keeps the level of the frames
pub named_level : (n : ℕ) (g : Frame → Frame) (fs : List Frame) → KeepsRegions g → level_of (at_name n g fs) ≡ level_of fs
named_level n g [] k = refl
named_level n g (f ∷ fs) k = go (f.name == n)
  where
    go : (b : Bool) → (if b then g f else f).level ≡ f.level
    go true = k.level f
    go false = refl

-- a change of a named frame that keeps regions keeps the regions of the frames
pub named_regions : (n : ℕ) (g : Frame → Frame) (fs : List Frame) → KeepsRegions g → regions_of (at_name n g fs) ≡ regions_of fs
named_regions n g [] k = refl
named_regions n g (f ∷ fs) k = go (f.name == n)
  where
    same : regions_of (g f ∷ fs) ≡ regions_of (f ∷ fs)
    same = λ i. record {
      crit = sum_from (λ f. f.crit) (k.crit f) i;
      guard = sum_from (λ f. f.guard) (k.guard f) i;
      busy = ap (λ (b : Body). is_normal_apc_body b || list_any (λ f. is_normal_apc_body f.body) fs) (k.body f) i;
    }
      where
        sum_from : (h : Frame → ℕ) → h (g f) ≡ h f → sum_by h (g f ∷ fs) ≡ sum_by h (f ∷ fs)
        sum_from h e = ap (λ (a : ℕ). fold (λ b x. b + h x) (0 + a) fs) e

    go : (b : Bool) → regions_of ((if b then g f else f) ∷ fs) ≡ regions_of (f ∷ fs)
    go true = same
    go false = refl

-- with no frame on the own part, the level is that of the thread's innermost frame
pub level_on_thread : (x : Frames) (fs : List Frame) → is_null x.own ≡ true → thread_part x ≡ fs → level_in x ≡ level_of fs
level_on_thread x fs h e =
    ap (λ (o : Option Frame). option_map_or (λ f. f.level) (option_or o (head_of (thread_part x))) 0) (null_head x.own h) ∙ ap level_of e

-- ---- an event that the thread makes

-- where the thread stops
abbrev pub halts : What → Bool
halts (Gone t) = true
halts (Call f c y) = stops c y
halts (Rewait f y) = is_blocked y
halts w = false

-- a change made only under a condition leaves the doing, if the change itself does
if_keeps : (b : Bool) (x y : ThreadFacts) → y.doing ≡ x.doing → (if b then y else x).doing ≡ x.doing
if_keeps true x y h = h
if_keeps false x y h = refl

-- a wait that is answered without blocking leaves the thread's doing
answered_doing : (st : ℕ) (m : Mode) (a delay : Bool) (x : ThreadFacts) → (answered st m a delay x).doing ≡ x.doing
answered_doing st m a delay x =
    go (st == satisfied) delay (st == alerted) ((st == user_apc) && a)
  where
    taken : (m : Mode) → (set_alerted m false x).doing ≡ x.doing
    taken KernelMode = refl
    taken UserMode = refl

    go : (b d c u : Bool) → (if b then (if d then x else record x { released = false })
        else (if c then alert_taken m x else (if u then record x { user_pending = true } else x))).doing ≡ x.doing
    go true true c u = refl
    go true false c u = refl
    go false d true u = taken (if is_alerted m x then m else KernelMode)
    go false d false true = refl
    go false d false false = refl

-- a wait that doesn't block leaves the thread's doing
waited_doing : (n : ℕ) (r : Regions) (level : ℕ) (m : Mode) (a delay : Bool) (y : Reply) (x : ThreadFacts) → is_blocked y ≡ false →
    (waited n r level m a delay y x).doing ≡ x.doing
waited_doing n r level m a delay (Status st) x h = answered_doing st m a delay x
waited_doing n r level m a delay Blocked x h = cc
waited_doing n r level m a delay y x h = refl

-- a test of an alert leaves the thread's doing
tested_doing : (m : Mode) (x : ThreadFacts) → (alert_tested m x).doing ≡ x.doing
tested_doing m x = go (is_alerted m x) (is_user m && has_user x.apcs)
  where
    set : (m : Mode) → (set_alerted m false x).doing ≡ x.doing
    set KernelMode = refl
    set UserMode = refl

    go : (b c : Bool) → (if b then set_alerted m false x else (if c then record x { user_pending = true } else x)).doing ≡ x.doing
    go true c = set m
    go false true = refl
    go false false = refl

-- an APC that begins leaves the thread's doing
taken_doing : (k : ApcKind) (a : ApcNo) (x : ThreadFacts) → (apc_taken k a x).doing ≡ x.doing
taken_doing UserApc a x = refl
taken_doing k a x = refl

-- the end of a frame leaves the thread's doing
ended_doing : (b : Option Body) (x : ThreadFacts) → (frame_ended b x).doing ≡ x.doing
ended_doing (Some (OnBase t)) x = refl
ended_doing (Some (OnApc a UserApc)) x = tested_doing UserMode x
ended_doing b x = refl

-- a wait that is taken up again and doesn't block leaves the thread's doing
again_doing : (n : ℕ) (r : Regions) (level : ℕ) (o : Option Again) (y : Reply) (x : ThreadFacts) → is_blocked y ≡ false → (waited_again n r level o y x).doing
    ≡ x.doing
again_doing n r level None y x h = refl
again_doing n r level (Some w) y x h = waited_doing n r level w.mode w.alertable (is_some w.due) y x h

-- an event by which the thread doesn't stop leaves what it does
made_doing : (s : Script) (n : ℕ) (st : Stand) (w : What) (x : ThreadFacts) → halts w ≡ false → is_switch w ≡ false → (made_facts s n st w x).doing ≡ x.doing
made_doing s n st (Switch t status) x h k = cc
made_doing s n st (Gone t) x h k = cc
made_doing s n st (Call f (StartWait m a) y) x h k = waited_doing n st.regions st.level m a false y x h
made_doing s n st (Call f (Delay m a u) y) x h k = waited_doing n st.regions st.level m a true y x h
made_doing s n st (Call f (TestAlert m) y) x h k = if_keeps (is_answer y) x (alert_tested m x) (tested_doing m x)
made_doing s n st (Call f Yield Done) x h k = cc
made_doing s n st (Rewait f y) x h k = again_doing n st.regions st.level st.again y x h
made_doing s n st (Begin (Apc a) from) x h k = taken_doing (kind_of s a) a x
made_doing s n st (End f) x h k = ended_doing st.body x
made_doing s n st w x h k = refl

-- where the condition is false, a choice of no thread or another gives the other
pub if_none : (b : Bool) (r : Option ThreadNo) → b ≡ false → (if b then None else r) ≡ r
if_none true r h = cc
if_none false r h = refl

-- an event that neither stops the running thread nor switches leaves it running
runs_still : (w : What) (r : Option ThreadNo) → halts w ≡ false → is_switch w ≡ false → running_after w r ≡ r
runs_still (Switch t status) r h k = cc
runs_still (Gone t) r h k = cc
runs_still (Call f c y) r h k = if_none (stops c y) r h
runs_still (Rewait f y) r h k = if_none (is_blocked y) r h
runs_still w r h k = refl

-- where no thread runs, no given thread is the one that runs
none_runs : (t : ThreadNo) → ◌≡◌ {A = Option ThreadNo} None (Some t) → ⊥
none_runs t h = cc

-- a blocked thread that doesn't run has facts that agree with the level and regions of its frames
blocked_doing : (n : ℕ) (r : Regions) (level : ℕ) (m : Mode) (a d : Bool) (fs : List Frame) (runs : Type 0) → (runs → ⊥) → level ≡ level_of fs → r
    ≡ regions_of fs → Says (IsBlocked (record { event = n; mode = m; alertable = a; delay = d; level = level; regions = r })) fs runs
blocked_doing n r level m a d fs runs h k l = (h, k, l)

-- a known event by which the running thread stops
stopped : (s : Script) (p : CpuNo) (o : Own) (l : Lanes) (t : ThreadNo) (n : ℕ) (due : Option ℕ) (w : What) (fs : List Frame) (x : ThreadFacts) → halts w
    ≡ true → Known s p o l w → NoneAgain o.frames.own → thread_part o.frames ≡ fs →
    Says (made_facts s n (stand_in p o) w x).doing (thread_after s n due w fs) (running_after w (Some t) ≡ Some t)
stopped s p o l t n due (Gone u) fs x h k own e = (none_runs t, refl)
stopped s p o l t n due (Call f Yield Done) fs x h k own e =
    (none_runs t, level_on_thread o.frames fs (yield_call s p o l f k) e ∙ sym (named_level f (called due Yield Done) fs (yield_keeps due)))
stopped s p o l t n due (Call f (StartWait m a) Blocked) fs x h k own e =
    let b = blocked_call s p o l f (StartWait m a) k in (
      none_runs t,
      level_on_thread o.frames fs b.1 e ∙ sym (named_level f (called due (StartWait m a) Blocked) fs (wait_keeps due (StartWait m a) refl)),
      ap regions_of e ∙ sym (named_regions f (called due (StartWait m a) Blocked) fs (wait_keeps due (StartWait m a) refl)),
    )
stopped s p o l t n due (Call f (Delay m a u) Blocked) fs x h k own e =
    let b = blocked_call s p o l f (Delay m a u) k in (
      none_runs t,
      level_on_thread o.frames fs b.1 e ∙ sym (named_level f (called due (Delay m a u) Blocked) fs (wait_keeps due (Delay m a u) refl)),
      ap regions_of e ∙ sym (named_regions f (called due (Delay m a u) Blocked) fs (wait_keeps due (Delay m a u) refl)),
    )
stopped s p o l t n due (Call f c Blocked) fs x h k own e = let b = (blocked_call s p o l f c k).0 in cc
stopped s p o l t n due (Rewait f Blocked) fs x h k own e = go (stand_in p o).again (again_known p o k.frame k.goes_on ∙ k.again)
  where
    null : is_null o.frames.own ≡ true
    null = rewait_on_thread p o l f Blocked k own

    go : (a : Option Again) → a ≡ Some k.wait → Says (waited_again n (stand_in p o).regions (stand_in p o).level a Blocked x).doing
        (at_name f (rewaited Blocked) fs) (None ≡ Some t)
    go None q = cc
    go (Some w) q = (
      none_runs t,
      level_on_thread o.frames fs null e ∙ sym (named_level f (rewaited Blocked) fs (rewait_keeps Blocked)),
      ap regions_of e
          ∙ sym (named_regions f (rewaited Blocked) fs (rewait_keeps Blocked)),
    )
stopped s p o l t n due w fs x h k own e = cc

-- a known event that the running thread makes
made_says : (s : Script) (p : CpuNo) (o : Own) (l : Lanes) (t : ThreadNo) (n : ℕ) (due : Option ℕ) (w : What) (fs : List Frame) (x : ThreadFacts) → is_switch w
    ≡ false → Known s p o l w → NoneAgain o.frames.own → thread_part o.frames ≡ fs → x.doing ≡ IsRunning →
    Says (made_facts s n (stand_in p o) w x).doing (thread_after s n due w fs) (running_after w (Some t) ≡ Some t)
made_says s p o l t n due w fs x h k own e run = go (halts w) refl
  where
    go : (b : Bool) → halts w ≡ b → Says (made_facts s n (stand_in p o) w x).doing (thread_after s n due w fs) (running_after w (Some t) ≡ Some t)
    go true a = stopped s p o l t n due w fs x a k own e
    go false a =
        let d : (made_facts s n (stand_in p o) w x).doing ≡ IsRunning = made_doing s n (stand_in p o) w x a h ∙ run in
        subst (λ (d : Doing). Says d (thread_after s n due w fs) (running_after w (Some t) ≡ Some t)) (sym d) (runs_still w (Some t) a h)

-- ---- each event of a run

-- the processor of an event that names the thread is the thread's own
pub named_here : (s : Script) (limit : ℕ) (t : ThreadNo) (e : Event) (past : List Event) → IsLegal s limit e past → IsRun s limit past → is_by e t ≡ true →
    e.cpu.0 ≡ (cpu_of s t).0
named_here s limit t e past g r b =
    go e.what refl (sym (thread_named s limit e past g) ∙ same_thread e.thread t b)
  where
    go : (w : What) → e.what ≡ w → thread_field e.what (running e.cpu past) ≡ Some t → e.cpu.0 ≡ (cpu_of s t).0
    go (Switch u st) k f =
        let turn : Gives (step s limit (SwitchTurn e.cpu u) past) e = subst (λ (w : What). Gives (step s limit (turn_at e.cpu w) past) e) k g in
        let field : Some u ≡ Some t = subst (λ (w : What). thread_field w (running e.cpu past) ≡ Some t) k f in
        let same : u ≡ t = cc in
        sym (subst (λ (v : ThreadNo). (cpu_of s v).0 ≡ e.cpu.0) same (taken s limit e.cpu u past e turn).1)
    go (Look rises) k f =
        let field : None ≡ Some t = subst (λ (w : What). thread_field w (running e.cpu past) ≡ Some t) k f in
        absurd (none_runs t field)
    go w k f =
        let field : running e.cpu past ≡ Some t = subst (λ (w : What). thread_field w (running e.cpu past) ≡ Some t) k f in
        sym (running_here s limit e.cpu t past r field).1

-- an event that doesn't name the running thread leaves it running
runs_unnamed : (s : Script) (limit : ℕ) (p : CpuNo) (t : ThreadNo) (e : Event) (past : List Event) → is_of e p ≡ true → is_by e t ≡ false →
    IsLegal s limit e past → running p past ≡ Some t → running_after e.what (running p past) ≡ Some t
runs_unnamed s limit p t e past own b g h = go e.what refl
  where
    here : running e.cpu past ≡ Some t
    here = ap (λ (q : CpuNo). running q past) (same_cpu e p own) ∙ h

    go : (w : What) → e.what ≡ w → running_after w (running p past) ≡ Some t
    go (Switch u st) k =
        let turn : Gives (step s limit (SwitchTurn e.cpu u) past) e = subst (λ (w : What). Gives (step s limit (turn_at e.cpu w) past) e) k g in
        let may = (switch_gives s limit e.cpu u past e turn).0 in
        let none : running e.cpu past ≡ None = (switch_parts (running e.cpu past) (is_null (own_frames e.cpu past)) (must (own_of s e.cpu past)) may).0 in
        absurd (none_runs t (sym none ∙ here))
    go (Look rises) k = h
    go w k =
        let named : e.thread ≡ Some t = thread_named s limit e past g ∙ (ap (λ (v : What). thread_field v (running e.cpu past)) k ∙ here) in
        absurd (not_itself t (subst (λ (o : Option ThreadNo). is_thread o t ≡ false) named b))

-- the facts after an event
pub facts_made : (s : Script) (t : ThreadNo) (e : Event) (past : List Event) (b : Bool) → is_of_thread s t e ≡ b → facts s t (e ∷ past)
    ≡ named_facts s t (length past) e.what (if b then made_facts s (length past) (stand_at s e.cpu past) e.what (facts s t past) else facts s t past)
facts_made s t e past b h =
    ap (λ (c : Bool). named_facts s t (length past) e.what
    (if c then made_facts s (length past) (stand_at s e.cpu past) e.what (facts s t past) else facts s t past)) h

-- case: the event doesn't name the thread; its facts still agree with its frames
agrees_unnamed : (s : Script) (limit : ℕ) (t : ThreadNo) (e : Event) (past : List Event) → is_by e t ≡ false → IsLegal s limit e past → Agrees s t past →
    Agrees s t (e ∷ past)
agrees_unnamed s limit t e past b g ih =
    says_same (facts s t (e ∷ past)).doing (thread_frames s p t past) (thread_frames s p t (e ∷ past)) (running p past ≡ Some t)
    (running p (e ∷ past) ≡ Some t) (sym frames) (λ h. there (is_of e p) refl h) (λ h. back (is_of e p) refl h)
    (says_ended (facts s t past).doing (facts s t (e ∷ past)).doing (thread_frames s p t past) (running p past ≡ Some t) ends ih)
  where
    p : CpuNo
    p = cpu_of s t

    not_of : is_of_thread s t e ≡ false
    not_of = go (is_of e (cpu_of s t)) b
      where
        go : (c : Bool) → is_by e t ≡ false → (c && is_by e t) ≡ false
        go true h = h
        go false h = refl

    ends : Ends (facts s t past).doing (facts s t (e ∷ past)).doing
    ends =
        subst (λ (x : ThreadFacts). Ends (facts s t past).doing x.doing) (sym (facts_made s t e past false not_of))
        (named_ends s t (length past) e.what (facts s t past))

    frames : thread_frames s (cpu_of s t) t (e ∷ past) ≡ thread_frames s (cpu_of s t) t past
    frames = go (is_of e (cpu_of s t)) refl
      where
        go : (c : Bool) → is_of e (cpu_of s t) ≡ c → thread_frames s (cpu_of s t) t (e ∷ past) ≡ thread_frames s (cpu_of s t) t past
        go true h = frames_when s (cpu_of s t) t e past false h b
        go false h = rw h

    there : (c : Bool) → is_of e (cpu_of s t) ≡ c → running (cpu_of s t) past ≡ Some t → running (cpu_of s t) (e ∷ past) ≡ Some t
    there true h r = running_own (cpu_of s t) e past h ∙ runs_unnamed s limit (cpu_of s t) t e past h b g r
    there false h r = rw h r

    back : (c : Bool) → is_of e (cpu_of s t) ≡ c → running (cpu_of s t) (e ∷ past) ≡ Some t → running (cpu_of s t) past ≡ Some t
    back true h r =
        unnamed_by s limit (cpu_of s t) t e past e.what refl b h g (sym (running_own (cpu_of s t) e past h) ∙ r)
    back false h r = rw h at r

-- case: the event names the thread; its facts still agree with its frames
agrees_named : (s : Script) (limit : ℕ) (t : ThreadNo) (e : Event) (past : List Event) → is_by e t ≡ true → IsLegal s limit e past → IsRun s limit past →
    Agrees s t past → Agrees s t (e ∷ past)
agrees_named s limit t e past b g r ih =
    finish (made_so e.what refl)
  where
    own : is_of e (cpu_of s t) ≡ true
    own = eq-eqb e.cpu.0 (cpu_of s t).0 (named_here s limit t e past g r b)

    here : e.cpu ≡ cpu_of s t
    here = same_cpu e (cpu_of s t) own

    of : is_of_thread s t e ≡ true
    of = rw (own, b) refl

    field : thread_field e.what (running (cpu_of s t) past) ≡ Some t
    field =
        ap (λ (q : CpuNo). thread_field e.what (running q past)) (sym here) ∙ (sym (thread_named s limit e past g) ∙ same_thread e.thread t b)

    known : is_next e.what ≡ true → Known s (cpu_of s t) (own_of s (cpu_of s t) past) (lanes_at s past) e.what
    known n = subst (λ (q : CpuNo). Known s q (own_of s q past) (lanes_at s past) e.what) here (legal_known s limit e past g n)

    frames : thread_frames s (cpu_of s t) t (e ∷ past) ≡ thread_after s (length past) (due_of e.what (time past)) e.what (thread_frames s (cpu_of s t) t past)
    frames = frames_when s (cpu_of s t) t e past true own b

    Made : What → Type 0
    Made w = Says (made_facts s (length past) (stand_at s (cpu_of s t) past) w (facts s t past)).doing
        (thread_after s (length past) (due_of e.what (time past)) w (thread_frames s (cpu_of s t) t past))
        (running_after w (running (cpu_of s t) past) ≡ Some t)

    next_so : (w : What) → e.what ≡ w → is_switch w ≡ false → is_next w ≡ true → running (cpu_of s t) past ≡ Some t →
        Says (made_facts s (length past) (stand_at s (cpu_of s t) past) w (facts s t past)).doing
        (thread_after s (length past) (due_of e.what (time past)) w (thread_frames s (cpu_of s t) t past))
        (running_after w (running (cpu_of s t) past) ≡ Some t)
    next_so w k sw n run =
        let h = running_here s limit (cpu_of s t) t past r run in
        let part : thread_part (frames_of s (cpu_of s t) past) ≡ thread_frames s (cpu_of s t) t past = part_of_running s (cpu_of s t) t past h.0 run in
        let kn : Known s (cpu_of s t) (own_of s (cpu_of s t) past) (lanes_at s past) w = subst
        (Known s (cpu_of s t) (own_of s (cpu_of s t) past) (lanes_at s past)) k (known (subst (λ (v : What). is_next v ≡ true) (sym k) n)) in
        let doing : (facts s t past).doing ≡ IsRunning = runs_as (facts s t past).doing (thread_frames s (cpu_of s t) t past)
        (running (cpu_of s t) past ≡ Some t) ih run in
        subst (λ (o : Option ThreadNo). Says (made_facts s (length past) (stand_at s (cpu_of s t) past) w (facts s t past)).doing
        (thread_after s (length past) (due_of e.what (time past)) w (thread_frames s (cpu_of s t) t past)) (running_after w o ≡ Some t)) (sym run)
        (made_says s (cpu_of s t) (own_of s (cpu_of s t) past) (lanes_at s past) t (length past) (due_of e.what (time past)) w
        (thread_frames s (cpu_of s t) t past) (facts s t past) sw kn (none_again s limit (cpu_of s t) past r) part doing)

    made_so : (w : What) → e.what ≡ w → Says (made_facts s (length past) (stand_at s (cpu_of s t) past) w (facts s t past)).doing
        (thread_after s (length past) (due_of e.what (time past)) w (thread_frames s (cpu_of s t) t past))
        (running_after w (running (cpu_of s t) past) ≡ Some t)
    made_so (Switch u st) k = subst (λ (w : What). thread_field w (running (cpu_of s t) past) ≡ Some t) k field
    made_so (Look rises) k =
        let f : None ≡ Some t = subst (λ (w : What). thread_field w (running (cpu_of s t) past) ≡ Some t) k field in
        absurd (none_runs t f)
    made_so w k =
        next_so w k refl refl (subst (λ (w : What). thread_field w (running (cpu_of s t) past) ≡ Some t) k field)

    finish : Says (made_facts s (length past) (stand_at s (cpu_of s t) past) e.what (facts s t past)).doing
        (thread_after s (length past) (due_of e.what (time past)) e.what (thread_frames s (cpu_of s t) t past))
        (running_after e.what (running (cpu_of s t) past) ≡ Some t) → Agrees s t (e ∷ past)
    finish m =
        let made : ThreadFacts = made_facts s (length past) (stand_at s (cpu_of s t) past) e.what (facts s t past) in
        let stand : stand_at s e.cpu past ≡ stand_at s (cpu_of s t) past = ap (λ (q : CpuNo). stand_at s q past) here in
        let after : facts s t (e ∷ past) ≡ named_facts s t (length past) e.what made = facts_made s t e past true of
        ∙ ap (λ (st : Stand). named_facts s t (length past) e.what (made_facts s (length past) st e.what (facts s t past))) stand in
        let ends : Ends made.doing (facts s t (e ∷ past)).doing = subst (λ (x : ThreadFacts). Ends made.doing x.doing) (sym after)
        (named_ends s t (length past) e.what made) in
        let said = says_ended made.doing (facts s t (e ∷ past)).doing
        (thread_after s (length past) (due_of e.what (time past)) e.what (thread_frames s (cpu_of s t) t past))
        (running_after e.what (running (cpu_of s t) past) ≡ Some t) ends m in
        says_same (facts s t (e ∷ past)).doing (thread_after s (length past) (due_of e.what (time past)) e.what (thread_frames s (cpu_of s t) t past))
        (thread_frames s (cpu_of s t) t (e ∷ past)) (running_after e.what (running (cpu_of s t) past) ≡ Some t) (running (cpu_of s t) (e ∷ past) ≡ Some t)
        (sym frames) (λ h. running_own (cpu_of s t) e past own ∙ h) (λ h. sym (running_own (cpu_of s t) e past own) ∙ h) said

-- a legal event of a run keeps the facts of a thread in agreement with its frames
agrees_after : (s : Script) (limit : ℕ) (t : ThreadNo) (e : Event) (past : List Event) (b : Bool) → is_by e t ≡ b → IsLegal s limit e past →
    IsRun s limit past → Agrees s t past → Agrees s t (e ∷ past)
agrees_after s limit t e past true b g r ih = agrees_named s limit t e past b g r ih
agrees_after s limit t e past false b g r ih = agrees_unnamed s limit t e past b g ih

-- in a run, the facts of each thread agree with its frames
pub agree : (s : Script) (limit : ℕ) (t : ThreadNo) (past : List Event) → IsRun s limit past → Agrees s t past
agree s limit t [] r = (none_runs t, refl)
agree s limit t (e ∷ past) r =
    agrees_after s limit t e past (is_by e t) refl r.0 r.1 (agree s limit t past r.1)
