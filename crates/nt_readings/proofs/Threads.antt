-- In a run, the frames on a thread's part are exactly the open ones there.
use Rattle.std.proofs.Common.{ap, arith, inl, inr, subst, sym, ◌∙◌}
use Rattle.std.proofs.lemmas.Bool.{both_ways, eq-eqb, eqb-true}
use Rattle.std.specs.Prelude.{Bool, List, None, Option, Some, [], false, if◌then◌else◌, length, option_map, refl, true, ℕ, ◌&&◌, ◌<◌, ◌==◌, ◌∷◌, ◌≡◌, ◌⊎◌}
use Rattle.nt_event.specs.declared.commands.Command.TheVariants.{Yield}
use Rattle.nt_event.specs.declared.commands.Reply.TheVariants.{Blocked, Done}
use Rattle.nt_event.specs.declared.events.Begun.TheVariants.{Apc}
use Rattle.nt_event.specs.declared.events.Event.{Event}
use Rattle.nt_event.specs.declared.events.Turn.TheVariants.{Switch as SwitchTurn}
use Rattle.nt_event.specs.declared.events.What.{What}
use Rattle.nt_event.specs.declared.events.What.TheVariants.{Begin, Call, End, Flush, Free, Gone, Look, Normal, Rewait, Switch}
use Rattle.nt_event.specs.declared.frames.Body.{Body}
use Rattle.nt_event.specs.declared.frames.Body.TheVariants.{Apc as OnApc, Base as OnBase, Rundown as OnRundown}
use Rattle.nt_event.specs.Frame.{Frame}
use Rattle.nt_event.specs.declared.numbers.CpuNo.{CpuNo}
use Rattle.nt_event.specs.declared.numbers.RoutineNo.{RoutineNo}
use Rattle.nt_event.specs.declared.numbers.ThreadNo.{ThreadNo}
use Rattle.nt_event.specs.declared.scripts.Script.{Script}
use Rattle.nt_event.specs.declared.threads.Doing.{Doing}
use Rattle.nt_event.specs.declared.threads.Doing.TheVariants.{Blocked as IsBlocked, Gone as IsGone, Running as IsRunning}
use Rattle.nt_event.specs.Frames.{called, due_of, end_on_thread, flushed, frames_of, freed, is_base_body, ended_base, normal_of, own_frames, rewaited, running}
use Rattle.nt_event.specs.Frames.{running_after, thread_after, thread_frames, thread_part, time}
use Rattle.nt_event.specs.Lanes.{lanes_at}
use Rattle.nt_runs.specs.Laws.{HasBase}
use Rattle.nt_event.specs.Own.{own_of}
use Rattle.nt_event.specs.Regions.{stand_at}
use Rattle.nt_event.specs.Routines.{cpu_of, kind_of, rundown_of}
use Rattle.nt_event.specs.Script.{has_thread}
use Rattle.nt_event.specs.Step.{IsLegal, IsRun, step, thread_field, turn_at}
use Rattle.nt_event.specs.Threads.{ThreadFacts, is_ready, ready_doing}
use Rattle.nt_event.specs.Waits.{facts, is_of_thread, made_facts, named_facts}
use Rattle.nt_event.specs.Lists.{head_of}
use Rattle.nt_event.specs.Numbers.{is_by, is_of, is_thread}
use Rattle.nt_runs.proofs.Agree.{Ends, named_ends, runs_as}
use Rattle.nt_runs.proofs.Calm.{ran}
use Rattle.nt_runs.proofs.Facts.{agree, facts_made, named_here}
use Rattle.nt_runs.proofs.Known.{Known, KnownRundown, legal_known}
use Rattle.nt_event.proofs.Options.{both}
use Rattle.nt_runs.proofs.Running.{frames_when, part_of_running, running_has_base, same_cpu, same_thread, thread_named}
use Rattle.nt_runs.proofs.Shared.{leaving_null, part_head}
use Rattle.nt_runs.proofs.Steps.{Gives, switch_gives}
use Rattle.nt_runs.proofs.Turns.{is_next}
use Rattle.nt_readings.specs.Positions.{At, EachAfter, Everywhere, Somewhere}
use Rattle.nt_readings.specs.Frames.{EachNamed, NamesFall, HasFrame, IsFirstSwitch, IsOpenInner, IsOpenOn, Lists, begun_inner, ends_frame, ends_thread}
use Rattle.nt_readings.specs.Frames.{switches_to}
use Rattle.nt_readings.proofs.Frames.{Heads, IsEnder, IsOwnBegin, IsThreadBegin, at_both, each_below, each_end, each_head, each_map, ender, has_at_name}
use Rattle.nt_readings.proofs.Frames.{inner_not_switch, keep_called, keep_freed, keep_normal, keep_resumed, keep_rewaited, own_apart, own_begun, switch_self}
use Rattle.nt_readings.proofs.Frames.{thread_after_each, thread_begun, thread_falls}
use Rattle.nt_readings.proofs.Seen.{at_before}
use Rattle.nt_readings.proofs.Served.{none_after}
use Rattle.nt_runs.proofs.Rundown.Steps.{facts_there}

abbrev pub part_of : Script → ThreadNo → List Event → List Frame
part_of s t past = thread_frames s (cpu_of s t) t past

-- ---- positions

-- some event of a history passes a test, or all fail it
pub some_or_all : (test : Event → Bool) (past : List Event) → Somewhere (λ e before. test e ≡ true) past ⊎ Everywhere (λ e before. test e ≡ false) past
some_or_all test [] = inr tt
some_or_all test (e ∷ past) = go (test e) refl (some_or_all test past)
  where
    go : (b : Bool) → test e ≡ b → Somewhere (λ e before. test e ≡ true) past ⊎ Everywhere (λ e before. test e ≡ false) past →
        Somewhere (λ e before. test e ≡ true) (e ∷ past) ⊎ Everywhere (λ e before. test e ≡ false) (e ∷ past)
    go true q k = inl (inl q)
    go false q (inl k) = inl (inr k)
    go false q (inr k) = inr (q, k)

-- what holds of every event holds of each event after a given one
pub everywhere_after : (P : Event → List Event → Type 0) (n : ℕ) (past : List Event) → Everywhere P past → EachAfter P n past
everywhere_after P n [] h = tt
everywhere_after P n (e ∷ past) h = (λ l. h.0, everywhere_after P n past h.1)

-- what holds of no event holds at no position
pub at_never : (P : Event → List Event → Type 0) (n : ℕ) (past : List Event) → ((e : Event) (before : List Event) → P e before → ⊥) → At P n past → ⊥
at_never P n past none h = at_both P P n past h h (λ e before x y. none e before x)

-- ---- whose event it is

-- in a run an event that a thread makes is one of the thread's processor
pub named_cpu : (s : Script) (limit : ℕ) (t : ThreadNo) (e : Event) (past : List Event) → IsRun s limit (e ∷ past) → is_by e t ≡ true → is_of e (cpu_of s t)
    ≡ true
named_cpu s limit t e past r b = eq-eqb e.cpu.0 (cpu_of s t).0 (named_here s limit t e past r.0 r.1 b)

-- an event that isn't a thread's leaves the frames on the thread's part as they were
pub part_same : (s : Script) (t : ThreadNo) (e : Event) (past : List Event) → is_by e t ≡ false → part_of s t (e ∷ past) ≡ part_of s t past
part_same s t e past b = go (is_of e (cpu_of s t)) refl
  where
    go : (c : Bool) → is_of e (cpu_of s t) ≡ c → thread_frames s (cpu_of s t) t (e ∷ past) ≡ thread_frames s (cpu_of s t) t past
    go true h = frames_when s (cpu_of s t) t e past false h b
    go false h = rw h

-- in a run an event that a thread makes changes the frames on its part as the event says
pub part_moves : (s : Script) (limit : ℕ) (t : ThreadNo) (e : Event) (past : List Event) → IsRun s limit (e ∷ past) → is_by e t ≡ true → part_of s t (e ∷ past)
    ≡ thread_after s (length past) (due_of e.what (time past)) e.what (part_of s t past)
part_moves s limit t e past r b = frames_when s (cpu_of s t) t e past true (named_cpu s limit t e past r b) b

-- an event that a thread makes is a Switch to it, or made while it ran
abbrev IsMadeBy : Script → ThreadNo → Event → List Event → Type 0
IsMadeBy s t e past = ((st : Option ℕ) × (e.what ≡ Switch t st)) ⊎ ((is_next e.what ≡ true) × (running (cpu_of s t) past ≡ Some t))

-- in a run an event that a thread makes is a Switch to it or was made while it ran
pub made_by : (s : Script) (limit : ℕ) (t : ThreadNo) (e : Event) (past : List Event) → IsRun s limit (e ∷ past) → is_by e t ≡ true → IsMadeBy s t e past
made_by s limit t e past r b = go e.what refl
  where
    go : (w : What) → e.what ≡ w → IsMadeBy s t e past
    go (Look x) k =
        let none : e.thread ≡ None = thread_named s limit e past r.0 ∙ ap (λ (w : What). thread_field w (running e.cpu past)) k in
        let no_one : false ≡ true = sym (ap (λ (o : Option ThreadNo). is_thread o t) none) ∙ b in
        cc
    go (Switch u st) k =
        inl (st, k ∙ ap (λ (v : ThreadNo). Switch v st) (switch_self s limit t u st e past r.0 b k))
    go w k =
        let n : is_next e.what ≡ true = ap is_next k in
        inr (n, ran s limit (cpu_of s t) t e past (named_cpu s limit t e past r b) b r.0 n)

-- the thread that a Gone names makes it
goner : (s : Script) (limit : ℕ) (u : ThreadNo) (e : Event) (past : List Event) → IsRun s limit (e ∷ past) → e.what ≡ Gone u → (e.thread ≡ Some u) ×
    KnownRundown (own_of s e.cpu past) u
goner s limit u e past r k =
    let known : Known s e.cpu (own_of s e.cpu past) (lanes_at s past) (Gone u) = subst (Known s e.cpu (own_of s e.cpu past) (lanes_at s past)) k
    (legal_known s limit e past r.0 (ap is_next k)) in
    (thread_named s limit e past r.0 ∙ (ap (λ (w : What). thread_field w (running e.cpu past)) k ∙ known.0.thread), known.0)

-- in a run an event that isn't a thread's is not its Gone
pub lives : (s : Script) (limit : ℕ) (t : ThreadNo) (e : Event) (past : List Event) (w : What) → IsRun s limit (e ∷ past) → is_by e t ≡ false → e.what ≡ w →
    ends_thread t w ≡ false
lives s limit t e past (Gone u) r b k =
    sym (ap (λ (o : Option ThreadNo). is_thread o t) (goner s limit u e past r k).0) ∙ b
lives s limit t e past w r b k = refl

-- ---- a gone thread stays gone

-- a thread that a run switches to is ready just before
ready_thread : (s : Script) (limit : ℕ) (t : ThreadNo) (st : Option ℕ) (e : Event) (past : List Event) → IsLegal s limit e past → e.what ≡ Switch t st →
    is_ready (facts s t past) ≡ true
ready_thread s limit t st e past g k =
    let turn : Gives (step s limit (SwitchTurn e.cpu t) past) e = subst (λ (w : What). Gives (step s limit (turn_at e.cpu w) past) e) k g in
    let a = both (has_thread s t) _ (switch_gives s limit e.cpu t past e turn).1 in
    let b = both ((cpu_of s t).0 == e.cpu.0) _ a.1 in
    subst (λ (x : ThreadFacts). is_ready x ≡ true) (facts_there s limit t past a.0) b.1

-- a thread that is gone isn't ready
gone_not_ready : (x : ThreadFacts) → x.doing ≡ IsGone → is_ready x ≡ true → ⊥
gone_not_ready x h k =
    let z : is_ready x ≡ false = ap (λ (d : Doing). ready_doing d) h in both_ways (is_ready x) z k

-- being gone isn't running
gone_not_running : IsRunning ≡ IsGone → ⊥
gone_not_running h = cc

-- in a run a thread that had its Gone is gone
pub doing_gone : (s : Script) (limit : ℕ) (t : ThreadNo) (past : List Event) → IsRun s limit past → Somewhere (λ e before. ends_thread t e.what ≡ true) past →
    (facts s t past).doing ≡ IsGone
doing_gone s limit t [] r h = absurd h
doing_gone s limit t (e ∷ past) r h = go h (λ k. doing_gone s limit t past r.1 k)
  where
    of : is_by e t ≡ true → is_of_thread s t e ≡ true
    of b = rw (named_cpu s limit t e past r b, b) refl

    made : (w : What) → e.what ≡ w → ends_thread t w ≡ true → (facts s t (e ∷ past)).doing ≡ IsGone
    made (Gone u) k h =
        let b : is_by e t ≡ true = ap (λ (o : Option ThreadNo). is_thread o t) (goner s limit u e past r k).0 ∙ h in
        ap (λ (x : ThreadFacts). x.doing) (facts_made s t e past true (of b))
        ∙ ap (λ (w : What). (named_facts s t (length past) w (made_facts s (length past) (stand_at s e.cpu past) w (facts s t past))).doing) k
    made w k h = cc

    ended : (old new : Doing) → old ≡ IsGone → Ends old new → new ≡ IsGone
    ended old new g (inl q) = q ∙ g
    ended old new g (inr q) = let x : IsBlocked q.0 ≡ IsGone = sym q.2 ∙ g in cc

    by : (b : Bool) → is_by e t ≡ b → (facts s t past).doing ≡ IsGone → (facts s t (e ∷ past)).doing ≡ IsGone
    by true b g = mine (made_by s limit t e past r b)
      where
        mine : IsMadeBy s t e past → (facts s t (e ∷ past)).doing ≡ IsGone
        mine (inl k) = absurd (gone_not_ready (facts s t past) g (ready_thread s limit t k.0 e past r.0 k.1))
        mine (inr k) =
            absurd (gone_not_running (sym (runs_as (facts s t past).doing (part_of s t past) (running (cpu_of s t) past ≡ Some t)
            (agree s limit t past r.1) k.1) ∙ g))
    by false b g =
        ap (λ (x : ThreadFacts). x.doing) (facts_made s t e past false (not_of (is_of e (cpu_of s t)) b))
        ∙ ended (facts s t past).doing (named_facts s t (length past) e.what (facts s t past)).doing g
        (named_ends s t (length past) e.what (facts s t past))
      where
        not_of : (c : Bool) → is_by e t ≡ false → (c && is_by e t) ≡ false
        not_of true h = h
        not_of false h = refl

    go : Somewhere (λ e before. ends_thread t e.what ≡ true) (e ∷ past) →
        (Somewhere (λ e before. ends_thread t e.what ≡ true) past → (facts s t past).doing ≡ IsGone) → (facts s t (e ∷ past)).doing ≡ IsGone
    go (inl k) ih = made e.what refl k
    go (inr k) ih = by (is_by e t) refl (ih k)

-- a thread that is taken up isn't gone
live : (s : Script) (limit : ℕ) (t : ThreadNo) (st : Option ℕ) (e : Event) (past : List Event) → IsRun s limit (e ∷ past) → e.what ≡ Switch t st →
    Everywhere (λ e before. ends_thread t e.what ≡ false) past
live s limit t st e past r k = go (some_or_all (λ e. ends_thread t e.what) past)
  where
    go : Somewhere (λ e before. ends_thread t e.what ≡ true) past ⊎ Everywhere (λ e before. ends_thread t e.what ≡ false) past →
        Everywhere (λ e before. ends_thread t e.what ≡ false) past
    go (inr h) = h
    go (inl h) =
        absurd (gone_not_ready (facts s t past) (doing_gone s limit t past r.1 h) (ready_thread s limit t st e past r.0 k))

-- ---- a thread that was never taken up has no frame

-- a thread that runs after an event was switched to by it or ran before
pub ran_on : (w : What) (r : Option ThreadNo) (t : ThreadNo) → running_after w r ≡ Some t → (switches_to t w ≡ true) ⊎ (r ≡ Some t)
ran_on (Switch u st) r t h = let same : u ≡ t = cc in inl (eq-eqb u.0 t.0 (ap (λ (v : ThreadNo). v.0) same))
ran_on (Gone u) r t h = cc
ran_on (Call f Yield Done) r t h = cc
ran_on (Call f c Blocked) r t h = cc
ran_on (Rewait f Blocked) r t h = cc
ran_on w r t h = inr h

-- a thread that runs on a processor was switched to by some event
run_switched : (p : CpuNo) (t : ThreadNo) (past : List Event) → running p past ≡ Some t → Everywhere (λ e before. switches_to t e.what ≡ false) past → ⊥
run_switched p t [] h k = cc
run_switched p t (e ∷ past) h k = go (is_of e p) h (λ q. run_switched p t past q k.1)
  where
    own : (switches_to t e.what ≡ true) ⊎ (running p past ≡ Some t) → (running p past ≡ Some t → ⊥) → ⊥
    own (inl q) ih = both_ways (switches_to t e.what) k.0 q
    own (inr q) ih = ih q

    go : (c : Bool) → (if c then running_after e.what (running p past) else running p past) ≡ Some t → (running p past ≡ Some t → ⊥) → ⊥
    go true q ih = own (ran_on e.what (running p past) t q) ih
    go false q ih = ih q

-- a thread that was never switched to has no frames on its part
none_switched : (s : Script) (limit : ℕ) (t : ThreadNo) (past : List Event) → IsRun s limit past → Everywhere (λ e before. switches_to t e.what ≡ false) past →
    part_of s t past ≡ []
none_switched s limit t [] r h = refl
none_switched s limit t (e ∷ past) r h = go (is_by e t) refl (none_switched s limit t past r.1 h.1)
  where
    made : IsMadeBy s t e past → ⊥
    made (inl k) =
        both_ways (switches_to t e.what) h.0 (ap (switches_to t) k.1 ∙ eq-eqb t.0 t.0 refl)
    made (inr k) = run_switched (cpu_of s t) t past k.1 h.1

    go : (b : Bool) → is_by e t ≡ b → part_of s t past ≡ [] → part_of s t (e ∷ past) ≡ []
    go true b ih = absurd (made (made_by s limit t e past r b))
    go false b ih = part_same s t e past b ∙ ih

-- ---- each open frame is among them

-- an event that begins an inner frame begins no base frame
inner_not_base : (s : Script) (w : What) (b : Body) → begun_inner s w ≡ Some b → is_base_body b ≡ true → ⊥
inner_not_base s (Begin (Apc a) from) (OnBase t) h k = cc
inner_not_base s (Flush a from) (OnBase t) h k = go (rundown_of s a) h
  where
    go : (o : Option RoutineNo) → option_map (λ r. OnRundown a) o ≡ Some (OnBase t) → ⊥
    go None h = cc
    go (Some r) h = cc
inner_not_base s w (OnBase t) h k = cc
inner_not_base s w b h k = cc

-- a base frame, or one of another name, is still listed after a frame ends on a thread
has_end : (n m : ℕ) (b : Body) (fs : List Frame) → (is_base_body b ≡ true) ⊎ ((m == n) ≡ false) → HasFrame n b fs → HasFrame n b (end_on_thread m fs)
has_end n m b [] d h = h
has_end n m b (f ∷ fs) d h = go (f.name == m) (is_base_body f.body) refl refl d h
  where
    go : (c i : Bool) → (f.name == m) ≡ c → is_base_body f.body ≡ i → (is_base_body b ≡ true) ⊎ ((m == n) ≡ false) → HasFrame n b (f ∷ fs) →
        HasFrame n b (if c then (if i then (ended_base f ∷ fs) else fs) else (f ∷ fs))
    go false i q x d h = h
    go true true q x d h = h
    go true false q x d (inr h) = h
    go true false q x (inl d) (inl h) =
        absurd (both_ways (is_base_body b) (sym (ap is_base_body h.1) ∙ x) d)
    go true false q x (inr d) (inl h) = absurd (both_ways (m == n) d (eq-eqb m n (sym (eqb-true f.name m q) ∙ h.0)))

abbrev is_gone_of : What → Bool
is_gone_of (Gone t) = true
is_gone_of w = false

-- a frame of a thread's part is still there after an event of the thread that neither ends it nor is a Gone
part_stays : (s : Script) (n m : ℕ) (b : Body) (due : Option ℕ) (w : What) (fs : List Frame) → is_gone_of w ≡ false → (is_base_body b ≡ true) ⊎
    (ends_frame n w ≡ false) → HasFrame n b fs → HasFrame n b (thread_after s m due w fs)
part_stays s n m b due (Switch t st) [] g d h = absurd h
part_stays s n m b due (Switch t st) (f ∷ fs) g d (inl h) =
    inl ((keep_resumed st).name f ∙ h.0, (keep_resumed st).body f ∙ h.1)
part_stays s n m b due (Switch t st) (f ∷ fs) g d (inr h) = inr h
part_stays s n m b due (Begin (Apc a) from) fs g d h = inr h
part_stays s n m b due (Flush a from) fs g d h = go (rundown_of s a)
  where
    go : (o : Option RoutineNo) → HasFrame n b (flushed m a o fs)
    go None = h
    go (Some r) = inr h
part_stays s n m b due (Call f c y) fs g d h = has_at_name n f b (called due c y) fs (keep_called due c y) h
part_stays s n m b due (Rewait f y) fs g d h = has_at_name n f b (rewaited y) fs (keep_rewaited y) h
part_stays s n m b due (Normal f) fs g d h = has_at_name n f b normal_of fs keep_normal h
part_stays s n m b due (Free f k) fs g d h = has_at_name n f b freed fs keep_freed h
part_stays s n m b due (End f) fs g d h = has_end n f b fs d h
part_stays s n m b due (Gone t) fs g d h = cc
part_stays s n m b due w fs g d h = h

-- a Switch to a thread with no frames begins its base frame
base_new : (s : Script) (t : ThreadNo) (n : ℕ) (due : Option ℕ) (w : What) (fs : List Frame) → switches_to t w ≡ true → fs ≡ [] →
    HasFrame n (OnBase t) (thread_after s n due w fs)
base_new s t n due (Switch u st) [] h k = inl (refl, ap (λ (m : ℕ). OnBase (record { 0 = m })) (eqb-true u.0 t.0 h))
base_new s t n due (Switch u st) (f ∷ fs) h k = cc
base_new s t n due w fs h k = cc

-- a frame that an event begins on a thread's part is there after the event
inner_new : (s : Script) (n : ℕ) (b : Body) (due : Option ℕ) (w : What) (fs : List Frame) → begun_inner s w ≡ Some b → HasFrame n b (thread_after s n due w fs)
inner_new s n b due (Begin (Apc a) from) fs h = let same : OnApc a (kind_of s a) ≡ b = cc in inl (refl, same)
inner_new s n b due (Flush a from) fs h = go (rundown_of s a) h
  where
    go : (o : Option RoutineNo) → option_map (λ r. OnRundown a) o ≡ Some b → HasFrame n b (flushed n a o fs)
    go None k = cc
    go (Some r) k = let same : OnRundown a ≡ b = cc in inl (refl, same)
inner_new s n b due w fs h = cc

-- at its Gone a thread has its base frame alone
alone : (t : ThreadNo) (f : Frame) (fs : List Frame) → head_of fs ≡ Some f → f.leaving ≡ true → HasBase t fs → (fs ≡ f ∷ []) × (f.body ≡ OnBase t)
alone t f [] h l b = absurd b
alone t f (g ∷ []) h l b =
    let same : g ≡ f = cc in (ap (λ (x : Frame). x ∷ []) same, ap (λ (x : Frame). x.body) (sym same) ∙ b)
alone t f (g ∷ (x ∷ fs)) h l b =
    let same : g ≡ f = cc in
    absurd (both_ways f.leaving (ap (λ (x : Frame). x.leaving) (sym same) ∙ b.0.1) l)

-- a thread that is gone by an event had only its base frame just before
gone_alone : (s : Script) (limit : ℕ) (t u : ThreadNo) (e : Event) (past : List Event) → IsRun s limit (e ∷ past) → is_by e t ≡ true → e.what ≡ Gone u →
    (f : Frame) × (part_of s t past ≡ f ∷ []) × (f.body ≡ OnBase t)
gone_alone s limit t u e past r b k =
    let g = goner s limit u e past r k in
    let field : Some u ≡ Some t = sym g.0 ∙ same_thread e.thread t b in
    let same : u ≡ t = cc in
    let run : running e.cpu past ≡ Some t = g.1.thread ∙ field in
    let null = leaving_null s e.cpu past g.1.frame g.1.goes_on.inner g.1.leaving in
    let head = part_head (frames_of s e.cpu past) g.1.frame g.1.goes_on.inner null in
    let based = running_has_base s limit e.cpu t past r.1 run in
    let one = alone t g.1.frame (thread_part (frames_of s e.cpu past)) head g.1.leaving based.2 in
    let part : thread_part (frames_of s e.cpu past) ≡ part_of s t past = part_of_running s e.cpu t past based.1 run
    ∙ ap (λ (q : CpuNo). thread_frames s q t past) (same_cpu e (cpu_of s t) (named_cpu s limit t e past r b)) in
    (g.1.frame, sym part ∙ one.0, one.1)

-- a Switch to a thread in a run is made by that thread
switch_by : (s : Script) (limit : ℕ) (t : ThreadNo) (e : Event) (past : List Event) (w : What) → IsLegal s limit e past → e.what ≡ w → switches_to t w ≡ true →
    is_by e t ≡ true
switch_by s limit t e past (Switch u st) g k h =
    ap (λ (o : Option ThreadNo). is_thread o t) (thread_named s limit e past g ∙ ap (λ (w : What). thread_field w (running e.cpu past)) k) ∙ h
switch_by s limit t e past w g k h = cc

-- in a run each open frame of a thread is on the thread's part
pub part_has : (s : Script) (limit : ℕ) (t : ThreadNo) (n : ℕ) (b : Body) (past : List Event) → IsRun s limit past → IsOpenOn s t past n b →
    HasFrame n b (part_of s t past)
part_has s limit t n b [] r (inl h) = h.1
part_has s limit t n b [] r (inr h) = h.0
part_has s limit t n b (e ∷ past) r h = go (is_by e t) refl h (λ k. part_has s limit t n b past r.1 k)
  where
    Inner : Event → List Event → Type 0
    Inner x before = (is_by x t ≡ true) × (begun_inner s x.what ≡ Some b)

    -- it stays at an event of the thread
    stays_base : is_by e t ≡ true → b ≡ OnBase t → ends_thread t e.what ≡ false → HasFrame n b (part_of s t past) →
        HasFrame n b (thread_after s (length past) (due_of e.what (time past)) e.what (part_of s t past))
    stays_base i base d h = at_what e.what refl
      where
        at_what : (w : What) → e.what ≡ w → HasFrame n b (thread_after s (length past) (due_of e.what (time past)) w (part_of s t past))
        at_what (Gone u) k =
            let field : Some u ≡ Some t = sym (goner s limit u e past r k).0 ∙ same_thread e.thread t i in
            let same : u ≡ t = cc in
            absurd (both_ways (ends_thread t e.what) d (ap (ends_thread t) k ∙ eq-eqb u.0 t.0 (ap (λ (v : ThreadNo). v.0) same)))
        at_what w k = part_stays s n (length past) b (due_of e.what (time past)) w (part_of s t past) refl (inl (ap is_base_body base)) h

    stays_inner : is_by e t ≡ true → At Inner n past → ends_frame n e.what ≡ false → HasFrame n b (part_of s t past) →
        HasFrame n b (thread_after s (length past) (due_of e.what (time past)) e.what (part_of s t past))
    stays_inner i a d h = at_what e.what refl
      where
        only : (f : Frame) → f.body ≡ OnBase t → HasFrame n b (f ∷ []) → ⊥
        only f q (inr h) = h
        only f q (inl h) =
            at_never Inner n past (λ x before k. inner_not_base s x.what b k.1 (ap is_base_body (sym h.1 ∙ q))) a

        at_what : (w : What) → e.what ≡ w → HasFrame n b (thread_after s (length past) (due_of e.what (time past)) w (part_of s t past))
        at_what (Gone u) k =
            let one = gone_alone s limit t u e past r i k in
            absurd (only one.0 one.2 (subst (HasFrame n b) one.1 h))
        at_what w k = part_stays s n (length past) b (due_of e.what (time past)) w (part_of s t past) refl (inr (sym (ap (ends_frame n) k) ∙ d)) h

    mine : is_by e t ≡ true → IsOpenOn s t (e ∷ past) n b → (IsOpenOn s t past n b → HasFrame n b (part_of s t past)) →
        HasFrame n b (thread_after s (length past) (due_of e.what (time past)) e.what (part_of s t past))
    mine i (inl h) ih = base h.1
      where
        base : At (IsFirstSwitch t) n (e ∷ past) → HasFrame n b (thread_after s (length past) (due_of e.what (time past)) e.what (part_of s t past))
        base (inl a) =
            subst (λ (m : ℕ). HasFrame m b (thread_after s (length past) (due_of e.what (time past)) e.what (part_of s t past))) (sym a.0)
            (subst (λ (c : Body). HasFrame (length past) c (thread_after s (length past) (due_of e.what (time past)) e.what (part_of s t past))) (sym h.0)
            (base_new s t (length past) (due_of e.what (time past)) e.what (part_of s t past) a.1.0 (none_switched s limit t past r.1 a.1.1)))
        base (inr a) = stays_base i h.0 (h.2.0 (at_before (IsFirstSwitch t) n past a)) (ih (inl (h.0, a, h.2.1)))
    mine i (inr h) ih = inner h.0
      where
        inner : At Inner n (e ∷ past) → HasFrame n b (thread_after s (length past) (due_of e.what (time past)) e.what (part_of s t past))
        inner (inl a) =
            subst (λ (m : ℕ). HasFrame m b (thread_after s (length past) (due_of e.what (time past)) e.what (part_of s t past))) (sym a.0)
            (inner_new s (length past) b (due_of e.what (time past)) e.what (part_of s t past) a.1.1)
        inner (inr a) = stays_inner i a (h.1.0 (at_before Inner n past a)) (ih (inr (a, h.1.1)))

    other : is_by e t ≡ false → IsOpenOn s t (e ∷ past) n b → IsOpenOn s t past n b
    other i (inl h) = base h.1
      where
        base : At (IsFirstSwitch t) n (e ∷ past) → IsOpenOn s t past n b
        base (inl a) = absurd (both_ways (is_by e t) i (switch_by s limit t e past e.what r.0 refl a.1.0))
        base (inr a) = inl (h.0, a, h.2.1)
    other i (inr h) = inner h.0
      where
        inner : At Inner n (e ∷ past) → IsOpenOn s t past n b
        inner (inl a) = absurd (both_ways (is_by e t) i a.1.0)
        inner (inr a) = inr (a, h.1.1)

    go : (i : Bool) → is_by e t ≡ i → IsOpenOn s t (e ∷ past) n b → (IsOpenOn s t past n b → HasFrame n b (part_of s t past)) →
        HasFrame n b (part_of s t (e ∷ past))
    go true i h ih = subst (HasFrame n b) (sym (part_moves s limit t e past r i)) (mine i h ih)
    go false i h ih = subst (HasFrame n b) (sym (part_same s t e past i)) (ih (other i h))

-- ---- the first Switch to a thread

-- if some event switches to a thread, one event is the first to do so
first_switch : (t : ThreadNo) (past : List Event) → Somewhere (λ e before. switches_to t e.what ≡ true) past → (n : ℕ) × At (IsFirstSwitch t) n past
first_switch t [] h = absurd h
first_switch t (e ∷ past) h = go h (some_or_all (λ e. switches_to t e.what) past) (λ k. first_switch t past k)
  where
    go : Somewhere (λ e before. switches_to t e.what ≡ true) (e ∷ past) → Somewhere (λ e before. switches_to t e.what ≡ true) past ⊎
        Everywhere (λ e before. switches_to t e.what ≡ false) past →
        (Somewhere (λ e before. switches_to t e.what ≡ true) past → (n : ℕ) × At (IsFirstSwitch t) n past) → (n : ℕ) × At (IsFirstSwitch t) n (e ∷ past)
    go (inr k) d ih = let a = ih k in (a.0, inr a.1)
    go (inl k) (inl d) ih = let a = ih d in (a.0, inr a.1)
    go (inl k) (inr d) ih = (length past, inl (refl, (k, d)))

-- a thread that has no frame where it is taken up is taken up first
first_time : (s : Script) (limit : ℕ) (t : ThreadNo) (st : Option ℕ) (e : Event) (past : List Event) → IsRun s limit (e ∷ past) → e.what ≡ Switch t st →
    part_of s t past ≡ [] → Everywhere (λ e before. switches_to t e.what ≡ false) past
first_time s limit t st e past r k none = go (some_or_all (λ e. switches_to t e.what) past)
  where
    go : Somewhere (λ e before. switches_to t e.what ≡ true) past ⊎ Everywhere (λ e before. switches_to t e.what ≡ false) past →
        Everywhere (λ e before. switches_to t e.what ≡ false) past
    go (inr h) = h
    go (inl h) =
        let f = first_switch t past h in
        let open_base : IsOpenOn s t past f.0 (OnBase t) = inl
        (refl, f.1, everywhere_after (λ e before. ends_thread t e.what ≡ false) f.0 past (live s limit t st e past r k)) in
        absurd (subst (HasFrame f.0 (OnBase t)) none (part_has s limit t f.0 (OnBase t) past r.1 open_base))

-- ---- they are open

-- a frame that is open on a thread is still open after an event that ends neither it nor the thread
on_lift : (s : Script) (t : ThreadNo) (e : Event) (past : List Event) (n : ℕ) (b : Body) → ends_thread t e.what ≡ false →
    (IsOpenInner s t past n b → ends_frame n e.what ≡ false) → IsOpenOn s t past n b → IsOpenOn s t (e ∷ past) n b
on_lift s t e past n b g d (inl h) = inl (h.0, inr h.1, ((λ l. g), h.2))
on_lift s t e past n b g d (inr h) = inr (inr h.0, ((λ l. d h), h.1))

-- the End of another thread's frame
goes_on : (s : Script) (limit : ℕ) (t : ThreadNo) (e : Event) (past : List Event) (n : ℕ) (b : Body) (w : What) → IsRun s limit (e ∷ past) → is_by e t
    ≡ false → e.what ≡ w → IsOpenInner s t past n b → ends_frame n w ≡ false
goes_on s limit t e past n b (End g) r i k h = go (g == n) refl
  where
    by_it : (u : ThreadNo) → running e.cpu past ≡ Some u → u ≡ t → ⊥
    by_it u run same =
        let named : e.thread ≡ Some u = thread_named s limit e past r.0 ∙ (ap (λ (w : What). thread_field w (running e.cpu past)) k ∙ run) in
        both_ways (is_by e t) i (ap (λ (o : Option ThreadNo). is_thread o t) named ∙ eq-eqb u.0 t.0 (ap (λ (v : ThreadNo). v.0) same))

    begun : (u : ThreadNo) (c : Body) → running e.cpu past ≡ Some u → IsThreadBegin s u past n c → ⊥
    begun u c run (inl m) =
        at_both (λ x before. (is_by x t ≡ true) × (begun_inner s x.what ≡ Some b)) (λ x before. switches_to u x.what ≡ true) n past h.0 m.1
        (λ x before i j. inner_not_switch s u x.what b i.1 j)
    begun u c run (inr m) =
        at_both (λ x before. (is_by x t ≡ true) × (begun_inner s x.what ≡ Some b))
        (λ x before. (is_by x u ≡ true) × (begun_inner s x.what ≡ Some c)) n past h.0 m (λ x before i j. by_it u run (same x i.0 j.0))
      where
        same : (x : Event) → is_by x t ≡ true → is_by x u ≡ true → u ≡ t
        same x i j = let q : Some u ≡ Some t = sym (same_thread x.thread u j) ∙ same_thread x.thread t i in cc

    never : g ≡ n → IsEnder s e.cpu past g → ⊥
    never q (inl m) =
        let a = each_head (IsOwnBegin e.cpu past) g (own_frames e.cpu past) (own_begun e.cpu past) m in
        own_apart s e.cpu t past n a.0 b (subst (λ (m : ℕ). IsOwnBegin e.cpu past m a.0) q a.1) (inr h.0)
    never q (inr m) =
        let a = each_head (IsThreadBegin s m.1.0 past) g (thread_frames s e.cpu m.1.0 past) (thread_begun s limit e.cpu m.1.0 past r.1) m.1.2 in
        begun m.1.0 a.0 m.1.1 (subst (λ (m' : ℕ). IsThreadBegin s m.1.0 past m' a.0) q a.1)

    go : (c : Bool) → (g == n) ≡ c → c ≡ false
    go false q = refl
    go true q = absurd (never (eqb-true g n q) (ender s limit g e past r k))
goes_on s limit t e past n b w r i k h = refl

-- the End of the thread's own innermost frame
part_end : (s : Script) (t : ThreadNo) (e : Event) (past : List Event) (g : ℕ) (fs : List Frame) → e.what ≡ End g → NamesFall (length past) fs → Heads g fs →
    EachNamed (IsOpenOn s t past) fs → EachNamed (IsOpenOn s t (e ∷ past)) (end_on_thread g fs)
part_end s t e past g [] k f d h = tt
part_end s t e past g (x ∷ fs) k f d h =
    subst (λ (c : Bool). EachNamed (IsOpenOn s t (e ∷ past)) (if c then (if is_base_body x.body then (ended_base x ∷ fs) else fs) else (x ∷ fs)))
    (sym (eq-eqb x.name g name)) (go (is_base_body x.body) refl)
  where
    name : x.name ≡ g
    name = let rest : x ∷ fs ≡ d.0 ∷ d.1 = d.2 in let same : x ≡ d.0 = cc in ap (λ (y : Frame). y.name) same ∙ d.3

    differs : (m : ℕ) → m < g → (c : Bool) → (g == m) ≡ c → c ≡ false
    differs m l false q = refl
    differs m l true q = let z = eqb-true g m q in absurd (omega (arith, l, z))

    below : (m : ℕ) → m < x.name → m < g
    below m l = let z = name in omega (arith, l, z)

    rest : EachNamed (IsOpenOn s t (e ∷ past)) fs
    rest =
        each_map (λ m b. IsOpenOn s t past m b × (m < x.name)) (IsOpenOn s t (e ∷ past)) fs
        (λ m b q. on_lift s t e past m b (ap (ends_thread t) k) (λ i. ap (ends_frame m) k ∙ differs m (below m q.1) (g == m) refl) q.0)
        (each_below (IsOpenOn s t past) x.name fs f.1 h.1)

    go : (c : Bool) → is_base_body x.body ≡ c → EachNamed (IsOpenOn s t (e ∷ past)) (if c then (ended_base x ∷ fs) else fs)
    go false q = rest
    go true q = (
      on_lift s t e past x.name x.body (ap (ends_thread t) k)
          (λ i. absurd (at_never (λ y before. (is_by y t ≡ true) × (begun_inner s y.what ≡ Some x.body)) x.name past
          (λ y before j. inner_not_base s y.what x.body j.1 q) i.0)) h.0,
      rest,
    )

-- in a run each frame on a thread's part is open there
pub part_open : (s : Script) (limit : ℕ) (t : ThreadNo) (past : List Event) → IsRun s limit past → EachNamed (IsOpenOn s t past) (part_of s t past)
part_open s limit t [] r = tt
part_open s limit t (e ∷ past) r = go (is_by e t) refl (part_open s limit t past r.1)
  where
    ends : (g : ℕ) → is_by e t ≡ true → e.what ≡ End g → EachNamed (IsOpenOn s t past) (part_of s t past) →
        EachNamed (IsOpenOn s t (e ∷ past)) (end_on_thread g (part_of s t past))
    ends g i k h = by (ender s limit g e past r k)
      where
        here : e.cpu ≡ cpu_of s t
        here = same_cpu e (cpu_of s t) (named_cpu s limit t e past r i)

        by : IsEnder s e.cpu past g → EachNamed (IsOpenOn s t (e ∷ past)) (end_on_thread g (part_of s t past))
        by (inl m) =
            let a = each_head (IsOwnBegin e.cpu past) g (own_frames e.cpu past) (own_begun e.cpu past) m in
            each_end (IsOpenOn s t (e ∷ past)) g (part_of s t past)
            (each_map (IsOpenOn s t past) (IsOpenOn s t (e ∷ past)) (part_of s t past)
            (λ n b q. on_lift s t e past n b (ap (ends_thread t) k) (λ j. ap (ends_frame n) k ∙ differs n b a.0 a.1 j (g == n) refl) q) h)
          where
            differs : (n : ℕ) (b c : Body) → IsOwnBegin e.cpu past g c → IsOpenInner s t past n b → (d : Bool) → (g == n) ≡ d → d ≡ false
            differs n b c x j false q = refl
            differs n b c x j true q =
                absurd (own_apart s e.cpu t past n c b (subst (λ (m : ℕ). IsOwnBegin e.cpu past m c) (eqb-true g n q) x) (inr j.0))
        by (inr m) =
            let named : Some m.1.0 ≡ Some t = sym m.1.1 ∙
            (sym (thread_named s limit e past r.0 ∙ ap (λ (w : What). thread_field w (running e.cpu past)) k) ∙ same_thread e.thread t i) in
            let same : m.1.0 ≡ t = cc in
            let heads : Heads g (part_of s t past) = subst (λ (q : CpuNo). Heads g (thread_frames s q t past)) here
            (subst (λ (u : ThreadNo). Heads g (thread_frames s e.cpu u past)) same m.1.2) in
            part_end s t e past g (part_of s t past) k (thread_falls s (cpu_of s t) t past) heads h

    mine : (w : What) → is_by e t ≡ true → e.what ≡ w → EachNamed (IsOpenOn s t past) (part_of s t past) →
        EachNamed (IsOpenOn s t (e ∷ past)) (thread_after s (length past) (due_of e.what (time past)) w (part_of s t past))
    mine (End g) i k h = ends g i k h
    mine (Gone u) i k h = tt
    mine w i k h =
        thread_after_each (IsOpenOn s t (e ∷ past)) s (length past) (due_of e.what (time past)) w (part_of s t past) base
        (λ b q. inr (
          inl (refl, (i, ap (begun_inner s) k ∙ q)),
          (λ l. absurd (omega (arith, l)), none_after (λ e before. ends_frame (length past) e.what ≡ false) (length past) past (omega arith)),
        ))
        (each_map (IsOpenOn s t past) (IsOpenOn s t (e ∷ past)) (part_of s t past)
        (λ n b q. on_lift s t e past n b (ap (ends_thread t) k) (λ j. ap (ends_frame n) k) q) h)
      where
        base : (u : ThreadNo) (st : Option ℕ) → w ≡ Switch u st → part_of s t past ≡ [] → IsOpenOn s t (e ∷ past) (length past) (OnBase u)
        base u st q none =
            let same : u ≡ t = switch_self s limit t u st e past r.0 i (k ∙ q) in
            let to_it : e.what ≡ Switch t st = k ∙ (q ∙ ap (λ (v : ThreadNo). Switch v st) same) in
            inl (
              ap (λ (v : ThreadNo). OnBase v) same,
              inl
                  (refl, (ap (switches_to t) to_it ∙ eq-eqb t.0 t.0 refl, first_time s limit t st e past r to_it none)),
              (λ l. absurd (omega (arith, l)), none_after (λ e before. ends_thread t e.what ≡ false) (length past) past (omega arith)),
            )

    go : (c : Bool) → is_by e t ≡ c → EachNamed (IsOpenOn s t past) (part_of s t past) → EachNamed (IsOpenOn s t (e ∷ past)) (part_of s t (e ∷ past))
    go true i h = subst (EachNamed (IsOpenOn s t (e ∷ past))) (sym (part_moves s limit t e past r i)) (mine e.what i refl h)
    go false i h =
        subst (EachNamed (IsOpenOn s t (e ∷ past))) (sym (part_same s t e past i))
        (each_map (IsOpenOn s t past) (IsOpenOn s t (e ∷ past)) (part_of s t past)
        (λ n b q. on_lift s t e past n b (lives s limit t e past e.what r i refl) (λ j. goes_on s limit t e past n b e.what r i refl j) q) h)

-- in a run the frames on a thread's part are exactly the open ones, the greatest number first
pub thread_lists : (s : Script) (limit : ℕ) (t : ThreadNo) (past : List Event) → IsRun s limit past → Lists (IsOpenOn s t past) (length past) (part_of s t past)
thread_lists s limit t past r =
    record { each = part_open s limit t past r; all = λ n b h. part_has s limit t n b past r h; falls = thread_falls s (cpu_of s t) t past }
