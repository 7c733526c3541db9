-- In a run, the thread that runs on a processor is one of its own, and has its base frame.
use Rattle.std.proofs.Common.{ap, inl, inr, subst, sym, ◌∙◌}
use Rattle.std.proofs.lemmas.Bool.{eq-eqb, eqb-true, ltb-true}
use Rattle.std.specs.Option.{option_map_or}
use Rattle.std.specs.Prelude.{Bool, List, None, Option, Some, [], false, if◌then◌else◌, length, refl, true, ℕ, ◌==◌, ◌∷◌, ◌≡◌, ◌⊎◌}
use Rattle.nt_event.specs.declared.commands.Command.{Command}
use Rattle.nt_event.specs.declared.commands.Command.TheVariants.{Delay, Raise, StartWait, Yield}
use Rattle.nt_event.specs.declared.commands.Reply.{Reply}
use Rattle.nt_event.specs.declared.commands.Reply.TheVariants.{Blocked, Done}
use Rattle.nt_event.specs.declared.events.Begun.TheVariants.{Apc}
use Rattle.nt_event.specs.declared.events.Event.{Event}
use Rattle.nt_event.specs.declared.events.Turn.TheVariants.{Switch as SwitchTurn}
use Rattle.nt_event.specs.declared.events.What.{What}
use Rattle.nt_event.specs.declared.events.What.TheVariants.{Begin, Call, End, Flush, Free, Gone, Look, Normal, Rewait, Switch}
use Rattle.nt_event.specs.declared.frames.Body.{Body}
use Rattle.nt_event.specs.declared.frames.Body.TheVariants.{Apc as OnApc, Rundown as OnRundown}
use Rattle.nt_event.specs.Frame.{Frame}
use Rattle.nt_event.specs.declared.numbers.ApcNo.{ApcNo}
use Rattle.nt_event.specs.declared.numbers.CpuNo.{CpuNo}
use Rattle.nt_event.specs.declared.numbers.RoutineNo.{RoutineNo}
use Rattle.nt_event.specs.declared.numbers.ThreadNo.{ThreadNo}
use Rattle.nt_event.specs.declared.scripts.Script.{Script}
use Rattle.nt_event.specs.Frames.{at_name, called, done_to, due_of, end_on_thread, ended_base, ended_on_thread, flushed, frames_in, frames_of, freed}
use Rattle.nt_event.specs.Frames.{is_base_body, new_frame, normal_of, resumed, rewaited, running, running_after, switched_to, thread_after, thread_frames}
use Rattle.nt_event.specs.Frames.{thread_if, thread_part, time}
use Rattle.nt_runs.specs.Laws.{HasBase, IsInner}
use Rattle.nt_event.specs.Routines.{cpu_of, kind_of, rundown_of}
use Rattle.nt_event.specs.Script.{has_thread}
use Rattle.nt_event.specs.Step.{IsLegal, IsRun, step, thread_field, turn_at}
use Rattle.nt_event.specs.Numbers.{is_by, is_of, is_thread, thread}
use Rattle.nt_event.proofs.Options.{both}
use Rattle.nt_runs.proofs.Steps.{Gives, step_gives, switch_gives}
use Rattle.nt_event.proofs.Tables.{get_or-table}

-- ---- what an event leaves of a thread's frames

-- a change of a frame that keeps what runs in it, and whether its thread is leaving
pub record Keeps (g : Frame → Frame) : Type 0 where
  pub body : (f : Frame) → (g f).body ≡ f.body
  pub leaving : (f : Frame) → (g f).leaving ≡ f.leaving

-- doing a command leaves what runs in its frame as it was
pub done_body : (c : Command) (f : Frame) → (done_to c f).body ≡ f.body
done_body (Raise l) f = refl
done_body c f = refl

-- doing a command keeps a frame's leaving mark
done_leaving : (c : Command) (f : Frame) → (done_to c f).leaving ≡ f.leaving
done_leaving (Raise l) f = refl
done_leaving c f = refl

-- a call leaves what runs in its frame as it was
pub called_body : (due : Option ℕ) (c : Command) (y : Reply) (f : Frame) → (called due c y f).body ≡ f.body
called_body due (StartWait m a) y f = refl
called_body due (Delay m a u) y f = refl
called_body due c Done f = done_body c f
called_body due c y f = refl

-- a call doesn't change whether its frame is leaving
pub called_leaving : (due : Option ℕ) (c : Command) (y : Reply) (f : Frame) → (called due c y f).leaving ≡ f.leaving
called_leaving due (StartWait m a) y f = refl
called_leaving due (Delay m a u) y f = refl
called_leaving due c Done f = done_leaving c f
called_leaving due c y f = refl

-- a call keeps what runs in a frame and whether its thread is leaving
pub called_keeps : (due : Option ℕ) (c : Command) (y : Reply) → Keeps (called due c y)
called_keeps due c y = record { body = called_body due c y; leaving = called_leaving due c y }

-- taking up a wait again keeps what runs in a frame and whether its thread is leaving
pub rewaited_keeps : (y : Reply) → Keeps (rewaited y)
rewaited_keeps y = record { body = λ f. refl; leaving = λ f. refl }

-- the release of a lock keeps what runs in a frame and whether its thread is leaving
pub freed_keeps : Keeps freed
freed_keeps = record { body = λ f. refl; leaving = λ f. refl }

-- going on to the normal routine keeps what runs in a frame and whether its thread is leaving
pub normal_keeps : Keeps normal_of
normal_keeps = record { body = λ f. refl; leaving = λ f. refl }

-- the end of a wait keeps what runs in a frame and whether its thread is leaving
pub resumed_keeps : (st : Option ℕ) → Keeps (resumed st)
resumed_keeps None = record { body = λ f. refl; leaving = λ f. refl }
resumed_keeps (Some x) = record { body = λ f. refl; leaving = λ f. refl }

-- the innermost frame may be changed so
head_based : (t : ThreadNo) (g : Frame → Frame) (f : Frame) (fs : List Frame) → Keeps g → HasBase t (f ∷ fs) → HasBase t (g f ∷ fs)
head_based t g f [] k h = k.body f ∙ h
head_based t g f (x ∷ fs) k h = ((ap is_base_body (k.body f) ∙ h.0.0, k.leaving f ∙ h.0.1), h.1)

-- a change by name that keeps what runs in frames keeps a thread's base frame
named_based : (t : ThreadNo) (n : ℕ) (g : Frame → Frame) (fs : List Frame) → Keeps g → HasBase t fs → HasBase t (at_name n g fs)
named_based t n g [] k h = h
named_based t n g (f ∷ fs) k h = go (f.name == n)
  where
    go : (b : Bool) → HasBase t ((if b then g f else f) ∷ fs)
    go true = head_based t g f fs k h
    go false = h

-- a frame begins on a thread that has its base
begun_based : (t : ThreadNo) (f : Frame) (fs : List Frame) → IsInner f → HasBase t fs → HasBase t (f ∷ fs)
begun_based t f [] i h = absurd h
begun_based t f (g ∷ fs) i h = (i, h)

-- ending the innermost frame keeps a thread's base frame
ended_based : (t : ThreadNo) (fs : List Frame) → HasBase t fs → HasBase t (ended_on_thread fs)
ended_based t [] h = h
ended_based t (f ∷ []) h = subst (λ (b : Body). HasBase t (if is_base_body b then (ended_base f ∷ []) else [])) (sym h) h
ended_based t (f ∷ (g ∷ fs)) h =
    subst (λ (b : Bool). HasBase t (if b then (ended_base f ∷ g ∷ fs) else (g ∷ fs))) (sym h.0.0) h.1

-- ending the innermost frame by name keeps a thread's base frame
end_based : (t : ThreadNo) (n : ℕ) (fs : List Frame) → HasBase t fs → HasBase t (end_on_thread n fs)
end_based t n [] h = h
end_based t n (f ∷ fs) h = go (f.name == n)
  where
    go : (b : Bool) → HasBase t (if b then ended_on_thread (f ∷ fs) else (f ∷ fs))
    go true = ended_based t (f ∷ fs) h
    go false = h

-- a flushed APC keeps a thread's base frame
flushed_based : (t : ThreadNo) (n : ℕ) (a : ApcNo) (r : Option RoutineNo) (fs : List Frame) → HasBase t fs → HasBase t (flushed n a r fs)
flushed_based t n a None fs h = h
flushed_based t n a (Some r) fs h = begun_based t (new_frame n (OnRundown a)) fs (refl, refl) h

abbrev is_gone_event : What → Bool
is_gone_event (Gone t) = true
is_gone_event w = false

abbrev pub is_switch : What → Bool
is_switch (Switch t st) = true
is_switch w = false

-- an event that neither takes up a thread nor ends it leaves it its base
after_based : (t : ThreadNo) (s : Script) (n : ℕ) (due : Option ℕ) (w : What) (fs : List Frame) → is_switch w ≡ false → is_gone_event w ≡ false →
    HasBase t fs → HasBase t (thread_after s n due w fs)
after_based t s n due (Switch u st) fs a b h = cc
after_based t s n due (Gone u) fs a b h = cc
after_based t s n due (Begin (Apc x) from) fs a b h =
    begun_based t (new_frame n (OnApc x (kind_of s x))) fs (refl, refl) h
after_based t s n due (Flush x from) fs a b h = flushed_based t n x (rundown_of s x) fs h
after_based t s n due (Call f c y) fs a b h = named_based t f (called due c y) fs (called_keeps due c y) h
after_based t s n due (Rewait f y) fs a b h = named_based t f (rewaited y) fs (rewaited_keeps y) h
after_based t s n due (Normal f) fs a b h = named_based t f normal_of fs normal_keeps h
after_based t s n due (End f) fs a b h = end_based t f fs h
after_based t s n due (Free f k) fs a b h = named_based t f freed fs freed_keeps h
after_based t s n due w fs a b h = h

-- a thread that is taken up has its base
switched_based : (t : ThreadNo) (n : ℕ) (st : Option ℕ) (fs : List Frame) → (fs ≡ []) ⊎ HasBase t fs → HasBase t (switched_to n t st fs)
switched_based t n st [] h = refl
switched_based t n st (f ∷ fs) (inl e) = cc
switched_based t n st (f ∷ fs) (inr h) = head_based t (resumed st) f fs (resumed_keeps st) h

-- ---- the thread that an event names

-- an event names as its thread the one that its processor runs, or the one that it takes up
pub thread_named : (s : Script) (limit : ℕ) (e : Event) (past : List Event) → IsLegal s limit e past → e.thread ≡ thread_field e.what (running e.cpu past)
thread_named s limit e past h = sym (ap (λ (f : Event). f.thread) (step_gives s limit e past h))

-- an event but a Switch leaves the thread that ran, or none
pub kept : (w : What) (r : Option ThreadNo) (t : ThreadNo) → is_switch w ≡ false → running_after w r ≡ Some t → r ≡ Some t
kept (Switch u st) r t n h = cc
kept (Gone u) r t n h = cc
kept (Call f Yield Done) r t n h = cc
kept (Call f c Blocked) r t n h = cc
kept (Rewait f Blocked) r t n h = cc
kept w r t n h = h

-- a thread that a Switch takes is one of the processor's
pub taken : (s : Script) (limit : ℕ) (p : CpuNo) (t : ThreadNo) (past : List Event) (e : Event) → Gives (step s limit (SwitchTurn p t) past) e →
    (has_thread s t ≡ true) × ((cpu_of s t).0 ≡ p.0)
taken s limit p t past e h =
    let k = switch_gives s limit p t past e h in
    let a = both (has_thread s t) _ k.1 in
    let b = both ((cpu_of s t).0 == p.0) _ a.1 in
    (a.0, eqb-true (cpu_of s t).0 p.0 b.0)

abbrev Here : Script → CpuNo → ThreadNo → Type 0
Here s p t = (has_thread s t ≡ true) × ((cpu_of s t).0 ≡ p.0)

-- after an event of the processor, the running thread is a declared one of its own
here_by : (s : Script) (limit : ℕ) (p : CpuNo) (t : ThreadNo) (e : Event) (past : List Event) (w : What) → e.what ≡ w → is_of e p ≡ true →
    IsLegal s limit e past → (running p past ≡ Some t → Here s p t) → running_after w (running p past) ≡ Some t → Here s p t
here_by s limit p t e past (Switch u st) k own g ih h =
    let same : u ≡ t = cc in
    let here : e.cpu.0 ≡ p.0 = eqb-true e.cpu.0 p.0 own in
    let turn : Gives (step s limit (SwitchTurn e.cpu u) past) e = subst (λ (w : What). Gives (step s limit (turn_at e.cpu w) past) e) k g in
    let a = taken s limit e.cpu u past e turn in
    (rw (← same) a.0, rw (← same, ← here) a.1)
here_by s limit p t e past w k own g ih h = ih (kept w (running p past) t refl h)

-- after any legal event the running thread is a declared one of its own, if it was before
here_after : (s : Script) (limit : ℕ) (p : CpuNo) (t : ThreadNo) (e : Event) (past : List Event) (b : Bool) → is_of e p ≡ b → IsLegal s limit e past →
    (running p past ≡ Some t → Here s p t) → (if b then running_after e.what (running p past) else running p past) ≡ Some t → Here s p t
here_after s limit p t e past true k g ih x = here_by s limit p t e past e.what refl k g ih x
here_after s limit p t e past false k g ih x = ih x

-- in a run the thread that runs on a processor is declared and is one of the processor's own
pub running_here : (s : Script) (limit : ℕ) (p : CpuNo) (t : ThreadNo) (past : List Event) → IsRun s limit past → running p past ≡ Some t → Here s p t
running_here s limit p t [] r h = cc
running_here s limit p t (e ∷ past) r h =
    here_after s limit p t e past (is_of e p) refl r.0 (running_here s limit p t past r.1) h

-- ---- each thread has no frame or its base, and the running one has its base

pub record Based (s : Script) (p : CpuNo) (t : ThreadNo) (past : List Event) : Type 0 where
  pub or_none : (thread_frames s p t past ≡ []) ⊎ HasBase t (thread_frames s p t past)
  pub running : running p past ≡ Some t → HasBase t (thread_frames s p t past)

-- where a thread is the given one by the test, it is that one
pub same_thread : (o : Option ThreadNo) (t : ThreadNo) → is_thread o t ≡ true → o ≡ Some t
same_thread None t h = cc
same_thread (Some u) t h =
    let n : u.0 ≡ t.0 = eqb-true u.0 t.0 h in ap (λ (k : ℕ). Some (record { 0 = k })) n

-- a thread is itself by the test
pub not_itself : (t : ThreadNo) → is_thread (Some t) t ≡ false → ⊥
not_itself t h = let k : (t.0 == t.0) ≡ true = eq-eqb t.0 t.0 refl in cc

-- what an event of p leaves, where the event names the thread or doesn't
pub frames_when : (s : Script) (p : CpuNo) (t : ThreadNo) (e : Event) (past : List Event) (b : Bool) → is_of e p ≡ true → is_by e t ≡ b →
    thread_frames s p t (e ∷ past) ≡ thread_if b s (length past) (due_of e.what (time past)) e.what (thread_frames s p t past)
frames_when s p t e past b own k = rw (own, k) refl

-- the event names the thread: it takes it up, ends it, or was made while it ran
named_by : (s : Script) (p : CpuNo) (t : ThreadNo) (n : ℕ) (due : Option ℕ) (fs : List Frame) (r : Option ThreadNo) (w : What) → thread_field w r ≡ Some t →
    (fs ≡ []) ⊎ HasBase t fs → (r ≡ Some t → HasBase t fs) → ((thread_after s n due w fs ≡ []) ⊎ HasBase t (thread_after s n due w fs)) ×
    (running_after w r ≡ Some t → HasBase t (thread_after s n due w fs))
named_by s p t n due fs r (Switch u st) k or run =
    let same : t ≡ u = cc in
    let h : HasBase t (switched_to n u st fs) = subst (λ (v : ThreadNo). HasBase t (switched_to n v st fs)) same (switched_based t n st fs or) in
    (inr h, λ x. h)
named_by s p t n due fs r (Gone u) k or run = (inl refl, λ x. none x)
  where
    none : ◌≡◌ {A = Option ThreadNo} None (Some t) → ⊥
    none x = cc
named_by s p t n due fs r (Look rises) k or run = cc
named_by s p t n due fs r w k or run =
    let h : HasBase t (thread_after s n due w fs) = after_based t s n due w fs refl refl (run k) in (inr h, λ x. h)

-- the event doesn't name the thread: it doesn't take it up
pub unnamed_by : (s : Script) (limit : ℕ) (p : CpuNo) (t : ThreadNo) (e : Event) (past : List Event) (w : What) → e.what ≡ w → is_by e t ≡ false → is_of e p
    ≡ true → IsLegal s limit e past → running_after w (running p past) ≡ Some t → running p past ≡ Some t
unnamed_by s limit p t e past (Switch u st) k b own g x =
    let same : u ≡ t = cc in
    let named : e.thread ≡ Some u = thread_named s limit e past g ∙ ap (λ (w : What). thread_field w (running e.cpu past)) k in
    absurd (not_itself t (subst (λ (o : Option ThreadNo). is_thread o t ≡ false) (named ∙ ap (λ (v : ThreadNo). Some v) same) b))
unnamed_by s limit p t e past w k b own g x = kept w (running p past) t refl x

-- an event that is of a processor by the test has that processor
pub same_cpu : (e : Event) (p : CpuNo) → is_of e p ≡ true → e.cpu ≡ p
same_cpu e p h =
    let n : e.cpu.0 ≡ p.0 = eqb-true e.cpu.0 p.0 h in ap (λ (k : ℕ). record { 0 = k }) n

-- after an event of the processor, the running thread is the one that the event leaves
pub running_own : (p : CpuNo) (e : Event) (past : List Event) → is_of e p ≡ true → running p (e ∷ past) ≡ running_after e.what (running p past)
running_own p e past h = rw h

-- case: an event of the processor names the thread; it still has its base frame where it runs
based_named : (s : Script) (limit : ℕ) (p : CpuNo) (t : ThreadNo) (e : Event) (past : List Event) → is_of e p ≡ true → is_by e t ≡ true →
    IsLegal s limit e past → Based s p t past → Based s p t (e ∷ past)
based_named s limit p t e past own b g ih =
    let field : thread_field e.what (running p past) ≡ Some t = ap (λ (q : CpuNo). thread_field e.what (running q past)) (sym (same_cpu e p own))
    ∙ (sym (thread_named s limit e past g) ∙ same_thread e.thread t b) in
    let fs : List Frame = thread_frames s p t past in
    let k = named_by s p t (length past) (due_of e.what (time past)) fs (running p past) e.what field ih.or_none ih.running in
    let moved : thread_frames s p t (e ∷ past) ≡ thread_after s (length past) (due_of e.what (time past)) e.what fs = frames_when s p t e past true own b in
    record {
      or_none = subst (λ (gs : List Frame). (gs ≡ []) ⊎ HasBase t gs) (sym moved) k.0;
      running = λ x. subst (HasBase t) (sym moved) (k.1 (sym (running_own p e past own) ∙ x));
    }

-- case: an event of the processor names another thread; this one's base frame stays
based_unnamed : (s : Script) (limit : ℕ) (p : CpuNo) (t : ThreadNo) (e : Event) (past : List Event) → is_of e p ≡ true → is_by e t ≡ false →
    IsLegal s limit e past → Based s p t past → Based s p t (e ∷ past)
based_unnamed s limit p t e past own b g ih =
    let moved : thread_frames s p t (e ∷ past) ≡ thread_frames s p t past = frames_when s p t e past false own b in
    record {
      or_none = subst (λ (gs : List Frame). (gs ≡ []) ⊎ HasBase t gs) (sym moved) ih.or_none;
      running = λ x. subst (HasBase t) (sym moved) (ih.running (unnamed_by s limit p t e past e.what refl b own g (sym (running_own p e past own) ∙ x)));
    }

-- case: an event of another processor keeps the thread's base frame
based_other : (s : Script) (p : CpuNo) (t : ThreadNo) (e : Event) (past : List Event) → is_of e p ≡ false → Based s p t past → Based s p t (e ∷ past)
based_other s p t e past h ih =
    let moved : thread_frames s p t (e ∷ past) ≡ thread_frames s p t past = rw h in
    let ran : running p (e ∷ past) ≡ running p past = rw h in
    record {
      or_none = subst (λ (gs : List Frame). (gs ≡ []) ⊎ HasBase t gs) (sym moved) ih.or_none;
      running = λ x. subst (HasBase t) (sym moved) (ih.running (sym ran ∙ x));
    }

-- a legal event keeps a thread's base frame, whoever makes it and whichever thread it names
based_after : (s : Script) (limit : ℕ) (p : CpuNo) (t : ThreadNo) (e : Event) (past : List Event) (own by : Bool) → is_of e p ≡ own → is_by e t ≡ by →
    IsLegal s limit e past → Based s p t past → Based s p t (e ∷ past)
based_after s limit p t e past true true o b g ih = based_named s limit p t e past o b g ih
based_after s limit p t e past true false o b g ih = based_unnamed s limit p t e past o b g ih
based_after s limit p t e past false by o b g ih = based_other s p t e past o ih

-- in a run a thread has no frame or stands over its base frame, and if it runs it has its base
pub based : (s : Script) (limit : ℕ) (p : CpuNo) (t : ThreadNo) (past : List Event) → IsRun s limit past → Based s p t past
based s limit p t [] r = record { or_none = inl refl; running = λ x. none x }
  where
    none : ◌≡◌ {A = Option ThreadNo} None (Some t) → HasBase t []
    none x = cc
based s limit p t (e ∷ past) r =
    based_after s limit p t e past (is_of e p) (is_by e t) refl refl r.0 (based s limit p t past r.1)

-- ---- the running thread's part

-- the part of the running thread on a processor is that thread's own frames
pub part_of_running : (s : Script) (p : CpuNo) (t : ThreadNo) (past : List Event) → has_thread s t ≡ true → running p past ≡ Some t →
    thread_part (frames_of s p past) ≡ thread_frames s p t past
part_of_running s p t past h r =
    ap (λ (o : Option ThreadNo). option_map_or (frames_in (frames_of s p past).threads) o []) r
    ∙ get_or-table (length s.threads) t.0 (λ k. thread_frames s p (thread k) past) [] (ltb-true t.0 (length s.threads) h)

-- in a run the running thread is a declared one of the processor, and its part stands over its base
pub running_has_base : (s : Script) (limit : ℕ) (p : CpuNo) (t : ThreadNo) (past : List Event) → IsRun s limit past → running p past ≡ Some t →
    ((cpu_of s t).0 ≡ p.0) × (has_thread s t ≡ true) × HasBase t (thread_part (frames_of s p past))
running_has_base s limit p t past r h =
    let here = running_here s limit p t past r h in
    (here.1, here.0, subst (HasBase t) (sym (part_of_running s p t past here.0 h)) ((based s limit p t past r).running h))

-- the running thread is the processor's own
pub own_runs : (s : Script) (limit : ℕ) (p : CpuNo) (past : List Event) → IsRun s limit past → (t : ThreadNo) → running p past ≡ Some t → (cpu_of s t).0 ≡ p.0
own_runs s limit p past r t h = (running_here s limit p t past r h).1
