-- In a run a thread's facts say that it is leaving exactly where its base frame does.
pub mod Facts
use Rattle.std.proofs.Common.{ap, subst, sym, ◌∙◌}
use Rattle.std.proofs.lemmas.Bool.{both_ways, eq-eqb, eqb-true}
use Rattle.std.specs.Option.{option_or}
use Rattle.std.specs.Prelude.{Bool, List, None, Option, Some, [], false, if◌then◌else◌, is_some, length, option_map, refl, true, ℕ, ◌&&◌, ◌==◌, ◌∷◌, ◌≡◌}
use Rattle.nt_event.specs.declared.commands.ApcKind.{ApcKind}
use Rattle.nt_event.specs.declared.commands.ApcKind.TheVariants.{User as UserApc}
use Rattle.nt_event.specs.declared.commands.Command.TheVariants.{Alert, Delay, InsertApc, Release, RemoveApc, StartWait, TestAlert, Yield}
use Rattle.nt_event.specs.declared.commands.Mode.{Mode}
use Rattle.nt_event.specs.declared.commands.Mode.TheVariants.{Kernel as KernelMode, User as UserMode}
use Rattle.nt_event.specs.declared.commands.Regions.{Regions}
use Rattle.nt_event.specs.declared.commands.Reply.{Reply}
use Rattle.nt_event.specs.declared.commands.Reply.TheVariants.{Blocked, Done, Status, Yes}
use Rattle.nt_event.specs.declared.commands.TimerKey.TheVariants.{Delay as OfDelay}
use Rattle.nt_event.specs.declared.events.Begun.TheVariants.{Apc, Dpc, Int, Threaded}
use Rattle.nt_event.specs.declared.events.Event.{Event}
use Rattle.nt_event.specs.declared.events.What.{What}
use Rattle.nt_event.specs.declared.events.What.TheVariants.{Begin, Call, End, Expire, Flush, Free, Gone, Look, Normal, Rewait, Switch}
use Rattle.nt_event.specs.declared.frames.Again.{Again}
use Rattle.nt_event.specs.declared.frames.Body.{Body}
use Rattle.nt_event.specs.declared.frames.Body.TheVariants.{Apc as OnApc, Base as OnBase, Rundown as OnRundown}
use Rattle.nt_event.specs.Frame.{Frame}
use Rattle.nt_event.specs.declared.inserts.Pick.{Pick}
use Rattle.nt_event.specs.declared.jobs.Stand.{Stand}
use Rattle.nt_event.specs.declared.numbers.ApcNo.{ApcNo}
use Rattle.nt_event.specs.declared.numbers.CpuNo.{CpuNo}
use Rattle.nt_event.specs.declared.numbers.RoutineNo.{RoutineNo}
use Rattle.nt_event.specs.declared.numbers.ThreadNo.{ThreadNo}
use Rattle.nt_event.specs.declared.scripts.Script.{Script}
use Rattle.nt_event.specs.Apcs.{has_user, with_apc, without_apc}
use Rattle.nt_event.specs.Frames.{at_name, called, due_of, end_on_thread, ended_on_thread, flushed, freed, is_base_body, new_frame, normal_of, resumed}
use Rattle.nt_event.specs.Frames.{rewaited, running, switched_to, thread_after, thread_frames, thread_part, time}
use Rattle.nt_event.specs.Lanes.{Lanes, lanes_at}
use Rattle.nt_runs.specs.Laws.{HasBase}
use Rattle.nt_event.specs.Own.{Own, own_of, stand_in}
use Rattle.nt_event.specs.Regions.{stand_at}
use Rattle.nt_event.specs.Routines.{cpu_of, is_kernel_kind, kind_of, owner_of, rundown_of}
use Rattle.nt_event.specs.Step.{IsLegal, IsRun}
use Rattle.nt_event.specs.Threads.{ThreadFacts, ended, ends_by_alert, ends_by_apc, ends_by_expiry, ends_by_release, is_alerted, is_gone, set_alerted}
use Rattle.nt_event.specs.Waits.{alert_facts, alert_taken, alert_tested, answered, apc_taken, expiry_facts, facts, frame_ended, insert_facts, is_of_thread}
use Rattle.nt_event.specs.Waits.{made_facts, named_facts, new_pick, release_facts, waited, waited_again}
use Rattle.nt_event.specs.Replies.{alerted, is_answer, is_user, kernel_apc, satisfied, user_apc}
use Rattle.nt_event.specs.Lists.{head_of, is_null}
use Rattle.nt_event.specs.Numbers.{is_by, is_of}
use Rattle.nt_runs.proofs.Calm.{ran}
use Rattle.nt_runs.proofs.Facts.{facts_made, named_here}
use Rattle.nt_runs.proofs.Known.{Known, KnownEnd, legal_known}
use Rattle.nt_runs.proofs.Names.{Apart, Named, NotAmong, all_named}
use Rattle.nt_runs.proofs.OwnPart.{AllOwn, all_own, is_own_body}
use Rattle.nt_runs.proofs.Running.{Keeps, based, called_keeps, frames_when, freed_keeps, normal_keeps, part_of_running, resumed_keeps, rewaited_keeps}
use Rattle.nt_runs.proofs.Running.{running_here, same_cpu}
use Rattle.nt_runs.proofs.Shared.{part_head}
use Rattle.nt_runs.proofs.Turns.{is_next}
use Rattle.nt_runs.proofs.Leaving.Facts.{facts_made_so, facts_named, is_end, tested_leaving}

abbrev pub base_leaving : List Frame → Bool
base_leaving [] = false
base_leaving (f ∷ []) = f.leaving
base_leaving (f ∷ (g ∷ fs)) = base_leaving (g ∷ fs)

-- ---- frames

-- a change of the innermost frame that keeps its leaving mark keeps the mark of the base frame
head_leaving : (g : Frame → Frame) (f : Frame) (fs : List Frame) → (g f).leaving ≡ f.leaving → base_leaving (g f ∷ fs) ≡ base_leaving (f ∷ fs)
head_leaving g f [] k = k
head_leaving g f (x ∷ fs) k = refl

-- a change by name that keeps leaving marks keeps the mark of the base frame
named_leaving : (n : ℕ) (g : Frame → Frame) (fs : List Frame) → Keeps g → base_leaving (at_name n g fs) ≡ base_leaving fs
named_leaving n g [] k = refl
named_leaving n g (f ∷ fs) k = go (f.name == n)
  where
    go : (b : Bool) → base_leaving ((if b then g f else f) ∷ fs) ≡ base_leaving (f ∷ fs)
    go true = head_leaving g f fs (k.leaving f)
    go false = refl

-- a frame put on a thread with a base frame leaves the mark of the base frame
pushed_leaving : (t : ThreadNo) (f : Frame) (fs : List Frame) → HasBase t fs → base_leaving (f ∷ fs) ≡ base_leaving fs
pushed_leaving t f [] h = absurd h
pushed_leaving t f (g ∷ fs) h = refl

-- a flushed APC leaves the leaving mark of the base frame
flushed_leaving : (t : ThreadNo) (n : ℕ) (a : ApcNo) (o : Option RoutineNo) (fs : List Frame) → HasBase t fs → base_leaving (flushed n a o fs) ≡ base_leaving fs
flushed_leaving t n a None fs h = refl
flushed_leaving t n a (Some r) fs h = pushed_leaving t (new_frame n (OnRundown a)) fs h

-- a switch to a thread leaves the leaving mark of its base frame
switched_leaving : (n : ℕ) (t : ThreadNo) (st : Option ℕ) (fs : List Frame) → base_leaving (switched_to n t st fs) ≡ base_leaving fs
switched_leaving n t st [] = refl
switched_leaving n t st (f ∷ fs) = head_leaving (resumed st) f fs ((resumed_keeps st).leaving f)

-- ---- a frame's end

-- the innermost frame of the thread's part ends: a base frame leaves
end_leaving : (t : ThreadNo) (n : ℕ) (f : Frame) (fs : List Frame) (x : ThreadFacts) → head_of fs ≡ Some f → n ≡ f.name → HasBase t fs → x.leaving
    ≡ base_leaving fs → (frame_ended (Some f.body) x).leaving ≡ base_leaving (end_on_thread n fs)
end_leaving t n f [] x h e b l = cc
end_leaving t n f (g ∷ []) x h e b l =
    let same : g ≡ f = cc in
    let named : (g.name == n) ≡ true = eq-eqb g.name n (ap (λ (z : Frame). z.name) same ∙ sym e) in
    let body : f.body ≡ OnBase t = ap (λ (z : Frame). z.body) (sym same) ∙ b in
    let base : is_base_body g.body ≡ true = ap is_base_body b in
    let here : (frame_ended (Some f.body) x).leaving ≡ true = ap (λ (c : Body). (frame_ended (Some c) x).leaving) body in
    rw (named, base) here
end_leaving t n f (g ∷ (z ∷ fs)) x h e b l =
    let same : g ≡ f = cc in
    let named : (g.name == n) ≡ true = eq-eqb g.name n (ap (λ (z : Frame). z.name) same ∙ sym e) in
    let inner : is_base_body f.body ≡ false = ap (λ (z : Frame). is_base_body z.body) (sym same) ∙ b.0.0 in
    rw (named, b.0.0) (other f.body inner ∙ l)
  where
    other : (c : Body) → is_base_body c ≡ false → (frame_ended (Some c) x).leaving ≡ x.leaving
    other (OnBase u) k = cc
    other (OnApc a UserApc) k = tested_leaving UserMode x
    other c k = refl

-- a frame of the own part ends
own_end_leaving : (b : Body) (x : ThreadFacts) → is_own_body b ≡ true → (frame_ended (Some b) x).leaving ≡ x.leaving
own_end_leaving (OnBase t) x h = cc
own_end_leaving (OnApc a k) x h = cc
own_end_leaving b x h = refl

-- the end of a frame leaves a thread's frames as they were where none has its name
pub end_elsewhere : (n : ℕ) (fs : List Frame) → NotAmong n fs → end_on_thread n fs ≡ fs
end_elsewhere n [] h = refl
end_elsewhere n (f ∷ fs) h = go (f.name == n) refl
  where
    go : (b : Bool) → (f.name == n) ≡ b → (if b then ended_on_thread (f ∷ fs) else (f ∷ fs)) ≡ (f ∷ fs)
    go true e = absurd (h.0 (eqb-true f.name n e))
    go false e = refl

-- a known end
known_end : (s : Script) (p : CpuNo) (o : Own) (t : ThreadNo) (m n : ℕ) (fs : List Frame) (x : ThreadFacts) → KnownEnd s p o n → AllOwn o.frames.own →
    Named m o.frames.own fs → thread_part o.frames ≡ fs → HasBase t fs → x.leaving ≡ base_leaving fs → (frame_ended (stand_in p o).body x).leaving
    ≡ base_leaving (end_on_thread n fs)
known_end s p o t m n fs x k own d e b l = go o.frames.own refl own d.apart
  where
    body : (stand_in p o).body ≡ Some k.frame.body
    body = ap (λ (q : Option Frame). option_map (λ f. f.body) q) k.goes_on.inner

    go : (gs : List Frame) → o.frames.own ≡ gs → AllOwn gs → Apart gs fs → (frame_ended (stand_in p o).body x).leaving ≡ base_leaving (end_on_thread n fs)
    go [] q a c =
        let null : is_null o.frames.own ≡ true = ap (λ (gs : List Frame). is_null gs) q in
        let first : head_of fs ≡ Some k.frame = ap (λ (hs : List Frame). head_of hs) (sym e) ∙ part_head o.frames k.frame k.goes_on.inner null in
        ap (λ (z : Option Body). (frame_ended z x).leaving) body ∙ end_leaving t n k.frame fs x first k.name b l
    go (g ∷ gs) q a c =
        let first : option_or (head_of (g ∷ gs)) (head_of (thread_part o.frames))
        ≡ Some k.frame = subst (λ (gs : List Frame). option_or (head_of gs) (head_of (thread_part o.frames)) ≡ Some k.frame) q k.goes_on.inner in
        let same : g ≡ k.frame = cc in
        let name : g.name ≡ n = ap (λ (z : Frame). z.name) same ∙ sym k.name in
        let mine : is_own_body k.frame.body ≡ true = ap (λ (z : Frame). is_own_body z.body) (sym same) ∙ a.0.0 in
        let kept : end_on_thread n fs ≡ fs = end_elsewhere n fs (subst (λ (j : ℕ). NotAmong j fs) name c.0) in
        ap (λ (z : Option Body). (frame_ended z x).leaving) body ∙ (own_end_leaving k.frame.body x mine ∙ (l ∙ ap base_leaving (sym kept)))

-- ---- in a run

abbrev pub LeavesAs : Script → ThreadNo → List Event → Type 0
LeavesAs s t past = (facts s t past).leaving ≡ base_leaving (thread_frames s (cpu_of s t) t past)

-- what a known event leaves of the facts and the frames of the running thread
made_leaves : (s : Script) (p : CpuNo) (o : Own) (l : Lanes) (t : ThreadNo) (m n : ℕ) (due : Option ℕ) (w : What) (fs : List Frame) (x : ThreadFacts) →
    Known s p o l w → AllOwn o.frames.own → Named m o.frames.own fs → thread_part o.frames ≡ fs → HasBase t fs → x.leaving ≡ base_leaving fs →
    (made_facts s n (stand_in p o) w x).leaving ≡ base_leaving (thread_after s n due w fs)
made_leaves s p o l t m n due (Begin (Apc a) from) fs x k own d e b h =
    facts_made_so s n (stand_in p o) (Begin (Apc a) from) x refl ∙ (h ∙ sym (pushed_leaving t (new_frame n (OnApc a (kind_of s a))) fs b))
made_leaves s p o l t m n due (Flush a from) fs x k own d e b h = h ∙ sym (flushed_leaving t n a (rundown_of s a) fs b)
made_leaves s p o l t m n due (Call f c y) fs x k own d e b h =
    facts_made_so s n (stand_in p o) (Call f c y) x refl ∙ (h ∙ sym (named_leaving f (called due c y) fs (called_keeps due c y)))
made_leaves s p o l t m n due (Rewait f y) fs x k own d e b h =
    facts_made_so s n (stand_in p o) (Rewait f y) x refl ∙ (h ∙ sym (named_leaving f (rewaited y) fs (rewaited_keeps y)))
made_leaves s p o l t m n due (Normal f) fs x k own d e b h = h ∙ sym (named_leaving f normal_of fs normal_keeps)
made_leaves s p o l t m n due (Free f c) fs x k own d e b h = h ∙ sym (named_leaving f freed fs freed_keeps)
made_leaves s p o l t m n due (End f) fs x k own d e b h = known_end s p o t m f fs x k own d e b h
made_leaves s p o l t m n due (Gone u) fs x k own d e b h = refl
made_leaves s p o l t m n due (Switch u st) fs x k own d e b h = absurd k
made_leaves s p o l t m n due (Look r) fs x k own d e b h = absurd k
made_leaves s p o l t m n due (Begin (Int c) from) fs x k own d e b h = h
made_leaves s p o l t m n due (Begin (Dpc c) from) fs x k own d e b h = h
made_leaves s p o l t m n due (Begin (Threaded c) from) fs x k own d e b h = h
made_leaves s p o l t m n due w fs x k own d e b h = h

-- case: the event names the thread; its fact of leaving still agrees with its base frame
leaves_named : (s : Script) (limit : ℕ) (t : ThreadNo) (e : Event) (past : List Event) → is_by e t ≡ true → IsLegal s limit e past → IsRun s limit past →
    LeavesAs s t past → LeavesAs s t (e ∷ past)
leaves_named s limit t e past b g r ih = after ∙ (facts_named s t (length past) e.what made ∙ (made_so e.what refl ∙ ap base_leaving (sym frames)))
  where
    own : is_of e (cpu_of s t) ≡ true
    own = eq-eqb e.cpu.0 (cpu_of s t).0 (named_here s limit t e past g r b)

    here : e.cpu ≡ cpu_of s t
    here = same_cpu e (cpu_of s t) own

    of : is_of_thread s t e ≡ true
    of = rw (own, b) refl

    made : ThreadFacts
    made = made_facts s (length past) (stand_at s (cpu_of s t) past) e.what (facts s t past)

    after : (facts s t (e ∷ past)).leaving ≡ (named_facts s t (length past) e.what
        (made_facts s (length past) (stand_at s (cpu_of s t) past) e.what (facts s t past))).leaving
    after =
        ap (λ (x : ThreadFacts). x.leaving) (facts_made s t e past true of
        ∙ ap (λ (q : CpuNo). named_facts s t (length past) e.what (made_facts s (length past) (stand_at s q past) e.what (facts s t past))) here)

    frames : thread_frames s (cpu_of s t) t (e ∷ past) ≡ thread_after s (length past) (due_of e.what (time past)) e.what (thread_frames s (cpu_of s t) t past)
    frames = frames_when s (cpu_of s t) t e past true own b

    next_so : is_next e.what ≡ true → (made_facts s (length past) (stand_at s (cpu_of s t) past) e.what (facts s t past)).leaving
        ≡ base_leaving (thread_after s (length past) (due_of e.what (time past)) e.what (thread_frames s (cpu_of s t) t past))
    next_so n =
        let run : running (cpu_of s t) past ≡ Some t = ran s limit (cpu_of s t) t e past own b g n in
        let h = running_here s limit (cpu_of s t) t past r run in
        let k : Known s (cpu_of s t) (own_of s (cpu_of s t) past) (lanes_at s past) e.what = subst
        (λ (q : CpuNo). Known s q (own_of s q past) (lanes_at s past) e.what) here (legal_known s limit e past g n) in
        made_leaves s (cpu_of s t) (own_of s (cpu_of s t) past) (lanes_at s past) t (length past) (length past) (due_of e.what (time past)) e.what
        (thread_frames s (cpu_of s t) t past) (facts s t past) k (all_own (cpu_of s t) past) (all_named s (cpu_of s t) t past)
        (part_of_running s (cpu_of s t) t past h.0 run) ((based s limit (cpu_of s t) t past r).running run) ih

    made_so : (w : What) → e.what ≡ w → (made_facts s (length past) (stand_at s (cpu_of s t) past) e.what (facts s t past)).leaving
        ≡ base_leaving (thread_after s (length past) (due_of e.what (time past)) e.what (thread_frames s (cpu_of s t) t past))
    made_so (Switch u st) k =
        let here_so : (made_facts s (length past) (stand_at s (cpu_of s t) past) (Switch u st) (facts s t past)).leaving
        ≡ base_leaving (thread_after s (length past) (due_of e.what (time past)) (Switch u st) (thread_frames s (cpu_of s t) t past)) = ih
        ∙ sym (switched_leaving (length past) u st (thread_frames s (cpu_of s t) t past)) in
        subst (λ (w : What). (made_facts s (length past) (stand_at s (cpu_of s t) past) w (facts s t past)).leaving
        ≡ base_leaving (thread_after s (length past) (due_of e.what (time past)) w (thread_frames s (cpu_of s t) t past))) (sym k) here_so
    made_so (Look rises) k =
        subst (λ (w : What). (made_facts s (length past) (stand_at s (cpu_of s t) past) w (facts s t past)).leaving
        ≡ base_leaving (thread_after s (length past) (due_of e.what (time past)) w (thread_frames s (cpu_of s t) t past))) (sym k) ih
    made_so w k = next_so (ap is_next k)

-- case: the event doesn't name the thread; its fact of leaving still agrees with its base frame
leaves_unnamed : (s : Script) (t : ThreadNo) (e : Event) (past : List Event) → is_by e t ≡ false → LeavesAs s t past → LeavesAs s t (e ∷ past)
leaves_unnamed s t e past b ih =
    ap (λ (x : ThreadFacts). x.leaving) (facts_made s t e past false not_of)
    ∙ (facts_named s t (length past) e.what (facts s t past) ∙ (ih ∙ ap base_leaving (sym (frames (is_of e (cpu_of s t)) refl))))
  where
    not_of : is_of_thread s t e ≡ false
    not_of = go (is_of e (cpu_of s t)) b
      where
        go : (c : Bool) → is_by e t ≡ false → (c && is_by e t) ≡ false
        go true h = h
        go false h = refl

    frames : (c : Bool) → is_of e (cpu_of s t) ≡ c → thread_frames s (cpu_of s t) t (e ∷ past) ≡ thread_frames s (cpu_of s t) t past
    frames true h = frames_when s (cpu_of s t) t e past false h b
    frames false h = rw h

-- a legal event of a run keeps the fact of leaving in agreement with the base frame
leaves_after : (s : Script) (limit : ℕ) (t : ThreadNo) (e : Event) (past : List Event) (b : Bool) → is_by e t ≡ b → IsLegal s limit e past →
    IsRun s limit past → LeavesAs s t past → LeavesAs s t (e ∷ past)
leaves_after s limit t e past true b g r ih = leaves_named s limit t e past b g r ih
leaves_after s limit t e past false b g r ih = leaves_unnamed s t e past b ih

-- in a run a thread's facts say that it is leaving exactly where its base frame is leaving
pub leaves_as : (s : Script) (limit : ℕ) (t : ThreadNo) (past : List Event) → IsRun s limit past → LeavesAs s t past
leaves_as s limit t [] r = refl
leaves_as s limit t (e ∷ past) r =
    leaves_after s limit t e past (is_by e t) refl r.0 r.1 (leaves_as s limit t past r.1)

-- the innermost frame of a thread that leaves is its base
pub leaving_base : (t : ThreadNo) (f : Frame) (fs : List Frame) → head_of fs ≡ Some f → f.leaving ≡ true → HasBase t fs → base_leaving fs ≡ true
leaving_base t f [] h l b = cc
leaving_base t f (g ∷ []) h l b = let same : g ≡ f = cc in ap (λ (z : Frame). z.leaving) same ∙ l
leaving_base t f (g ∷ (x ∷ fs)) h l b =
    let same : g ≡ f = cc in
    let no : f.leaving ≡ false = ap (λ (z : Frame). z.leaving) (sym same) ∙ b.0.1 in
    absurd (both_ways f.leaving no l)
