-- At most one frame of a processor holds locks or spins: those under it don't, those over it are interrupts, and a thread that doesn't run has
-- none that does.
use Rattle.std.proofs.Common.{ap, arith, inl, inr, subst, sym, ◌∙◌}
use Rattle.std.proofs.lemmas.Bool.{eq-eqb, eqb-true}
use Rattle.std.specs.Prelude.{Bool, List, None, Option, Some, [], false, if◌then◌else◌, length, refl, suc, true, zero, ℕ, ◌==◌, ◌∷◌, ◌≡◌, ◌≤◌, ◌⊎◌}
use Rattle.nt_event.specs.declared.events.Begun.TheVariants.{Apc, Dpc, Int, Threaded}
use Rattle.nt_event.specs.declared.events.Event.{Event}
use Rattle.nt_event.specs.declared.events.What.{What}
use Rattle.nt_event.specs.declared.events.What.TheVariants.{Begin, Call, End, Flush, Free, Gone, Normal, Rewait, Switch}
use Rattle.nt_event.specs.declared.frames.Body.TheVariants.{Dpc as OnDpc, Int as OnInt, Threaded as OnThreaded}
use Rattle.nt_event.specs.Frame.{Frame}
use Rattle.nt_event.specs.declared.numbers.ApcNo.{ApcNo}
use Rattle.nt_event.specs.declared.numbers.CpuNo.{CpuNo}
use Rattle.nt_event.specs.declared.numbers.RoutineNo.{RoutineNo}
use Rattle.nt_event.specs.declared.numbers.ThreadNo.{ThreadNo}
use Rattle.nt_event.specs.declared.scripts.Script.{Script}
use Rattle.nt_runs.proofs.Names.{Apart, Named, NotAmong}
use Rattle.nt_runs.proofs.Locked.{Clear, Locked, called_base, called_locked, clear_low, freed_locked, locked_kept, new_locked}
use Rattle.nt_runs.proofs.ThreadFrames.{Each, each_frame}
use Rattle.nt_event.specs.Step.{IsLegal, IsRun}
use Rattle.nt_runs.proofs.Known.{Known, legal_known}
use Rattle.nt_event.specs.Lanes.{Lanes, lanes_at}
use Rattle.nt_event.specs.Own.{Own, own_of}
use Rattle.nt_event.specs.Frames.{at_name, base_of, called, due_of, end_on_thread, ended_base, flushed, frames_of, freed, innermost, is_base_body, level_in}
use Rattle.nt_event.specs.Frames.{normal_of, own_after, own_frames, rewaited, running, switched_to, thread_after, thread_frames, thread_part, time, without}
use Rattle.nt_runs.proofs.Facts.{level_on_thread}
use Rattle.nt_event.proofs.Options.{both}
use Rattle.nt_runs.proofs.Leaving.{end_elsewhere}
use Rattle.nt_event.specs.Lists.{head_of, is_null, tail_of}
use Rattle.nt_event.specs.Classes.{interrupt_classes}
use Rattle.nt_runs.proofs.Turns.{is_next}
use Rattle.nt_event.specs.Numbers.{is_of}
use Rattle.nt_event.specs.Jobs.{level_at, may_threaded}
use Rattle.nt_runs.specs.Laws.{level_of}
use Rattle.std.specs.List.{list_any}
use Rattle.std.specs.Option.{option_map_or, option_or}
use Rattle.nt_runs.proofs.Running.{part_of_running, running_here, same_cpu}
use Rattle.nt_event.specs.Routines.{rundown_of}
use Rattle.nt_runs.proofs.Steps.{named}

-- ---- the frames of the own part

-- the innermost frame is changed
pub inner_own : (P : Frame → Type 0) (x : Own) (n : ℕ) (g : Frame → Frame) (i : Frame) (gs : List Frame) → x.frames.own ≡ gs → innermost x.frames ≡ Some i →
    (P i → P (g i)) → Each P gs → Each P (at_name n g gs)
inner_own P x n g i [] o inner q h = h
inner_own P x n g i (f ∷ fs) o inner q h =
    let first : option_or (head_of (f ∷ fs)) (head_of (thread_part x.frames))
    ≡ Some i = subst (λ (gs : List Frame). option_or (head_of gs) (head_of (thread_part x.frames)) ≡ Some i) o inner in
    let same : i ≡ f = cc in
    (either (f.name == n) (subst (λ (j : Frame). P (g j)) same (q (subst P (sym same) h.0))), h.1)
  where
    either : (b : Bool) → P (g f) → P (if b then g f else f)
    either true z = z
    either false z = h.0

-- what holds of each frame holds of each that is left after a named one is taken out
pub without_each : (P : Frame → Type 0) (n : ℕ) (fs : List Frame) → Each P fs → Each P (without n fs)
without_each P n [] h = h
without_each P n (f ∷ fs) h = go (f.name == n)
  where
    go : (b : Bool) → Each P (if b then fs else (f ∷ fs))
    go true = h.1
    go false = h

-- a known event keeps the rules of locks for each frame of the own part
own_after_locked : (s : Script) (p : CpuNo) (x : Own) (l : Lanes) (n : ℕ) (due : Option ℕ) (w : What) (gs : List Frame) → x.frames.own ≡ gs →
    (is_next w ≡ true → Known s p x l w) → Each (Locked s p) gs → Each (Locked s p) (own_after n due w gs)
own_after_locked s p x l n due (Begin (Int c) from) gs o k h = (new_locked s p n (OnInt c), h)
own_after_locked s p x l n due (Begin (Dpc d) from) gs o k h = (new_locked s p n (OnDpc d), h)
own_after_locked s p x l n due (Begin (Threaded d) from) gs o k h = (new_locked s p n (OnThreaded d), h)
own_after_locked s p x l n due (Begin (Apc a) from) gs o k h = h
own_after_locked s p x l n due (Call f c y) gs o k h =
    let q = k refl in inner_own (Locked s p) x f (called due c y) q.frame gs o q.goes_on.inner (called_locked s p x l f due c y q) h
own_after_locked s p x l n due (Free f c) gs o k h =
    let q = k refl in inner_own (Locked s p) x f freed q.frame gs o q.goes_on.inner (freed_locked s p x f c q) h
own_after_locked s p x l n due (End f) gs o k h = without_each (Locked s p) f gs h
own_after_locked s p x l n due w gs o k h = h

-- an event of p but a Look or a Switch is known
pub known_of : (s : Script) (limit : ℕ) (p : CpuNo) (e : Event) (past : List Event) → is_of e p ≡ true → IsLegal s limit e past → (w : What) → e.what ≡ w →
    is_next w ≡ true → Known s p (own_of s p past) (lanes_at s past) w
known_of s limit p e past o g w k n =
    subst (λ (v : What). Known s p (own_of s p past) (lanes_at s past) v) k
    (subst (λ (q : CpuNo). Known s q (own_of s q past) (lanes_at s past) e.what) (same_cpu e p o) (legal_known s limit e past g (ap is_next k ∙ n)))

-- in a run each frame on a processor's own part keeps the rules of locks
pub own_locked : (s : Script) (limit : ℕ) (p : CpuNo) (past : List Event) → IsRun s limit past → Each (Locked s p) (own_frames p past)
own_locked s limit p [] r = tt
own_locked s limit p (e ∷ past) r = go (is_of e p) refl (own_locked s limit p past r.1)
  where
    go : (b : Bool) → is_of e p ≡ b → Each (Locked s p) (own_frames p past) →
        Each (Locked s p) (if b then own_after (length past) (due_of e.what (time past)) e.what (own_frames p past) else own_frames p past)
    go true o h =
        own_after_locked s p (own_of s p past) (lanes_at s past) (length past) (due_of e.what (time past)) e.what (own_frames p past) refl
        (λ n. known_of s limit p e past o r.0 e.what refl n) h
    go false o h = h

-- in a run each frame of a thread keeps the rules of locks
pub thread_locked : (s : Script) (limit : ℕ) (p : CpuNo) (t : ThreadNo) (past : List Event) → IsRun s limit past → Each (Locked s p) (thread_frames s p t past)
thread_locked s limit p t past r = each_frame s p (Locked s p) (locked_kept s p) limit t past r

-- ---- those under the one that holds locks or spins

-- a frame of the own part that is no interrupt has no other one that holds a lock or spins under it, there
abbrev pub Under : List Frame → Type 0
Under [] = Unit {0}
Under (g ∷ gs) = (base_of g ≤ 2 → Each Clear gs) × Under gs

-- nor on the running thread's part
abbrev pub Over : List Frame → List Frame → Type 0
Over gs fs = Each (λ g. base_of g ≤ 2 → Each Clear fs) gs

pub record Parted (s : Script) (p : CpuNo) (past : List Event) : Type 0 where
  pub own : Under (own_frames p past)
  pub stopped : (t : ThreadNo) → (running p past ≡ Some t → ⊥) → Each Clear (thread_frames s p t past)
  pub tail : (t : ThreadNo) → Each Clear (tail_of (thread_frames s p t past))
  pub over : (t : ThreadNo) → running p past ≡ Some t → Over (own_frames p past) (thread_frames s p t past)

-- either the thread is the one that runs, or it isn't
pub either_runs : (o : Option ThreadNo) (t : ThreadNo) → (o ≡ Some t) ⊎ (o ≡ Some t → ⊥)
either_runs None t = inr (λ e. no_thread t e)
  where
    no_thread : (t : ThreadNo) → ◌≡◌ {A = Option ThreadNo} None (Some t) → ⊥
    no_thread t e = cc
either_runs (Some u) t = go (u.0 == t.0) refl
  where
    go : (b : Bool) → (u.0 == t.0) ≡ b → (Some u ≡ Some t) ⊎ (Some u ≡ Some t → ⊥)
    go true e = let n : u.0 ≡ t.0 = eqb-true u.0 t.0 e in inl (ap (λ (k : ℕ). Some (record { 0 = k })) n)
    go false e = inr (λ q. differ q)
      where
        differ : Some u ≡ Some t → ⊥
        differ q = let same : u ≡ t = cc in let k : (u.0 == t.0) ≡ true = eq-eqb u.0 t.0 (ap (λ (v : ThreadNo). v.0) same) in cc

-- frames under rules of locks are all clear at APC_LEVEL or below, if those under the innermost are
clear_head : (s : Script) (p : CpuNo) (fs : List Frame) → Each (Locked s p) fs → level_of fs ≤ 1 → Each Clear (tail_of fs) → Each Clear fs
clear_head s p [] h l t = tt
clear_head s p (f ∷ fs) h l t = (clear_low s p f h.0 l, t)

-- below DISPATCH_LEVEL no frame of the processor holds a lock or spins
pub low_all : (s : Script) (limit : ℕ) (p : CpuNo) (past : List Event) → IsRun s limit past → Parted s p past → level_in (frames_of s p past) ≤ 1 →
    Each Clear (own_frames p past) × ((t : ThreadNo) → Each Clear (thread_frames s p t past))
low_all s limit p past r h l = go (own_frames p past) refl (own_locked s limit p past r) h.own (λ t e. h.over t e)
  where
    go : (gs : List Frame) → own_frames p past ≡ gs → Each (Locked s p) gs → Under gs →
        ((t : ThreadNo) → running p past ≡ Some t → Over gs (thread_frames s p t past)) → Each Clear (own_frames p past) ×
        ((t : ThreadNo) → Each Clear (thread_frames s p t past))
    go [] o lk u v = (subst (Each Clear) (sym o) tt, λ t. part t (either_runs (running p past) t))
      where
        part : (t : ThreadNo) → (running p past ≡ Some t) ⊎ (running p past ≡ Some t → ⊥) → Each Clear (thread_frames s p t past)
        part t (inl e) =
            let here = running_here s limit p t past r e in
            let same : level_in (frames_of s p past) ≡ level_of (thread_frames s p t past) = level_on_thread (frames_of s p past) (thread_frames s p t past)
            (ap (λ (gs : List Frame). is_null gs) o) (part_of_running s p t past here.0 e) in
            clear_head s p (thread_frames s p t past) (thread_locked s limit p t past r) (omega (arith, same, l)) (h.tail t)
        part t (inr e) = h.stopped t e
    go (g ∷ gs) o lk u v =
        let same : level_in (frames_of s p past) ≡ g.level = ap
        (λ (gs : List Frame). option_map_or (λ f. f.level) (option_or (head_of gs) (head_of (thread_part (frames_of s p past)))) 0) o in
        let above = lk.0.above in
        let base : base_of g ≤ 2 = omega (arith, same, l, above) in
        let low : g.level ≤ 1 = omega (arith, same, l) in
        (subst (Each Clear) (sym o) (clear_low s p g lk.0 low, u.0 base), λ t. part t base (either_runs (running p past) t))
      where
        part : (t : ThreadNo) → base_of g ≤ 2 → (running p past ≡ Some t) ⊎ (running p past ≡ Some t → ⊥) → Each Clear (thread_frames s p t past)
        part t base (inl e) = (v t e).0 base
        part t base (inr e) = h.stopped t e

-- ---- what an event leaves of the own part

-- a change by name that keeps base levels keeps frames with locks off those under them
named_under : (n : ℕ) (g : Frame → Frame) (fs : List Frame) → ((f : Frame) → base_of (g f) ≡ base_of f) → Under fs → Under (at_name n g fs)
named_under n g [] k h = h
named_under n g (f ∷ fs) k h = (go (f.name == n), h.1)
  where
    go : (b : Bool) → base_of (if b then g f else f) ≤ 2 → Each Clear fs
    go true z = let e = k f in h.0 (omega (arith, e, z))
    go false z = h.0 z

-- the end of the innermost frame by name keeps frames with locks off those under the others
without_under : (n : ℕ) (fs : List Frame) → Under fs → Under (without n fs)
without_under n [] h = h
without_under n (f ∷ fs) h = go (f.name == n)
  where
    go : (b : Bool) → Under (if b then fs else (f ∷ fs))
    go true = h.1
    go false = h

-- the class of an interrupt is at least 3
pub interrupt_high : (c : ℕ) → list_any (λ k. k == c) interrupt_classes ≡ true → 3 ≤ c
interrupt_high zero h = cc
interrupt_high (suc zero) h = cc
interrupt_high (suc (suc zero)) h = cc
interrupt_high (suc (suc (suc c))) h = omega arith

-- a processor that may begin a threaded DPC is at APC_LEVEL or below
pub threaded_low : (x : Own) → may_threaded x ≡ true → level_at x ≤ 1
threaded_low x h = let z : level_at x ≡ 0 = eqb-true (level_at x) 0 (both (level_at x == 0) _ h).0 in omega (arith, z)

-- an event of a processor leaves no lock or spin under a frame of its own part that is no interrupt
pub under_after : (s : Script) (p : CpuNo) (x : Own) (l : Lanes) (n : ℕ) (due : Option ℕ) (w : What) (gs : List Frame) →
    (is_next w ≡ true → Known s p x l w) → (level_at x ≤ 1 → Each Clear gs) → Under gs → Under (own_after n due w gs)
under_after s p x l n due (Begin (Int c) from) gs k low h =
    let q = k refl in let z = interrupt_high c q.class in (λ b. absurd (omega (arith, z, b)), h)
under_after s p x l n due (Begin (Dpc d) from) gs k low h = let q = (k refl).0 in (λ b. low (omega (arith, q)), h)
under_after s p x l n due (Begin (Threaded d) from) gs k low h = (λ b. low (threaded_low x (k refl).0), h)
under_after s p x l n due (Begin (Apc a) from) gs k low h = h
under_after s p x l n due (Call f c y) gs k low h = named_under f (called due c y) gs (λ g. called_base due c y g) h
under_after s p x l n due (Free f c) gs k low h = named_under f freed gs (λ g. refl) h
under_after s p x l n due (End f) gs k low h = without_under f gs h
under_after s p x l n due w gs k low h = h

-- ---- of a thread's part under its innermost frame

-- a change by name leaves the frames under the innermost one
named_tail : (n : ℕ) (g : Frame → Frame) (fs : List Frame) → tail_of (at_name n g fs) ≡ tail_of fs
named_tail n g [] = refl
named_tail n g (f ∷ fs) = refl

-- what holds of each frame holds of each under the innermost one
tail_each : (P : Frame → Type 0) (fs : List Frame) → Each P fs → Each P (tail_of fs)
tail_each P [] h = tt
tail_each P (f ∷ fs) h = h.1

-- the end of a thread's innermost frame leaves the frames under the innermost clear of locks and spins
end_tail : (n : ℕ) (fs : List Frame) → Each Clear (tail_of fs) → Each Clear (tail_of (end_on_thread n fs))
end_tail n [] h = h
end_tail n (f ∷ fs) h = go (f.name == n) (is_base_body f.body)
  where
    go : (b c : Bool) → Each Clear (tail_of (if b then (if c then (ended_base f ∷ fs) else fs) else (f ∷ fs)))
    go true true = h
    go true false = tail_each Clear fs h
    go false c = h

-- a switch to a thread leaves the frames under its innermost one clear of locks and spins
switched_tail : (n : ℕ) (t : ThreadNo) (st : Option ℕ) (fs : List Frame) → Each Clear (tail_of fs) → Each Clear (tail_of (switched_to n t st fs))
switched_tail n t st [] h = tt
switched_tail n t st (f ∷ fs) h = h

-- after a flush the frames under the innermost one are clear, if all frames were
flushed_tail : (n : ℕ) (a : ApcNo) (o : Option RoutineNo) (fs : List Frame) → Each Clear fs → Each Clear (tail_of (flushed n a o fs))
flushed_tail n a None fs h = tail_each Clear fs h
flushed_tail n a (Some r) fs h = h

-- an event begins a frame on a thread's part, over others
abbrev pub begins_thread : What → Bool
begins_thread (Begin (Apc a) from) = true
begins_thread (Flush a from) = true
begins_thread w = false

-- an event leaves the frames under a thread's innermost one without locks and spins, if it found them so
pub tail_after : (s : Script) (n : ℕ) (due : Option ℕ) (w : What) (fs : List Frame) → (begins_thread w ≡ true → Each Clear fs) → Each Clear (tail_of fs) →
    Each Clear (tail_of (thread_after s n due w fs))
tail_after s n due (Switch t st) fs k h = switched_tail n t st fs h
tail_after s n due (Begin (Apc a) from) fs k h = k refl
tail_after s n due (Flush a from) fs k h = flushed_tail n a (rundown_of s a) fs (k refl)
tail_after s n due (Call f c y) fs k h = subst (Each Clear) (sym (named_tail f (called due c y) fs)) h
tail_after s n due (Rewait f y) fs k h = subst (Each Clear) (sym (named_tail f (rewaited y) fs)) h
tail_after s n due (Normal f) fs k h = subst (Each Clear) (sym (named_tail f normal_of fs)) h
tail_after s n due (Free f c) fs k h = subst (Each Clear) (sym (named_tail f freed fs)) h
tail_after s n due (End f) fs k h = end_tail f fs h
tail_after s n due (Gone t) fs k h = tt
tail_after s n due w fs k h = h

-- ---- where the own part has a frame, the thread's part stays

-- a change by name leaves frames as they were where none has the name
pub elsewhere : (n : ℕ) (g : Frame → Frame) (fs : List Frame) → NotAmong n fs → at_name n g fs ≡ fs
elsewhere n g [] h = refl
elsewhere n g (f ∷ fs) h = go (f.name == n) refl
  where
    go : (b : Bool) → (f.name == n) ≡ b → ((if b then g f else f) ∷ fs) ≡ (f ∷ fs)
    go true e = absurd (h.0 (eqb-true f.name n e))
    go false e = refl

-- where the innermost frame has the name, the own part is empty or no frame of the thread's part has it
pub own_named : (x : Own) (n m : ℕ) (i : Frame) (fs : List Frame) → innermost x.frames ≡ Some i → n ≡ i.name → Named m x.frames.own fs →
    (is_null x.frames.own ≡ true) ⊎ NotAmong n fs
own_named x n m i fs inner named d = go x.frames.own refl d.apart
  where
    go : (gs : List Frame) → x.frames.own ≡ gs → Apart gs fs → (is_null x.frames.own ≡ true) ⊎ NotAmong n fs
    go [] o a = inl (ap (λ (gs : List Frame). is_null gs) o)
    go (g ∷ gs) o a =
        let first : option_or (head_of (g ∷ gs)) (head_of (thread_part x.frames))
        ≡ Some i = subst (λ (gs : List Frame). option_or (head_of gs) (head_of (thread_part x.frames)) ≡ Some i) o inner in
        let same : g ≡ i = cc in
        inr (subst (λ (j : ℕ). NotAmong j fs) (ap (λ (z : Frame). z.name) same ∙ sym named) a.0)

-- an empty own part has no frame under which the thread's part must hold no lock
pub over_null : (gs fs : List Frame) → is_null gs ≡ true → Over gs fs
over_null [] fs h = tt
over_null (g ∷ gs) fs h = cc

-- a change by name of the own part that keeps base levels leaves the thread's part clear under it
over_named : (n : ℕ) (g : Frame → Frame) (gs fs : List Frame) → ((f : Frame) → base_of (g f) ≡ base_of f) → Over gs fs → Over (at_name n g gs) fs
over_named n g [] fs k h = h
over_named n g (f ∷ gs) fs k h = (go (f.name == n), h.1)
  where
    go : (b : Bool) → base_of (if b then g f else f) ≤ 2 → Each Clear fs
    go true z = let e = k f in h.0 (omega (arith, e, z))
    go false z = h.0 z

-- an empty list of frames stays empty at a change by name
named_null : (n : ℕ) (g : Frame → Frame) (fs : List Frame) → is_null fs ≡ true → is_null (at_name n g fs) ≡ true
named_null n g [] h = refl
named_null n g (f ∷ fs) h = cc

-- an empty list of frames stays empty at an end by name
without_null : (n : ℕ) (fs : List Frame) → is_null fs ≡ true → is_null (without n fs) ≡ true
without_null n [] h = refl
without_null n (f ∷ fs) h = cc

-- the innermost frame is changed, and it is one of the own part, or the own part has none
pub over_both : (x : Own) (n m : ℕ) (f g : Frame → Frame) (i : Frame) (gs fs : List Frame) → x.frames.own ≡ gs → innermost x.frames ≡ Some i → n ≡ i.name →
    Named m x.frames.own fs → ((z : Frame) → base_of (f z) ≡ base_of z) → Over gs fs → Over (at_name n f gs) (at_name n g fs)
over_both x n m f g i gs fs o inner named d k h = go (own_named x n m i fs inner named d)
  where
    go : (is_null x.frames.own ≡ true) ⊎ NotAmong n fs → Over (at_name n f gs) (at_name n g fs)
    go (inl z) = over_null (at_name n f gs) (at_name n g fs) (named_null n f gs (subst (λ (hs : List Frame). is_null hs ≡ true) o z))
    go (inr z) = subst (Over (at_name n f gs)) (sym (elsewhere n g fs z)) (over_named n f gs fs k h)

-- a change of the innermost frame by name keeps the thread's part clear under the own part's frames
pub over_thread : (x : Own) (n m : ℕ) (g : Frame → Frame) (i : Frame) (gs fs : List Frame) → x.frames.own ≡ gs → innermost x.frames ≡ Some i → n ≡ i.name →
    Named m x.frames.own fs → Over gs fs → Over gs (at_name n g fs)
over_thread x n m g i gs fs o inner named d h = go (own_named x n m i fs inner named d)
  where
    go : (is_null x.frames.own ≡ true) ⊎ NotAmong n fs → Over gs (at_name n g fs)
    go (inl z) = over_null gs (at_name n g fs) (subst (λ (hs : List Frame). is_null hs ≡ true) o z)
    go (inr z) = subst (Over gs) (sym (elsewhere n g fs z)) h

-- the end of the innermost frame keeps the thread's part clear under the own part's frames
pub over_end : (x : Own) (n m : ℕ) (i : Frame) (gs fs : List Frame) → x.frames.own ≡ gs → innermost x.frames ≡ Some i → n ≡ i.name → Named m x.frames.own fs →
    Over gs fs → Over (without n gs) (end_on_thread n fs)
over_end x n m i gs fs o inner named d h = go (own_named x n m i fs inner named d)
  where
    go : (is_null x.frames.own ≡ true) ⊎ NotAmong n fs → Over (without n gs) (end_on_thread n fs)
    go (inl z) = over_null (without n gs) (end_on_thread n fs) (without_null n gs (subst (λ (hs : List Frame). is_null hs ≡ true) o z))
    go (inr z) = subst (Over (without n gs)) (sym (end_elsewhere n fs z)) (without_each (λ g. base_of g ≤ 2 → Each Clear fs) n gs h)
