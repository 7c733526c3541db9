-- The running thread by positions and, in a run, the innermost frame.
use Rattle.std.proofs.Common.{ap, arith, inl, inr, subst, sym, ◌∙◌}
use Rattle.std.proofs.lemmas.Bool.{eq-eqb, eqb-true}
use Rattle.std.specs.Option.{option_map_or, option_or}
use Rattle.std.specs.Prelude.{Bool, List, None, Option, Some, [], false, if◌then◌else◌, length, refl, true, ℕ, ◌<◌, ◌∷◌, ◌↔◌, ◌≡◌, ◌≤◌, ◌⊎◌}
use Rattle.nt_event.specs.declared.events.Event.{Event}
use Rattle.nt_event.specs.declared.events.What.{What}
use Rattle.nt_event.specs.declared.events.What.TheVariants.{Call, Gone, Rewait, Switch}
use Rattle.nt_event.specs.declared.frames.Body.{Body}
use Rattle.nt_event.specs.Frame.{Frame}
use Rattle.nt_event.specs.declared.numbers.CpuNo.{CpuNo}
use Rattle.nt_event.specs.declared.numbers.ThreadNo.{ThreadNo}
use Rattle.nt_event.specs.declared.scripts.Script.{Script}
use Rattle.nt_event.specs.Calls.{stops}
use Rattle.nt_event.specs.Frames.{frames_in, frames_of, innermost, own_frames, running, running_after, thread_frames, thread_part}
use Rattle.nt_event.specs.Replies.{is_blocked}
use Rattle.nt_event.specs.Routines.{cpu_of}
use Rattle.nt_event.specs.Step.{IsRun}
use Rattle.nt_event.specs.Lists.{head_of}
use Rattle.nt_event.specs.Numbers.{is_of}
use Rattle.nt_runs.proofs.Facts.{if_none}
use Rattle.nt_runs.proofs.Running.{part_of_running, running_here}
use Rattle.nt_readings.specs.Positions.{At, EachAfter}
use Rattle.nt_readings.specs.Frames.{NamesFall, HasFrame, HasNone, IsGreatest, IsInnermost, IsLastSwitched, IsOpenOn, IsOpenOwn, Lists, is_switch_event}
use Rattle.nt_readings.specs.Frames.{stops_thread, switches_to}
use Rattle.nt_readings.proofs.Frames.{own_lists}
use Rattle.nt_readings.proofs.Seen.{at_before}
use Rattle.nt_readings.proofs.Served.{none_after}
use Rattle.nt_readings.proofs.Threads.{part_of, thread_lists}

-- ---- the running thread

-- an event of p that neither takes up a thread nor stops one
abbrev LeavesRunning : CpuNo → Event → List Event → Type 0
LeavesRunning p e before = is_of e p ≡ true → (is_switch_event e.what ≡ false) × (stops_thread e.what ≡ false)

-- a thread that runs unless it was stopped ran before and wasn't stopped
runs_yet : (b : Bool) (r : Option ThreadNo) (t : ThreadNo) → (if b then None else r) ≡ Some t → (r ≡ Some t) × (b ≡ false)
runs_yet true r t h = cc
runs_yet false r t h = (h, refl)

-- a thread that runs after an event was switched to by it, or ran before and the event is no Switch or stop
ran_before : (w : What) (r : Option ThreadNo) (t : ThreadNo) → running_after w r ≡ Some t → (switches_to t w ≡ true) ⊎
    ((r ≡ Some t) × (is_switch_event w ≡ false) × (stops_thread w ≡ false))
ran_before (Switch u st) r t h = let same : u ≡ t = cc in inl (eq-eqb u.0 t.0 (ap (λ (v : ThreadNo). v.0) same))
ran_before (Gone u) r t h = cc
ran_before (Call f c y) r t h = let k = runs_yet (stops c y) r t h in inr (k.0, refl, k.1)
ran_before (Rewait f y) r t h = let k = runs_yet (is_blocked y) r t h in inr (k.0, refl, k.1)
ran_before w r t h = inr (h, refl, refl)

-- an event that is no Switch and stops no thread leaves the running thread as it was
runs_on : (w : What) (r : Option ThreadNo) → is_switch_event w ≡ false → stops_thread w ≡ false → running_after w r ≡ r
runs_on (Switch u st) r h k = cc
runs_on (Gone u) r h k = cc
runs_on (Call f c y) r h k = if_none (stops c y) r k
runs_on (Rewait f y) r h k = if_none (is_blocked y) r k
runs_on w r h k = refl

-- after a Switch to a thread that thread runs
switched : (w : What) (r : Option ThreadNo) (t : ThreadNo) → switches_to t w ≡ true → running_after w r ≡ Some t
switched (Switch u st) r t h = ap (λ (m : ℕ). Some (record { 0 = m })) (eqb-true u.0 t.0 h)
switched w r t h = cc

-- false isn't true
no_bool : false ≡ true → ⊥
no_bool h = cc

-- the thread that runs on a processor is that of its last Switch, which no later event there stops
running_switched : (p : CpuNo) (t : ThreadNo) (past : List Event) → running p past ≡ Some t → IsLastSwitched p t past
running_switched p t [] h = cc
running_switched p t (e ∷ past) h = go (is_of e p) refl h (λ k. running_switched p t past k)
  where
    later : LeavesRunning p e past → IsLastSwitched p t past → IsLastSwitched p t (e ∷ past)
    later l k = (k.0, inr k.1, (λ m. l, k.2))

    own : is_of e p ≡ true → (switches_to t e.what ≡ true) ⊎ ((running p past ≡ Some t) × (is_switch_event e.what ≡ false) × (stops_thread e.what ≡ false)) →
        (running p past ≡ Some t → IsLastSwitched p t past) → IsLastSwitched p t (e ∷ past)
    own o (inl k) ih =
        (length past, inl (refl, (o, k)), (λ l. absurd (omega (arith, l)), none_after (LeavesRunning p) (length past) past (omega arith)))
    own o (inr k) ih = later (λ o. (k.1, k.2)) (ih k.0)

    go : (c : Bool) → is_of e p ≡ c → (if c then running_after e.what (running p past) else running p past) ≡ Some t →
        (running p past ≡ Some t → IsLastSwitched p t past) → IsLastSwitched p t (e ∷ past)
    go true o k ih = own o (ran_before e.what (running p past) t k) ih
    go false o k ih = later (λ q. absurd (no_bool (sym o ∙ q))) (ih k)

-- the thread of a processor's last Switch, if no later event there stops it, runs there
switched_running : (p : CpuNo) (t : ThreadNo) (past : List Event) → IsLastSwitched p t past → running p past ≡ Some t
switched_running p t [] h = absurd h.1
switched_running p t (e ∷ past) h = go (is_of e p) refl h.1 (λ k m. switched_running p t past (h.0, k, m))
  where
    Here : Event → List Event → Type 0
    Here x before = (is_of x p ≡ true) × (switches_to t x.what ≡ true)

    go : (c : Bool) → is_of e p ≡ c → At Here h.0 (e ∷ past) → (At Here h.0 past → EachAfter (LeavesRunning p) h.0 past → running p past ≡ Some t) →
        (if c then running_after e.what (running p past) else running p past) ≡ Some t
    go true o (inl a) ih = switched e.what (running p past) t a.1.1
    go false o (inl a) ih = absurd (no_bool (sym o ∙ a.1.0))
    go true o (inr a) ih =
        let l = h.2.0 (at_before Here h.0 past a) o in
        runs_on e.what (running p past) l.0 l.1 ∙ ih a h.2.1
    go false o (inr a) ih = ih a h.2.1

-- a thread runs on a processor exactly where the last Switch there is to it and no later event there stops it
pub running_is_last : (p : CpuNo) (t : ThreadNo) (past : List Event) → (running p past ≡ Some t) ↔ IsLastSwitched p t past
running_is_last p t past = (λ h. running_switched p t past h, λ h. switched_running p t past h)

-- ---- the innermost frame

-- a frame in a list whose names fall from a bound has a name below the bound
has_below : (m n : ℕ) (b : Body) (fs : List Frame) → NamesFall n fs → HasFrame m b fs → m < n
has_below m n b [] f h = absurd h
has_below m n b (x ∷ fs) f (inl h) = let l = f.0 in let k = h.0 in omega (arith, l, k)
has_below m n b (x ∷ fs) f (inr h) = let l = f.0 in let k = has_below m x.name b fs f.1 h in omega (arith, l, k)

-- the first of the listed frames is the one of greatest number
first_greatest : (P : ℕ → Body → Type 0) (n : ℕ) (f : Frame) (fs : List Frame) → Lists P n (f ∷ fs) → IsGreatest P f
first_greatest P n f fs l = (l.each.0, λ m b h. at_most m b (l.all m b h))
  where
    at_most : (m : ℕ) (b : Body) → HasFrame m b (f ∷ fs) → m ≤ f.name
    at_most m b (inl h) = let k = h.0 in omega (arith, k)
    at_most m b (inr h) = let k = has_below m f.name b fs l.falls.1 h in omega (arith, k)

-- if an empty list lists the frames of a property, it holds of none
none_open : (P : ℕ → Body → Type 0) (n : ℕ) → Lists P n [] → HasNone P
none_open P n l m b h = l.all m b h

-- in a run the innermost frame is the open one of greatest number of the processor's own part, else its thread's
pub innermost_greatest : (s : Script) (limit : ℕ) (p : CpuNo) (past : List Event) → IsRun s limit past → IsInnermost s p past (innermost (frames_of s p past))
innermost_greatest s limit p past r = go (own_frames p past) (own_lists s limit p past r)
  where
    thread_first : HasNone (IsOpenOwn p past) → (t : ThreadNo) → running p past ≡ Some t → IsInnermost s p past (head_of (thread_part (frames_of s p past)))
    thread_first none t run =
        subst (λ (fs : List Frame). IsInnermost s p past (head_of fs)) (sym part) (first (part_of s t past) (thread_lists s limit t past r))
      where
        part : thread_part (frames_of s p past) ≡ part_of s t past
        part =
            let here = running_here s limit p t past r run in
            let same : p ≡ cpu_of s t = ap (λ (n : ℕ). record { 0 = n }) (sym here.1) in
            part_of_running s p t past here.0 run ∙ ap (λ (q : CpuNo). thread_frames s q t past) same

        first : (fs : List Frame) → Lists (IsOpenOn s t past) (length past) fs → IsInnermost s p past (head_of fs)
        first [] l = (none, λ u h. subst (λ (v : ThreadNo). HasNone (IsOpenOn s v past)) (same u h) (none_open (IsOpenOn s t past) (length past) l))
          where
            same : (u : ThreadNo) → running p past ≡ Some u → t ≡ u
            same u h = let k : Some t ≡ Some u = sym run ∙ h in cc
        first (f ∷ fs) l = inr (none, (t, run, first_greatest (IsOpenOn s t past) (length past) f fs l))

    thread_or_none : HasNone (IsOpenOwn p past) → (o : Option ThreadNo) → running p past ≡ o → IsInnermost s p past (head_of (thread_part (frames_of s p past)))
    thread_or_none none (Some t) run = thread_first none t run
    thread_or_none none None run =
        let empty : thread_part (frames_of s p past) ≡ [] = ap (λ (o : Option ThreadNo). option_map_or (frames_in (frames_of s p past).threads) o []) run in
        subst (λ (fs : List Frame). IsInnermost s p past (head_of fs)) (sym empty) (none, λ u h. absurd (nobody u (sym run ∙ h)))
      where
        nobody : (u : ThreadNo) → ◌≡◌ {A = Option ThreadNo} None (Some u) → ⊥
        nobody u h = cc

    go : (fs : List Frame) → Lists (IsOpenOwn p past) (length past) fs →
        IsInnermost s p past (option_or (head_of fs) (head_of (thread_part (frames_of s p past))))
    go (f ∷ fs) l = inl (first_greatest (IsOpenOwn p past) (length past) f fs l)
    go [] l = thread_or_none (none_open (IsOpenOwn p past) (length past) l) (running p past) refl
