-- In a run every open frame stands as the walk of its site does, and so each call is refused as expected.
use Rattle.std.proofs.Common.{ap, arith, inl, inr, subst, sym, ◌∙◌}
use Rattle.std.proofs.lemmas.Bool.{eqb-true}
use Rattle.std.specs.List.{Contains}
use Rattle.std.specs.Option.{option_or}
use Rattle.std.specs.Prelude.{Bool, List, None, Option, Some, [], cond, false, filter, if◌then◌else◌, length, not, refl, true, ℕ, ◌<◌, ◌==◌, ◌∷◌, ◌≡◌}
use Rattle.nt_event.proofs.Elements.{contains_cases, contains_none}
use Rattle.nt_event.proofs.Tables.{get_or-table}
use Rattle.nt_event.specs.declared.events.Begun.TheVariants.{Apc, Dpc, Int, Threaded}
use Rattle.nt_event.specs.declared.events.Event.{Event}
use Rattle.nt_event.specs.declared.events.What.{What}
use Rattle.nt_event.specs.declared.events.What.TheVariants.{Begin, Call, End, Flush, Free, Gone, Normal, Rewait, Switch}
use Rattle.nt_event.specs.declared.frames.Body.TheVariants as on
use Rattle.nt_event.specs.declared.inserts.Insert.{Insert}
use Rattle.nt_event.specs.declared.inserts.Part.{Part}
use Rattle.nt_event.specs.declared.inserts.Part.TheVariants.{Ordinary as OrdinaryPart, Threaded as ThreadedPart}
use Rattle.nt_event.specs.declared.numbers.ApcNo.{ApcNo}
use Rattle.nt_event.specs.declared.numbers.CpuNo.{CpuNo}
use Rattle.nt_event.specs.declared.numbers.DpcNo.{DpcNo}
use Rattle.nt_event.specs.declared.numbers.RoutineNo.{RoutineNo}
use Rattle.nt_event.specs.declared.numbers.ThreadNo.{ThreadNo}
use Rattle.nt_event.specs.declared.scripts.Script.{Script}
use Rattle.nt_event.specs.Frame.{Frame}
use Rattle.nt_event.specs.Frames.{at_name, called, due_of, end_on_thread, ended_base, flushed, frames_of, freed, innermost, is_base_body, normal_of, own_after}
use Rattle.nt_event.specs.Frames.{own_frames, rewaited, switched_to, thread_after, thread_frames, thread_part, time}
use Rattle.nt_event.specs.Lanes.{lanes_at, queue_at}
use Rattle.nt_event.specs.Lists.{head_of, is_null}
use Rattle.nt_event.specs.Numbers.{cpu, is_by, is_of}
use Rattle.nt_event.specs.Objects.{ObjectState, inserted_dpc, object_in, objects_at, queue_for, used_up_dpc}
use Rattle.nt_event.specs.Own.{Own, own_of}
use Rattle.nt_event.specs.Queues.{QueueState, add_insert, drop_insert, first_dpc, is_of_dpc, is_queue, left_queue, new_insert, pending, queue_of}
use Rattle.nt_event.specs.Queues.{same_part, start_queue, without_dpc}
use Rattle.nt_event.specs.Routines.{kind_of, part_of, rundown_of}
use Rattle.nt_event.specs.Step.{IsLegal, IsRun}
use Rattle.nt_runs.proofs.Engaged.{inner_own, known_of, without_each}
use Rattle.nt_runs.proofs.First.{first_is_first}
use Rattle.nt_runs.proofs.Known.{Known, KnownInsert}
use Rattle.nt_runs.proofs.Names.{Named, all_named}
use Rattle.nt_runs.proofs.Robin.{cpu_below}
use Rattle.nt_runs.proofs.Running.{frames_when, part_of_running, running_here}
use Rattle.nt_runs.proofs.Shared.{part_head, thread_runs}
use Rattle.nt_runs.proofs.ThreadFrames.{Each, head_is, known_there}
use Rattle.nt_runs.proofs.Turns.{is_next}
use Rattle.nt_runs.specs.First.{IsFirst}
use Rattle.nt_verify.proofs.Agreeing.{Agrees, called_agrees, ended_agrees, freed_agrees, new_agrees, normal_agrees, resumed_agrees, rewaited_agrees}

-- ---- the part of a DPC that begins

abbrev AllOfPart : Script → List Insert → Type 0
AllOfPart s [] = Unit {0}
AllOfPart s (x ∷ xs) = (x.part ≡ part_of s x.dpc) × AllOfPart s xs

-- filtering pending inserts keeps that each has its DPC's part
kept_parts : (s : Script) (test : Insert → Bool) (xs : List Insert) → AllOfPart s xs → AllOfPart s (filter test xs)
kept_parts s test [] h = tt
kept_parts s test (x ∷ xs) h = go (test x) (kept_parts s test xs h.1)
  where
    go : (b : Bool) → AllOfPart s (filter test xs) → AllOfPart s (cond b (x ∷ filter test xs) (filter test xs))
    go true k = (h.0, k)
    go false k = k

-- after an event drops an insert, each pending insert still has its DPC's part
dropped_parts : (s : Script) (p by : CpuNo) (w : What) (o : Option DpcNo) (objects : List ObjectState) (xs : List Insert) → AllOfPart s xs →
    AllOfPart s (drop_insert p by w o objects xs)
dropped_parts s p by w None objects xs h = h
dropped_parts s p by w (Some d) objects xs h = go (is_queue (left_queue by w (object_in objects d)) p)
  where
    go : (b : Bool) → AllOfPart s (if b then without_dpc d xs else xs)
    go true = kept_parts s (λ x. not (is_of_dpc d x)) xs h
    go false = h

-- after an event adds an insert, each pending insert still has its DPC's part
added_parts : (s : Script) (p : CpuNo) (n : ℕ) (by : CpuNo) (o : Option DpcNo) (objects : List ObjectState) (xs : List Insert) → AllOfPart s xs →
    AllOfPart s (add_insert s p n by o objects xs)
added_parts s p n by None objects xs h = h
added_parts s p n by (Some d) objects xs h = go ((queue_for (object_in objects d).target by).0 == p.0)
  where
    go : (b : Bool) → AllOfPart s (if b then (new_insert s d n (object_in objects d) ∷ xs) else xs)
    go true = (refl, h)
    go false = h

-- each insert that is pending after a history has the part that the script declares for its DPC
pending_parts : (s : Script) (p : CpuNo) (past : List Event) → AllOfPart s (pending s p past)
pending_parts s p [] = tt
pending_parts s p (e ∷ past) =
    added_parts s p (length past) e.cpu (inserted_dpc e.what) (objects_at s past)
    (drop_insert p e.cpu e.what (used_up_dpc e.what) (objects_at s past) (pending s p past))
    (dropped_parts s p e.cpu e.what (used_up_dpc e.what) (objects_at s past) (pending s p past) (pending_parts s p past))

-- an insert in a list where each has its DPC's part has that part too
part_there : (s : Script) (xs : List Insert) (x : Insert) → AllOfPart s xs → Contains xs x → x.part ≡ part_of s x.dpc
part_there s [] x h c = contains_none x c
part_there s (y ∷ xs) x h c =
    elim (contains_cases y xs x c) [ inl e ↦ subst (λ (z : Insert). z.part ≡ part_of s z.dpc) e h.0 | inr d ↦ part_there s xs x h.1 d ]

-- two parts that test as the same are equal
part_is : (a b : Part) → same_part a b ≡ true → b ≡ a
part_is OrdinaryPart OrdinaryPart h = refl
part_is ThreadedPart ThreadedPart h = refl
part_is OrdinaryPart ThreadedPart h = cc
part_is ThreadedPart OrdinaryPart h = cc

-- the object of a DPC that begins stands in the part from which it was taken
begun_part : (s : Script) (p : CpuNo) (past : List Event) (part : Part) (d : DpcNo) (from : ℕ) → p.0 < s.cpus →
    KnownInsert part (queue_at (lanes_at s past) p) d from → part_of s d ≡ part
begun_part s p past part d from below k =
    let here : queue_at (lanes_at s past) p ≡ queue_of s p past = get_or-table s.cpus p.0 (λ q. queue_of s (cpu q) past) start_queue below in
    let first : first_dpc part (pending s p past) ≡ Some k.insert = ap (λ (q : QueueState). first_dpc part q.pending) (sym here) ∙ k.first in
    let is : IsFirst part (pending s p past) (Some k.insert) = subst (λ (o : Option Insert). IsFirst part (pending s p past) o) first
    (first_is_first s p past part) in
    ap (λ (x : DpcNo). part_of s x) k.dpc
    ∙ (sym (part_there s (pending s p past) k.insert (pending_parts s p past) is.0) ∙ part_is part k.insert.part is.1)

-- ---- the own part

-- after an event of a run, each of the processor's own frames still stands as its walk does
own_after_agrees : (s : Script) (limit : ℕ) (p : CpuNo) (past : List Event) (r : IsRun s limit past) (below : p.0 < s.cpus) (n : ℕ) (due : Option ℕ) (w : What)
    (gs : List Frame) →
    own_frames p past ≡ gs → (is_next w ≡ true → Known s p (own_of s p past) (lanes_at s past) w) → Each (Agrees s p) gs →
    Each (Agrees s p) (own_after n due w gs)
own_after_agrees s limit p past r below n due (Begin (Int c) from) gs o k h = (new_agrees s p n (on.Int c) tt refl, h)
own_after_agrees s limit p past r below n due (Begin (Dpc d) from) gs o k h = (
  new_agrees s p n (on.Dpc d) (begun_part s p past OrdinaryPart d from below (k refl).1) refl,
  h,
)
own_after_agrees s limit p past r below n due (Begin (Threaded d) from) gs o k h = (
  new_agrees s p n (on.Threaded d) (begun_part s p past ThreadedPart d from below (k refl).1) refl,
  h,
)
own_after_agrees s limit p past r below n due (Begin (Apc a) from) gs o k h = h
own_after_agrees s limit p past r below n due (Call i c y) gs o k h =
    let q = k refl in
    inner_own (Agrees s p) (own_of s p past) i (called due c y) q.frame gs o q.goes_on.inner (λ a. called_agrees s limit p past r i c y q a due) h
own_after_agrees s limit p past r below n due (Free i c) gs o k h =
    let q = k refl in
    inner_own (Agrees s p) (own_of s p past) i freed q.frame gs o q.goes_on.inner (λ a. freed_agrees s p (own_of s p past) i c q a) h
own_after_agrees s limit p past r below n due (End i) gs o k h = without_each (Agrees s p) i gs h
own_after_agrees s limit p past r below n due w gs o k h = h

-- in a run each frame on the processor's own part stands as the walk of its site does
pub own_agrees : (s : Script) (limit : ℕ) (p : CpuNo) (past : List Event) → IsRun s limit past → Each (Agrees s p) (own_frames p past)
own_agrees s limit p [] r = tt
own_agrees s limit p (e ∷ past) r = go (is_of e p) refl (own_agrees s limit p past r.1)
  where
    go : (b : Bool) → is_of e p ≡ b → Each (Agrees s p) (own_frames p past) →
        Each (Agrees s p) (if b then own_after (length past) (due_of e.what (time past)) e.what (own_frames p past) else own_frames p past)
    go true o h =
        let here = eqb-true e.cpu.0 p.0 o in
        let named = cpu_below s limit e past r.0 in
        own_after_agrees s limit p past r.1 (omega (arith, here, named)) (length past) (due_of e.what (time past)) e.what (own_frames p past) refl
        (λ n. known_of s limit p e past o r.0 e.what refl n) h
    go false o h = h

-- ---- the part of a thread

-- a property that a change of a frame keeps is kept by the change of the frame with a given name
named_each : (P : Frame → Type 0) (n : ℕ) (g : Frame → Frame) (fs : List Frame) → ((f : Frame) → P f → P (g f)) → Each P fs → Each P (at_name n g fs)
named_each P n g [] i h = h
named_each P n g (f ∷ fs) i h = (go (f.name == n), h.1)
  where
    go : (b : Bool) → P (if b then g f else f)
    go true = i f h.0
    go false = h.0

-- the innermost frame of the thread's part is the one that is changed, or has another name
inner_each : (P : Frame → Type 0) (x : Own) (n m : ℕ) (g : Frame → Frame) (i : Frame) (fs : List Frame) → innermost x.frames ≡ Some i → n ≡ i.name →
    (P i → P (g i)) → thread_part x.frames ≡ fs → Named m x.frames.own fs → Each P fs → Each P (at_name n g fs)
inner_each P x n m g i [] inner named q e d h = h
inner_each P x n m g i (f ∷ fs) inner named q e d h = (go (f.name == n) refl, h.1)
  where
    go : (b : Bool) → (f.name == n) ≡ b → P (if b then g f else f)
    go true z =
        let same : i ≡ f = head_is x n m i f fs inner named e d (eqb-true f.name n z) in subst (λ (j : Frame). P (g j)) same (q (subst P (sym same) h.0))
    go false z = h.0

-- after an APC is flushed, each frame of the thread still stands as its walk does
flushed_agrees : (s : Script) (p : CpuNo) (n : ℕ) (a : ApcNo) (o : Option RoutineNo) (fs : List Frame) → Each (Agrees s p) fs →
    Each (Agrees s p) (flushed n a o fs)
flushed_agrees s p n a None fs h = h
flushed_agrees s p n a (Some r) fs h = (new_agrees s p n (on.Rundown a) tt refl, h)

-- after a switch to a thread, each of its frames still stands as its walk does
switched_agrees : (s : Script) (p : CpuNo) (n : ℕ) (t : ThreadNo) (status : Option ℕ) (fs : List Frame) → Each (Agrees s p) fs →
    Each (Agrees s p) (switched_to n t status fs)
switched_agrees s p n t status [] h = (new_agrees s p n (on.Base t) tt refl, tt)
switched_agrees s p n t status (f ∷ fs) h = (resumed_agrees s p status f h.0, h.1)

-- after the innermost frame of a thread ends, each frame left still stands as its walk does
end_agrees : (s : Script) (p : CpuNo) (n : ℕ) (fs : List Frame) → Each (Agrees s p) fs → Each (Agrees s p) (end_on_thread n fs)
end_agrees s p n [] h = h
end_agrees s p n (f ∷ fs) h = go (f.name == n) (is_base_body f.body) refl
  where
    go : (b c : Bool) → is_base_body f.body ≡ c → Each (Agrees s p) (if b then (if c then (ended_base f ∷ fs) else fs) else (f ∷ fs))
    go true true y = (ended_agrees s p f y h.0, h.1)
    go true false y = h.1
    go false c y = h

module _ (s : Script) (limit : ℕ) (p : CpuNo) where
  thread_after_agrees : (past : List Event) (r : IsRun s limit past) (n m : ℕ) (due : Option ℕ) (w : What) (fs : List Frame) →
      (is_next w ≡ true → Known s p (own_of s p past) (lanes_at s past) w × (thread_part (frames_of s p past) ≡ fs)) → Named m (own_frames p past) fs →
      Each (Agrees s p) fs → Each (Agrees s p) (thread_after s n due w fs)
  thread_after_agrees past r n m due (Switch t status) fs q d h = switched_agrees s p n t status fs h
  thread_after_agrees past r n m due (Begin (Apc a) from) fs q d h = (new_agrees s p n (on.Apc a (kind_of s a)) tt refl, h)
  thread_after_agrees past r n m due (Flush a from) fs q d h = flushed_agrees s p n a (rundown_of s a) fs h
  thread_after_agrees past r n m due (Call i c y) fs q d h =
      let z = q refl in
      inner_each (Agrees s p) (own_of s p past) i m (called due c y) z.0.frame fs z.0.goes_on.inner z.0.name
      (λ a. called_agrees s limit p past r i c y z.0 a due) z.1 d h
  thread_after_agrees past r n m due (Rewait i y) fs q d h = named_each (Agrees s p) i (rewaited y) fs (λ f a. rewaited_agrees s p y f a) h
  thread_after_agrees past r n m due (Normal i) fs q d h =
      let z = q refl in
      inner_each (Agrees s p) (own_of s p past) i m normal_of z.0.frame fs z.0.goes_on.inner z.0.name
      (λ a. normal_agrees s p (own_of s p past) i z.0 a) z.1 d h
  thread_after_agrees past r n m due (End i) fs q d h = end_agrees s p i fs h
  thread_after_agrees past r n m due (Free i c) fs q d h =
      let z = q refl in
      inner_each (Agrees s p) (own_of s p past) i m freed z.0.frame fs z.0.goes_on.inner z.0.name
      (λ a. freed_agrees s p (own_of s p past) i c z.0 a) z.1 d h
  thread_after_agrees past r n m due (Gone t) fs q d h = tt
  thread_after_agrees past r n m due w fs q d h = h

  thread_step : (t : ThreadNo) (e : Event) (past : List Event) (own by : Bool) → is_of e p ≡ own → is_by e t ≡ by → IsLegal s limit e past →
      IsRun s limit past → Each (Agrees s p) (thread_frames s p t past) → Each (Agrees s p) (thread_frames s p t (e ∷ past))
  thread_step t e past false by o b g r ih =
      let moved : thread_frames s p t (e ∷ past) ≡ thread_frames s p t past = rw o in subst (Each (Agrees s p)) (sym moved) ih
  thread_step t e past true false o b g r ih =
      let moved : thread_frames s p t (e ∷ past) ≡ thread_frames s p t past = frames_when s p t e past false o b in
      subst (Each (Agrees s p)) (sym moved) ih
  thread_step t e past true true o b g r ih =
      let moved : thread_frames s p t (e ∷ past) ≡ thread_after s (length past) (due_of e.what (time past)) e.what
      (thread_frames s p t past) = frames_when s p t e past true o b in
      subst (Each (Agrees s p)) (sym moved) (thread_after_agrees past r (length past) (length past) (due_of e.what (time past)) e.what
      (thread_frames s p t past) (known_there s limit p t e past o b g r) (all_named s p t past) ih)

  -- in a run each frame of a thread stands as the walk of its site does
  pub thread_agrees : (t : ThreadNo) (past : List Event) → IsRun s limit past → Each (Agrees s p) (thread_frames s p t past)
  thread_agrees t [] r = tt
  thread_agrees t (e ∷ past) r =
      thread_step t e past (is_of e p) (is_by e t) refl refl r.0 r.1 (thread_agrees t past r.1)

-- ---- the innermost frame

-- if each frame of a list stands as its walk does, so does the first
first_agrees : (s : Script) (p : CpuNo) (fs : List Frame) (f : Frame) → Each (Agrees s p) fs → head_of fs ≡ Some f → Agrees s p f
first_agrees s p [] f h e = cc
first_agrees s p (g ∷ fs) f h e = let same : g ≡ f = cc in subst (Agrees s p) same h.0

-- in a run the innermost frame of a processor stands as the walk of its site does
pub inner_agrees : (s : Script) (limit : ℕ) (p : CpuNo) (past : List Event) (f : Frame) → IsRun s limit past → innermost (frames_of s p past) ≡ Some f →
    Agrees s p f
inner_agrees s limit p past f r h = go (own_frames p past) refl
  where
    go : (gs : List Frame) → own_frames p past ≡ gs → Agrees s p f
    go [] o =
        let null : is_null (own_frames p past) ≡ true = ap (λ (gs : List Frame). is_null gs) o in
        let t = thread_runs (frames_of s p past) f h null in
        let here = running_here s limit p t.0 past r t.1 in
        let part : thread_part (frames_of s p past) ≡ thread_frames s p t.0 past = part_of_running s p t.0 past here.0 t.1 in
        first_agrees s p (thread_frames s p t.0 past) f (thread_agrees s limit p t.0 past r) (ap head_of (sym part) ∙ part_head (frames_of s p past) f h null)
    go (g ∷ gs) o =
        let first : option_or (head_of (g ∷ gs)) (head_of (thread_part (frames_of s p past)))
        ≡ Some f = subst (λ (gs : List Frame). option_or (head_of gs) (head_of (thread_part (frames_of s p past))) ≡ Some f) o h in
        first_agrees s p (own_frames p past) f (own_agrees s limit p past r) (ap head_of o ∙ first)
