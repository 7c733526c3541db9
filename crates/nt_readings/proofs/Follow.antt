-- In a run, what each event keeps true of an open frame holds of each open frame, where an event changes only the frame that it names.
use Rattle.std.proofs.Common.{ap, arith, inl, inr, subst, sym, ◌∙◌}
use Rattle.std.proofs.lemmas.Bool.{both_ways, eq-eqb, eqb-true}
use Rattle.std.specs.Option.{option_or}
use Rattle.std.specs.Prelude.{Bool, List, None, Option, Some, [], false, if◌then◌else◌, length, refl, true, ℕ, ◌<◌, ◌==◌, ◌∷◌, ◌≡◌, ◌≤◌, ◌⊎◌}
use Rattle.nt_event.specs.declared.commands.Command.{Command}
use Rattle.nt_event.specs.declared.commands.Reply.{Reply}
use Rattle.nt_event.specs.declared.events.Begun.TheVariants.{Apc, Dpc, Int, Threaded}
use Rattle.nt_event.specs.declared.events.Event.{Event}
use Rattle.nt_event.specs.declared.events.What.{What}
use Rattle.nt_event.specs.declared.events.What.TheVariants.{Begin, Call, Clean, End, Expire, Fire, Flush, Free, Gone, Look, Normal, Rest, Rewait, Switch}
use Rattle.nt_event.specs.declared.frames.Body.{Body}
use Rattle.nt_event.specs.declared.frames.Body.TheVariants.{Apc as OnApc, Base as OnBase, Dpc as OnDpc, Int as OnInt, Rundown as OnRundown}
use Rattle.nt_event.specs.declared.frames.Body.TheVariants.{Threaded as OnThreaded}
use Rattle.nt_event.specs.Frame.{Frame}
use Rattle.nt_event.specs.declared.numbers.CpuNo.{CpuNo}
use Rattle.nt_event.specs.declared.numbers.LockNo.{LockNo}
use Rattle.nt_event.specs.declared.numbers.RoutineNo.{RoutineNo}
use Rattle.nt_event.specs.declared.numbers.ThreadNo.{ThreadNo}
use Rattle.nt_event.specs.declared.scripts.Script.{Script}
use Rattle.nt_event.specs.Frames.{at_name, called, due_of, end_on_thread, flushed, frames_of, freed, innermost, is_base_body, ended_base, new_frame, normal_of}
use Rattle.nt_event.specs.Frames.{own_after, own_frames, resumed, rewaited, running, switched_to, thread_after, thread_frames, thread_part, time, without}
use Rattle.nt_event.specs.Jobs.{has_normal}
use Rattle.nt_event.specs.Lanes.{lanes_at}
use Rattle.nt_event.specs.Own.{own_of}
use Rattle.nt_event.specs.Routines.{cpu_of, kind_of, rundown_of}
use Rattle.nt_event.specs.Step.{IsRun, thread_field}
use Rattle.nt_event.specs.Lists.{head_of, is_null}
use Rattle.nt_event.specs.Numbers.{is_by, is_of, is_thread}
use Rattle.nt_runs.proofs.Known.{Known, KnownCall, KnownEnd, KnownFree, KnownNormal, KnownRewait, legal_known}
use Rattle.nt_runs.proofs.OwnPart.{AllOwn, all_own, is_own_body}
use Rattle.nt_runs.proofs.Running.{part_of_running, running_here, same_cpu, same_thread, thread_named}
use Rattle.nt_runs.proofs.Shared.{part_head, thread_runs}
use Rattle.nt_runs.proofs.Stops.{NoneAgain, none_again}
use Rattle.nt_runs.proofs.Turns.{is_next}
use Rattle.nt_readings.specs.Frames.{EachNamed, NamesFall, begun_inner, begun_own, switches_to}
use Rattle.nt_readings.specs.Regions.{EachFrame}
use Rattle.nt_readings.proofs.Frames.{IsOwnBegin, IsThreadBegin, at_both, each_map, inner_not_switch, own_apart, own_begun, own_falls, thread_begun}
use Rattle.nt_readings.proofs.Frames.{thread_falls}
use Rattle.nt_readings.proofs.Threads.{part_moves, part_of, part_same}

-- numbers that differ fail the test of equality
pub not_equal : (m n : ℕ) → (m ≡ n → ⊥) → (m == n) ≡ false
not_equal m n h = go (m == n) refl
  where
    go : (b : Bool) → (m == n) ≡ b → b ≡ false
    go false e = refl
    go true e = absurd (h (eqb-true m n e))

-- the frame that the event names, if any
abbrev pub names : What → Option ℕ
names (Call f c y) = Some f
names (Rewait f y) = Some f
names (Normal f) = Some f
names (End f) = Some f
names (Free f k) = Some f
names (Look r) = None
names (Begin b from) = None
names (Expire key from) = None
names (Fire d y) = None
names (Clean c) = None
names (Switch t st) = None
names (Flush a from) = None
names (Gone t) = None
names Rest = None

-- the event doesn't name the frame
abbrev pub IsAside : ℕ → What → Type 0
IsAside n w = (m : ℕ) → names w ≡ Some m → m ≡ n → ⊥

-- ---- what each event keeps

pub record Follows (s : Script) (limit : ℕ) (P : List Event → Frame → Type 0) : Type 0 where
  pub begun : (e : Event) (past : List Event) (b : Body) → names e.what ≡ None → P (e ∷ past) (new_frame (length past) b)
  pub aside : (e : Event) (past : List Event) (f : Frame) → f.name < length past → IsAside f.name e.what → P past f → P (e ∷ past) f
  pub called : (e : Event) (past : List Event) (n : ℕ) (c : Command) (y : Reply) → IsRun s limit (e ∷ past) →
      (x : KnownCall s e.cpu (own_of s e.cpu past) (lanes_at s past) n c y) → e.what ≡ Call n c y → x.frame.name < length past → P past x.frame →
      P (e ∷ past) (called (due_of e.what (time past)) c y x.frame)
  pub freed : (e : Event) (past : List Event) (n : ℕ) (c : LockNo) → IsRun s limit (e ∷ past) →
      (x : KnownFree s e.cpu (own_of s e.cpu past) n c) → e.what ≡ Free n c → x.frame.name < length past → P past x.frame → P (e ∷ past) (freed x.frame)
  pub rewaited : (e : Event) (past : List Event) (y : Reply) (f : Frame) → e.what ≡ Rewait f.name y → f.name < length past → P past f →
      P (e ∷ past) (rewaited y f)
  pub normal : (e : Event) (past : List Event) (f : Frame) → e.what ≡ Normal f.name → has_normal f.body ≡ true → f.name < length past → P past f →
      P (e ∷ past) (normal_of f)
  pub left : (e : Event) (past : List Event) (f : Frame) → e.what ≡ End f.name → is_base_body f.body ≡ true → f.name < length past → P past f →
      P (e ∷ past) (ended_base f)
  pub resumed : (e : Event) (past : List Event) (t : ThreadNo) (st : Option ℕ) (f : Frame) → e.what ≡ Switch t st → f.name < length past → P past f →
      P (e ∷ past) (resumed st f)

-- ---- whose frame an event names

abbrev pub HeadIs : Frame → List Frame → Type 0
HeadIs f fs = (rest : List Frame) × (fs ≡ f ∷ rest)

-- a frame that is the head of a list is followed there by the rest of the list
head_is : (fs : List Frame) (f : Frame) → head_of fs ≡ Some f → HeadIs f fs
head_is [] f h = cc
head_is (g ∷ fs) f h = let same : g ≡ f = cc in (fs, ap (λ (x : Frame). x ∷ fs) same)

abbrev pub IsNamer : Script → CpuNo → List Event → Frame → Type 0
IsNamer s q past f = HeadIs f (own_frames q past) ⊎ ((u : ThreadNo) × (running q past ≡ Some u) × HeadIs f (thread_frames s q u past))

-- in a run the innermost frame of a processor heads its own part or that of the thread that runs there
pub namer : (s : Script) (limit : ℕ) (q : CpuNo) (past : List Event) (f : Frame) → IsRun s limit past → innermost (frames_of s q past) ≡ Some f →
    IsNamer s q past f
namer s limit q past f r h = go (own_frames q past) refl
  where
    go : (fs : List Frame) → own_frames q past ≡ fs → IsNamer s q past f
    go (g ∷ fs) o =
        let first : option_or (head_of (g ∷ fs)) (head_of (thread_part (frames_of s q past)))
        ≡ Some f = subst (λ (gs : List Frame). option_or (head_of gs) (head_of (thread_part (frames_of s q past))) ≡ Some f) o h in
        let same : g ≡ f = cc in
        inl (fs, o ∙ ap (λ (x : Frame). x ∷ fs) same)
    go [] o =
        let null : is_null (own_frames q past) ≡ true = ap is_null o in
        let u = thread_runs (frames_of s q past) f h null in
        let head = part_head (frames_of s q past) f h null in
        let here = running_here s limit q u.0 past r u.1 in
        let part : thread_part (frames_of s q past) ≡ thread_frames s q u.0 past = part_of_running s q u.0 past here.0 u.1 in
        inr (u.0, u.1, head_is (thread_frames s q u.0 past) f (sym (ap head_of part) ∙ head))

-- what holds of each frame holds of an innermost one
pub inner_has : (s : Script) (limit : ℕ) (q : CpuNo) (past : List Event) (P : Frame → Type 0) (f : Frame) → IsRun s limit past →
    ((p : CpuNo) → EachFrame P (own_frames p past)) → ((t : ThreadNo) → EachFrame P (thread_frames s (cpu_of s t) t past)) →
    innermost (frames_of s q past) ≡ Some f → P f
inner_has s limit q past P f r own threads inner = go (namer s limit q past f r inner)
  where
    go : IsNamer s q past f → P f
    go (inl h) = (subst (EachFrame P) h.1 (own q)).0
    go (inr h) =
        let here = running_here s limit q h.0 past r h.1 in
        let cpu : cpu_of s h.0 ≡ q = ap (λ (n : ℕ). record { 0 = n }) here.1 in
        (subst (EachFrame P) h.2.1 (subst (λ (p : CpuNo). EachFrame P (thread_frames s p h.0 past)) cpu (threads h.0))).0

-- a Switch is to one thread only
same_switch : (u t : ThreadNo) (w : What) → switches_to u w ≡ true → switches_to t w ≡ true → u ≡ t
same_switch u t (Switch v st) h k =
    ap (λ (n : ℕ). record { 0 = n }) (sym (eqb-true v.0 u.0 h) ∙ eqb-true v.0 t.0 k)
same_switch u t w h k = cc

-- one event doesn't begin frames of two threads
threads_apart : (s : Script) (u t : ThreadNo) (past : List Event) (n : ℕ) (b c : Body) → (u ≡ t → ⊥) → IsThreadBegin s u past n b →
    IsThreadBegin s t past n c → ⊥
threads_apart s u t past n b c d (inl h) (inl k) =
    at_both (λ e before. switches_to u e.what ≡ true) (λ e before. switches_to t e.what ≡ true) n past h.1 k.1 (λ e before x y. d (same_switch u t e.what x y))
threads_apart s u t past n b c d (inl h) (inr k) =
    at_both (λ e before. switches_to u e.what ≡ true) (λ e before. (is_by e t ≡ true) × (begun_inner s e.what ≡ Some c)) n past h.1 k
    (λ e before x y. inner_not_switch s u e.what c y.1 x)
threads_apart s u t past n b c d (inr h) (inl k) =
    at_both (λ e before. (is_by e u ≡ true) × (begun_inner s e.what ≡ Some b)) (λ e before. switches_to t e.what ≡ true) n past h k.1
    (λ e before x y. inner_not_switch s t e.what b x.1 y)
threads_apart s u t past n b c d (inr h) (inr k) =
    at_both (λ e before. (is_by e u ≡ true) × (begun_inner s e.what ≡ Some b)) (λ e before. (is_by e t ≡ true) × (begun_inner s e.what ≡ Some c)) n past h k
    (λ e before x y. d (same e x.0 y.0))
  where
    same : (e : Event) → is_by e u ≡ true → is_by e t ≡ true → u ≡ t
    same e x y = let q : Some u ≡ Some t = sym (same_thread e.thread u x) ∙ same_thread e.thread t y in cc

abbrev NamesNone : ℕ → List Frame → Type 0
NamesNone n fs = EachNamed (λ m b. m ≡ n → ⊥) fs

-- the event's frame is the innermost one of the thread, which makes the event, or none of the thread's
abbrev Names : Script → ThreadNo → Event → List Event → Frame → Type 0
Names s t e past f = ((is_by e t ≡ true) × HeadIs f (part_of s t past)) ⊎ NamesNone f.name (part_of s t past)

-- in a run the innermost frame of an event's processor heads the thread's frames or is none of them
named_or_not : (s : Script) (limit : ℕ) (t : ThreadNo) (e : Event) (past : List Event) (f : Frame) → IsRun s limit past → innermost (frames_of s e.cpu past)
    ≡ Some f → e.thread ≡ running e.cpu past → Names s t e past f
named_or_not s limit t e past f r h w = go (namer s limit e.cpu past f r h)
  where
    begun : EachNamed (IsThreadBegin s t past) (part_of s t past)
    begun = thread_begun s limit (cpu_of s t) t past r

    thread_head : (u : ThreadNo) → running e.cpu past ≡ Some u → HeadIs f (thread_frames s e.cpu u past) → (b : Bool) → (u.0 == t.0) ≡ b → Names s t e past f
    thread_head u run k true q =
        let same : u ≡ t = ap (λ (n : ℕ). record { 0 = n }) (eqb-true u.0 t.0 q) in
        let here = running_here s limit e.cpu u past r run in
        let cpu : e.cpu ≡ cpu_of s t = ap (λ (n : ℕ). record { 0 = n }) (sym here.1) ∙ ap (λ (v : ThreadNo). cpu_of s v) same in
        let parts : thread_frames s e.cpu u past ≡ part_of s t past = ap (λ (v : ThreadNo). thread_frames s e.cpu v past) same
        ∙ ap (λ (c : CpuNo). thread_frames s c t past) cpu in
        inl (ap (λ (o : Option ThreadNo). is_thread o t) (w ∙ run) ∙ q, (k.0, sym parts ∙ k.1))
    thread_head u run k false q =
        let first = subst (EachNamed (IsThreadBegin s u past)) k.1 (thread_begun s limit e.cpu u past r) in
        inr (each_map (IsThreadBegin s t past) (λ m b. m ≡ f.name → ⊥) (part_of s t past)
        (λ m b i same. threads_apart s u t past f.name f.body b (λ v. both_ways (u.0 == t.0) q (eq-eqb u.0 t.0 (ap (λ (v : ThreadNo). v.0) v))) first.0
        (subst (λ (n : ℕ). IsThreadBegin s t past n b) same i)) begun)

    go : IsNamer s e.cpu past f → Names s t e past f
    go (inl k) =
        let first = subst (EachNamed (IsOwnBegin e.cpu past)) k.1 (own_begun e.cpu past) in
        inr (each_map (IsThreadBegin s t past) (λ m b. m ≡ f.name → ⊥) (part_of s t past)
        (λ m b i same. own_apart s e.cpu t past f.name f.body b first.0 (subst (λ (n : ℕ). IsThreadBegin s t past n b) same i)) begun)
    go (inr k) = thread_head k.0 k.1 k.2 (k.0.0 == t.0) refl

-- and of a processor's own part
abbrev OwnNames : Script → CpuNo → Event → List Event → Frame → Type 0
OwnNames s p e past f = ((is_of e p ≡ true) × HeadIs f (own_frames p past)) ⊎ NamesNone f.name (own_frames p past)

-- in a run the innermost frame of an event's processor heads a processor's own frames or is none of them
own_named_or_not : (s : Script) (limit : ℕ) (p : CpuNo) (e : Event) (past : List Event) (f : Frame) → IsRun s limit past → innermost (frames_of s e.cpu past)
    ≡ Some f → OwnNames s p e past f
own_named_or_not s limit p e past f r h = go (namer s limit e.cpu past f r h)
  where
    other : is_of e p ≡ false → (x : Event) → is_of x e.cpu ≡ true → is_of x p ≡ true → ⊥
    other o x i j =
        both_ways (is_of e p) o (eq-eqb e.cpu.0 p.0 (sym (eqb-true x.cpu.0 e.cpu.0 i) ∙ eqb-true x.cpu.0 p.0 j))

    own_head : HeadIs f (own_frames e.cpu past) → (b : Bool) → is_of e p ≡ b → OwnNames s p e past f
    own_head k true o = inl (o, (k.0, ap (λ (q : CpuNo). own_frames q past) (sym (same_cpu e p o)) ∙ k.1))
    own_head k false o =
        let first = subst (EachNamed (IsOwnBegin e.cpu past)) k.1 (own_begun e.cpu past) in
        inr (each_map (IsOwnBegin p past) (λ m b. m ≡ f.name → ⊥) (own_frames p past)
        (λ m b i same. at_both (λ x before. (is_of x e.cpu ≡ true) × (begun_own x.what ≡ Some f.body))
        (λ x before. (is_of x p ≡ true) × (begun_own x.what ≡ Some b)) f.name past first.0 (subst (λ (n : ℕ). IsOwnBegin p past n b) same i)
        (λ x before u v. other o x u.0 v.0)) (own_begun p past))

    go : IsNamer s e.cpu past f → OwnNames s p e past f
    go (inl k) = own_head k (is_of e p) refl
    go (inr k) =
        let first = subst (EachNamed (IsThreadBegin s k.0 past)) k.2.1 (thread_begun s limit e.cpu k.0 past r) in
        inr (each_map (IsOwnBegin p past) (λ m b. m ≡ f.name → ⊥) (own_frames p past)
        (λ m b i same. own_apart s p k.0 past f.name b f.body (subst (λ (n : ℕ). IsOwnBegin p past n b) same i) first.0) (own_begun p past))

-- ---- lists that an event doesn't change

-- changing the frame of a name leaves a list with no frame of that name as it was
at_name_other : (n : ℕ) (g : Frame → Frame) (fs : List Frame) → NamesNone n fs → at_name n g fs ≡ fs
at_name_other n g [] h = refl
at_name_other n g (f ∷ fs) h = ap (λ (b : Bool). (if b then g f else f) ∷ fs) (not_equal f.name n h.0)

-- ending the frame of a name on a thread leaves a list with no frame of that name as it was
end_other : (n : ℕ) (fs : List Frame) → NamesNone n fs → end_on_thread n fs ≡ fs
end_other n [] h = refl
end_other n (f ∷ fs) h = ap (λ (b : Bool). if b then (if is_base_body f.body then (ended_base f ∷ fs) else fs) else (f ∷ fs)) (not_equal f.name n h.0)

-- removing the frame of a name leaves a list with no frame of that name as it was
without_other : (n : ℕ) (fs : List Frame) → NamesNone n fs → without n fs ≡ fs
without_other n [] h = refl
without_other n (f ∷ fs) h = ap (λ (b : Bool). if b then fs else (f ∷ fs)) (not_equal f.name n h.0)

-- those that the event doesn't name
others : (w : What) (n : ℕ) (fs : List Frame) → names w ≡ Some n → NamesNone n fs → EachNamed (λ m b. IsAside m w) fs
others w n fs k h =
    each_map (λ m b. m ≡ n → ⊥) (λ m b. IsAside m w) fs (λ m b d v q e. d (sym e ∙ same v q)) h
  where
    same : (v : ℕ) → names w ≡ Some v → v ≡ n
    same v q = let z : Some v ≡ Some n = sym q ∙ k in cc

-- what holds of each name below a bound holds of each frame of a list whose names fall from that bound
below_each : (n : ℕ) (P : ℕ → Body → Type 0) (fs : List Frame) → NamesFall n fs → ((m : ℕ) (b : Body) → m < n → P m b) → EachNamed P fs
below_each n P [] f h = tt
below_each n P (x ∷ fs) f h =
    let l = f.0 in (h x.name x.body f.0, below_each x.name P fs f.1 (λ m b k. h m b (omega (arith, k, l))))

-- those that stand below the one that it names
lower : (w : What) (f : Frame) (fs : List Frame) → names w ≡ Some f.name → NamesFall f.name fs → EachNamed (λ m b. IsAside m w) fs
lower w f fs k h =
    below_each f.name (λ m b. IsAside m w) fs h (λ m b l v q e. let z = same v q in absurd (omega (arith, l, e, z)))
  where
    same : (v : ℕ) → names w ≡ Some v → v ≡ f.name
    same v q = let z : Some v ≡ Some f.name = sym q ∙ k in cc

-- an event that names no frame leaves each frame of a list aside
none_named : (w : What) (fs : List Frame) → names w ≡ None → EachNamed (λ m b. IsAside m w) fs
none_named w [] k = tt
none_named w (f ∷ fs) k = (λ v q e. none v (sym k ∙ q), none_named w fs k)
  where
    none : (v : ℕ) → ◌≡◌ {A = Option ℕ} None (Some v) → ⊥
    none v z = cc

-- ---- the frames after an event

module _ (s : Script) (limit : ℕ) (P : List Event → Frame → Type 0) (k : Follows s limit P) where
  kept_all : (e : Event) (past : List Event) (n : ℕ) (fs : List Frame) → n ≤ length past → NamesFall n fs → EachNamed (λ m b. IsAside m e.what) fs →
      EachFrame (P past) fs → EachFrame (P (e ∷ past)) fs
  kept_all e past n [] l f a h = tt
  kept_all e past n (x ∷ fs) l f a h =
      let b = f.0 in
      (k.aside e past x (omega (arith, b, l)) a.0 h.0, kept_all e past x.name fs (omega (arith, b, l)) f.1 a.1 h.1)

  -- the innermost frame changes, those below it stay
  named_head : (e : Event) (past : List Event) (n : ℕ) (g : Frame → Frame) (f : Frame) (fs : List Frame) → HeadIs f fs → n ≡ f.name → names e.what ≡ Some n →
      NamesFall (length past) fs → EachFrame (P past) fs → (f.name < length past → P past f → P (e ∷ past) (g f)) → EachFrame (P (e ∷ past)) (at_name n g fs)
  named_head e past n g f fs q m w l h step =
      let low = subst (NamesFall (length past)) q.1 l in
      let b = low.0 in
      let old = subst (EachFrame (P past)) q.1 h in
      let all : EachFrame (P (e ∷ past)) (g f ∷ q.0) = (
        step low.0 old.0,
        kept_all e past f.name q.0 (omega (arith, b)) low.1 (lower e.what f q.0 (w ∙ ap (λ (n : ℕ). Some n) m) low.1) old.1,
      ) in
      let it : at_name n g (f ∷ q.0) ≡ g f ∷ q.0 = ap (λ (b : Bool). (if b then g f else f) ∷ q.0) (eq-eqb f.name n (sym m)) in
      subst (λ (xs : List Frame). EachFrame (P (e ∷ past)) (at_name n g xs)) (sym q.1) (subst (EachFrame (P (e ∷ past))) (sym it) all)

  other_name : (e : Event) (past : List Event) (n : ℕ) (g : Frame → Frame) (f : Frame) (fs : List Frame) → NamesNone f.name fs → n ≡ f.name → names e.what
      ≡ Some n → NamesFall (length past) fs → EachFrame (P past) fs → EachFrame (P (e ∷ past)) (at_name n g fs)
  other_name e past n g f fs d m w l h =
      subst (EachFrame (P (e ∷ past))) (sym (ap (λ (v : ℕ). at_name v g fs) m ∙ at_name_other f.name g fs d))
      (kept_all e past (length past) fs (omega arith) l (others e.what f.name fs (w ∙ ap (λ (n : ℕ). Some n) m) d) h)

  rest_of : (e : Event) (past : List Event) (n : ℕ) (f : Frame) (fs : List Frame) → n ≡ f.name → names e.what ≡ Some n → NamesFall (length past) (f ∷ fs) →
      EachFrame (P past) (f ∷ fs) → EachFrame (P (e ∷ past)) fs
  rest_of e past n f fs m w l h =
      let b = l.0 in
      kept_all e past f.name fs (omega (arith, b)) l.1 (lower e.what f fs (w ∙ ap (λ (n : ℕ). Some n) m) l.1) h.1

  ended_head : (e : Event) (past : List Event) (n : ℕ) (f : Frame) (fs : List Frame) → HeadIs f fs → n ≡ f.name → e.what ≡ End n → NamesFall (length past) fs →
      EachFrame (P past) fs → EachFrame (P (e ∷ past)) (end_on_thread n fs)
  ended_head e past n f fs q m w l h =
      subst (λ (xs : List Frame). EachFrame (P (e ∷ past)) (end_on_thread n xs)) (sym q.1)
      (subst (λ (b : Bool). EachFrame (P (e ∷ past)) (if b then (if is_base_body f.body then (ended_base f ∷ q.0) else q.0) else (f ∷ q.0)))
      (sym (eq-eqb f.name n (sym m))) (go (is_base_body f.body) refl (subst (NamesFall (length past)) q.1 l) (subst (EachFrame (P past)) q.1 h)))
    where
      go : (b : Bool) → is_base_body f.body ≡ b → NamesFall (length past) (f ∷ q.0) → EachFrame (P past) (f ∷ q.0) →
          EachFrame (P (e ∷ past)) (if b then (ended_base f ∷ q.0) else q.0)
      go true z low old =
          (k.left e past f (w ∙ ap (λ (n : ℕ). End n) m) z low.0 old.0, rest_of e past n f q.0 m (ap names w) low old)
      go false z low old = rest_of e past n f q.0 m (ap names w) low old

  dropped_head : (e : Event) (past : List Event) (n : ℕ) (f : Frame) (fs : List Frame) → HeadIs f fs → n ≡ f.name → e.what ≡ End n →
      NamesFall (length past) fs →
      EachFrame (P past) fs → EachFrame (P (e ∷ past)) (without n fs)
  dropped_head e past n f fs q m w l h =
      subst (λ (xs : List Frame). EachFrame (P (e ∷ past)) (without n xs)) (sym q.1)
      (subst (λ (b : Bool). EachFrame (P (e ∷ past)) (if b then q.0 else (f ∷ q.0))) (sym (eq-eqb f.name n (sym m)))
      (rest_of e past n f q.0 m (ap names w) (subst (NamesFall (length past)) q.1 l) (subst (EachFrame (P past)) q.1 h)))

  switched : (e : Event) (past : List Event) (t : ThreadNo) (st : Option ℕ) (fs : List Frame) → e.what ≡ Switch t st → NamesFall (length past) fs →
      EachFrame (P past) fs → EachFrame (P (e ∷ past)) (switched_to (length past) t st fs)
  switched e past t st [] w l h = (k.begun e past (OnBase t) (ap names w), tt)
  switched e past t st (f ∷ fs) w l h =
      let b = l.0 in
      (k.resumed e past t st f w l.0 h.0, kept_all e past f.name fs (omega (arith, b)) l.1 (none_named e.what fs (ap names w)) h.1)

  -- ---- an event of the thread

  part_kept : (t : ThreadNo) (e : Event) (past : List Event) → IsRun s limit (e ∷ past) → NamesFall (length past) (part_of s t past) →
      EachFrame (P past) (part_of s t past) → EachFrame (P (e ∷ past)) (thread_after s (length past) (due_of e.what (time past)) e.what (part_of s t past))
  part_kept t e past r l h = go e.what refl
    where
      quiet : (w : What) → e.what ≡ w → names w ≡ None → EachFrame (P (e ∷ past)) (part_of s t past)
      quiet w q n = kept_all e past (length past) (part_of s t past) (omega arith) l (none_named e.what (part_of s t past) (ap names q ∙ n)) h

      known : (w : What) → e.what ≡ w → is_next w ≡ true → Known s e.cpu (own_of s e.cpu past) (lanes_at s past) w
      known w q n = subst (Known s e.cpu (own_of s e.cpu past) (lanes_at s past)) q (legal_known s limit e past r.0 (ap is_next q ∙ n))

      by_running : (w : What) → e.what ≡ w → thread_field w (running e.cpu past) ≡ running e.cpu past → e.thread ≡ running e.cpu past
      by_running w q f = thread_named s limit e past r.0 ∙ (ap (λ (w : What). thread_field w (running e.cpu past)) q ∙ f)

      calls : (n : ℕ) (c : Command) (y : Reply) → e.what ≡ Call n c y → (x : KnownCall s e.cpu (own_of s e.cpu past) (lanes_at s past) n c y) →
          Names s t e past x.frame → EachFrame (P (e ∷ past)) (at_name n (called (due_of e.what (time past)) c y) (part_of s t past))
      calls n c y q x (inl d) =
          named_head e past n (called (due_of e.what (time past)) c y) x.frame (part_of s t past) d.1 x.name (ap names q) l h
          (λ low old. k.called e past n c y r x q low old)
      calls n c y q x (inr d) = other_name e past n (called (due_of e.what (time past)) c y) x.frame (part_of s t past) d x.name (ap names q) l h

      frees : (n : ℕ) (c : LockNo) → e.what ≡ Free n c → (x : KnownFree s e.cpu (own_of s e.cpu past) n c) → Names s t e past x.frame →
          EachFrame (P (e ∷ past)) (at_name n freed (part_of s t past))
      frees n c q x (inl d) =
          named_head e past n freed x.frame (part_of s t past) d.1 x.name (ap names q) l h (λ low old. k.freed e past n c r x q low old)
      frees n c q x (inr d) = other_name e past n freed x.frame (part_of s t past) d x.name (ap names q) l h

      rewaits : (n : ℕ) (y : Reply) → e.what ≡ Rewait n y → (x : KnownRewait e.cpu (own_of s e.cpu past) (lanes_at s past) n y) → Names s t e past x.frame →
          EachFrame (P (e ∷ past)) (at_name n (rewaited y) (part_of s t past))
      rewaits n y q x (inl d) =
          named_head e past n (rewaited y) x.frame (part_of s t past) d.1 x.name (ap names q) l h
          (λ low old. k.rewaited e past y x.frame (q ∙ ap (λ (n : ℕ). Rewait n y) x.name) low old)
      rewaits n y q x (inr d) = other_name e past n (rewaited y) x.frame (part_of s t past) d x.name (ap names q) l h

      normals : (n : ℕ) → e.what ≡ Normal n → (x : KnownNormal s e.cpu (own_of s e.cpu past) n) → Names s t e past x.frame →
          EachFrame (P (e ∷ past)) (at_name n normal_of (part_of s t past))
      normals n q x (inl d) =
          named_head e past n normal_of x.frame (part_of s t past) d.1 x.name (ap names q) l h
          (λ low old. k.normal e past x.frame (q ∙ ap (λ (n : ℕ). Normal n) x.name) x.normal low old)
      normals n q x (inr d) = other_name e past n normal_of x.frame (part_of s t past) d x.name (ap names q) l h

      ends : (n : ℕ) → e.what ≡ End n → (x : KnownEnd s e.cpu (own_of s e.cpu past) n) → Names s t e past x.frame →
          EachFrame (P (e ∷ past)) (end_on_thread n (part_of s t past))
      ends n q x (inl d) = ended_head e past n x.frame (part_of s t past) d.1 x.name q l h
      ends n q x (inr d) =
          subst (EachFrame (P (e ∷ past))) (sym (ap (λ (v : ℕ). end_on_thread v (part_of s t past)) x.name ∙ end_other x.frame.name (part_of s t past) d))
          (kept_all e past (length past) (part_of s t past) (omega arith) l
          (others e.what x.frame.name (part_of s t past) (ap names q ∙ ap (λ (n : ℕ). Some n) x.name) d) h)

      go : (w : What) → e.what ≡ w → EachFrame (P (e ∷ past)) (thread_after s (length past) (due_of e.what (time past)) w (part_of s t past))
      go (Switch u st) q = switched e past u st (part_of s t past) q l h
      go (Begin (Apc a) from) q =
          (k.begun e past (OnApc a (kind_of s a)) (ap names q), quiet (Begin (Apc a) from) q refl)
      go (Flush a from) q = flush (rundown_of s a)
        where
          flush : (o : Option RoutineNo) → EachFrame (P (e ∷ past)) (flushed (length past) a o (part_of s t past))
          flush None = quiet (Flush a from) q refl
          flush (Some x) = (k.begun e past (OnRundown a) (ap names q), quiet (Flush a from) q refl)
      go (Call n c y) q =
          let x : KnownCall s e.cpu (own_of s e.cpu past) (lanes_at s past) n c y = known (Call n c y) q refl in
          calls n c y q x (named_or_not s limit t e past x.frame r.1 x.goes_on.inner (by_running (Call n c y) q refl))
      go (Free n c) q =
          let x : KnownFree s e.cpu (own_of s e.cpu past) n c = known (Free n c) q refl in
          frees n c q x (named_or_not s limit t e past x.frame r.1 x.goes_on.inner (by_running (Free n c) q refl))
      go (Rewait n y) q =
          let x : KnownRewait e.cpu (own_of s e.cpu past) (lanes_at s past) n y = known (Rewait n y) q refl in
          rewaits n y q x (named_or_not s limit t e past x.frame r.1 x.goes_on.inner (by_running (Rewait n y) q refl))
      go (Normal n) q =
          let x : KnownNormal s e.cpu (own_of s e.cpu past) n = known (Normal n) q refl in
          normals n q x (named_or_not s limit t e past x.frame r.1 x.goes_on.inner (by_running (Normal n) q refl))
      go (End n) q =
          let x : KnownEnd s e.cpu (own_of s e.cpu past) n = known (End n) q refl in
          ends n q x (named_or_not s limit t e past x.frame r.1 x.goes_on.inner (by_running (End n) q refl))
      go (Gone u) q = tt
      go w q = quiet w q refl

  -- an event of another thread names none of its frames
  unnamed_aside : (t : ThreadNo) (e : Event) (past : List Event) → IsRun s limit (e ∷ past) → is_by e t ≡ false →
      EachNamed (λ m b. IsAside m e.what) (part_of s t past)
  unnamed_aside t e past r b = go e.what refl
    where
      known : (w : What) → e.what ≡ w → is_next w ≡ true → Known s e.cpu (own_of s e.cpu past) (lanes_at s past) w
      known w q n = subst (Known s e.cpu (own_of s e.cpu past) (lanes_at s past)) q (legal_known s limit e past r.0 (ap is_next q ∙ n))

      by_running : (w : What) → e.what ≡ w → thread_field w (running e.cpu past) ≡ running e.cpu past → e.thread ≡ running e.cpu past
      by_running w q f = thread_named s limit e past r.0 ∙ (ap (λ (w : What). thread_field w (running e.cpu past)) q ∙ f)

      at_frame : (f : Frame) (n : ℕ) → n ≡ f.name → names e.what ≡ Some n → Names s t e past f → EachNamed (λ m b. IsAside m e.what) (part_of s t past)
      at_frame f n m w (inl d) = absurd (both_ways (is_by e t) b d.0)
      at_frame f n m w (inr d) = others e.what f.name (part_of s t past) (w ∙ ap (λ (n : ℕ). Some n) m) d

      go : (w : What) → e.what ≡ w → EachNamed (λ m b. IsAside m e.what) (part_of s t past)
      go (Call n c y) q =
          let x : KnownCall s e.cpu (own_of s e.cpu past) (lanes_at s past) n c y = known (Call n c y) q refl in
          at_frame x.frame n x.name (ap names q) (named_or_not s limit t e past x.frame r.1 x.goes_on.inner (by_running (Call n c y) q refl))
      go (Free n c) q =
          let x : KnownFree s e.cpu (own_of s e.cpu past) n c = known (Free n c) q refl in
          at_frame x.frame n x.name (ap names q) (named_or_not s limit t e past x.frame r.1 x.goes_on.inner (by_running (Free n c) q refl))
      go (Rewait n y) q =
          let x : KnownRewait e.cpu (own_of s e.cpu past) (lanes_at s past) n y = known (Rewait n y) q refl in
          at_frame x.frame n x.name (ap names q) (named_or_not s limit t e past x.frame r.1 x.goes_on.inner (by_running (Rewait n y) q refl))
      go (Normal n) q =
          let x : KnownNormal s e.cpu (own_of s e.cpu past) n = known (Normal n) q refl in
          at_frame x.frame n x.name (ap names q) (named_or_not s limit t e past x.frame r.1 x.goes_on.inner (by_running (Normal n) q refl))
      go (End n) q =
          let x : KnownEnd s e.cpu (own_of s e.cpu past) n = known (End n) q refl in
          at_frame x.frame n x.name (ap names q) (named_or_not s limit t e past x.frame r.1 x.goes_on.inner (by_running (End n) q refl))
      go w q = none_named e.what (part_of s t past) (ap names q)

  -- in a run, what each event keeps true of frames holds of each frame on a thread's part
  pub each_part : (t : ThreadNo) (past : List Event) → IsRun s limit past → EachFrame (P past) (part_of s t past)
  each_part t [] r = tt
  each_part t (e ∷ past) r = go (is_by e t) refl (each_part t past r.1)
    where
      go : (b : Bool) → is_by e t ≡ b → EachFrame (P past) (part_of s t past) → EachFrame (P (e ∷ past)) (part_of s t (e ∷ past))
      go true b h =
          subst (EachFrame (P (e ∷ past))) (sym (part_moves s limit t e past r b)) (part_kept t e past r (thread_falls s (cpu_of s t) t past) h)
      go false b h =
          subst (EachFrame (P (e ∷ past))) (sym (part_same s t e past b))
          (kept_all e past (length past) (part_of s t past) (omega arith) (thread_falls s (cpu_of s t) t past) (unnamed_aside t e past r b) h)

  -- ---- a processor's own part

  own_kept : (p : CpuNo) (e : Event) (past : List Event) (b : Bool) → IsRun s limit (e ∷ past) → is_of e p ≡ b → EachFrame (P past) (own_frames p past) →
      EachFrame (P (e ∷ past)) (if b then own_after (length past) (due_of e.what (time past)) e.what (own_frames p past) else own_frames p past)
  own_kept p e past b r o h = go b e.what refl o
    where
      quiet : (w : What) → e.what ≡ w → names w ≡ None → EachFrame (P (e ∷ past)) (own_frames p past)
      quiet w q n = kept_all e past (length past) (own_frames p past) (omega arith) (own_falls p past)
          (none_named e.what (own_frames p past) (ap names q ∙ n)) h

      stays : (f : Frame) (n : ℕ) → n ≡ f.name → names e.what ≡ Some n → NamesNone f.name (own_frames p past) → EachFrame (P (e ∷ past)) (own_frames p past)
      stays f n m w d = kept_all e past (length past) (own_frames p past) (omega arith) (own_falls p past)
          (others e.what f.name (own_frames p past) (w ∙ ap (λ (n : ℕ). Some n) m) d) h

      known : (w : What) → e.what ≡ w → is_next w ≡ true → Known s e.cpu (own_of s e.cpu past) (lanes_at s past) w
      known w q n = subst (Known s e.cpu (own_of s e.cpu past) (lanes_at s past)) q (legal_known s limit e past r.0 (ap is_next q ∙ n))

      no_bool : {A : Type 0} → is_of e p ≡ true → is_of e p ≡ false → A
      no_bool i j = absurd (both_ways (is_of e p) j i)

      body_of : (f : Frame) → HeadIs f (own_frames p past) → is_own_body f.body ≡ true
      body_of f d = (subst AllOwn d.1 (all_own p past)).0.0

      calls : (b : Bool) (n : ℕ) (c : Command) (y : Reply) → e.what ≡ Call n c y → is_of e p ≡ b →
          (x : KnownCall s e.cpu (own_of s e.cpu past) (lanes_at s past) n c y) → OwnNames s p e past x.frame →
          EachFrame (P (e ∷ past)) (if b then at_name n (called (due_of e.what (time past)) c y) (own_frames p past) else own_frames p past)
      calls true n c y q o x (inl d) =
          named_head e past n (called (due_of e.what (time past)) c y) x.frame (own_frames p past) d.1 x.name (ap names q) (own_falls p past) h
          (λ low old. k.called e past n c y r x q low old)
      calls false n c y q o x (inl d) = no_bool d.0 o
      calls true n c y q o x (inr d) = other_name e past n (called (due_of e.what (time past)) c y) x.frame (own_frames p past) d x.name (ap names q)
          (own_falls p past) h
      calls false n c y q o x (inr d) = stays x.frame n x.name (ap names q) d

      frees : (b : Bool) (n : ℕ) (c : LockNo) → e.what ≡ Free n c → is_of e p ≡ b → (x : KnownFree s e.cpu (own_of s e.cpu past) n c) →
          OwnNames s p e past x.frame → EachFrame (P (e ∷ past)) (if b then at_name n freed (own_frames p past) else own_frames p past)
      frees true n c q o x (inl d) =
          named_head e past n freed x.frame (own_frames p past) d.1 x.name (ap names q) (own_falls p past) h (λ low old. k.freed e past n c r x q low old)
      frees false n c q o x (inl d) = no_bool d.0 o
      frees true n c q o x (inr d) = other_name e past n freed x.frame (own_frames p past) d x.name (ap names q) (own_falls p past) h
      frees false n c q o x (inr d) = stays x.frame n x.name (ap names q) d

      ends : (b : Bool) (n : ℕ) → e.what ≡ End n → is_of e p ≡ b → (x : KnownEnd s e.cpu (own_of s e.cpu past) n) → OwnNames s p e past x.frame →
          EachFrame (P (e ∷ past)) (if b then without n (own_frames p past) else own_frames p past)
      ends true n q o x (inl d) = dropped_head e past n x.frame (own_frames p past) d.1 x.name q (own_falls p past) h
      ends false n q o x (inl d) = no_bool d.0 o
      ends true n q o x (inr d) =
          subst (EachFrame (P (e ∷ past))) (sym (ap (λ (v : ℕ). without v (own_frames p past)) x.name ∙ without_other x.frame.name (own_frames p past) d))
          (stays x.frame n x.name (ap names q) d)
      ends false n q o x (inr d) = stays x.frame n x.name (ap names q) d

      -- no frame of an own part has a normal routine, or a wait to take up
      no_normal : (b : Body) → is_own_body b ≡ true → has_normal b ≡ true → ⊥
      no_normal (OnInt l) i j = cc
      no_normal (OnDpc x) i j = cc
      no_normal (OnThreaded x) i j = cc
      no_normal b i j = cc

      normals : (n : ℕ) → e.what ≡ Normal n → (x : KnownNormal s e.cpu (own_of s e.cpu past) n) → OwnNames s p e past x.frame →
          EachFrame (P (e ∷ past)) (own_frames p past)
      normals n q x (inl d) = absurd (no_normal x.frame.body (body_of x.frame d.1) x.normal)
      normals n q x (inr d) = stays x.frame n x.name (ap names q) d

      rewaits : (n : ℕ) (y : Reply) → e.what ≡ Rewait n y → (x : KnownRewait e.cpu (own_of s e.cpu past) (lanes_at s past) n y) → OwnNames s p e past x.frame →
          EachFrame (P (e ∷ past)) (own_frames p past)
      rewaits n y q x (inl d) =
          let none : x.frame.again ≡ None = (subst NoneAgain d.1.1 (none_again s limit p past r.1)).0 in
          let some = x.again in
          cc
      rewaits n y q x (inr d) = stays x.frame n x.name (ap names q) d

      either : (b : Bool) (fs : List Frame) → EachFrame (P (e ∷ past)) fs → EachFrame (P (e ∷ past)) (if b then fs else fs)
      either true fs h = h
      either false fs h = h

      go : (b : Bool) (w : What) → e.what ≡ w → is_of e p ≡ b →
          EachFrame (P (e ∷ past)) (if b then own_after (length past) (due_of e.what (time past)) w (own_frames p past) else own_frames p past)
      go true (Begin (Int l) from) q o = (k.begun e past (OnInt l) (ap names q), quiet (Begin (Int l) from) q refl)
      go true (Begin (Dpc d) from) q o = (k.begun e past (OnDpc d) (ap names q), quiet (Begin (Dpc d) from) q refl)
      go true (Begin (Threaded d) from) q o = (k.begun e past (OnThreaded d) (ap names q), quiet (Begin (Threaded d) from) q refl)
      go b (Call n c y) q o =
          let x : KnownCall s e.cpu (own_of s e.cpu past) (lanes_at s past) n c y = known (Call n c y) q refl in
          calls b n c y q o x (own_named_or_not s limit p e past x.frame r.1 x.goes_on.inner)
      go b (Free n c) q o =
          let x : KnownFree s e.cpu (own_of s e.cpu past) n c = known (Free n c) q refl in
          frees b n c q o x (own_named_or_not s limit p e past x.frame r.1 x.goes_on.inner)
      go b (End n) q o =
          let x : KnownEnd s e.cpu (own_of s e.cpu past) n = known (End n) q refl in
          ends b n q o x (own_named_or_not s limit p e past x.frame r.1 x.goes_on.inner)
      go b (Normal n) q o =
          let x : KnownNormal s e.cpu (own_of s e.cpu past) n = known (Normal n) q refl in
          either b (own_frames p past) (normals n q x (own_named_or_not s limit p e past x.frame r.1 x.goes_on.inner))
      go b (Rewait n y) q o =
          let x : KnownRewait e.cpu (own_of s e.cpu past) (lanes_at s past) n y = known (Rewait n y) q refl in
          either b (own_frames p past) (rewaits n y q x (own_named_or_not s limit p e past x.frame r.1 x.goes_on.inner))
      go false w q o = quiet w q refl
      go true w q o = quiet w q refl

  -- in a run, what each event keeps true of frames holds of each frame on a processor's own part
  pub each_own : (p : CpuNo) (past : List Event) → IsRun s limit past → EachFrame (P past) (own_frames p past)
  each_own p [] r = tt
  each_own p (e ∷ past) r = own_kept p e past (is_of e p) r refl (each_own p past r.1)
