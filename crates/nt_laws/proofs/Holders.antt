-- In a run a lock is held by at most one open frame, and a processor spins on at most one lock and on none of its own.
use Rattle.std.proofs.Common.{ap, arith, inl, inr, subst, sym, ◌∙◌}
use Rattle.std.proofs.lemmas.Bool.{eq-eqb, eqb-true, ltb-true}
use Rattle.std.proofs.lemmas.Bool.Decides.{nat_tests}
use Rattle.std.specs.List.{Contains, list_any}
use Rattle.std.specs.Option.{option_map_or}
use Rattle.std.specs.Prelude.{Bool, List, None, Option, Some, [], false, nat_le, refl, suc, true, zero, ℕ, ◌<◌, ◌==◌, ◌||◌, ◌∷◌, ◌≡◌, ◌≤◌, ◌⊎◌}
use Rattle.nt_event.proofs.Elements.{contains_cases, contains_none}
use Rattle.nt_event.specs.declared.events.Event.{Event}
use Rattle.nt_event.specs.declared.frames.Held.{Held}
use Rattle.nt_event.specs.declared.numbers.CpuNo.{CpuNo}
use Rattle.nt_event.specs.declared.numbers.LockNo.{LockNo}
use Rattle.nt_event.specs.declared.numbers.ThreadNo.{ThreadNo}
use Rattle.nt_event.specs.declared.scripts.Script.{Script}
use Rattle.nt_event.specs.Commands.{holds}
use Rattle.nt_event.specs.Frame.{Frame}
use Rattle.nt_event.specs.Frames.{base_of, frames_of, own_frames, running, thread_frames, thread_part}
use Rattle.nt_event.specs.Lists.{tail_of}
use Rattle.nt_event.specs.Locks.{lock_of, spins_at}
use Rattle.nt_event.specs.Numbers.{is_of}
use Rattle.nt_event.specs.Queues.{is_queue}
use Rattle.nt_event.specs.Routines.{cpu_of}
use Rattle.nt_event.specs.Script.{has_cpu, has_lock}
use Rattle.nt_event.specs.Step.{IsRun}
use Rattle.nt_runs.proofs.Engaged.{Over, Under, either_runs, own_locked, thread_locked}
use Rattle.nt_runs.proofs.Locked.{Clear, Locked}
use Rattle.nt_runs.proofs.LocksRun.{locks_agree}
use Rattle.nt_runs.proofs.Parts.{parted}
use Rattle.nt_runs.proofs.Robin.{cpu_below}
use Rattle.nt_runs.proofs.Running.{part_of_running, running_here}
use Rattle.nt_runs.proofs.Shared.{none_part}
use Rattle.nt_runs.proofs.ThreadFrames.{Each}
use Rattle.nt_runs.specs.SomeFrame.{among, holds_lock, on_frame, some_frame, spins_lock}
use Rattle.nt_laws.specs.Locks.{IsOpen, LaneTells, ProcessorHolds, ProcessorSpins, SpinsOn, StandsOn}

-- ---- lists of frames

-- what holds of each frame of a list holds of a frame that is in it
each_at : (P : Frame → Type 0) (fs : List Frame) (f : Frame) → Each P fs → Contains fs f → P f
each_at P [] f h c = contains_none f c
each_at P (x ∷ fs) f h c = elim (contains_cases x fs f c) [ inl q ↦ subst P q h.0 | inr d ↦ each_at P fs f h.1 d ]

-- a frame that is in a list is in the list with one more frame before it
contains_more : (x f : Frame) (fs : List Frame) → Contains fs f → Contains (x ∷ fs) f
contains_more x f fs c = let l = c.1 in (suc c.0, omega (arith, l), c.2)

-- a test passed by a frame of a list is passed by some frame of it
any_of : (U : List Held → Option Held → Bool) (fs : List Frame) (f : Frame) → Contains fs f → on_frame U f ≡ true → list_any (on_frame U) fs ≡ true
any_of U [] f c h = contains_none f c
any_of U (x ∷ fs) f c h =
    elim (contains_cases x fs f c) [
      | inl q ↦ ap (λ (b : Bool). b || list_any (on_frame U) fs) (ap (λ (y : Frame). on_frame U y) q ∙ h)
      | inr d ↦ or_right (on_frame U x) (list_any (on_frame U) fs) (any_of U fs f d h)
    ]
  where
    or_right : (a b : Bool) → b ≡ true → (a || b) ≡ true
    or_right true b k = refl
    or_right false b k = k

-- if some frame of a list passes a test, there is a frame in the list that passes it
of_any : (U : List Held → Option Held → Bool) (fs : List Frame) → list_any (on_frame U) fs ≡ true → (f : Frame) × Contains fs f × (on_frame U f ≡ true)
of_any U [] h = cc
of_any U (x ∷ fs) h = go (on_frame U x) refl h (λ k. of_any U fs k)
  where
    go : (b : Bool) → on_frame U x ≡ b → (b || list_any (on_frame U) fs) ≡ true →
        (list_any (on_frame U) fs ≡ true → (f : Frame) × Contains fs f × (on_frame U f ≡ true)) → (f : Frame) × Contains (x ∷ fs) f × (on_frame U f ≡ true)
    go true e k ih = (x, (zero, omega arith, refl), e)
    go false e k ih = let y = ih k in (y.0, contains_more x y.0 fs y.1, y.2)

-- ---- frames that hold a lock or spin

abbrev IsBusy : Frame → Type 0
IsBusy f = Clear f → ⊥

-- a frame that holds a lock is busy
busy_holds : (k : LockNo) (f : Frame) → holds k f ≡ true → IsBusy f
busy_holds k f h c = let z : list_any (λ (a : Held). a.lock.0 == k.0) [] ≡ true = subst (λ (hs : List Held). among k hs ≡ true) c.0 h in cc

-- a frame that spins on a lock is busy
busy_spins : (k : LockNo) (f : Frame) → SpinsOn k f → IsBusy f
busy_spins k f h c = let a = h.1 in let b = c.1 in cc

-- such a frame is no interrupt
busy_low : (s : Script) (p : CpuNo) (f : Frame) → Locked s p f → IsBusy f → base_of f ≤ 2
busy_low s p f h b = go (nat_le (base_of f) 2) refl
  where
    go : (c : Bool) → nat_le (base_of f) 2 ≡ c → base_of f ≤ 2
    go true e = grind (arith, nat_tests)
    go false e = let high : 3 ≤ base_of f = grind (arith, nat_tests) in absurd (b (h.low high))

-- two busy frames among the processor's own frames are the same frame
one_own : (s : Script) (p : CpuNo) (gs : List Frame) (f g : Frame) → Each (Locked s p) gs → Under gs → Contains gs f → Contains gs g → IsBusy f → IsBusy g →
    f ≡ g
one_own s p [] f g h u c d bf bg = contains_none f c
one_own s p (x ∷ gs) f g h u c d bf bg =
    go (contains_cases x gs f c) (contains_cases x gs g d) (λ i j. one_own s p gs f g h.1 u.1 i j bf bg)
  where
    clear : (y : Frame) → x ≡ y → IsBusy y → Each Clear gs
    clear y q b = u.0 (busy_low s p x h.0 (subst (λ (z : Frame). IsBusy z) (sym q) b))

    go : (x ≡ f) ⊎ Contains gs f → (x ≡ g) ⊎ Contains gs g → (Contains gs f → Contains gs g → f ≡ g) → f ≡ g
    go (inl q) (inl w) ih = sym q ∙ w
    go (inl q) (inr w) ih = absurd (bg (each_at Clear gs g (clear f q bf) w))
    go (inr q) (inl w) ih = absurd (bf (each_at Clear gs f (clear g w bg) q))
    go (inr q) (inr w) ih = ih q w

-- two busy frames of a thread's part, clear but for its head, are the same frame
one_part : (fs : List Frame) (f g : Frame) → Each Clear (tail_of fs) → Contains fs f → Contains fs g → IsBusy f → IsBusy g → f ≡ g
one_part [] f g t c d bf bg = contains_none f c
one_part (x ∷ fs) f g t c d bf bg = go (contains_cases x fs f c) (contains_cases x fs g d)
  where
    go : (x ≡ f) ⊎ Contains fs f → (x ≡ g) ⊎ Contains fs g → f ≡ g
    go (inl q) (inl w) = sym q ∙ w
    go (inl q) (inr w) = absurd (bg (each_at Clear fs g t w))
    go (inr q) w = absurd (bf (each_at Clear fs f t q))

-- no frame of the thread's part is busy while one of the processor's own frames is
one_side : (s : Script) (p : CpuNo) (gs fs : List Frame) (f g : Frame) → Each (Locked s p) gs → Over gs fs → Contains gs f → Contains fs g → IsBusy f →
    IsBusy g → ⊥
one_side s p gs fs f g h o c d bf bg =
    bg (each_at Clear fs g (each_at (λ x. base_of x ≤ 2 → Each Clear fs) gs f o c (busy_low s p f (each_at (Locked s p) gs f h c) bf)) d)

-- ---- the frames of one processor

-- a frame on the running thread's part
abbrev RunsThere : Script → CpuNo → List Event → Frame → Type 0
RunsThere s p past f = (t : ThreadNo) × (running p past ≡ Some t) × Contains (thread_frames s p t past) f

-- in a run a frame of the running thread's part of a processor runs there
runs_there : (s : Script) (limit : ℕ) (p : CpuNo) (past : List Event) (f : Frame) → IsRun s limit past → Contains (thread_part (frames_of s p past)) f →
    RunsThere s p past f
runs_there s limit p past f r c = go (running p past) refl
  where
    go : (o : Option ThreadNo) → running p past ≡ o → RunsThere s p past f
    go None q = contains_none f (subst (λ (fs : List Frame). Contains fs f) (none_part (frames_of s p past) q) c)
    go (Some t) q =
        let here = running_here s limit p t past r q in (t, q, subst (λ (fs : List Frame). Contains fs f) (part_of_running s p t past here.0 q) c)

-- at most one of them holds a lock or spins
one_busy : (s : Script) (limit : ℕ) (p : CpuNo) (past : List Event) (f g : Frame) → IsRun s limit past → StandsOn s p past f → StandsOn s p past g →
    IsBusy f → IsBusy g → f ≡ g
one_busy s limit p past f g r (inl c) (inl d) bf bg = one_own s p (own_frames p past) f g (own_locked s limit p past r) (parted s limit p past r).own c d bf bg
one_busy s limit p past f g r (inl c) (inr d) bf bg =
    let w = runs_there s limit p past g r d in
    absurd
    (one_side s p (own_frames p past) (thread_frames s p w.0 past) f g (own_locked s limit p past r) ((parted s limit p past r).over w.0 w.1) c w.2 bf bg)
one_busy s limit p past f g r (inr c) (inl d) bf bg =
    let w = runs_there s limit p past f r c in
    absurd
    (one_side s p (own_frames p past) (thread_frames s p w.0 past) g f (own_locked s limit p past r) ((parted s limit p past r).over w.0 w.1) d w.2 bg bf)
one_busy s limit p past f g r (inr c) (inr d) bf bg =
    let v = runs_there s limit p past f r c in
    let w = runs_there s limit p past g r d in
    let same : v.0 ≡ w.0 = one_thread v.0 w.0 (sym v.1 ∙ w.1) in
    one_part (thread_frames s p w.0 past) f g ((parted s limit p past r).tail w.0)
    (subst (λ (t : ThreadNo). Contains (thread_frames s p t past) f) same v.2) w.2 bf bg
  where
    one_thread : (t u : ThreadNo) → ◌≡◌ {A = Option ThreadNo} (Some t) (Some u) → t ≡ u
    one_thread t u q = cc

-- in a run a frame that stands on a processor has a level that fits its locks and its spin
locked_at : (s : Script) (limit : ℕ) (p : CpuNo) (past : List Event) (f : Frame) → IsRun s limit past → StandsOn s p past f → Locked s p f
locked_at s limit p past f r (inl c) = each_at (Locked s p) (own_frames p past) f (own_locked s limit p past r) c
locked_at s limit p past f r (inr c) =
    let w = runs_there s limit p past f r c in each_at (Locked s p) (thread_frames s p w.0 past) f (thread_locked s limit p w.0 past r) w.2

-- ---- tests of the frames of one processor

-- a processor has some frame that passes a test if one that stands there passes it
some_of : (U : List Held → Option Held → Bool) (s : Script) (p : CpuNo) (past : List Event) (f : Frame) → StandsOn s p past f → on_frame U f ≡ true →
    some_frame U s p past ≡ true
some_of U s p past f (inl c) h =
    ap (λ (b : Bool). b || list_any (on_frame U) (thread_part (frames_of s p past))) (any_of U (own_frames p past) f c h)
some_of U s p past f (inr c) h = or_right _ _ (any_of U (thread_part (frames_of s p past)) f c h)
  where
    or_right : (a b : Bool) → b ≡ true → (a || b) ≡ true
    or_right true b k = refl
    or_right false b k = k

-- if a processor has some frame that passes a test, a frame that stands there passes it
of_some : (U : List Held → Option Held → Bool) (s : Script) (p : CpuNo) (past : List Event) → some_frame U s p past ≡ true → (f : Frame) ×
    StandsOn s p past f × (on_frame U f ≡ true)
of_some U s p past h = go (list_any (on_frame U) (own_frames p past)) refl h
  where
    go : (b : Bool) → list_any (on_frame U) (own_frames p past) ≡ b → (b || list_any (on_frame U) (thread_part (frames_of s p past))) ≡ true → (f : Frame) ×
        StandsOn s p past f × (on_frame U f ≡ true)
    go true e k = let y = of_any U (own_frames p past) e in (y.0, inl y.1, y.2)
    go false e k = let y = of_any U (thread_part (frames_of s p past)) k in (y.0, inr y.1, y.2)

-- locks of equal numbers are equal
lock_is : (j k : LockNo) → (j.0 == k.0) ≡ true → j ≡ k
lock_is j k q = ap (λ (n : ℕ). record { 0 = n }) (eqb-true j.0 k.0 q)

-- a frame that passes the test for spinning on a lock spins on it
lock_at_spin : (k : LockNo) (f : Frame) → on_frame (spins_lock k) f ≡ true → SpinsOn k f
lock_at_spin k f h = go f.spin refl h
  where
    go : (o : Option Held) → f.spin ≡ o → option_map_or (λ a. a.lock.0 == k.0) o false ≡ true → SpinsOn k f
    go None q z = cc
    go (Some a) q z = (a, q, lock_is a.lock k z)

-- a frame that spins on a lock passes the test for it
spin_at_lock : (k : LockNo) (f : Frame) → SpinsOn k f → on_frame (spins_lock k) f ≡ true
spin_at_lock k f (a, q, same) =
    ap (λ (o : Option Held). option_map_or (λ a. a.lock.0 == k.0) o false) q ∙ eq-eqb a.lock.0 k.0 (ap (λ (j : LockNo). j.0) same)

-- ---- open frames

-- a processor that the script lacks has no frame
own_below : (s : Script) (limit : ℕ) (p : CpuNo) (past : List Event) (f : Frame) → IsRun s limit past → Contains (own_frames p past) f → p.0 < s.cpus
own_below s limit p [] f r c = contains_none f c
own_below s limit p (e ∷ past) f r c = go (is_of e p) refl (λ d. own_below s limit p past f r.1 d)
  where
    go : (b : Bool) → is_of e p ≡ b → (Contains (own_frames p past) f → p.0 < s.cpus) → p.0 < s.cpus
    go true o ih = let n = eqb-true e.cpu.0 p.0 o in let l = cpu_below s limit e past r.0 in omega (arith, n, l)
    go false o ih = let same : own_frames p (e ∷ past) ≡ own_frames p past = rw o in ih (subst (λ (fs : List Frame). Contains fs f) same c)

-- in a run the processor of a thread's frame is one of the script's
thread_below : (s : Script) (limit : ℕ) (p : CpuNo) (t : ThreadNo) (past : List Event) (f : Frame) → IsRun s limit past →
    Contains (thread_frames s p t past) f → p.0 < s.cpus
thread_below s limit p t [] f r c = contains_none f c
thread_below s limit p t (e ∷ past) f r c = go (is_of e p) refl (λ d. thread_below s limit p t past f r.1 d)
  where
    go : (b : Bool) → is_of e p ≡ b → (Contains (thread_frames s p t past) f → p.0 < s.cpus) → p.0 < s.cpus
    go true o ih = let n = eqb-true e.cpu.0 p.0 o in let l = cpu_below s limit e past r.0 in omega (arith, n, l)
    go false o ih =
        let same : thread_frames s p t (e ∷ past) ≡ thread_frames s p t past = rw o in ih (subst (λ (fs : List Frame). Contains fs f) same c)

-- an open frame that holds a lock or spins stands on a processor of the script
abbrev StandsSomewhere : Script → List Event → Frame → Type 0
StandsSomewhere s past f = (p : CpuNo) × (p.0 < s.cpus) × StandsOn s p past f

-- in a run an open frame that is busy stands on some processor
stands : (s : Script) (limit : ℕ) (past : List Event) (f : Frame) → IsRun s limit past → IsOpen s past f → IsBusy f → StandsSomewhere s past f
stands s limit past f r (inl (p, c)) b = (p, own_below s limit p past f r c, inl c)
stands s limit past f r (inr (t, c)) b = go (either_runs (running (cpu_of s t) past) t)
  where
    go : (running (cpu_of s t) past ≡ Some t) ⊎ (running (cpu_of s t) past ≡ Some t → ⊥) → StandsSomewhere s past f
    go (inl q) =
        let here = running_here s limit (cpu_of s t) t past r q in (
          cpu_of s t,
          thread_below s limit (cpu_of s t) t past f r c,
          inr (subst (λ (fs : List Frame). Contains fs f) (sym (part_of_running s (cpu_of s t) t past here.0 q)) c),
        )
    go (inr q) =
        absurd (b (each_at Clear (thread_frames s (cpu_of s t) t past) f ((parted s limit (cpu_of s t) past r).stopped t q) c))

-- ---- the laws

-- two processors that both pass the test for an optional processor are the same
holder_one : (o : Option CpuNo) (p q : CpuNo) → is_queue o p ≡ true → is_queue o q ≡ true → p ≡ q
holder_one None p q h k = cc
holder_one (Some a) p q h k = ap (λ (n : ℕ). record { 0 = n }) (sym (eqb-true a.0 p.0 h) ∙ eqb-true a.0 q.0 k)

-- in a run two open frames that hold the same declared lock are the same frame
pub one_holds : (s : Script) (limit : ℕ) (k : LockNo) (past : List Event) (f g : Frame) → IsRun s limit past → has_lock s k ≡ true → IsOpen s past f →
    IsOpen s past g → holds k f ≡ true → holds k g ≡ true → f ≡ g
one_holds s limit k past f g r has a b h i =
    let x = stands s limit past f r a (busy_holds k f h) in
    let y = stands s limit past g r b (busy_holds k g i) in
    let within = ltb-true k.0 s.locks has in
    let p : is_queue (lock_of s k past).holder x.0 ≡ true = (locks_agree s limit k past r within x.0 x.1).0 ∙ some_of (holds_lock k) s x.0 past f x.2 h in
    let q : is_queue (lock_of s k past).holder y.0 ≡ true = (locks_agree s limit k past r within y.0 y.1).0 ∙ some_of (holds_lock k) s y.0 past g y.2 i in
    let same : y.0 ≡ x.0 = holder_one (lock_of s k past).holder y.0 x.0 q p in
    one_busy s limit x.0 past f g r x.2 (subst (λ (c : CpuNo). StandsOn s c past g) same y.2) (busy_holds k f h) (busy_holds k g i)

-- in a run the frames of a thread that doesn't run hold no lock and spin on none
pub stopped_none : (s : Script) (limit : ℕ) (t : ThreadNo) (past : List Event) (f : Frame) → IsRun s limit past → (running (cpu_of s t) past ≡ Some t → ⊥) →
    Contains (thread_frames s (cpu_of s t) t past) f → (f.held ≡ []) × (f.spin ≡ None)
stopped_none s limit t past f r n c = each_at Clear (thread_frames s (cpu_of s t) t past) f ((parted s limit (cpu_of s t) past r).stopped t n) c

-- an optional held lock that is one and is another shows the two to be equal
held_one : (a b : Held) (o : Option Held) → o ≡ Some a → o ≡ Some b → a ≡ b
held_one a b o p q = let z : Some a ≡ Some b = sym p ∙ q in cc

-- in a run a processor spins on at most one lock
pub spins_one : (s : Script) (limit : ℕ) (p : CpuNo) (j k : LockNo) (past : List Event) → IsRun s limit past → ProcessorSpins s p j past →
    ProcessorSpins s p k past → j ≡ k
spins_one s limit p j k past r (f, c, h) (g, d, i) =
    let same : g ≡ f = one_busy s limit p past g f r d c (busy_spins k g i) (busy_spins j f h) in
    let there : f.spin ≡ Some i.0 = ap (λ (x : Frame). x.spin) (sym same) ∙ i.1 in
    sym h.2 ∙ (ap (λ (a : Held). a.lock) (held_one h.0 i.0 f.spin h.1 there) ∙ i.2)

-- in a run a processor spins on no lock that it holds
pub spins_on_none_held : (s : Script) (limit : ℕ) (p : CpuNo) (k : LockNo) (past : List Event) → IsRun s limit past → ProcessorSpins s p k past →
    ProcessorHolds s p k past → ⊥
spins_on_none_held s limit p k past r (f, c, h) (g, d, i) =
    let same : g ≡ f = one_busy s limit p past g f r d c (busy_holds k g i) (busy_spins k f h) in
    let there : among k f.held ≡ true = subst (λ (x : Frame). holds k x ≡ true) same i in
    let free : among h.0.lock f.held ≡ false = ((locked_at s limit p past f r c).retry h.0 h.1).1 in
    let none : among k f.held ≡ false = subst (λ (l : LockNo). among l f.held ≡ false) h.2 free in
    no_bool (sym none ∙ there)
  where
    no_bool : false ≡ true → ⊥
    no_bool q = cc

-- in a run a lock's lane names exactly the processor that holds it and those that spin on it
pub lane_tells : (s : Script) (limit : ℕ) (p : CpuNo) (k : LockNo) (past : List Event) → IsRun s limit past → has_cpu s p ≡ true → has_lock s k ≡ true →
    LaneTells s p k past
lane_tells s limit p k past r hp hk =
    record {
      holds = (
        λ q. of_some (holds_lock k) s p past (sym agree.0 ∙ (ap (λ (o : Option CpuNo). is_queue o p) q ∙ eq-eqb p.0 p.0 refl)),
        λ h. queue_is (lock_of s k past).holder (agree.0 ∙ some_of (holds_lock k) s p past h.0 h.1 h.2),
      );
      spins = (
        λ q. let y = of_some (spins_lock k) s p past (sym agree.1 ∙ q) in (y.0, y.1, lock_at_spin k y.0 y.2),
        λ h. agree.1 ∙ some_of (spins_lock k) s p past h.0 h.1 (spin_at_lock k h.0 h.2),
      );
    }
  where
    agree : (is_queue (lock_of s k past).holder p ≡ some_frame (holds_lock k) s p past) × (spins_at (lock_of s k past) p
        ≡ some_frame (spins_lock k) s p past)
    agree = locks_agree s limit k past r (ltb-true k.0 s.locks hk) p (ltb-true p.0 s.cpus hp)

    queue_is : (o : Option CpuNo) → is_queue o p ≡ true → o ≡ Some p
    queue_is None q = cc
    queue_is (Some a) q = ap (λ (n : ℕ). Some (record { 0 = n })) (eqb-true a.0 p.0 q)
