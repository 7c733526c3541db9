-- A routine that may begin here finds room, and the frames stay nested.
use Rattle.std.proofs.Common.{◌≡◌, ℕ, ◌<◌, ◌≤◌, Bool, true, false, not, ◌||◌, ◌==◌, nat_lt, Option, None, Some, is_none, List, [], ◌∷◌, length, arith, subst}
use Rattle.std.proofs.Common.{refl, lit<}
use Rattle.std.proofs.lemmas.List.Sums.{sum_by-cons}
use Rattle.std.specs.Option.{option_map_or, option_or}
use Rattle.nt_event.specs.declared.commands.ApcKind.TheVariants.{Normal, Special, User}
use Rattle.nt_event.specs.declared.commands.Command.TheVariants.{ToUser}
use Rattle.nt_event.specs.declared.commands.Refusal.{Refusal}
use Rattle.nt_event.specs.declared.commands.Refusal.TheVariants.{NotBase, NotThread}
use Rattle.nt_event.specs.declared.numbers.ApcNo.{ApcNo}
use Rattle.nt_event.specs.Commands.{refusal, refuse}
use Rattle.nt_event.specs.declared.commands.Regions.{Regions}
use Rattle.nt_event.specs.declared.frames.Body.{Body}
use Rattle.nt_event.specs.declared.frames.Body.TheVariants.{Apc, Base, Dpc, Int, Rundown, Threaded}
use Rattle.nt_event.specs.Frame.{Frame}
use Rattle.nt_event.specs.declared.numbers.ThreadNo.{ThreadNo}
use Rattle.nt_event.specs.Frames.{Frames, base_of, frames_in, is_apc_body, is_base_body, is_normal_apc_body, is_on_thread, level_in, new_frame, thread_part}
use Rattle.nt_event.specs.Regions.{busy_of}
use Rattle.nt_event.specs.Classes.{is_isr_level}
use Rattle.nt_event.specs.Lists.{head_of, is_null}
use Rattle.nt_frame.specs.Changes.{begun, is_own, on_part, on_running, on_thread}
use Rattle.nt_frame.specs.Nesting.{AreNamedBelow, AreNested, IsFrame, IsOver, IsPart, IsThreadPart, has_isr_level, is_special_body, next_name, rank}
use Rattle.nt_frame.specs.Rules.{may_begin, regions_in}
use Rattle.nt_frame.proofs.Nested.{on_own_nested, on_running_nested, thread_part_nested}
use Rattle.nt_frame.proofs.Ranks.{below_apc, below_dpc, below_int, below_normal, length-under, rank_bounds, thread_rank_bound}
use Rattle.nt_event.proofs.Booleans.{and_left, and_right, lt_is, zero_is}

-- ---- the new frame

-- the routine of a special APC is an APC's
level_of_special : (b : Body) → is_special_body b ≡ true → is_apc_body b ≡ true
level_of_special (Apc a Special) h = refl
level_of_special (Apc a Normal) h = refl
level_of_special (Apc a User) h = refl
level_of_special (Int l) h = cc
level_of_special (Dpc d) h = cc
level_of_special (Threaded d) h = cc
level_of_special (Base t) h = cc
level_of_special (Rundown a) h = cc

-- a new frame is a frame of its routine's part, if an interrupt's level is one that interrupts have
new_frame_is : (n : ℕ) (b : Body) → has_isr_level b ≡ true → IsFrame (is_own b) (new_frame n b)
new_frame_is n b i = record {
  part = refl;
  interrupt = i;
  level = omega arith;
  special = level_of_special b;
  phase = λ h. h;
  leaving = λ h. absurd (cc);
  kept = tt;
  spun = tt;
}

-- an interrupt that may begin has a level that interrupts have
isr_level_of : (b : Body) (x : Frames) → may_begin b x ≡ true → has_isr_level b ≡ true
isr_level_of (Int l) x m = and_left _ _ m
isr_level_of (Dpc d) x m = refl
isr_level_of (Threaded d) x m = refl
isr_level_of (Apc a kind) x m = refl
isr_level_of (Base t) x m = refl
isr_level_of (Rundown a) x m = refl

-- ---- the own part

-- an interrupt above the current level stands over the own frames in rank and name
over_own_int : (n l : ℕ) (os : List Frame) (r : Option Frame) → IsPart true os → is_isr_level l ≡ true →
    nat_lt (option_map_or (λ f. f.level) (option_or (head_of os) r) 0) l ≡ true → next_name os ≤ n → IsOver (new_frame n (Int l)) os
over_own_int n l [] r p i t m = tt
over_own_int n l (g ∷ gs) r p i t m =
    (below_int g.body g.kernel_phase g.level l p.0.part p.0.level (lt_is _ _ t) i, omega arith)

-- a DPC that begins below level 2 stands over the own frames in rank and name
over_own_dpc : (n : ℕ) (b : Body) (os : List Frame) (r : Option Frame) → rank b ≡ 2 → IsPart true os →
    nat_lt (option_map_or (λ f. f.level) (option_or (head_of os) r) 0) 2 ≡ true → next_name os ≤ n → IsOver (new_frame n b) os
over_own_dpc n b [] r e p t m = tt
over_own_dpc n b (g ∷ gs) r e p t m =
    let k : rank g.body < 2 = below_dpc g.body g.kernel_phase g.level p.0.part p.0.interrupt p.0.level (lt_is _ _ t) in
    (omega (arith, e), omega arith)

-- any new frame stands over a part without frames
over_none : (n : ℕ) (b : Body) (os : List Frame) → is_null os ≡ true → IsOver (new_frame n b) os
over_none n b [] h = tt
over_none n b (g ∷ gs) h = cc

-- a routine of the own part that may begin here may stand over the frames of the own part
pub over_own : (n : ℕ) (b : Body) (x : Frames) → AreNested x → may_begin b x ≡ true → next_name x.own ≤ n → is_own b ≡ true → IsOver (new_frame n b) x.own
over_own n (Int l) x h m k o =
    over_own_int n l x.own (head_of (thread_part x)) h.own (and_left _ _ m) (and_right _ _ m) k
over_own n (Dpc d) x h m k o = over_own_dpc n (Dpc d) x.own (head_of (thread_part x)) refl h.own m k
over_own n (Threaded d) x h m k o = over_none n (Threaded d) x.own (and_right _ _ m)
over_own n (Apc a kind) x h m k o = cc
over_own n (Base t) x h m k o = cc
over_own n (Rundown a) x h m k o = cc

-- ---- a thread's part

-- the rank of a thread's base routine is below 2
base_rank : (b : Body) → is_base_body b ≡ true → rank b < 2
base_rank (Base t) h = lit< tt
base_rank (Int l) h = cc
base_rank (Dpc d) h = cc
base_rank (Threaded d) h = cc
base_rank (Apc a kind) h = cc
base_rank (Rundown a) h = cc

-- a routine of the own part is no base
pub base_is_not_own : (b : Body) → is_own b ≡ true → is_base_body b ≡ true → ⊥
base_is_not_own (Base t) o h = cc
base_is_not_own (Int l) o h = cc
base_is_not_own (Dpc d) o h = cc
base_is_not_own (Threaded d) o h = cc
base_is_not_own (Apc a kind) o h = cc
base_is_not_own (Rundown a) o h = cc

-- if neither of two tests passes, the first fails, and so does the second
not_either : (a b : Bool) → not (a || b) ≡ true → a ≡ false
not_either true b h = cc
not_either false b h = refl

-- no frame on the own part, and the routine may begin over the thread's frames
abbrev OverThread : ℕ → Body → List Frame → List Frame → Type 0
OverThread n b os fs = (os ≡ []) × IsOver (new_frame n b) fs

-- a special APC that begins at level 0, without own frames, stands over the thread's frames
over_special : (n : ℕ) (a : ApcNo) (os fs : List Frame) → is_null os ≡ true →
    (option_map_or (λ f. f.level) (option_or (head_of os) (head_of fs)) 0 == 0) ≡ true → IsPart false fs → next_name fs ≤ n → OverThread n (Apc a Special) os fs
over_special n a [] [] o z p k = (refl, tt)
over_special n a [] (g ∷ gs) o z p k =
    let e : g.level ≡ 0 = zero_is _ z in
    let b : base_of g ≤ 0 = omega (arith, p.0.level) in
    (refl, (below_apc g.body g.kernel_phase p.0.part b p.0.special, omega arith))
over_special n a (f ∷ os) fs o z p k = cc

-- a normal APC that begins at level 0, with no normal APC in progress, stands over the thread's frames
over_normal : (n : ℕ) (a : ApcNo) (os fs : List Frame) → is_null os ≡ true →
    (option_map_or (λ f. f.level) (option_or (head_of os) (head_of fs)) 0 == 0) ≡ true → not (busy_of fs) ≡ true → IsPart false fs → next_name fs ≤ n →
    OverThread n (Apc a Normal) os fs
over_normal n a [] [] o z b p k = (refl, tt)
over_normal n a [] (g ∷ gs) o z b p k =
    let s : OverThread n (Apc a Special) [] (g ∷ gs) = over_special n a [] (g ∷ gs) o z p k in
    let q : is_normal_apc_body g.body ≡ false = not_either _ _ b in
    (refl, (below_normal g.body p.0.part s.1.0 q, omega arith))
over_normal n a (f ∷ os) fs o z b p k = cc

-- a user APC begins over a base frame alone
over_user : (n : ℕ) (a : ApcNo) (level : ℕ) (r : Regions) (os fs : List Frame) →
    is_none (option_map_or (λ f. refusal level (not (is_null os)) r f ToUser) (option_or (head_of os) (head_of fs)) (Some NotThread)) ≡ true →
    next_name fs ≤ n → OverThread n (Apc a User) os fs
over_user n a level r [] [] h k = cc
over_user n a level r [] (g ∷ gs) h k =
    (refl, (base_rank g.body (base_called (is_base_body g.body) _ h), omega arith))
  where
    base_called : (b : Bool) (next : Option Refusal) → is_none (refuse (not b) NotBase next) ≡ true → b ≡ true
    base_called true next e = refl
    base_called false next e = cc
over_user n a level r (f ∷ os) fs h k = cc

-- a base routine stands over the thread's frames where the thread and the processor have none
over_base : (n : ℕ) (t : ThreadNo) (os fs : List Frame) → is_null os ≡ true → is_null fs ≡ true → OverThread n (Base t) os fs
over_base n t [] [] o h = (refl, tt)
over_base n t [] (g ∷ gs) o h = cc
over_base n t (f ∷ os) fs o h = cc

-- a rundown routine begins over a base frame alone
over_rundown : (n : ℕ) (a : ApcNo) (os fs : List Frame) → option_map_or (λ f. f.leaving) (option_or (head_of os) (head_of fs)) false ≡ true → IsPart true os →
    IsPart false fs → next_name fs ≤ n → OverThread n (Rundown a) os fs
over_rundown n a [] [] l o p k = (refl, tt)
over_rundown n a [] (g ∷ gs) l o p k = (refl, (base_rank g.body (p.0.leaving l), omega arith))
over_rundown n a (f ∷ os) fs l o p k = absurd (base_is_not_own f.body o.0.part (o.0.leaving l))

-- the newest frame of the running thread is named below n
pub running_named : (n : ℕ) (x : Frames) → AreNested x → AreNamedBelow n x → next_name (thread_part x) ≤ n
running_named n x h m = go x.running refl
  where
    go : (r : Option ThreadNo) → x.running ≡ r → next_name (option_map_or (frames_in x.threads) r []) ≤ n
    go None e = omega arith
    go (Some t) e = m.1 t.0 [] (rw e at h.running)

-- a routine of a thread that may begin here finds the own part empty and may stand over the thread's frames
pub over_thread : (n : ℕ) (b : Body) (x : Frames) → AreNested x → may_begin b x ≡ true → AreNamedBelow n x → is_own b ≡ false →
    OverThread n b x.own (thread_part x)
over_thread n (Int l) x h m k o = cc
over_thread n (Dpc d) x h m k o = cc
over_thread n (Threaded d) x h m k o = cc
over_thread n (Apc a Special) x h m k o =
    over_special n a x.own (thread_part x) (and_left _ _ (and_left _ _ m)) (and_left _ _ (and_right _ _ m)) (thread_part_nested x h).part
    (running_named n x h k)
over_thread n (Apc a Normal) x h m k o =
    over_normal n a x.own (thread_part x) (and_left _ _ (and_left _ _ m)) (and_left _ _ (and_right _ _ m))
    (and_right ((regions_in x).crit == 0) _ (and_right ((regions_in x).guard == 0) _ (and_right (level_in x == 0) _ (and_right (is_on_thread x) _ m))))
    (thread_part_nested x h).part (running_named n x h k)
over_thread n (Apc a User) x h m k o =
    over_user n a (level_in x) (regions_in x) x.own (thread_part x) m (running_named n x h k)
over_thread n (Base t) x h m k o =
    over_base n t x.own (thread_part x) (and_left _ _ (and_right _ _ m)) (and_right _ _ (and_right _ _ m))
over_thread n (Rundown a) x h m k o =
    over_rundown n a x.own (thread_part x) m h.own (thread_part_nested x h).part (running_named n x h k)

-- ---- what `begin` rests on

-- where a routine of the own part may begin, the own part has fewer than thirteen frames
pub own_room : (n : ℕ) (b : Body) (x : Frames) → AreNested x → may_begin b x ≡ true → AreNamedBelow n x → is_own b ≡ true → length x.own < 13
own_room n b x h m k o =
    let r : (0 < rank b) × (rank b ≤ 13) = rank_bounds b (isr_level_of b x m) in
    let l : length x.own < rank b = length-under true x.own (new_frame n b) h.own (over_own n b x h m k.0 o) r.0 in
    omega arith

-- where a routine of a thread may begin, the running thread has fewer than four frames
pub thread_room : (n : ℕ) (b : Body) (x : Frames) (t : ThreadNo) → AreNested x → may_begin b x ≡ true → AreNamedBelow n x → is_own b ≡ false →
    x.running ≡ Some t → length (frames_in x.threads t) < 4
thread_room n b x t h m k o e =
    let l : length (thread_part x) < rank b = length-under false (thread_part x) (new_frame n b) (thread_part_nested x h).part (over_thread n b x h m k o).1
    (rank_bounds b (isr_level_of b x m)).0 in
    let s : length (frames_in x.threads t) < rank b = rw e at l in
    omega (arith, thread_rank_bound b o)

-- frames stay nested when a routine of the processor's own part begins
own_begun : (n : ℕ) (b : Body) (x : Frames) → AreNested x → may_begin b x ≡ true → AreNamedBelow n x → is_own b ≡ true →
    AreNested (on_part true (λ fs. new_frame n b ∷ fs) x)
own_begun n b x h m k o =
    on_own_nested (λ fs. new_frame n b ∷ fs) x h (rw o at (new_frame_is n b (isr_level_of b x m)), over_own n b x h m k.0 o, h.own) (k.1, h.newer)

-- frames stay nested when a routine of the running thread's part begins
thread_begun : (n : ℕ) (b : Body) (x : Frames) → AreNested x → may_begin b x ≡ true → AreNamedBelow n x → is_own b ≡ false →
    AreNested (on_part false (λ fs. new_frame n b ∷ fs) x)
thread_begun n b x h m k o =
    let p : IsThreadPart (thread_part x) = thread_part_nested x h in
    let w : OverThread n b x.own (thread_part x) = over_thread n b x h m k o in
    on_running_nested (λ fs. new_frame n b ∷ fs) x h w.0 (record {
      part = (rw o at (new_frame_is n b (isr_level_of b x m)), w.1, p.part);
      crit = omega (arith, p.crit, sum_by-cons (λ f. f.crit) (new_frame n b) (thread_part x));
      guard = omega (arith, p.guard, sum_by-cons (λ f. f.guard) (new_frame n b) (thread_part x));
    })

-- the same on the part of the thread that runs
pub begun_on : (n : ℕ) (b : Body) (x : Frames) (t : ThreadNo) → AreNested x → may_begin b x ≡ true → AreNamedBelow n x → is_own b ≡ false →
    x.running ≡ Some t → AreNested (on_thread (λ fs. new_frame n b ∷ fs) t x)
begun_on n b x t h m k o e =
    subst (λ (r : Option ThreadNo). AreNested (on_running (λ fs. new_frame n b ∷ fs) r x)) e (thread_begun n b x h m k o)

-- nested frames stay nested where a routine that may begin here begins
pub begun_nested : (n : ℕ) (b : Body) (x : Frames) → AreNested x → may_begin b x ≡ true → AreNamedBelow n x → AreNested (begun n b x)
begun_nested n b x h m k = go (is_own b) refl
  where
    go : (o : Bool) → is_own b ≡ o → AreNested (on_part o (λ fs. new_frame n b ∷ fs) x)
    go true e = own_begun n b x h m k e
    go false e = thread_begun n b x h m k e
