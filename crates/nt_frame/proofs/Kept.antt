-- Frames stay nested at each change of the innermost one.
use Rattle.std.proofs.Common.{◌≡◌, ℕ, ◌+◌, ◌<◌, ◌≤◌, ◌^◌, Bool, true, false, not, ◌&&◌, Option, None, Some, IfSome, List, [], ◌∷◌, arith, refl, lit≤, set}
use Rattle.std.proofs.Common.{subst}
use Rattle.std.specs.Option.{option_map_or}
use Rattle.nt_event.specs.declared.commands.ApcKind.TheVariants.{Normal, Special, User}
use Rattle.nt_event.specs.declared.frames.Again.{Again}
use Rattle.nt_event.specs.declared.frames.Body.{Body}
use Rattle.nt_event.specs.declared.frames.Body.TheVariants.{Apc, Base, Dpc, Int, Rundown, Threaded}
use Rattle.nt_event.specs.declared.frames.Held.{Held}
use Rattle.nt_event.specs.declared.frames.Region.TheVariants.{Crit, Guard}
use Rattle.nt_event.specs.declared.numbers.LockNo.{LockNo}
use Rattle.nt_event.specs.declared.numbers.ThreadNo.{ThreadNo}
use Rattle.nt_event.specs.Frame.{Frame}
use Rattle.nt_event.specs.Frames.{Frames, at_head, base_level, base_of, frames_in, freed, freed_level, innermost, is_base_body, ended_base, kept_in, normal_of}
use Rattle.nt_event.specs.Frames.{thread_part}
use Rattle.nt_event.specs.Jobs.{has_normal}
use Rattle.nt_event.specs.Regions.{crit_of, guard_of}
use Rattle.nt_event.specs.Lists.{head_of, is_null, tail_of}
use Rattle.nt_frame.specs.Changes.{acquired, advanced, at_innermost, changed, on_part, on_running, with_entered}
use Rattle.nt_frame.specs.HeldLocks.{KeepAtLeast}
use Rattle.nt_frame.specs.declared.change.Change.{Change}
use Rattle.nt_frame.specs.declared.change.Change.TheVariants.{Acquire, AdvancePlace, EndBase, Free, GoOn, SetAgain, SetEntered, SetLevel, SpinOn}
use Rattle.nt_frame.specs.Nesting.{AreNested, IsFrame, IsThreadPart, is_special_body}
use Rattle.nt_frame.specs.Rules.{KeepsNested, is_at_base, may_go_on}
use Rattle.nt_frame.proofs.Changed.{MayStandFor, at_innermost_nested, at_innermost_none, at_innermost_same, innermost_frame}
use Rattle.nt_frame.proofs.Nested.{thread_part_nested}
use Rattle.nt_event.proofs.Booleans.{and_right}

-- if held locks keep levels not below a bound, they keep levels not below a smaller one
keep_at_least : (a b : ℕ) (hs : List Held) → b ≤ a → KeepAtLeast a hs → KeepAtLeast b hs
keep_at_least a b [] l k = tt
keep_at_least a b (h ∷ hs) l k = (omega (arith, k.0), keep_at_least a b hs l k.1)

-- held locks keep levels of at least zero
keep_none : (hs : List Held) → KeepAtLeast 0 hs
keep_none [] = tt
keep_none (h ∷ hs) = (omega arith, keep_none hs)

-- if no held lock keeps a level below a bound, so it is without the newest one
pub keep_tail : (a : ℕ) (hs : List Held) → KeepAtLeast a hs → KeepAtLeast a (tail_of hs)
keep_tail a [] k = tt
keep_tail a (h ∷ hs) k = k.1

-- the level that is kept with a lock, and the one that comes back, are not below the base
pub kept_base : (own : Bool) (f : Frame) → IsFrame own f → base_of f ≤ kept_in f
kept_base own f p = go f.spin p.spun
  where
    go : (o : Option Held) → IfSome o (λ h. base_of f ≤ h.kept) → base_of f ≤ option_map_or (λ h. h.kept) o f.level
    go None q = p.level
    go (Some h) q = q

-- the level after a frame frees the lock that it acquired last is not below its base
pub freed_base : (own : Bool) (f : Frame) → IsFrame own f → base_of f ≤ freed_level f
freed_base own f p = go f.held p.kept
  where
    go : (hs : List Held) → KeepAtLeast (base_of f) hs → base_of f ≤ option_map_or (λ h. h.kept) (head_of hs) f.level
    go [] q = p.level
    go (h ∷ hs) q = q.0

-- a change of the innermost frame whose result may stand for it
changes : (g : Frame → Frame) (f : Frame) (x : Frames) → AreNested x → innermost x ≡ Some f → MayStandFor f (g f) x → AreNested (at_innermost g x)
changes g f x h k m = rw (← at_innermost_same g f x k) (at_innermost_nested f (g f) x h k m)

-- nested frames stay nested where the innermost one gets a level not below its base
pub level_nested : (f : Frame) (x : Frames) (l : ℕ) → AreNested x → innermost x ≡ Some f → base_of f ≤ l →
    AreNested (at_innermost (λ y. record y { level = l }) x)
level_nested f x l h k b =
    let p : IsFrame (not (is_null x.own)) f = innermost_frame f x h k in
    let t : IsThreadPart (thread_part x) = thread_part_nested x h in
    changes (λ y. record y { level = l }) f x h k (record {
      name = refl;
      body = refl;
      level = b;
      special = p.special;
      phase = p.phase;
      leaving = p.leaving;
      kept = p.kept;
      spun = p.spun;
      crit = omega (arith, t.crit);
      guard = omega (arith, t.guard);
    })

-- nested frames stay nested where the innermost one goes one place on
pub advanced_nested : (f : Frame) (x : Frames) → AreNested x → innermost x ≡ Some f → AreNested (at_innermost advanced x)
advanced_nested f x h k =
    let p : IsFrame (not (is_null x.own)) f = innermost_frame f x h k in
    let t : IsThreadPart (thread_part x) = thread_part_nested x h in
    changes advanced f x h k (record {
      name = refl;
      body = refl;
      level = p.level;
      special = p.special;
      phase = p.phase;
      leaving = p.leaving;
      kept = p.kept;
      spun = tt;
      crit = omega (arith, t.crit);
      guard = omega (arith, t.guard);
    })

-- nested frames stay nested where the innermost one tries a lock at DISPATCH_LEVEL or below
pub acquired_nested : (f : Frame) (x : Frames) (l : LockNo) (done : Bool) → AreNested x → innermost x ≡ Some f → f.level ≤ 2 →
    AreNested (at_innermost (acquired l done) x)
acquired_nested f x l true h k b =
    let p : IsFrame (not (is_null x.own)) f = innermost_frame f x h k in
    let t : IsThreadPart (thread_part x) = thread_part_nested x h in
    changes (acquired l true) f x h k (record {
      name = refl;
      body = refl;
      level = omega (arith, p.level);
      special = p.special;
      phase = p.phase;
      leaving = p.leaving;
      kept = (kept_base (not (is_null x.own)) f p, p.kept);
      spun = tt;
      crit = omega (arith, t.crit);
      guard = omega (arith, t.guard);
    })
acquired_nested f x l false h k b =
    let p : IsFrame (not (is_null x.own)) f = innermost_frame f x h k in
    let t : IsThreadPart (thread_part x) = thread_part_nested x h in
    changes (acquired l false) f x h k (record {
      name = refl;
      body = refl;
      level = omega (arith, p.level);
      special = p.special;
      phase = p.phase;
      leaving = p.leaving;
      kept = p.kept;
      spun = kept_base (not (is_null x.own)) f p;
      crit = omega (arith, t.crit);
      guard = omega (arith, t.guard);
    })

-- nested frames stay nested where the innermost one frees its last lock
pub freed_nested : (f : Frame) (x : Frames) → AreNested x → innermost x ≡ Some f → AreNested (at_innermost freed x)
freed_nested f x h k =
    let p : IsFrame (not (is_null x.own)) f = innermost_frame f x h k in
    let t : IsThreadPart (thread_part x) = thread_part_nested x h in
    changes freed f x h k (record {
      name = refl;
      body = refl;
      level = freed_base (not (is_null x.own)) f p;
      special = p.special;
      phase = p.phase;
      leaving = p.leaving;
      kept = keep_tail (base_of f) f.held p.kept;
      spun = p.spun;
      crit = omega (arith, t.crit);
      guard = omega (arith, t.guard);
    })

-- nested frames stay nested where a wait to take up is set or cleared in the innermost one
pub again_nested : (f : Frame) (x : Frames) (a : Option Again) → AreNested x → innermost x ≡ Some f → AreNested (at_innermost (λ y. record y { again = a }) x)
again_nested f x a h k =
    let p : IsFrame (not (is_null x.own)) f = innermost_frame f x h k in
    let t : IsThreadPart (thread_part x) = thread_part_nested x h in
    changes (λ y. record y { again = a }) f x h k (record {
      name = refl;
      body = refl;
      level = p.level;
      special = p.special;
      phase = p.phase;
      leaving = p.leaving;
      kept = p.kept;
      spun = p.spun;
      crit = omega (arith, t.crit);
      guard = omega (arith, t.guard);
    })

-- nested frames stay nested where the innermost one gets a count of critical regions that fits 32 bits
pub crit_nested : (f : Frame) (x : Frames) (n : ℕ) → AreNested x → innermost x ≡ Some f → crit_of (thread_part x) + n < 2 ^ 32 + f.crit →
    AreNested (at_innermost (with_entered Crit n) x)
crit_nested f x n h k b =
    let p : IsFrame (not (is_null x.own)) f = innermost_frame f x h k in
    let t : IsThreadPart (thread_part x) = thread_part_nested x h in
    changes (with_entered Crit n) f x h k (record {
      name = refl;
      body = refl;
      level = p.level;
      special = p.special;
      phase = p.phase;
      leaving = p.leaving;
      kept = p.kept;
      spun = p.spun;
      crit = b;
      guard = omega (arith, t.guard);
    })

-- nested frames stay nested where the innermost one gets a count of guarded regions that fits 32 bits
pub guard_nested : (f : Frame) (x : Frames) (n : ℕ) → AreNested x → innermost x ≡ Some f → guard_of (thread_part x) + n < 2 ^ 32 + f.guard →
    AreNested (at_innermost (with_entered Guard n) x)
guard_nested f x n h k b =
    let p : IsFrame (not (is_null x.own)) f = innermost_frame f x h k in
    let t : IsThreadPart (thread_part x) = thread_part_nested x h in
    changes (with_entered Guard n) f x h k (record {
      name = refl;
      body = refl;
      level = p.level;
      special = p.special;
      phase = p.phase;
      leaving = p.leaving;
      kept = p.kept;
      spun = p.spun;
      crit = omega (arith, t.crit);
      guard = b;
    })

-- a test of the innermost frame says the same of the frame
pub innermost_test : (test : Frame → Bool) (f : Frame) (x : Frames) → innermost x ≡ Some f → option_map_or test (innermost x) false ≡ true → test f ≡ true
innermost_test test f x k m = rw k at m

-- in its normal routine an APC has the base level 0
normal_base : (b : Body) → has_normal b ≡ true → base_level b false ≤ 0
normal_base (Apc a kind) h = lit≤ tt
normal_base (Int l) h = cc
normal_base (Dpc d) h = cc
normal_base (Threaded d) h = cc
normal_base (Base t) h = cc
normal_base (Rundown a) h = cc

-- no routine with a normal routine is that of a special APC
normal_special : (b : Body) → has_normal b ≡ true → is_special_body b ≡ true → false ≡ true
normal_special (Apc a Special) h s = h
normal_special (Apc a Normal) h s = s
normal_special (Apc a User) h s = s
normal_special (Int l) h s = s
normal_special (Dpc d) h s = s
normal_special (Threaded d) h s = s
normal_special (Base t) h s = s
normal_special (Rundown a) h s = s

-- nested frames stay nested where the innermost one goes on to its normal routine
pub normal_nested : (f : Frame) (x : Frames) → AreNested x → innermost x ≡ Some f → may_go_on x ≡ true → AreNested (at_innermost normal_of x)
normal_nested f x h k m =
    let p : IsFrame (not (is_null x.own)) f = innermost_frame f x h k in
    let t : IsThreadPart (thread_part x) = thread_part_nested x h in
    let n : has_normal f.body ≡ true = and_right f.kernel_phase _ (innermost_test (λ y. y.kernel_phase && has_normal y.body) f x k m) in
    changes normal_of f x h k (record {
      name = refl;
      body = refl;
      level = normal_base f.body n;
      special = normal_special f.body n;
      phase = λ e. absurd (cc);
      leaving = p.leaving;
      kept = keep_at_least 0 (base_level f.body false) f.held (normal_base f.body n) (keep_none f.held);
      spun = tt;
      crit = omega (arith, t.crit);
      guard = omega (arith, t.guard);
    })

-- a thread's base routine has the base level 0
left_base : (b : Body) (k : Bool) → is_base_body b ≡ true → base_level b k ≤ 0
left_base (Base t) k h = lit≤ tt
left_base (Int l) k h = cc
left_base (Dpc d) k h = cc
left_base (Threaded d) k h = cc
left_base (Apc a kind) k h = cc
left_base (Rundown a) k h = cc

-- nested frames stay nested where the innermost one is a base that ends
pub left_nested : (f : Frame) (x : Frames) → AreNested x → innermost x ≡ Some f → is_at_base x ≡ true → AreNested (at_innermost ended_base x)
left_nested f x h k m =
    let p : IsFrame (not (is_null x.own)) f = innermost_frame f x h k in
    let t : IsThreadPart (thread_part x) = thread_part_nested x h in
    let b : is_base_body f.body ≡ true = innermost_test (λ y. is_base_body y.body) f x k m in
    changes ended_base f x h k (record {
      name = refl;
      body = refl;
      level = left_base f.body f.kernel_phase b;
      special = p.special;
      phase = p.phase;
      leaving = λ _. b;
      kept = p.kept;
      spun = tt;
      crit = omega (arith, t.crit);
      guard = omega (arith, t.guard);
    })

-- ---- each change

-- nested frames stay nested at each change of the innermost one that meets its condition
pub change_nested : (c : Change) (x : Frames) → AreNested x → KeepsNested c x → AreNested (at_innermost (changed c) x)
change_nested c x h k = go (innermost x) refl
  where
    some : (c : Change) (f : Frame) → innermost x ≡ Some f → KeepsNested c x → AreNested (at_innermost (changed c) x)
    some (SetLevel l) f e q = level_nested f x l h e (q f e)
    some (SetAgain a) f e q = again_nested f x a h e
    some AdvancePlace f e q = advanced_nested f x h e
    some (SetEntered Crit n) f e q = crit_nested f x n h e (q f e)
    some (SetEntered Guard n) f e q = guard_nested f x n h e (q f e)
    some GoOn f e q = normal_nested f x h e q
    some EndBase f e q = left_nested f x h e q
    some (Acquire l) f e q = acquired_nested f x l true h e (q f e)
    some (SpinOn l) f e q = acquired_nested f x l false h e (q f e)
    some Free f e q = freed_nested f x h e

    go : (o : Option Frame) → innermost x ≡ o → AreNested (at_innermost (changed c) x)
    go None e = rw (at_innermost_none (changed c) x e) h
    go (Some f) e = some c f e k

-- the same where the change is seen on the own part, or on the part of the thread that runs
pub change_on_own : (c : Change) (x : Frames) → AreNested x → KeepsNested c x → is_null x.own ≡ false → AreNested (record x { own = at_head (changed c) x.own })
change_on_own c x h k o = subst (λ (b : Bool). AreNested (on_part (not b) (at_head (changed c)) x)) o (change_nested c x h k)

-- with the own part empty, a change that meets its condition at the running thread's part keeps frames nested
pub change_on_thread : (c : Change) (x : Frames) (t : ThreadNo) → AreNested x → KeepsNested c x → is_null x.own ≡ true → x.running ≡ Some t →
    AreNested (record x { threads = set x.threads t.0 (at_head (changed c) (frames_in x.threads t)) })
change_on_thread c x t h k o r =
    let n : AreNested (on_running (at_head (changed c)) x.running x) =
    subst (λ (b : Bool). AreNested (on_part (not b) (at_head (changed c)) x)) o (change_nested c x h k) in
    subst (λ (q : Option ThreadNo). AreNested (on_running (at_head (changed c)) q x)) r n
