-- Locks of one frame: in a run a frame that holds a lock or spins stands at DISPATCH_LEVEL or above, keeps no level below its base with a
-- lock, holds no lock twice, and tries the lock on which it spins again.
use Rattle.std.proofs.Common.{ap, arith, inl, inr, subst, sym, ◌∙◌}
use Rattle.std.proofs.lemmas.Bool.{ltb-false}
use Rattle.std.specs.Option.{option_map_or}
use Rattle.std.specs.Prelude.{Bool, List, None, Option, Some, [], false, is_some, nat_lt, not, refl, true, ℕ, ◌&&◌, ◌∷◌, ◌≡◌, ◌≤◌, ◌⊎◌}
use Rattle.nt_event.specs.declared.commands.Command.{Command}
use Rattle.nt_event.specs.declared.commands.Command.TheVariants.{Acquire, Delay, Lower, Raise, StartWait, Unlock}
use Rattle.nt_event.specs.declared.commands.Refusal.{Refusal}
use Rattle.nt_event.specs.declared.commands.Refusal.TheVariants.{BelowBase, HeldHere, LockHeld, NotGreater, NotLess, TooHigh}
use Rattle.nt_event.specs.declared.commands.Reply.{Reply}
use Rattle.nt_event.specs.declared.commands.Reply.TheVariants.{Done, Spin}
use Rattle.nt_event.specs.declared.frames.Body.{Body}
use Rattle.nt_event.specs.declared.frames.Body.TheVariants.{Apc as OnApc, Base as OnBase, Rundown as OnRundown}
use Rattle.nt_event.specs.Frame.{Frame}
use Rattle.nt_event.specs.declared.frames.Held.{Held}
use Rattle.nt_event.specs.declared.numbers.CpuNo.{CpuNo}
use Rattle.nt_event.specs.declared.numbers.LockNo.{LockNo}
use Rattle.nt_event.specs.declared.scripts.Script.{Script}
use Rattle.nt_event.specs.Commands.{holds, not_above}
use Rattle.nt_event.specs.Frames.{base_level, base_of, called, effect, ended_base, freed, freed_level, held_moved, is_base_body, kept_in, level_moved}
use Rattle.nt_event.specs.Frames.{new_frame, normal_of, resumed, spin_moved}
use Rattle.nt_event.specs.Jobs.{has_normal, level_at}
use Rattle.nt_event.specs.Lanes.{Lanes}
use Rattle.nt_event.specs.Locks.{LockMove, NoMove, call_move}
use Rattle.nt_event.specs.Lists.{head_of, is_null, tail_of}
use Rattle.nt_event.specs.Own.{Own}
use Rattle.nt_event.specs.Routines.{next_command}
use Rattle.nt_runs.proofs.Calm.{level_inner, next_test}
use Rattle.nt_runs.proofs.KeptLevels.{AllKept, kept_head, kept_tail}
use Rattle.nt_runs.proofs.Known.{KnownCall, KnownEnd, KnownFree, KnownNormal}
use Rattle.nt_runs.proofs.Running.{called_keeps}
use Rattle.nt_runs.proofs.Stops.{call_accepted, refuse_none}
use Rattle.nt_runs.proofs.ThreadFrames.{Kept, called_phase}
use Rattle.nt_runs.specs.SomeFrame.{among}

-- it holds no lock and spins on none
abbrev pub Clear : Frame → Type 0
Clear f = (f.held ≡ []) × (f.spin ≡ None)

-- with each lock but the one that it acquired first it keeps DISPATCH_LEVEL or above
abbrev pub Ordered : List Held → Type 0
Ordered [] = Unit {0}
Ordered (h ∷ hs) = (is_null hs ≡ false → 2 ≤ h.kept) × Ordered hs

-- no lock stands twice among them
abbrev pub Distinct : List Held → Type 0
Distinct [] = Unit {0}
Distinct (h ∷ hs) = (among h.lock hs ≡ false) × Distinct hs

abbrev pub kept_by : Option Held → ℕ → ℕ
kept_by spin level = option_map_or (λ h. h.kept) spin level

-- so of a frame with this next command, base level, level, lock on which it spins, and locks that it holds
pub record LockedAt (next : Option Command) (base level : ℕ) (spin : Option Held) (held : List Held) : Type 0 where
  pub above : base ≤ level
  pub keeps : base ≤ kept_by spin level
  pub floor : AllKept base held
  pub low : 3 ≤ base → (held ≡ []) × (spin ≡ None)
  pub high : is_null held ≡ false → (2 ≤ level) × (2 ≤ kept_by spin level)
  pub order : Ordered held
  pub differ : Distinct held
  pub spun : is_some spin ≡ true → level ≡ 2
  pub retry : (h : Held) → spin ≡ Some h → (next ≡ Some (Acquire h.lock)) × (among h.lock held ≡ false)

abbrev pub Locked : Script → CpuNo → Frame → Type 0
Locked s p f = LockedAt (next_command s p f) (base_of f) f.level f.spin f.held

-- false isn't true, so anything follows (for locks)
no_bool : {A : Type 0} → false ≡ true → A
no_bool h = cc

-- an absent lock isn't a present one, so anything follows
no_held : {A : Type 0} (h : Held) → ◌≡◌ {A = Option Held} None (Some h) → A
no_held h e = cc

-- a list of locks without a head is empty
pub null_of_head : (hs : List Held) → head_of hs ≡ None → hs ≡ []
null_of_head [] h = refl
null_of_head (x ∷ xs) h = cc

-- a frame that spins on none
quiet_at : (next : Option Command) (base level : ℕ) (held : List Held) → base ≤ level → AllKept base held → (3 ≤ base → held ≡ []) →
    (is_null held ≡ false → 2 ≤ level) → Ordered held → Distinct held → LockedAt next base level None held
quiet_at next base level held a f l h o d = record {
  above = a;
  keeps = a;
  floor = f;
  low = λ z. (l z, refl);
  high = λ z. (h z, h z);
  order = o;
  differ = d;
  spun = λ z. no_bool z;
  retry = λ x e. no_held x e;
}

-- one that holds none
pub empty_at : (next : Option Command) (base level : ℕ) → base ≤ level → LockedAt next base level None []
empty_at next base level a = quiet_at next base level [] a tt (λ z. refl) (λ z. null_not z) tt tt
  where
    null_not : {A : Type 0} → true ≡ false → A
    null_not z = cc

-- the rules of locks carry over to an equal base level, level, lock spun on and list of held locks
same_at : (next : Option Command) (b b' n n' : ℕ) (sp sp' : Option Held) (hs hs' : List Held) → b' ≡ b → n' ≡ n → sp' ≡ sp → hs' ≡ hs →
    LockedAt next b n sp hs → LockedAt next b' n' sp' hs'
same_at next b b' n n' sp sp' hs hs' e1 e2 e3 e4 k =
    subst (λ (x : ℕ). LockedAt next x n' sp' hs') (sym e1) (subst (λ (x : ℕ). LockedAt next b x sp' hs') (sym e2)
    (subst (λ (x : Option Held). LockedAt next b n x hs') (sym e3) (subst (λ (x : List Held). LockedAt next b n sp x) (sym e4) k)))

-- ---- calls

-- an accepted raise isn't below the level, and an accepted lower below neither the base level nor, where a lock is held, DISPATCH_LEVEL
effect_above : (s : Script) (p : CpuNo) (x : Own) (l : Lanes) (n : ℕ) (due : Option ℕ) (c : Command) (y : Reply) (k : KnownCall s p x l n c y) (b : ℕ) →
    b ≤ k.frame.level → (b ≤ base_of k.frame) ⊎ ((b ≤ 2) × (is_null k.frame.held ≡ false)) → b ≤ (effect due c y k.frame).level
effect_above s p x l n due (Raise m) Done k b h w =
    let a = (call_accepted s p x l n (Raise m) Done k refl).0 in
    let z : level_at x ≤ m = ltb-false m (level_at x) (refuse_none (nat_lt m (level_at x)) NotGreater None a) in
    let e : level_at x ≡ k.frame.level = level_inner x k.frame k.goes_on.inner in
    omega (arith, h, z, e)
effect_above s p x l n due (Lower m) Done k b h w =
    let a = (call_accepted s p x l n (Lower m) Done k refl).0 in
    let c = next_test (nat_lt (level_at x) m) NotLess _ a in
    let z : base_of k.frame ≤ m = ltb-false m (base_of k.frame) (refuse_none (nat_lt m (base_of k.frame)) BelowBase _ c) in
    let d = next_test (nat_lt m (base_of k.frame)) BelowBase _ c in
    let q : (not (is_null k.frame.held) && nat_lt m 2) ≡ false = refuse_none (not (is_null k.frame.held) && nat_lt m 2) LockHeld None d in
    go z q w
  where
    held_so : (u : Bool) → u ≡ false → (not u && nat_lt m 2) ≡ false → nat_lt m 2 ≡ false
    held_so true e q = cc
    held_so false e q = q

    go : base_of k.frame ≤ m → (not (is_null k.frame.held) && nat_lt m 2) ≡ false → (b ≤ base_of k.frame) ⊎ ((b ≤ 2) × (is_null k.frame.held ≡ false)) → b ≤ m
    go z q (inl w) = omega (arith, z, w)
    go z q (inr w) = let t : 2 ≤ m = ltb-false m 2 (held_so (is_null k.frame.held) w.1 q) in let u = w.0 in omega (arith, t, u)
effect_above s p x l n due (StartWait m a) y k b h w = h
effect_above s p x l n due (Delay m a u) y k b h w = h
effect_above s p x l n due c Done k b h w = h
effect_above s p x l n due c y k b h w = h

-- a call that moves a lock is made at DISPATCH_LEVEL or below
pub move_low : (x : Own) (f : Frame) (r : Option Refusal) → not_above 2 (level_at x) r ≡ None → level_at x ≡ f.level → f.level ≤ 2
move_low x f r h e = let z : level_at x ≤ 2 = ltb-false 2 (level_at x) (refuse_none (nat_lt 2 (level_at x)) TooHigh r h) in omega (arith, z, e)

-- a call leaves the base level of its frame as it was
pub called_base : (due : Option ℕ) (c : Command) (y : Reply) (f : Frame) → base_of (called due c y f) ≡ base_of f
called_base due c y f =
    ap (λ (b : Body). base_level b (called due c y f).kernel_phase) ((called_keeps due c y).body f)
    ∙ ap (λ (b : Bool). base_level f.body b) (called_phase due c y f)

-- a call that moves no lock keeps the rules of locks of its frame
still : (s : Script) (p : CpuNo) (x : Own) (l : Lanes) (n : ℕ) (due : Option ℕ) (c : Command) (y : Reply) (k : KnownCall s p x l n c y) →
    call_move c y ≡ NoMove → Locked s p k.frame → Locked s p (called due c y k.frame)
still s p x l n due c y k e h =
    same_at (next_command s p (called due c y f)) (base_of f) (base_of (called due c y f)) (effect due c y f).level (called due c y f).level None
    (called due c y f).spin f.held (called due c y f).held base (ap (λ (m : LockMove). level_moved m f (effect due c y f).level) e)
    (ap (λ (m : LockMove). spin_moved m f) e) (ap (λ (m : LockMove). held_moved m f) e)
    (quiet_at (next_command s p (called due c y f)) (base_of f) (effect due c y f).level f.held
    (effect_above s p x l n due c y k (base_of f) h.above (inl (omega arith))) h.floor (λ z. (h.low z).0)
    (λ z. effect_above s p x l n due c y k 2 (h.high z).0 (inr (omega arith, z))) h.order h.differ)
  where
    f : Frame
    f = k.frame

    base : base_of (called due c y k.frame) ≡ base_of k.frame
    base =
        ap (λ (b : Body). base_level b (called due c y k.frame).kernel_phase) ((called_keeps due c y).body k.frame)
        ∙ ap (λ (b : Bool). base_level k.frame.body b) (called_phase due c y k.frame)

-- a frame that keeps some lock after freeing its last one goes back to DISPATCH_LEVEL or above
tail_high : (level : ℕ) (hs : List Held) → Ordered hs → is_null (tail_of hs) ≡ false → 2 ≤ option_map_or (λ h. h.kept) (head_of hs) level
tail_high level [] o z = cc
tail_high level (x ∷ xs) o z = o.0 z

-- without the last acquired lock, the order of kept levels still holds
tail_ordered : (hs : List Held) → Ordered hs → Ordered (tail_of hs)
tail_ordered [] o = tt
tail_ordered (x ∷ xs) o = o.1

-- without the lock acquired last, no lock stands twice among the rest
pub tail_distinct : (hs : List Held) → Distinct hs → Distinct (tail_of hs)
tail_distinct [] o = tt
tail_distinct (x ∷ xs) o = o.1

-- a frame without the lock that it acquired last
without_last : (s : Script) (p : CpuNo) (f : Frame) (next : Option Command) → (3 ≤ base_of f → tail_of f.held ≡ []) → Locked s p f →
    LockedAt next (base_of f) (freed_level f) None (tail_of f.held)
without_last s p f next low h =
    quiet_at next (base_of f) (freed_level f) (tail_of f.held) (kept_head (base_of f) f.level f.held h.above h.floor)
    (kept_tail (base_of f) f.held h.floor) low (λ z. tail_high f.level f.held h.order z) (tail_ordered f.held h.order) (tail_distinct f.held h.differ)

-- a call of the innermost frame keeps the rules of locks of its frame
pub called_locked : (s : Script) (p : CpuNo) (x : Own) (l : Lanes) (n : ℕ) (due : Option ℕ) (c : Command) (y : Reply) (k : KnownCall s p x l n c y) →
    Locked s p k.frame → Locked s p (called due c y k.frame)
called_locked s p x l n due (Acquire c) Done k h =
    let a = (call_accepted s p x l n (Acquire c) Done k refl).0 in
    let low = move_low x k.frame _ a (level_inner x k.frame k.goes_on.inner) in
    let free : among c k.frame.held ≡ false = refuse_none (holds c k.frame) HeldHere None (next_test (nat_lt 2 (level_at x)) TooHigh _ a) in
    let above = h.above in
    let base : base_of k.frame ≤ 2 = omega (arith, above, low) in
    record {
      above = base;
      keeps = base;
      floor = (h.keeps, h.floor);
      low = λ z. absurd (omega (arith, z, base));
      high = λ z. (omega arith, omega arith);
      order = (λ z. (h.high z).1, h.order);
      differ = (free, h.differ);
      spun = λ z. no_bool z;
      retry = λ x e. no_held x e;
    }
called_locked s p x l n due (Acquire c) Spin k h =
    let a = (call_accepted s p x l n (Acquire c) Spin k refl).0 in
    let low = move_low x k.frame _ a (level_inner x k.frame k.goes_on.inner) in
    let free : among c k.frame.held ≡ false = refuse_none (holds c k.frame) HeldHere None (next_test (nat_lt 2 (level_at x)) TooHigh _ a) in
    let above = h.above in
    let base : base_of k.frame ≤ 2 = omega (arith, above, low) in
    record {
      above = base;
      keeps = h.keeps;
      floor = h.floor;
      low = λ z. absurd (omega (arith, z, base));
      high = λ z. (omega arith, (h.high z).1);
      order = h.order;
      differ = h.differ;
      spun = λ z. refl;
      retry = λ g e. subst (λ (z : Held). (next_command s p k.frame ≡ Some (Acquire z.lock)) × (among z.lock k.frame.held ≡ false)) (same g e)
          (k.command, free);
    }
  where
    same : (g : Held) → ◌≡◌ {A = Option Held} (Some (record { lock = c; kept = kept_in k.frame })) (Some g) → record { lock = c; kept = kept_in k.frame } ≡ g
    same g e = cc
called_locked s p x l n due (Unlock c) Done k h =
    let a = (call_accepted s p x l n (Unlock c) Done k refl).0 in
    let low = move_low x k.frame _ a (level_inner x k.frame k.goes_on.inner) in
    let above = h.above in
    without_last s p k.frame (next_command s p (called due (Unlock c) Done k.frame)) (λ z. absurd (omega (arith, z, above, low))) h
called_locked s p x l n due c y k h = still s p x l n due c y k refl h

-- ---- other events

-- a frame without a next command doesn't spin
pub no_spin : (s : Script) (p : CpuNo) (f : Frame) → next_command s p f ≡ None → Locked s p f → f.spin ≡ None
no_spin s p f e h = go f.spin refl
  where
    clash : {A : Type 0} (o : Option Command) (c : Command) → o ≡ None → o ≡ Some c → A
    clash None c a b = cc
    clash (Some d) c a b = cc

    go : (o : Option Held) → f.spin ≡ o → f.spin ≡ None
    go None q = q
    go (Some g) q = clash (next_command s p f) (Acquire g.lock) e (h.retry g q).0

-- the release of the last acquired lock keeps the rules of locks of its frame
pub freed_locked : (s : Script) (p : CpuNo) (x : Own) (n : ℕ) (c : LockNo) (k : KnownFree s p x n c) → Locked s p k.frame → Locked s p (freed k.frame)
freed_locked s p x n c k h =
    subst (λ (o : Option Held). LockedAt (next_command s p k.frame) (base_of k.frame) (freed_level k.frame) o (tail_of k.frame.held))
    (sym (no_spin s p k.frame k.command h)) (without_last s p k.frame (next_command s p k.frame) (λ z. ap tail_of (h.low z).0) h)

-- a base frame has PASSIVE_LEVEL as its base level
base_none : (b : Body) (k : Bool) → is_base_body b ≡ true → base_level b k ≡ 0
base_none (OnBase t) k h = refl
base_none b k h = cc

-- an APC that has a normal routine has PASSIVE_LEVEL as base level after its kernel routine
normal_none : (b : Body) → has_normal b ≡ true → base_level b false ≡ 0
normal_none (OnApc a kind) h = refl
normal_none b h = cc

-- a base frame that ends keeps the rules of locks
ended_locked : (s : Script) (p : CpuNo) (x : Own) (n : ℕ) (k : KnownEnd s p x n) → is_base_body k.frame.body ≡ true → Locked s p (ended_base k.frame)
ended_locked s p x n k b =
    let z = base_none k.frame.body k.frame.kernel_phase b in
    subst (λ (hs : List Held). LockedAt (next_command s p (ended_base k.frame)) (base_of k.frame) 0 None hs) (sym (null_of_head k.frame.held k.free))
    (empty_at (next_command s p (ended_base k.frame)) (base_of k.frame) 0 (omega (arith, z)))

-- an APC that goes on to its normal routine keeps the rules of locks
normal_locked : (s : Script) (p : CpuNo) (x : Own) (n : ℕ) (k : KnownNormal s p x n) → Locked s p (normal_of k.frame)
normal_locked s p x n k =
    let z = normal_none k.frame.body k.normal in
    subst (λ (hs : List Held). LockedAt (next_command s p (normal_of k.frame)) (base_of (normal_of k.frame)) 0 None hs)
    (sym (null_of_head k.frame.held k.free))
    (empty_at (next_command s p (normal_of k.frame)) (base_of (normal_of k.frame)) 0 (omega (arith, z)))

-- a frame that comes back from a wait keeps the rules of locks
resumed_locked : (s : Script) (p : CpuNo) (st : Option ℕ) (f : Frame) → Locked s p f → Locked s p (resumed st f)
resumed_locked s p None f h = h
resumed_locked s p (Some x) f h = h

-- a new frame keeps the rules of locks
pub new_locked : (s : Script) (p : CpuNo) (n : ℕ) (b : Body) → Locked s p (new_frame n b)
new_locked s p n b = empty_at (next_command s p (new_frame n b)) (base_of (new_frame n b)) (base_of (new_frame n b)) (omega arith)

-- the rules of locks are kept by each event of a run
pub locked_kept : (s : Script) (p : CpuNo) → Kept s p (Locked s p)
locked_kept s p = record {
  base = λ n t. new_locked s p n (OnBase t);
  apc = λ n a k. new_locked s p n (OnApc a k);
  rundown = λ n a. new_locked s p n (OnRundown a);
  resumed = resumed_locked s p;
  rewaited = λ y f h. h;
  left = λ x n k b h. ended_locked s p x n k b;
  normal = λ x n k h. normal_locked s p x n k;
  freed = λ x n c k h. freed_locked s p x n c k h;
  called = λ x l n due c y k h. called_locked s p x l n due c y k h;
}

-- a frame below DISPATCH_LEVEL holds no lock and spins on none
pub clear_low : (s : Script) (p : CpuNo) (f : Frame) → Locked s p f → f.level ≤ 1 → Clear f
clear_low s p f h l = (held f.held refl, spin f.spin refl)
  where
    held : (hs : List Held) → f.held ≡ hs → f.held ≡ []
    held [] e = e
    held (x ∷ xs) e = let z = (h.high (ap is_null e)).0 in absurd (omega (arith, z, l))

    spin : (o : Option Held) → f.spin ≡ o → f.spin ≡ None
    spin None e = e
    spin (Some x) e = let z = h.spun (ap is_some e) in absurd (omega (arith, z, l))
