-- The counts of a processor's frames grow by at most one with each event.
use Rattle.std.proofs.Common.{arith}
use Rattle.std.proofs.lemmas.Bool.Decides.{nat_tests}
use Rattle.std.proofs.lemmas.List.{get_or_past}
use Rattle.std.proofs.lemmas.List.Sums.{sum_by-cons}
use Rattle.std.proofs.lemmas.List.Elements.{All-cons, All-from_get_or, All-head, All-nil, All-tail, All-weaker}
use Rattle.std.specs.Prelude.{All, Bool, IfSome, List, None, Option, Some, [], false, get_or, if◌then◌else◌, length, nat_lt, refl, true, ℕ, ◌+◌, ◌<◌, ◌==◌, ◌^◌}
use Rattle.std.specs.Prelude.{◌∷◌, ◌≡◌, ◌≤◌}
use Rattle.nt_event.specs.declared.commands.Command.{Command}
use Rattle.nt_event.specs.declared.commands.Command.TheVariants.{Acquire, Delay, EnterCrit, EnterGuard, LeaveCrit, LeaveGuard, Lower, Raise, StartWait, Unlock}
use Rattle.nt_event.specs.declared.commands.Reply.{Reply}
use Rattle.nt_event.specs.declared.commands.Reply.TheVariants.{Blocked, Done, Spin, Status}
use Rattle.nt_event.specs.declared.events.Begun.TheVariants.{Apc, Dpc, Int, Threaded}
use Rattle.nt_event.specs.declared.events.Event.{Event}
use Rattle.nt_event.specs.declared.events.What.{What}
use Rattle.nt_event.specs.declared.events.What.TheVariants.{Begin, Call, End, Flush, Free, Gone, Normal, Rewait, Switch}
use Rattle.nt_event.specs.declared.frames.Again.{Again}
use Rattle.nt_event.specs.declared.frames.Body.{Body}
use Rattle.nt_event.specs.declared.frames.Held.{Held}
use Rattle.nt_event.specs.Frame.{Frame}
use Rattle.nt_event.specs.declared.numbers.ApcNo.{ApcNo}
use Rattle.nt_event.specs.declared.numbers.RoutineNo.{RoutineNo}
use Rattle.nt_event.specs.declared.numbers.ThreadNo.{ThreadNo}
use Rattle.nt_event.specs.declared.scripts.Script.{Script}
use Rattle.nt_event.specs.Frames.{Frames, again_after, at_name, called, done_to, effect, end_on_thread, ended_on_thread, flushed, frames_after, frames_in}
use Rattle.nt_event.specs.Frames.{freed, held_moved, is_base_body, ended_base, new_frame, normal_of, own_after, resumed, rewaited, spin_moved, switched_to}
use Rattle.nt_event.specs.Frames.{thread_after, thread_if, without}
use Rattle.nt_event.specs.Regions.{crit_of, guard_of}
use Rattle.nt_event.specs.Routines.{rundown_of}
use Rattle.nt_event.specs.Numbers.{is_by, thread}
use Rattle.nt_event.specs.Replies.{is_done, is_spin, kernel_apc}
use Rattle.nt_event.proofs.Tables.{get_or-table, length-table_from}
use Rattle.nt_event.specs.Lists.{tail_of}
use Rattle.nt_event.specs.Locks.{call_move}
use Rattle.nt_cpu.specs.Fits.{lock_below}
use Rattle.nt_cpu.specs.Sound.{AreBelow, AreSmall, IsSmall, IsSmallPart}

-- a wait to take up has a due time that fits
abbrev pub DueFits : Option Again → Type 0
DueFits w = IfSome w (λ x. IfSome x.due (λ due. due < 2 ^ 51))

-- a lock that is acquired is below this number
abbrev pub LockFits : ℕ → What → Type 0
LockFits m (Call f c y) = lock_below m c ≡ true
LockFits m _ = Unit {0}

-- a change of a frame that adds at most one to each count
pub record Grows (m₀ n : ℕ) (f g : Frame) : Type 0 where
  pub small : IsSmall m₀ (n + 1) g
  pub crit : g.crit ≤ f.crit + 1
  pub guard : g.guard ≤ f.guard + 1

module _ (m₀ : ℕ) where
  more : (n : ℕ) (f : Frame) → IsSmall m₀ n f → IsSmall m₀ (n + 1) f
  more n f h = let p = h.place in record { held = h.held; spin = h.spin; place = omega arith; due = h.due }

  grows_same : (n : ℕ) (f : Frame) → IsSmall m₀ n f → Grows m₀ n f f
  grows_same n f h = record { small = more n f h; crit = omega arith; guard = omega arith }

  again_fits : (y : Reply) (w old : Option Again) → DueFits w → DueFits old → DueFits (again_after y w old)
  again_fits (Status st) w old a b = go (st == kernel_apc)
    where
      go : (k : Bool) → DueFits (if k then w else None)
      go true = a
      go false = tt
  again_fits Blocked w old a b = a
  again_fits _ w old a b = b

  place_fits : (b : Bool) (n k : ℕ) → k ≤ n → (if b then k else (k + 1)) ≤ n + 1
  place_fits true n k h = omega arith
  place_fits false n k h = omega arith

  done_grows : (c : Command) (f : Frame) → DueFits f.again →
      DueFits (done_to c f).again × ((done_to c f).crit ≤ f.crit + 1) × ((done_to c f).guard ≤ f.guard + 1)
  done_grows (Raise l) f h = (h, omega arith, omega arith)
  done_grows (Lower l) f h = (h, omega arith, omega arith)
  done_grows EnterCrit f h = (h, omega arith, omega arith)
  done_grows EnterGuard f h = (h, omega arith, omega arith)
  done_grows LeaveCrit f h = (h, omega arith, omega arith)
  done_grows LeaveGuard f h = (h, omega arith, omega arith)
  done_grows _ f h = (h, omega arith, omega arith)

  if_grows : (b : Bool) (c : Command) (f : Frame) → DueFits f.again → DueFits (if b then done_to c f else f).again ×
      ((if b then done_to c f else f).crit ≤ f.crit + 1) × ((if b then done_to c f else f).guard ≤ f.guard + 1)
  if_grows true c f h = done_grows c f h
  if_grows false c f h = (h, omega arith, omega arith)

  effect_grows : (due : Option ℕ) (c : Command) (y : Reply) (f : Frame) → IfSome due (λ d. d < 2 ^ 51) → DueFits f.again → DueFits (effect due c y f).again ×
      ((effect due c y f).crit ≤ f.crit + 1) × ((effect due c y f).guard ≤ f.guard + 1)
  effect_grows due (StartWait m a) y f d h =
      (again_fits y (Some (record { mode = m; alertable = a; due = None })) f.again tt h, omega arith, omega arith)
  effect_grows due (Delay m a u) y f d h =
      (again_fits y (Some (record { mode = m; alertable = a; due = due })) f.again d h, omega arith, omega arith)
  effect_grows due c y f d h = if_grows (is_done y) c f h

  tail_below : (hs : List Held) → AreBelow m₀ hs → AreBelow m₀ (tail_of hs)
  tail_below [] h = tt
  tail_below (x ∷ xs) h = h.1

  moved_below : (c : Command) (y : Reply) (f : Frame) → lock_below m₀ c ≡ true → AreBelow m₀ f.held → AreBelow m₀ (held_moved (call_move c y) f)
  moved_below (Acquire k) Done f l h = (grind (arith, nat_tests), h)
  moved_below (Acquire k) Spin f l h = h
  moved_below (Unlock k) Done f l h = tail_below f.held h
  moved_below c y f l h = h

  spins_below : (c : Command) (y : Reply) (f : Frame) → lock_below m₀ c ≡ true → IfSome (spin_moved (call_move c y) f) (λ h. h.lock.0 < m₀)
  spins_below (Acquire k) Spin f l = grind (arith, nat_tests)
  spins_below (Acquire k) Done f l = tt
  spins_below (Unlock k) Done f l = tt
  spins_below c y f l = tt

  called_grows : (n : ℕ) (due : Option ℕ) (c : Command) (y : Reply) (f : Frame) → IfSome due (λ d. d < 2 ^ 51) → lock_below m₀ c ≡ true → IsSmall m₀ n f →
      Grows m₀ n f (called due c y f)
  called_grows n due c y f d l h =
      let e = effect_grows due c y f d h.due in
      record {
        small = record { held = moved_below c y f l h.held; spin = spins_below c y f l; place = place_fits (is_spin y) n f.place h.place; due = e.0 };
        crit = e.1;
        guard = e.2;
      }

  freed_grows : (n : ℕ) (f : Frame) → IsSmall m₀ n f → Grows m₀ n f (freed f)
  freed_grows n f h =
      let p = h.place in
      record { small = record { held = tail_below f.held h.held; spin = h.spin; place = omega arith; due = h.due }; crit = omega arith; guard = omega arith }

  rewaited_grows : (n : ℕ) (y : Reply) (f : Frame) → IsSmall m₀ n f → Grows m₀ n f (rewaited y f)
  rewaited_grows n y f h =
      let p = h.place in record {
        small = record { held = h.held; spin = h.spin; place = omega arith; due = again_fits y f.again f.again h.due h.due };
        crit = omega arith;
        guard = omega arith;
      }

  resumed_grows : (n : ℕ) (st : Option ℕ) (f : Frame) → IsSmall m₀ n f → Grows m₀ n f (resumed st f)
  resumed_grows n None f h = grows_same n f h
  resumed_grows n (Some st) f h = rewaited_grows n (Status st) f h

  normal_grows : (n : ℕ) (f : Frame) → IsSmall m₀ n f → Grows m₀ n f (normal_of f)
  normal_grows n f h = record { small = record { held = h.held; spin = tt; place = omega arith; due = tt }; crit = omega arith; guard = omega arith }

  left_grows : (n : ℕ) (f : Frame) → IsSmall m₀ n f → Grows m₀ n f (ended_base f)
  left_grows n f h = record { small = record { held = h.held; spin = tt; place = omega arith; due = tt }; crit = omega arith; guard = omega arith }

  new_small : (n m : ℕ) (b : Body) → IsSmall m₀ n (new_frame m b)
  new_small n m b = record { held = tt; spin = tt; place = omega arith; due = tt }

  -- ---- the own part

  all_more : (n : ℕ) (fs : List Frame) → All (IsSmall m₀ n) fs → All (IsSmall m₀ (n + 1)) fs
  all_more n fs h = All-weaker (IsSmall m₀ n) (IsSmall m₀ (n + 1)) (more n) fs h

  all_head : (n : ℕ) (f g : Frame) (fs : List Frame) → Grows m₀ n f g → All (IsSmall m₀ n) (f ∷ fs) → All (IsSmall m₀ (n + 1)) (g ∷ fs)
  all_head n f g fs k h =
      All-cons (IsSmall m₀ (n + 1)) g fs k.small (all_more n fs (All-tail (IsSmall m₀ n) f fs h))

  all_at_name : (n m : ℕ) (g : Frame → Frame) (fs : List Frame) → ((f : Frame) → IsSmall m₀ n f → Grows m₀ n f (g f)) → All (IsSmall m₀ n) fs →
      All (IsSmall m₀ (n + 1)) (at_name m g fs)
  all_at_name n m g [] k h = All-nil (IsSmall m₀ (n + 1))
  all_at_name n m g (f ∷ fs) k h = go (f.name == m)
    where
      s : IsSmall m₀ n f
      s = All-head (IsSmall m₀ n) f fs h

      go : (b : Bool) → All (IsSmall m₀ (n + 1)) ((if b then g f else f) ∷ fs)
      go true = all_head n f (g f) fs (k f s) h
      go false = all_more n (f ∷ fs) h

  all_without : (n m : ℕ) (fs : List Frame) → All (IsSmall m₀ n) fs → All (IsSmall m₀ (n + 1)) (without m fs)
  all_without n m [] h = All-nil (IsSmall m₀ (n + 1))
  all_without n m (f ∷ fs) h = go (f.name == m)
    where
      go : (b : Bool) → All (IsSmall m₀ (n + 1)) (if b then fs else (f ∷ fs))
      go true = all_more n fs (All-tail (IsSmall m₀ n) f fs h)
      go false = all_more n (f ∷ fs) h

  all_new : (n m : ℕ) (b : Body) (fs : List Frame) → All (IsSmall m₀ n) fs → All (IsSmall m₀ (n + 1)) (new_frame m b ∷ fs)
  all_new n m b fs h =
      All-cons (IsSmall m₀ (n + 1)) (new_frame m b) fs (new_small (n + 1) m b) (all_more n fs h)

  small_own : (n m : ℕ) (due : Option ℕ) (w : What) (fs : List Frame) → IfSome due (λ d. d < 2 ^ 51) → LockFits m₀ w → All (IsSmall m₀ n) fs →
      All (IsSmall m₀ (n + 1)) (own_after m due w fs)
  small_own n m due (Begin (Int k) from) fs d l h = all_new n m _ fs h
  small_own n m due (Begin (Dpc x) from) fs d l h = all_new n m _ fs h
  small_own n m due (Begin (Threaded x) from) fs d l h = all_new n m _ fs h
  small_own n m due (Begin (Apc a) from) fs d l h = all_more n fs h
  small_own n m due (Call f c y) fs d l h =
      all_at_name n f (called due c y) fs (λ x s. called_grows n due c y x d l s) h
  small_own n m due (End f) fs d l h = all_without n f fs h
  small_own n m due (Free f k) fs d l h = all_at_name n f freed fs (λ x s. freed_grows n x s) h
  small_own n m due _ fs d l h = all_more n fs h

  -- ---- the part of a thread

  part_more : (n : ℕ) (fs : List Frame) → IsSmallPart m₀ n fs → IsSmallPart m₀ (n + 1) fs
  part_more n fs h =
      let c = h.crit in
      let g = h.guard in
      record { frames = all_more n fs h.frames; crit = omega arith; guard = omega arith }

  part_head : (n : ℕ) (f g : Frame) (fs : List Frame) → Grows m₀ n f g → IsSmallPart m₀ n (f ∷ fs) → IsSmallPart m₀ (n + 1) (g ∷ fs)
  part_head n f g fs k h =
      let c = h.crit in
      let d = h.guard in
      let kc = k.crit in
      let kg = k.guard in
      let a : crit_of (f ∷ fs) ≡ f.crit + crit_of fs = sum_by-cons (λ (q : Frame). q.crit) f fs in
      let b : guard_of (f ∷ fs) ≡ f.guard + guard_of fs = sum_by-cons (λ (q : Frame). q.guard) f fs in
      let y : crit_of (g ∷ fs) ≡ g.crit + crit_of fs = sum_by-cons (λ (q : Frame). q.crit) g fs in
      let z : guard_of (g ∷ fs) ≡ g.guard + guard_of fs = sum_by-cons (λ (q : Frame). q.guard) g fs in
      record { frames = all_head n f g fs k h.frames; crit = omega arith; guard = omega arith }

  part_tail : (n : ℕ) (f : Frame) (fs : List Frame) → IsSmallPart m₀ n (f ∷ fs) → IsSmallPart m₀ (n + 1) fs
  part_tail n f fs h =
      let c = h.crit in
      let d = h.guard in
      let a : crit_of (f ∷ fs) ≡ f.crit + crit_of fs = sum_by-cons (λ (q : Frame). q.crit) f fs in
      let b : guard_of (f ∷ fs) ≡ f.guard + guard_of fs = sum_by-cons (λ (q : Frame). q.guard) f fs in
      record { frames = all_more n fs (All-tail (IsSmall m₀ n) f fs h.frames); crit = omega arith; guard = omega arith }

  part_new : (n m : ℕ) (b : Body) (fs : List Frame) → IsSmallPart m₀ n fs → IsSmallPart m₀ (n + 1) (new_frame m b ∷ fs)
  part_new n m b fs h =
      let c = h.crit in
      let d = h.guard in
      record { frames = all_new n m b fs h.frames; crit = omega arith; guard = omega arith }

  -- a part with no frames is small for any number of events
  pub part_nil : (n : ℕ) → IsSmallPart m₀ n []
  part_nil n = record { frames = All-nil (IsSmall m₀ n); crit = omega arith; guard = omega arith }

  part_at_name : (n m : ℕ) (g : Frame → Frame) (fs : List Frame) → ((f : Frame) → IsSmall m₀ n f → Grows m₀ n f (g f)) → IsSmallPart m₀ n fs →
      IsSmallPart m₀ (n + 1) (at_name m g fs)
  part_at_name n m g [] k h = part_nil (n + 1)
  part_at_name n m g (f ∷ fs) k h = go (f.name == m)
    where
      s : IsSmall m₀ n f
      s = All-head (IsSmall m₀ n) f fs h.frames

      go : (b : Bool) → IsSmallPart m₀ (n + 1) ((if b then g f else f) ∷ fs)
      go true = part_head n f (g f) fs (k f s) h
      go false = part_more n (f ∷ fs) h

  part_ended : (n : ℕ) (fs : List Frame) → IsSmallPart m₀ n fs → IsSmallPart m₀ (n + 1) (ended_on_thread fs)
  part_ended n [] h = part_nil (n + 1)
  part_ended n (f ∷ fs) h = go (is_base_body f.body)
    where
      s : IsSmall m₀ n f
      s = All-head (IsSmall m₀ n) f fs h.frames

      go : (b : Bool) → IsSmallPart m₀ (n + 1) (if b then (ended_base f ∷ fs) else fs)
      go true = part_head n f (ended_base f) fs (left_grows n f s) h
      go false = part_tail n f fs h

  part_end : (n m : ℕ) (fs : List Frame) → IsSmallPart m₀ n fs → IsSmallPart m₀ (n + 1) (end_on_thread m fs)
  part_end n m [] h = part_nil (n + 1)
  part_end n m (f ∷ fs) h = go (f.name == m)
    where
      go : (b : Bool) → IsSmallPart m₀ (n + 1) (if b then ended_on_thread (f ∷ fs) else (f ∷ fs))
      go true = part_ended n (f ∷ fs) h
      go false = part_more n (f ∷ fs) h

  part_switched : (n m : ℕ) (t : ThreadNo) (st : Option ℕ) (fs : List Frame) → IsSmallPart m₀ n fs → IsSmallPart m₀ (n + 1) (switched_to m t st fs)
  part_switched n m t st [] h = part_new n m _ [] h
  part_switched n m t st (f ∷ fs) h =
      part_head n f (resumed st f) fs (resumed_grows n st f (All-head (IsSmall m₀ n) f fs h.frames)) h

  part_flushed : (n m : ℕ) (a : ApcNo) (r : Option RoutineNo) (fs : List Frame) → IsSmallPart m₀ n fs → IsSmallPart m₀ (n + 1) (flushed m a r fs)
  part_flushed n m a None fs h = part_more n fs h
  part_flushed n m a (Some r) fs h = part_new n m _ fs h

  small_part : (s : Script) (n m : ℕ) (due : Option ℕ) (w : What) (fs : List Frame) → IfSome due (λ d. d < 2 ^ 51) → LockFits m₀ w → IsSmallPart m₀ n fs →
      IsSmallPart m₀ (n + 1) (thread_after s m due w fs)
  small_part s n m due (Switch t st) fs d l h = part_switched n m t st fs h
  small_part s n m due (Begin (Apc a) from) fs d l h = part_new n m _ fs h
  small_part s n m due (Flush a from) fs d l h = part_flushed n m a (rundown_of s a) fs h
  small_part s n m due (Call f c y) fs d l h =
      part_at_name n f (called due c y) fs (λ x k. called_grows n due c y x d l k) h
  small_part s n m due (Rewait f y) fs d l h =
      part_at_name n f (rewaited y) fs (λ x k. rewaited_grows n y x k) h
  small_part s n m due (Normal f) fs d l h =
      part_at_name n f normal_of fs (λ x k. normal_grows n x k) h
  small_part s n m due (End f) fs d l h = part_end n f fs h
  small_part s n m due (Free f k) fs d l h =
      part_at_name n f freed fs (λ x q. freed_grows n x q) h
  small_part s n m due (Gone t) fs d l h = part_nil (n + 1)
  small_part s n m due _ fs d l h = part_more n fs h

  small_if : (b : Bool) (s : Script) (n m : ℕ) (due : Option ℕ) (w : What) (fs : List Frame) → IfSome due (λ d. d < 2 ^ 51) → LockFits m₀ w →
      IsSmallPart m₀ n fs →
      IsSmallPart m₀ (n + 1) (thread_if b s m due w fs)
  small_if true s n m due w fs d l h = small_part s n m due w fs d l h
  small_if false s n m due w fs d l h = part_more n fs h

  -- the part of any number of a thread
  pub part_of : (n : ℕ) (parts : List (List Frame)) (t : ℕ) → All (IsSmallPart m₀ n) parts → IsSmallPart m₀ n (get_or parts t [])
  part_of n parts t h = go (nat_lt t (length parts)) refl
    where
      go : (b : Bool) → nat_lt t (length parts) ≡ b → IsSmallPart m₀ n (get_or parts t [])
      go true e = h t [] (grind (arith, nat_tests))
      go false e =
          let l : length parts ≤ t = grind (arith, nat_tests) in rw (get_or_past parts t [] l) (part_nil n)

  -- frames small for a number of events are small for one more after an event with a fitting lock and due time
  pub small_after : (s : Script) (n m : ℕ) (due : Option ℕ) (e : Event) (x : Frames) → IfSome due (λ d. d < 2 ^ 51) → LockFits m₀ e.what → AreSmall m₀ n x →
      AreSmall m₀ (n + 1) (frames_after s m due e x)
  small_after s n m due e x d l h = record {
    own = small_own n m due e.what x.own d l h.own;
    threads = All-from_get_or (IsSmallPart m₀ (n + 1)) _ [] (λ i b. let k : i < length s.threads = omega (
      arith,
      length-table_from {A = List Frame} 0 (length s.threads) (λ t. thread_if (is_by e (thread t)) s m due e.what (frames_in x.threads (thread t))),
    ) in
        rw (get_or-table {A = List Frame} (length s.threads) i (λ t. thread_if (is_by e (thread t)) s m due e.what (frames_in x.threads (thread t))) [] k)
        (small_if (is_by e (thread i)) s n m due e.what (get_or x.threads i []) d l (part_of n x.threads i h.threads)));
  }
