-- Frames stay nested when the innermost one changes.
use Rattle.std.proofs.Common.{◌≡◌, ℕ, ◌+◌, ◌<◌, ◌≤◌, ◌^◌, Bool, true, false, not, Option, None, Some, IfSome, List, [], ◌∷◌, arith, ap, refl}
use Rattle.std.proofs.Common.{get_or}
use Rattle.std.proofs.lemmas.List.{set-get_or}
use Rattle.std.specs.List.{sum_by}
use Rattle.std.proofs.lemmas.List.Sums.{sum_by-cons}
use Rattle.std.specs.Option.{option_map_or, option_or}
use Rattle.nt_event.specs.Frame.{Frame}
use Rattle.nt_event.specs.declared.numbers.ThreadNo.{ThreadNo}
use Rattle.nt_event.specs.Frames.{Frames, at_head, base_of, frames_in, innermost, is_apc_body, is_base_body, thread_part}
use Rattle.nt_event.specs.Regions.{crit_of, guard_of}
use Rattle.nt_event.specs.Lists.{head_of, is_null}
use Rattle.nt_frame.specs.Changes.{at_innermost, on_part, on_running}
use Rattle.nt_frame.specs.Nesting.{AreNested, AreNewer, IsFrame, IsOver, IsPart, IsThreadPart, is_special_body}
use Rattle.nt_frame.specs.HeldLocks.{KeepAtLeast}
use Rattle.nt_frame.proofs.Nested.{on_own_nested, on_running_nested, thread_part_nested}

-- ---- the innermost frame is known

-- putting what a function makes of a part's known head there is changing the head by the function
at_head_same : (g : Frame → Frame) (f : Frame) (fs : List Frame) → head_of fs ≡ Some f → at_head (λ _. g f) fs ≡ at_head g fs
at_head_same g f [] h = cc
at_head_same g f (y ∷ ys) h =
    let e : y ≡ f = cc in rw e

-- putting what a function makes of the running thread's innermost frame there is changing it by the function
on_running_same : (g : Frame → Frame) (f : Frame) (x : Frames) (r : Option ThreadNo) → head_of (option_map_or (frames_in x.threads) r []) ≡ Some f →
    on_running (at_head (λ _. g f)) r x ≡ on_running (at_head g) r x
on_running_same g f x None h = refl
on_running_same g f x (Some t) h = simp (at_head_same g f (frames_in x.threads t) h)

-- a change of the innermost frame to what a function makes of it is a change by that function
pub at_innermost_same : (g : Frame → Frame) (f : Frame) (x : Frames) → innermost x ≡ Some f → at_innermost (λ _. g f) x ≡ at_innermost g x
at_innermost_same g f x h = go x.own refl h
  where
    go : (os : List Frame) → x.own ≡ os → option_or (head_of os) (head_of (thread_part x)) ≡ Some f →
        on_part (not (is_null os)) (at_head (λ _. g f)) x ≡ on_part (not (is_null os)) (at_head g) x
    go [] e k = on_running_same g f x x.running k
    go (y ∷ ys) e k =
        let q : head_of x.own ≡ Some f = rw e k in simp (at_head_same g f x.own q)

-- changing the running thread's innermost frame changes nothing where the thread has no frame
on_running_none : (g : Frame → Frame) (x : Frames) (r : Option ThreadNo) → head_of (option_map_or (frames_in x.threads) r []) ≡ None →
    on_running (at_head g) r x ≡ x
on_running_none g x None h = refl
on_running_none g x (Some t) h = go (get_or x.threads t.0 []) refl h
  where
    go : (fs : List Frame) → get_or x.threads t.0 [] ≡ fs → head_of fs ≡ None → on_running (at_head g) (Some t) x ≡ x
    go [] e q = rw e (ap (λ (ts : List (List Frame)). record { own = x.own; running = x.running; threads = ts }) (rw (← e) (set-get_or x.threads t.0 [])))
    go (f ∷ fs) e q = cc

-- where there is no frame, nothing is changed
pub at_innermost_none : (g : Frame → Frame) (x : Frames) → innermost x ≡ None → at_innermost g x ≡ x
at_innermost_none g x h = go x.own refl h
  where
    go : (os : List Frame) → x.own ≡ os → option_or (head_of os) (head_of (thread_part x)) ≡ None → on_part (not (is_null os)) (at_head g) x ≡ x
    go [] e k = on_running_none g x x.running k
    go (y ∷ ys) e k = cc

-- the innermost frame is a frame of its part
pub innermost_frame : (f : Frame) (x : Frames) → AreNested x → innermost x ≡ Some f → IsFrame (not (is_null x.own)) f
innermost_frame f x h k = go x.own (thread_part x) h.own (thread_part_nested x h).part k
  where
    go : (os fs : List Frame) → IsPart true os → IsPart false fs → option_or (head_of os) (head_of fs) ≡ Some f → IsFrame (not (is_null os)) f
    go [] [] o p e = cc
    go [] (y ∷ ys) o p e = let q : y ≡ f = cc in rw (← q) p.0
    go (y ∷ ys) fs o p e = let q : y ≡ f = cc in rw (← q) o.0

-- ---- a change that keeps the frame's place

-- the frame g may stand where f stands as the innermost one: of the same name and body, not below its base, and with regions
-- whose counts are numbers of 32 bits
pub record MayStandFor (f g : Frame) (x : Frames) : Type 0 where
  pub name : g.name ≡ f.name
  pub body : g.body ≡ f.body
  pub level : base_of g ≤ g.level
  pub special : is_special_body g.body ≡ true → g.kernel_phase ≡ true
  pub phase : g.kernel_phase ≡ true → is_apc_body g.body ≡ true
  pub leaving : g.leaving ≡ true → is_base_body g.body ≡ true
  pub kept : KeepAtLeast (base_of g) g.held
  pub spun : IfSome g.spin (λ h. base_of g ≤ h.kept)
  pub crit : crit_of (thread_part x) + g.crit < 2 ^ 32 + f.crit
  pub guard : guard_of (thread_part x) + g.guard < 2 ^ 32 + f.guard

-- a frame that may stand for a frame of a part is a frame of this part too
stands : (own : Bool) (f g : Frame) (x : Frames) → IsFrame own f → MayStandFor f g x → IsFrame own g
stands own f g x p m = record {
  part = rw m.body p.part;
  interrupt = rw m.body p.interrupt;
  level = m.level;
  special = m.special;
  phase = m.phase;
  leaving = m.leaving;
  kept = m.kept;
  spun = m.spun;
}

-- a frame that may stand for one that stands over some frames stands over them too
over_same : (f g : Frame) (x : Frames) (fs : List Frame) → MayStandFor f g x → IsOver f fs → IsOver g fs
over_same f g x [] m o = tt
over_same f g x (y ∷ ys) m o = (rw m.body o.0, rw m.name o.1)

-- the frames of a part are still in order if the innermost one is replaced by one that may stand for it
part_changed : (own : Bool) (f g : Frame) (x : Frames) (fs : List Frame) → MayStandFor f g x → head_of fs ≡ Some f → IsPart own fs →
    IsPart own (at_head (λ _. g) fs)
part_changed own f g x [] m h p = tt
part_changed own f g x (y ∷ ys) m h p =
    let e : y ≡ f = cc in
    (stands own f g x (rw e at p.0) m, over_same f g x ys m (rw e at p.1), p.2)

-- own frames stay newer than the threads' if the innermost one is replaced by one that may stand for it
newer_changed : (f g : Frame) (x : Frames) (fs : List Frame) (parts : List (List Frame)) → MayStandFor f g x → head_of fs ≡ Some f → AreNewer fs parts →
    AreNewer (at_head (λ _. g) fs) parts
newer_changed f g x [] parts m h n = tt
newer_changed f g x (y ∷ ys) parts m h n =
    let e : g.name ≡ y.name = let q : y ≡ f = cc in rw q m.name in
    (rw e n.0, n.1)

-- a count summed over frames stays below 2 ^ 32 if the innermost frame's replacement keeps it so
sum_changed : (c : Frame → ℕ) (f g : Frame) (fs : List Frame) → head_of fs ≡ Some f → sum_by c fs + c g < 2 ^ 32 + c f → sum_by c (at_head (λ _. g) fs) < 2 ^ 32
sum_changed c f g [] h l = cc
sum_changed c f g (y ∷ ys) h l =
    let e : y ≡ f = cc in
    let k : c y ≡ c f = ap c e in
    omega (arith, sum_by-cons c y ys, sum_by-cons c g ys)

-- nested frames stay nested if the innermost one is replaced by one that may stand for it
pub at_innermost_nested : (f g : Frame) (x : Frames) → AreNested x → innermost x ≡ Some f → MayStandFor f g x → AreNested (at_innermost (λ _. g) x)
at_innermost_nested f g x h k m = go x.own refl k
  where
    go : (os : List Frame) → x.own ≡ os → option_or (head_of os) (head_of (thread_part x)) ≡ Some f →
        AreNested (on_part (not (is_null os)) (at_head (λ _. g)) x)
    go [] e q =
        let p : IsThreadPart (thread_part x) = thread_part_nested x h in
        on_running_nested (at_head (λ _. g)) x h e (record {
          part = part_changed false f g x (thread_part x) m q p.part;
          crit = sum_changed (λ y. y.crit) f g (thread_part x) q m.crit;
          guard = sum_changed (λ y. y.guard) f g (thread_part x) q m.guard;
        })
    go (y ∷ ys) e q =
        let r : head_of x.own ≡ Some f = rw e q in
        on_own_nested (at_head (λ _. g)) x h (part_changed true f g x x.own m r h.own) (newer_changed f g x x.own x.threads m r h.newer)
