-- Frames stay nested where the innermost one ends or a thread is gone.
use Rattle.std.proofs.Common.{◌≡◌, ℕ, ◌<◌, ◌^◌, Bool, true, false, not, ◌&&◌, Option, None, Some, List, [], ◌∷◌, arith, subst, refl, lit<}
use Rattle.std.proofs.lemmas.List.Sums.{sum_by-cons}
use Rattle.std.specs.List.{sum_by}
use Rattle.std.specs.Option.{option_map_or, option_or}
use Rattle.nt_event.specs.declared.frames.Body.{Body}
use Rattle.nt_event.specs.declared.frames.Body.TheVariants.{Apc, Base, Dpc, Int, Rundown, Threaded}
use Rattle.nt_event.specs.Frame.{Frame}
use Rattle.nt_event.specs.declared.numbers.ThreadNo.{ThreadNo}
use Rattle.nt_event.specs.Frames.{Frames, innermost, thread_part}
use Rattle.nt_event.specs.Jobs.{has_normal}
use Rattle.nt_event.specs.Lists.{head_of, is_null, tail_of}
use Rattle.nt_frame.specs.Changes.{closed, is_own, on_part, on_running, on_thread, without_innermost}
use Rattle.nt_frame.specs.Nesting.{AreNested, AreNewer, IsPart, IsThreadPart}
use Rattle.nt_frame.specs.Rules.{is_leaving, may_go_on}
use Rattle.nt_frame.proofs.Begun.{base_is_not_own}
use Rattle.nt_frame.proofs.Changed.{innermost_frame}
use Rattle.nt_frame.proofs.Kept.{innermost_test}
use Rattle.nt_event.proofs.Booleans.{and_right}
use Rattle.nt_frame.proofs.Nested.{on_own_nested, on_running_nested, thread_part_nested}

-- the frames of a part without the innermost one are still in order
tail_part : (own : Bool) (fs : List Frame) → IsPart own fs → IsPart own (tail_of fs)
tail_part own [] p = tt
tail_part own (f ∷ fs) p = p.2

-- own frames without the innermost one are still newer than the threads' frames
tail_newer : (fs : List Frame) (parts : List (List Frame)) → AreNewer fs parts → AreNewer (tail_of fs) parts
tail_newer [] parts n = tt
tail_newer (f ∷ fs) parts n = n.1

-- a sum over frames that is below 2 ^ 32 is so without the first frame
pub tail_sum : (c : Frame → ℕ) (fs : List Frame) → sum_by c fs < 2 ^ 32 → sum_by c (tail_of fs) < 2 ^ 32
tail_sum c [] h = h
tail_sum c (f ∷ fs) h = omega (arith, h, sum_by-cons c f fs)

-- nested frames stay nested where the innermost one ends
pub without_innermost_nested : (x : Frames) → AreNested x → AreNested (without_innermost x)
without_innermost_nested x h = go x.own refl
  where
    go : (os : List Frame) → x.own ≡ os → AreNested (on_part (not (is_null os)) tail_of x)
    go [] e =
        let p : IsThreadPart (thread_part x) = thread_part_nested x h in
        on_running_nested tail_of x h e (record {
          part = tail_part false (thread_part x) p.part;
          crit = tail_sum (λ f. f.crit) (thread_part x) p.crit;
          guard = tail_sum (λ f. f.guard) (thread_part x) p.guard;
        })
    go (f ∷ fs) e =
        on_own_nested tail_of x h (tail_part true x.own h.own) (tail_newer x.own x.threads h.newer)

-- a leaving base is the innermost frame only where the own part has none
leaving_own : (os fs : List Frame) → option_map_or (λ f. f.leaving) (option_or (head_of os) (head_of fs)) false ≡ true → IsPart true os → os ≡ []
leaving_own [] fs l o = refl
leaving_own (f ∷ os) fs l o = absurd (base_is_not_own f.body o.0.part (o.0.leaving l))

-- nested frames stay nested where the frames of a leaving thread are closed
pub closed_nested : (x : Frames) → AreNested x → is_leaving x ≡ true → AreNested (closed x)
closed_nested x h l =
    let e : x.own ≡ [] = leaving_own x.own (thread_part x) l h.own in
    let n : AreNested (on_running (λ _. []) x.running x) = on_running_nested (λ _. []) x h e (record { part = tt; crit = lit< tt; guard = lit< tt }) in
    record { own = n.own; threads = n.threads; running = tt; newer = n.newer }

-- the same where that thread is named, or none is
pub closed_on : (x : Frames) (t : ThreadNo) → AreNested x → is_leaving x ≡ true → x.running ≡ Some t →
    AreNested (record (on_thread (λ _. []) t x) { running = None })
closed_on x t h l e =
    subst (λ (r : Option ThreadNo). AreNested (record (on_running (λ _. []) r x) { running = None })) e (closed_nested x h l)

-- nested frames stay nested where the running thread stops
pub stopped_nested : (x : Frames) → AreNested x → AreNested (record x { running = None })
stopped_nested x h = record { own = h.own; threads = h.threads; running = tt; newer = h.newer }

-- no routine of the processor's own part has a normal routine
normal_is_not_own : (b : Body) → is_own b ≡ true → has_normal b ≡ true → ⊥
normal_is_not_own (Apc a kind) o q = cc
normal_is_not_own (Int l) o q = cc
normal_is_not_own (Dpc d) o q = cc
normal_is_not_own (Threaded d) o q = cc
normal_is_not_own (Base t) o q = cc
normal_is_not_own (Rundown a) o q = cc

-- an APC that may go on to its normal routine has no frame on the own part over it
pub normal_is_on_thread : (f : Frame) (x : Frames) → AreNested x → innermost x ≡ Some f → may_go_on x ≡ true → is_null x.own ≡ true
normal_is_on_thread f x h k m = go (is_null x.own) refl
  where
    n : has_normal f.body ≡ true
    n = and_right f.kernel_phase _ (innermost_test (λ y. y.kernel_phase && has_normal y.body) f x k m)

    go : (b : Bool) → is_null x.own ≡ b → b ≡ true
    go true e = refl
    go false e = absurd (normal_is_not_own f.body (rw e at (innermost_frame f x h k).part) n)
