-- What a layer above keeps of the frames: names below a number, as many parts as threads, no waits on the own part.
use Rattle.std.proofs.Common.{◌≡◌, ℕ, ◌+◌, ◌<◌, ◌≤◌, Bool, true, false, not, Option, None, Some, List, [], ◌∷◌, get_or, length, arith, sym, ◌∙◌, refl}
use Rattle.std.proofs.lemmas.List.{length-set}
use Rattle.std.proofs.lemmas.List.Elements.{All-from_get_or, All-set}
use Rattle.std.specs.Option.{option_or}
use Rattle.nt_event.specs.declared.frames.Again.{Again}
use Rattle.nt_event.specs.declared.frames.Body.{Body}
use Rattle.nt_event.specs.Frame.{Frame}
use Rattle.nt_event.specs.declared.numbers.ThreadNo.{ThreadNo}
use Rattle.nt_event.specs.Frames.{Frames, at_head, frames_in, innermost, new_frame, thread_part}
use Rattle.nt_event.specs.Lists.{head_of, is_null, tail_of}
use Rattle.nt_event.proofs.Tables.{get_or-table, length-table_from}
use Rattle.nt_frame.specs.Changes.{at_innermost, begun, closed, is_own, no_frames, on_part, on_running, without_innermost}
use Rattle.nt_frame.specs.Nesting.{AreNamedBelow, AreNested, HaveNoWaits, IsPart, next_name}

-- ---- names below a number

-- at the start each frame is named below zero, as there is none
pub below_start : (n : ℕ) → AreNamedBelow 0 (no_frames n)
below_start n = (
  omega arith,
  All-from_get_or (λ fs. next_name fs ≤ 0) _ [] (λ i h. let k : i < n = omega (arith, length-table_from {A = List Frame} 0 n (λ _. [])) in rw
      (get_or-table {A = List Frame} n i (λ _. []) [] k) (omega arith)),
)

-- frames that are named below a number are named below each greater one
pub below_more : (m n : ℕ) (x : Frames) → m ≤ n → AreNamedBelow m x → AreNamedBelow n x
below_more m n x l h =
    (omega (arith, h.0), λ k d i. let p : next_name (get_or x.threads k d) ≤ m = h.1 k d i in omega arith)

-- the part of a thread changed to one whose newest name is below n too
below_running : (n : ℕ) (g : List Frame → List Frame) (x : Frames) → AreNamedBelow n x → ((fs : List Frame) → next_name fs ≤ n → next_name (g fs) ≤ n) →
    AreNested x → AreNamedBelow n (on_running g x.running x)
below_running n g x h k a = go x.running refl
  where
    go : (r : Option ThreadNo) → x.running ≡ r → AreNamedBelow n (on_running g r x)
    go None e = h
    go (Some t) e =
        let b : t.0 < length x.threads = rw e at a.running in
        (h.0, All-set (λ fs. next_name fs ≤ n) x.threads t.0 (g (frames_in x.threads t)) (k (frames_in x.threads t) (h.1 t.0 [] b)) h.1)

-- frame names stay below a number, if what changes one part keeps its names below it
below_part : (n : ℕ) (o : Bool) (g : List Frame → List Frame) (x : Frames) → AreNamedBelow n x →
    ((fs : List Frame) → next_name fs ≤ n → next_name (g fs) ≤ n) → AreNested x → AreNamedBelow n (on_part o g x)
below_part n true g x h k a = (k x.own h.0, h.1)
below_part n false g x h k a = below_running n g x h k a

-- the event of this number begins a routine: the next number is above all names
pub below_begun : (n : ℕ) (b : Body) (x : Frames) → AreNested x → AreNamedBelow n x → AreNamedBelow (n + 1) (begun n b x)
below_begun n b x a h =
    below_part (n + 1) (is_own b) (λ fs. new_frame n b ∷ fs) x (below_more n (n + 1) x (omega arith) h) (λ fs k. omega arith) a

-- a change of the innermost frame that keeps its name keeps a part's names below a number
name_kept : (n : ℕ) (g : Frame → Frame) (fs : List Frame) → ((f : Frame) → (g f).name ≡ f.name) → next_name fs ≤ n → next_name (at_head g fs) ≤ n
name_kept n g [] e h = h
name_kept n g (f ∷ fs) e h = rw (e f) h

-- a change of the innermost frame that keeps its name leaves the frames named below the same number
pub below_changed : (n : ℕ) (g : Frame → Frame) (x : Frames) → AreNested x → ((f : Frame) → (g f).name ≡ f.name) → AreNamedBelow n x →
    AreNamedBelow n (at_innermost g x)
below_changed n g x a e h =
    below_part n (not (is_null x.own)) (at_head g) x h (λ fs k. name_kept n g fs e k) a

-- what is left where the innermost frame ended is older
name_ended : (n : ℕ) (own : Bool) (fs : List Frame) → IsPart own fs → next_name fs ≤ n → next_name (tail_of fs) ≤ n
name_ended n own [] p h = h
name_ended n own (f ∷ []) p h = omega arith
name_ended n own (f ∷ g ∷ fs) p h = omega (arith, p.1.1)

-- the end of the innermost frame leaves the frames named below the same number
pub below_ended : (n : ℕ) (x : Frames) → AreNested x → AreNamedBelow n x → AreNamedBelow n (without_innermost x)
below_ended n x a h = go (not (is_null x.own))
  where
    running : (r : Option ThreadNo) → x.running ≡ r → AreNamedBelow n (on_running tail_of r x)
    running None e = h
    running (Some t) e =
        let b : t.0 < length x.threads = rw e at a.running in (
          h.0,
          All-set (λ fs. next_name fs ≤ n) x.threads t.0 (tail_of (frames_in x.threads t))
              (name_ended n false (frames_in x.threads t) (a.threads t.0 [] b).part (h.1 t.0 [] b)) h.1,
        )

    go : (o : Bool) → AreNamedBelow n (on_part o tail_of x)
    go true = (name_ended n true x.own a.own h.0, h.1)
    go false = running x.running refl

-- the closing of the running thread's frames leaves the frames named below the same number
pub below_closed : (n : ℕ) (x : Frames) → AreNested x → AreNamedBelow n x → AreNamedBelow n (closed x)
below_closed n x a h =
    let k : AreNamedBelow n (on_running (λ _. []) x.running x) = below_running n (λ _. []) x h (λ fs i. omega arith) a in
    (k.0, k.1)

-- ---- as many parts as threads

-- a change of one part leaves the number of threads' parts as it was
length-on_part : (o : Bool) (g : List Frame → List Frame) (x : Frames) → length (on_part o g x).threads ≡ length x.threads
length-on_part true g x = refl
length-on_part false g x = go x.running
  where
    go : (r : Option ThreadNo) → length (on_running g r x).threads ≡ length x.threads
    go None = refl
    go (Some t) = length-set x.threads t.0 (g (frames_in x.threads t))

-- at the start there are as many parts as threads
pub length-no_frames : (n : ℕ) → length (no_frames n).threads ≡ n
length-no_frames n = length-table_from 0 n (λ _. [])

-- the begin of a routine leaves as many parts of threads as there were
pub length-begun : (n : ℕ) (b : Body) (x : Frames) → length (begun n b x).threads ≡ length x.threads
length-begun n b x = length-on_part (is_own b) (λ fs. new_frame n b ∷ fs) x

-- a change of the innermost frame leaves as many parts of threads as there were
pub length-at_innermost : (g : Frame → Frame) (x : Frames) → length (at_innermost g x).threads ≡ length x.threads
length-at_innermost g x = length-on_part (not (is_null x.own)) (at_head g) x

-- the end of the innermost frame leaves as many parts of threads as there were
pub length-without_innermost : (x : Frames) → length (without_innermost x).threads ≡ length x.threads
length-without_innermost x = length-on_part (not (is_null x.own)) tail_of x

-- the closing of the running thread's frames leaves as many parts of threads as there were
pub length-closed : (x : Frames) → length (closed x).threads ≡ length x.threads
length-closed x = length-on_part false (λ _. []) x

-- ---- no waits on the own part

-- a change of the running thread's part leaves the processor's own part as it was
own-on_running : (g : List Frame → List Frame) (r : Option ThreadNo) (x : Frames) → (on_running g r x).own ≡ x.own
own-on_running g None x = refl
own-on_running g (Some t) x = refl

-- the begin of a routine leaves the own part without waits to take up
pub waits_begun : (n : ℕ) (b : Body) (x : Frames) → HaveNoWaits x.own → HaveNoWaits (begun n b x).own
waits_begun n b x h = go (is_own b)
  where
    go : (o : Bool) → HaveNoWaits (on_part o (λ fs. new_frame n b ∷ fs) x).own
    go true = (refl, h)
    go false = rw (own-on_running (λ fs. new_frame n b ∷ fs) x.running x) h

-- a change that sets no wait
pub waits_changed : (g : Frame → Frame) (x : Frames) → ((f : Frame) → f.again ≡ None → (g f).again ≡ None) → HaveNoWaits x.own →
    HaveNoWaits (at_innermost g x).own
waits_changed g x k h = go (not (is_null x.own))
  where
    head : (fs : List Frame) → HaveNoWaits fs → HaveNoWaits (at_head g fs)
    head [] i = tt
    head (f ∷ fs) i = (k f i.0, i.1)

    go : (o : Bool) → HaveNoWaits (on_part o (at_head g) x).own
    go true = head x.own h
    go false = rw (own-on_running (at_head g) x.running x) h

-- a change of the thread's innermost frame, whatever it sets
pub waits_on_thread : (g : Frame → Frame) (x : Frames) → x.own ≡ [] → HaveNoWaits (at_innermost g x).own
waits_on_thread g x o =
    let n : is_null x.own ≡ true = rw o refl in rw (n, own-on_running (at_head g) x.running x, o) tt

-- the end of the innermost frame leaves the own part without waits to take up
pub waits_ended : (x : Frames) → HaveNoWaits x.own → HaveNoWaits (without_innermost x).own
waits_ended x h = go (not (is_null x.own))
  where
    tail : (fs : List Frame) → HaveNoWaits fs → HaveNoWaits (tail_of fs)
    tail [] i = tt
    tail (f ∷ fs) i = i.1

    go : (o : Bool) → HaveNoWaits (on_part o tail_of x).own
    go true = tail x.own h
    go false = rw (own-on_running tail_of x.running x) h

-- the closing of the running thread's frames leaves the own part without waits to take up
pub waits_closed : (x : Frames) → HaveNoWaits x.own → HaveNoWaits (closed x).own
waits_closed x h = rw (own-on_running (λ _. []) x.running x) h

-- so a frame with a wait to take up stands on the running thread's part
pub awaiting_is_on_thread : (f : Frame) (w : Again) (x : Frames) → HaveNoWaits x.own → innermost x ≡ Some f → f.again ≡ Some w → x.own ≡ []
awaiting_is_on_thread f w x h k a = go x.own h k
  where
    go : (os : List Frame) → HaveNoWaits os → option_or (head_of os) (head_of (thread_part x)) ≡ Some f → os ≡ []
    go [] i q = refl
    go (y ∷ ys) i q =
        let e : y ≡ f = cc in
        let n : f.again ≡ None = rw e at i.0 in
        let b : None ≡ Some w = sym n ∙ a in cc
