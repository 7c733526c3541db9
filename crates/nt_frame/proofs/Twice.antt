-- Two changes of the innermost frame are one.
use Rattle.std.proofs.Common.{◌≡◌, ◌<◌, Bool, true, false, not, Option, None, Some, IfSome, List, [], ◌∷◌, length, ap, refl, get_or}
use Rattle.std.proofs.lemmas.List.{get_or-set_same, set-get_or, set-set}
use Rattle.nt_event.specs.Frame.{Frame}
use Rattle.nt_event.specs.declared.numbers.ThreadNo.{ThreadNo}
use Rattle.nt_event.specs.Frames.{Frames, at_head, frames_in}
use Rattle.nt_event.specs.Lists.{is_null}
use Rattle.nt_frame.specs.Changes.{at_innermost, on_part, on_running}
use Rattle.nt_frame.specs.Nesting.{AreNested}
use Rattle.nt_frame.proofs.Events.{changed}
use Rattle.nt_frame.proofs.Named.{on_running_is}

-- changing the head of a list twice is changing it once by both changes in turn
head_twice : (g h : Frame → Frame) (fs : List Frame) → at_head g (at_head h fs) ≡ at_head (λ f. g (h f)) fs
head_twice g h [] = refl
head_twice g h (f ∷ fs) = refl

-- changing the head of a list by what changes nothing leaves the list as it was
head_same : (g : Frame → Frame) (fs : List Frame) → ((f : Frame) → g f ≡ f) → at_head g fs ≡ fs
head_same g [] e = refl
head_same g (f ∷ fs) e = ap (λ (y : Frame). y ∷ fs) (e f)

-- two changes that agree on each frame change the head of a list alike
head_by : (g h : Frame → Frame) (fs : List Frame) → ((f : Frame) → g f ≡ h f) → at_head g fs ≡ at_head h fs
head_by g h [] e = refl
head_by g h (f ∷ fs) e = ap (λ (y : Frame). y ∷ fs) (e f)

-- changing the head leaves a list empty or not, as it was
null_head : (g : Frame → Frame) (fs : List Frame) → is_null (at_head g fs) ≡ is_null fs
null_head g [] = refl
null_head g (f ∷ fs) = refl

-- changing the running thread's innermost frame twice in the parts is changing it once by both in turn
changed_twice : (g h : Frame → Frame) (r : Option ThreadNo) (parts : List (List Frame)) → IfSome r (λ t. t.0 < length parts) →
    changed (at_head g) r (changed (at_head h) r parts) ≡ changed (at_head (λ f. g (h f))) r parts
changed_twice g h None parts b = refl
changed_twice g h (Some t) parts b =
    rw (get_or-set_same parts t.0 (at_head h (get_or parts t.0 [])) [] b, head_twice g h (get_or parts t.0 []))
    (set-set parts t.0 (at_head h (get_or parts t.0 [])) (at_head (λ f. g (h f)) (get_or parts t.0 [])))

-- one change after another is the second of what the first makes
pub at_innermost-at_innermost : (g h : Frame → Frame) (x : Frames) → AreNested x → at_innermost g (at_innermost h x) ≡ at_innermost (λ f. g (h f)) x
at_innermost-at_innermost g h x n = go x.own refl
  where
    go : (os : List Frame) → x.own ≡ os → at_innermost g (at_innermost h x) ≡ at_innermost (λ f. g (h f)) x
    go [] e =
        let o : is_null x.own ≡ true = rw e refl in
        rw (
          o,
          on_running_is (at_head h) x.running x,
          o,
          on_running_is (at_head (λ f. g (h f))) x.running x,
          on_running_is (at_head g) x.running (record { own = x.own; running = x.running; threads = changed (at_head h) x.running x.threads }),
        )
        (ap (λ (ts : List (List Frame)). record { own = x.own; running = x.running; threads = ts }) (changed_twice g h x.running x.threads n.running))
    go (y ∷ ys) e =
        let o : is_null x.own ≡ false = rw e refl in
        rw (o, null_head h x.own, o) (ap (λ (os : List Frame). record { own = os; running = x.running; threads = x.threads }) (head_twice g h x.own))

-- two changes that agree on each frame change the running thread's innermost frame alike
on_running_by : (g h : Frame → Frame) (x : Frames) (r : Option ThreadNo) → ((f : Frame) → g f ≡ h f) → on_running (at_head g) r x ≡ on_running (at_head h) r x
on_running_by g h x None e = refl
on_running_by g h x (Some t) e = simp (head_by g h (frames_in x.threads t) e)

-- two functions that make the same of each frame
pub at_innermost_by : (g h : Frame → Frame) (x : Frames) → ((f : Frame) → g f ≡ h f) → at_innermost g x ≡ at_innermost h x
at_innermost_by g h x e = go (not (is_null x.own))
  where
    go : (b : Bool) → on_part b (at_head g) x ≡ on_part b (at_head h) x
    go true = simp (head_by g h x.own e)
    go false = on_running_by g h x x.running e

-- leaving the running thread's innermost frame as it is leaves all frames as they were
on_running_id : (x : Frames) (r : Option ThreadNo) → on_running (at_head (λ f. f)) r x ≡ x
on_running_id x None = refl
on_running_id x (Some t) = simp (head_same (λ f. f) (frames_in x.threads t) (λ f. refl), set-get_or x.threads t.0 [])

-- a change that makes of each frame the frame itself
pub at_innermost_id : (x : Frames) → at_innermost (λ f. f) x ≡ x
at_innermost_id x = go (not (is_null x.own))
  where
    go : (b : Bool) → on_part b (at_head (λ f. f)) x ≡ x
    go true = simp (head_same (λ f. f) x.own (λ f. refl))
    go false = on_running_id x x.running

-- a change leaves the running thread as it is
pub running-at_innermost : (g : Frame → Frame) (x : Frames) → (at_innermost g x).running ≡ x.running
running-at_innermost g x = go (not (is_null x.own))
  where
    go : (b : Bool) → (on_part b (at_head g) x).running ≡ x.running
    go true = refl
    go false = rw (on_running_is (at_head g) x.running x)
