-- An event names the innermost frame: what it does by this name to the parts is done to the innermost frame alone.
use Rattle.std.proofs.Common.{◌≡◌, ℕ, ◌+◌, ◌≤◌, ◌==◌, true, false, Option, None, Some, List, [], ◌∷◌, All, set, arith, ◌∙◌, ap, refl}
use Rattle.std.proofs.lemmas.Bool.Decides.{nat_tests}
use Rattle.std.proofs.lemmas.List.{set-get_or}
use Rattle.std.specs.Option.{option_map_or, option_or}
use Rattle.nt_event.specs.Frame.{Frame}
use Rattle.nt_event.specs.declared.numbers.ThreadNo.{ThreadNo}
use Rattle.nt_event.specs.Frames.{Frames, at_head, at_name, end_on_thread, frames_in, innermost, is_base_body, ended_base, thread_part, without}
use Rattle.nt_event.specs.Lists.{head_of, is_null, tail_of}
use Rattle.nt_frame.specs.Changes.{on_innermost_part, on_running}
use Rattle.nt_frame.specs.Nesting.{AreNested, next_name}
use Rattle.nt_frame.proofs.Events.{changed}

-- ---- one part

-- the test whether a frame's name is the same as itself passes
pub same_name : (n : ℕ) → (n == n) ≡ true
same_name n = grind (arith, nat_tests)

-- a name older than a new one is found different from it
other_name : (a n : ℕ) → a + 1 ≤ n → (a == n) ≡ false
other_name a n h = grind (arith, nat_tests)

-- a change by the name of a part's innermost frame is a change of the innermost frame
pub at_name_head : (g : Frame → Frame) (f : Frame) (fs : List Frame) → head_of fs ≡ Some f → at_name f.name g fs ≡ at_head g fs
at_name_head g f [] h = refl
at_name_head g f (y ∷ ys) h =
    let e : y ≡ f = cc in rw (e, same_name f.name)

-- a change by a name newer than all of a part's frames leaves the part as it was
pub at_name_older : (g : Frame → Frame) (n : ℕ) (fs : List Frame) → next_name fs ≤ n → at_name n g fs ≡ fs
at_name_older g n [] h = refl
at_name_older g n (y ∷ ys) h = rw (other_name y.name n h)

-- a part without the frame named as its innermost one is the part without its innermost frame
pub without_head : (f : Frame) (fs : List Frame) → head_of fs ≡ Some f → without f.name fs ≡ tail_of fs
without_head f [] h = refl
without_head f (y ∷ ys) h =
    let e : y ≡ f = cc in rw (e, same_name f.name)

-- the end by name of an innermost frame that is no base takes it off the thread's part
pub end_head : (f : Frame) (fs : List Frame) → is_base_body f.body ≡ false → head_of fs ≡ Some f → end_on_thread f.name fs ≡ tail_of fs
end_head f [] b h = refl
end_head f (y ∷ ys) b h =
    let e : y ≡ f = cc in rw (e, same_name f.name, b)

-- the end by name of an innermost base keeps it on the thread's part as one that is leaving
pub end_base_head : (f : Frame) (fs : List Frame) → is_base_body f.body ≡ true → head_of fs ≡ Some f → end_on_thread f.name fs ≡ at_head ended_base fs
end_base_head f [] b h = refl
end_base_head f (y ∷ ys) b h =
    let e : y ≡ f = cc in rw (e, same_name f.name, b)

-- the end by a name newer than all of a thread's frames leaves the thread's part as it was
pub end_older : (n : ℕ) (fs : List Frame) → next_name fs ≤ n → end_on_thread n fs ≡ fs
end_older n [] h = refl
end_older n (y ∷ ys) h = rw (other_name y.name n h)

-- ---- the parts of the threads

-- a change on the running thread leaves the own part and who runs as they were
pub on_running_is : (g : List Frame → List Frame) (r : Option ThreadNo) (x : Frames) →
    on_running g r x ≡ record { own = x.own; running = x.running; threads = changed g r x.threads }
on_running_is g None x = refl
on_running_is g (Some t) x = refl

-- two changes that do the same to the running thread's part leave the same parts
pub changed_by : (t g : List Frame → List Frame) (r : Option ThreadNo) (parts : List (List Frame)) →
    t (option_map_or (frames_in parts) r []) ≡ g (option_map_or (frames_in parts) r []) → changed t r parts ≡ changed g r parts
changed_by t g None parts e = refl
changed_by t g (Some u) parts e = ap (λ (fs : List Frame). set parts u.0 fs) e

-- a change that leaves the running thread's part as it was leaves all parts as they were
pub changed_stays : (t : List Frame → List Frame) (r : Option ThreadNo) (parts : List (List Frame)) →
    t (option_map_or (frames_in parts) r []) ≡ option_map_or (frames_in parts) r [] → changed t r parts ≡ parts
changed_stays t None parts e = refl
changed_stays t (Some u) parts e = ap (λ (fs : List Frame). set parts u.0 fs) e ∙ set-get_or parts u.0 []

-- the running thread's frames are older than those on the own part
older : (y : Frame) (ys : List Frame) (x : Frames) → AreNested x → x.own ≡ y ∷ ys → next_name (thread_part x) ≤ y.name
older y ys x h e = go x.running refl
  where
    n : All (λ gs. next_name gs ≤ y.name) x.threads
    n = (rw e at h.newer).0

    go : (r : Option ThreadNo) → x.running ≡ r → next_name (option_map_or (frames_in x.threads) r []) ≤ y.name
    go None k = omega arith
    go (Some t) k = n t.0 [] (rw k at h.running)

-- ---- the whole

-- a change of the running thread's innermost frame, where the own part has none
pub thread_change : (r : Option ThreadNo) (t g : List Frame → List Frame) (x : Frames) → x.own ≡ [] → t (thread_part x) ≡ g (thread_part x) →
    record { own = x.own; running = r; threads = changed t x.running x.threads } ≡ record (on_innermost_part g x) { running = r }
thread_change r t g x o e =
    let n : is_null x.own ≡ true = rw o refl in
    rw (n, on_running_is g x.running x) (ap (λ (ts : List (List Frame)). record { own = x.own; running = r; threads = ts })
    (changed_by t g x.running x.threads e))

-- a change by the innermost frame's name of both parts, of which only one has this frame
pub named_change : (r : Option ThreadNo) (f : Frame) (o t g : List Frame → List Frame) (x : Frames) → AreNested x → innermost x ≡ Some f → o [] ≡ [] →
    ((fs : List Frame) → head_of fs ≡ Some f → o fs ≡ g fs) → ((fs : List Frame) → head_of fs ≡ Some f → t fs ≡ g fs) →
    ((fs : List Frame) → next_name fs ≤ f.name → t fs ≡ fs) → record { own = o x.own; running = r; threads = changed t x.running x.threads } ≡ record
    (on_innermost_part g x) { running = r }
named_change r f o t g x h k z own thread other = go x.own refl k
  where
    go : (os : List Frame) → x.own ≡ os → option_or (head_of os) (head_of (thread_part x)) ≡ Some f →
        record { own = o x.own; running = r; threads = changed t x.running x.threads } ≡ record (on_innermost_part g x) { running = r }
    go [] e q =
        let p : o x.own ≡ x.own = rw e z in
        ap (λ (os : List Frame). record { own = os; running = r; threads = changed t x.running x.threads }) p
        ∙ thread_change r t g x e (thread (thread_part x) q)
    go (y ∷ ys) e q =
        let p : head_of x.own ≡ Some f = rw e q in
        let n : is_null x.own ≡ false = rw e refl in
        let a : next_name (thread_part x) ≤ f.name = let b : y ≡ f = cc in rw (← b) (older y ys x h e) in
        rw (n, own x.own p) (ap (λ (ts : List (List Frame)). record { own = g x.own; running = r; threads = ts })
        (changed_stays t x.running x.threads (other (thread_part x) a)))
