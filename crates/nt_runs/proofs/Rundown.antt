-- In a run a thread that leaves has its kernel APCs delivered before its user APCs are flushed.
pub mod Steps
pub mod Run
use Rattle.std.proofs.Common.{ap, arith, inl, inr, subst, sym, ◌∙◌}
use Rattle.std.specs.List.{list_any}
use Rattle.std.specs.Prelude.{Bool, List, None, Option, Some, [], false, if◌then◌else◌, length, refl, true, ℕ, ◌&&◌, ◌+◌, ◌<◌, ◌==◌, ◌||◌, ◌∷◌, ◌≡◌, ◌≤◌, ◌⊎◌}
use Rattle.nt_event.specs.declared.events.Event.{Event}
use Rattle.nt_event.specs.declared.events.What.{What}
use Rattle.nt_event.specs.declared.events.What.TheVariants.{Look, Switch}
use Rattle.nt_event.specs.declared.frames.Body.{Body}
use Rattle.nt_event.specs.declared.frames.Body.TheVariants.{Base as OnBase, Rundown as OnRundown}
use Rattle.nt_event.specs.Frame.{Frame}
use Rattle.nt_event.specs.declared.numbers.CpuNo.{CpuNo}
use Rattle.nt_event.specs.declared.numbers.ThreadNo.{ThreadNo}
use Rattle.nt_event.specs.declared.scripts.Script.{Script}
use Rattle.nt_event.specs.Frames.{at_name, is_normal_apc_body, is_user_apc_body, running, switched_to, thread_frames}
use Rattle.nt_event.specs.Requests.{asks, seen, seen_after, served, served_after, serves, told}
use Rattle.nt_event.specs.Routines.{cpu_of}
use Rattle.nt_event.specs.Script.{has_thread}
use Rattle.nt_event.specs.Step.{IsLegal, IsRun, thread_field}
use Rattle.nt_event.specs.Threads.{ThreadFacts}
use Rattle.nt_event.specs.Waits.{facts, is_of_thread}
use Rattle.nt_event.specs.Numbers.{is_by, is_of, is_thread}
use Rattle.nt_runs.proofs.Facts.{facts_made}
use Rattle.nt_runs.proofs.Running.{Keeps, frames_when, not_itself, running_own, same_cpu, thread_named, unnamed_by}
use Rattle.nt_runs.proofs.Settled.{asked_below, seen_below}
use Rattle.nt_runs.proofs.Leaving.Facts.{facts_named}
use Rattle.nt_runs.proofs.Pending.{NoKernel, Shrinks, leaving_closed, legal_shrinks}

-- ---- what was seen and served

-- what a processor has seen changes by the rule of seeing at its own events
seen_own : (s : Script) (p : CpuNo) (c : ℕ) (e : Event) (past : List Event) → is_of e p ≡ true → seen s p c (e ∷ past)
    ≡ seen_after (length past) e.what c (asks s p c e past) (told s p c e past) (seen s p c past)
seen_own s p c e past h = rw h

-- what a processor has served changes by the rule of serving at its own events
served_own : (s : Script) (p : CpuNo) (c : ℕ) (e : Event) (past : List Event) → is_of e p ≡ true → served s p c (e ∷ past)
    ≡ served_after e.what c (seen s p c (e ∷ past)) (served s p c past)
served_own s p c e past h = rw h

-- what is seen doesn't fall at an event, if it was at most the event's number
after_up : (b : Bool) (n : ℕ) (w : What) (c told old : ℕ) → old ≤ n → old ≤ seen_after n w c b told old
after_up true n w c told old h = omega (arith, h)
after_up false n w c told old h = omega arith

-- in a run what was seen is below the number of the next event, or it
pub seen_length : (s : Script) (limit : ℕ) (p : CpuNo) (c : ℕ) (past : List Event) → IsRun s limit past → seen s p c past ≤ length past
seen_length s limit p c past r =
    let a = seen_below s limit p c past r in let b = asked_below s p c past in omega (arith, a, b)

-- what a processor noticed of a class never falls with its own events
pub seen_grows : (s : Script) (limit : ℕ) (p : CpuNo) (c : ℕ) (e : Event) (past : List Event) → IsRun s limit past → is_of e p ≡ true →
    seen s p c past ≤ seen s p c (e ∷ past)
seen_grows s limit p c e past r h =
    let a = after_up (asks s p c e past) (length past) e.what c (told s p c e past) (seen s p c past) (seen_length s limit p c past r) in
    rw (seen_own s p c e past h) a

-- what was served of a class is at most what was noticed of it
pub served_below : (s : Script) (limit : ℕ) (p : CpuNo) (c : ℕ) (past : List Event) → IsRun s limit past → served s p c past ≤ seen s p c past
served_below s limit p c [] r = omega arith
served_below s limit p c (e ∷ past) r = go (is_of e p) refl (served_below s limit p c past r.1)
  where
    own : is_of e p ≡ true → served s p c past ≤ seen s p c past → (b : Bool) → serves c e.what ≡ b → served s p c (e ∷ past) ≤ seen s p c (e ∷ past)
    own h ih true k =
        let x : served s p c (e ∷ past) ≡ seen s p c (e ∷ past) = served_own s p c e past h ∙ rw k refl in
        omega (arith, x)
    own h ih false k =
        let x : served s p c (e ∷ past) ≡ served s p c past = served_own s p c e past h ∙ rw k refl in
        let y = seen_grows s limit p c e past r.1 h in
        omega (arith, x, y, ih)

    go : (b : Bool) → is_of e p ≡ b → served s p c past ≤ seen s p c past → served s p c (e ∷ past) ≤ seen s p c (e ∷ past)
    go false h ih =
        let x : served s p c (e ∷ past) ≡ served s p c past = rw h in
        let y : seen s p c (e ∷ past) ≡ seen s p c past = rw h in
        omega (arith, ih, x, y)
    go true h ih = own h ih (serves c e.what) refl

-- a noticed request of the class isn't served yet
abbrev pub Unserved : Script → CpuNo → ℕ → List Event → Type 0
Unserved s p c past = served s p c past < seen s p c past

-- an event that doesn't serve the class leaves it unserved
pub stays_unserved : (s : Script) (limit : ℕ) (p : CpuNo) (c : ℕ) (e : Event) (past : List Event) → IsRun s limit past → serves c e.what ≡ false →
    Unserved s p c past → Unserved s p c (e ∷ past)
stays_unserved s limit p c e past r k u = go (is_of e p) refl
  where
    go : (b : Bool) → is_of e p ≡ b → Unserved s p c (e ∷ past)
    go true h =
        let x : served s p c (e ∷ past) ≡ served s p c past = served_own s p c e past h ∙ rw k refl in
        let y = seen_grows s limit p c e past r h in
        omega (arith, x, y, u)
    go false h =
        let x : served s p c (e ∷ past) ≡ served s p c past = rw h in
        let y : seen s p c (e ∷ past) ≡ seen s p c past = rw h in
        omega (arith, x, y, u)

-- an event of the processor that asks for the class and doesn't serve it leaves it unserved
pub asks_unserved : (s : Script) (limit : ℕ) (p : CpuNo) (c : ℕ) (e : Event) (past : List Event) → IsRun s limit past → is_of e p ≡ true → asks s p c e past
    ≡ true → serves c e.what ≡ false → Unserved s p c (e ∷ past)
asks_unserved s limit p c e past r h a k =
    let x : served s p c (e ∷ past) ≡ served s p c past = served_own s p c e past h ∙ rw k refl in
    let y : seen s p c (e ∷ past) ≡ length past + 1 = seen_own s p c e past h ∙ rw a refl in
    let z = served_below s limit p c past r in
    let w = seen_length s limit p c past r in
    omega (arith, x, y, z, w)

-- ---- what runs in the frames of a thread

-- a frame of this kind is open
abbrev pub Runs : (Body → Bool) → List Frame → Bool
Runs test fs = list_any (λ f. test f.body) fs

abbrev pub is_rundown : Body → Bool
is_rundown (OnRundown a) = true
is_rundown b = false

-- a change of a named frame that keeps what runs in it leaves open the same kinds of frames
pub named_runs : (test : Body → Bool) (n : ℕ) (g : Frame → Frame) (fs : List Frame) → Keeps g → Runs test (at_name n g fs) ≡ Runs test fs
named_runs test n g [] k = refl
named_runs test n g (f ∷ fs) k = go (f.name == n)
  where
    go : (b : Bool) → (test (if b then g f else f).body || Runs test fs) ≡ (test f.body || Runs test fs)
    go true = ap (λ (b : Body). test b || Runs test fs) (k.body f)
    go false = refl

-- a switch to a thread leaves open the same kinds of frames, but for its base frame
pub switched_runs : (test : Body → Bool) (n : ℕ) (t : ThreadNo) (st : Option ℕ) (fs : List Frame) → test (OnBase t) ≡ false → Runs test (switched_to n t st fs)
    ≡ Runs test fs
switched_runs test n t st [] h = rw h refl
switched_runs test n t None (f ∷ fs) h = refl
switched_runs test n t (Some x) (f ∷ fs) h = refl

-- ---- a leaving thread

-- what holds of a leaving thread: none of its frames is of a user APC, no kernel APC is pending once a rundown routine has begun,
-- and while it runs with one pending, either a request of class 1 is unserved, or a normal kernel APC is in progress
pub record Leaves (s : Script) (t : ThreadNo) (past : List Event) : Type 0 where
  pub serving : Runs is_user_apc_body (thread_frames s (cpu_of s t) t past) ≡ false
  pub rundown : Runs is_rundown (thread_frames s (cpu_of s t) t past) ≡ true → NoKernel (facts s t past).apcs.pending
  pub pending : running (cpu_of s t) past ≡ Some t → NoKernel (facts s t past).apcs.pending ⊎
      (Unserved s (cpu_of s t) 1 past ⊎ (Runs is_normal_apc_body (thread_frames s (cpu_of s t) t past) ≡ true))

-- ---- an event that the thread doesn't make

-- an event that the thread doesn't make leaves its leaving as it was
pub unnamed_leaving : (s : Script) (t : ThreadNo) (e : Event) (past : List Event) → is_by e t ≡ false → (facts s t (e ∷ past)).leaving
    ≡ (facts s t past).leaving
unnamed_leaving s t e past b =
    ap (λ (x : ThreadFacts). x.leaving) (facts_made s t e past false not_of) ∙ facts_named s t (length past) e.what (facts s t past)
  where
    not_of : is_of_thread s t e ≡ false
    not_of = go (is_of e (cpu_of s t)) b
      where
        go : (c : Bool) → is_by e t ≡ false → (c && is_by e t) ≡ false
        go true h = h
        go false h = refl

-- an event that doesn't name a thread leaves its frames on its processor
unnamed_frames : (s : Script) (t : ThreadNo) (e : Event) (past : List Event) → is_by e t ≡ false → thread_frames s (cpu_of s t) t (e ∷ past)
    ≡ thread_frames s (cpu_of s t) t past
unnamed_frames s t e past b = go (is_of e (cpu_of s t)) refl
  where
    go : (c : Bool) → is_of e (cpu_of s t) ≡ c → thread_frames s (cpu_of s t) t (e ∷ past) ≡ thread_frames s (cpu_of s t) t past
    go true h = frames_when s (cpu_of s t) t e past false h b
    go false h = rw h

-- it ran before, and the event serves nothing
unnamed_ran : (s : Script) (limit : ℕ) (t : ThreadNo) (e : Event) (past : List Event) → is_by e t ≡ false → IsLegal s limit e past →
    running (cpu_of s t) (e ∷ past) ≡ Some t → running (cpu_of s t) past ≡ Some t
unnamed_ran s limit t e past b g h = go (is_of e (cpu_of s t)) refl
  where
    go : (c : Bool) → is_of e (cpu_of s t) ≡ c → running (cpu_of s t) past ≡ Some t
    go true o =
        unnamed_by s limit (cpu_of s t) t e past e.what refl b o g (sym (running_own (cpu_of s t) e past o) ∙ h)
    go false o = rw o at h

-- an event that doesn't name the running thread leaves its noticed APC request unserved
unnamed_unserved : (s : Script) (limit : ℕ) (t : ThreadNo) (e : Event) (past : List Event) → is_by e t ≡ false → IsLegal s limit e past → IsRun s limit past →
    running (cpu_of s t) past ≡ Some t → Unserved s (cpu_of s t) 1 past → Unserved s (cpu_of s t) 1 (e ∷ past)
unnamed_unserved s limit t e past b g r run u = go (is_of e (cpu_of s t)) refl
  where
    p : CpuNo
    p = cpu_of s t

    serves_none : is_of e (cpu_of s t) ≡ true → (w : What) → e.what ≡ w → serves 1 w ≡ false
    serves_none o (Look rises) k = refl
    serves_none o (Switch u st) k = refl
    serves_none o w k =
        let here : running e.cpu past ≡ Some t = ap (λ (q : CpuNo). running q past) (same_cpu e (cpu_of s t) o) ∙ run in
        let named : e.thread ≡ Some t = thread_named s limit e past g ∙ (ap (λ (v : What). thread_field v (running e.cpu past)) k ∙ here) in
        absurd (not_itself t (subst (λ (o : Option ThreadNo). is_thread o t ≡ false) named b))

    go : (c : Bool) → is_of e (cpu_of s t) ≡ c → Unserved s (cpu_of s t) 1 (e ∷ past)
    go true o = stays_unserved s limit (cpu_of s t) 1 e past r (serves_none o e.what refl) u
    go false o =
        let x : served s (cpu_of s t) 1 (e ∷ past) ≡ served s (cpu_of s t) 1 past = rw o in
        let y : seen s (cpu_of s t) 1 (e ∷ past) ≡ seen s (cpu_of s t) 1 past = rw o in
        omega (arith, x, y, u)

-- what holds of a leaving thread still holds after an event that it doesn't make
pub leaves_unnamed : (s : Script) (limit : ℕ) (t : ThreadNo) (e : Event) (past : List Event) → has_thread s t ≡ true → is_by e t ≡ false →
    IsLegal s limit e past → IsRun s limit past → (facts s t past).leaving ≡ true → Leaves s t past → Leaves s t (e ∷ past)
leaves_unnamed s limit t e past has b g r l ih =
    record {
      serving = ap (Runs is_user_apc_body) frames ∙ ih.serving;
      rundown = λ h. shrinks.kernel (ih.rundown (sym (ap (Runs is_rundown) frames) ∙ h));
      pending = pending;
    }
  where
    frames : thread_frames s (cpu_of s t) t (e ∷ past) ≡ thread_frames s (cpu_of s t) t past
    frames = unnamed_frames s t e past b

    shrinks : Shrinks (facts s t past).apcs (facts s t (e ∷ past)).apcs
    shrinks = legal_shrinks s limit t e past g has (leaving_closed s t past l)

    pending : running (cpu_of s t) (e ∷ past) ≡ Some t → NoKernel (facts s t (e ∷ past)).apcs.pending ⊎
        (Unserved s (cpu_of s t) 1 (e ∷ past) ⊎ (Runs is_normal_apc_body (thread_frames s (cpu_of s t) t (e ∷ past)) ≡ true))
    pending h = go (ih.pending (unnamed_ran s limit t e past b g h))
      where
        go : NoKernel (facts s t past).apcs.pending ⊎ (Unserved s (cpu_of s t) 1 past ⊎
            (Runs is_normal_apc_body (thread_frames s (cpu_of s t) t past) ≡ true)) → NoKernel (facts s t (e ∷ past)).apcs.pending ⊎
            (Unserved s (cpu_of s t) 1 (e ∷ past) ⊎ (Runs is_normal_apc_body (thread_frames s (cpu_of s t) t (e ∷ past)) ≡ true))
        go (inl n) = inl ((legal_shrinks s limit t e past g has (leaving_closed s t past l)).kernel n)
        go (inr (inl u)) = inr (inl (unnamed_unserved s limit t e past b g r (unnamed_ran s limit t e past b g h) u))
        go (inr (inr k)) = inr (inr (ap (Runs is_normal_apc_body) (unnamed_frames s t e past b) ∙ k))
