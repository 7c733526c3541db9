-- A running thread has its base frame under the others, whatever happens.
use Rattle.std.proofs.Common.{ap, arith, inl, inr, sym, ◌∙◌}
use Rattle.std.proofs.lemmas.Bool.Decides.{nat_tests}
use Rattle.std.proofs.lemmas.List.{get_or_past}
use Rattle.std.proofs.lemmas.List.Elements.{All-from_get_or}
use Rattle.std.specs.Prelude.{Bool, IfSome, List, None, Option, Some, [], false, get_or, if◌then◌else◌, length, nat_lt, refl, true, ℕ, ◌<◌, ◌==◌, ◌∷◌, ◌≡◌, ◌≤◌}
use Rattle.std.specs.Prelude.{◌⊎◌}
use Rattle.nt_event.specs.declared.commands.Command.TheVariants.{Yield}
use Rattle.nt_event.specs.declared.commands.Reply.TheVariants.{Blocked, Done}
use Rattle.nt_event.specs.declared.events.Begun.TheVariants.{Apc}
use Rattle.nt_event.specs.declared.events.Event.{Event}
use Rattle.nt_event.specs.declared.events.What.{What}
use Rattle.nt_event.specs.declared.events.What.TheVariants.{Free, Begin, Call, End, Flush, Gone, Look, Normal, Rewait, Switch}
use Rattle.nt_event.specs.declared.frames.Body.TheVariants.{Apc as OnApc, Rundown as OnRundown}
use Rattle.nt_event.specs.Frame.{Frame}
use Rattle.nt_event.specs.declared.numbers.ApcNo.{ApcNo}
use Rattle.nt_event.specs.declared.numbers.RoutineNo.{RoutineNo}
use Rattle.nt_event.specs.declared.numbers.ThreadNo.{ThreadNo}
use Rattle.nt_event.specs.declared.scripts.Script.{Script}
use Rattle.nt_event.specs.Frames.{freed, Frames, at_name, called, end_on_thread, ended_on_thread, flushed, frames_after, frames_in, is_base_body, ended_base}
use Rattle.nt_event.specs.Frames.{new_frame, normal_of, rewaited, resumed, running_after, switched_to, thread_after, thread_if}
use Rattle.nt_event.specs.Routines.{kind_of, rundown_of}
use Rattle.nt_event.specs.Step.{thread_field}
use Rattle.nt_event.specs.Numbers.{is_by, is_thread, thread}
use Rattle.nt_event.specs.Lists.{table}
use Rattle.nt_runs.proofs.Running.{called_keeps, normal_keeps, rewaited_keeps, resumed_keeps, same_thread}
use Rattle.nt_event.proofs.Tables.{get_or-table, length-table_from}
use Rattle.nt_cpu.specs.Sound.{AreBased, EndsInBase}

-- a frame on top of frames that end in a base leaves the base at the bottom
over_based : (f : Frame) (fs : List Frame) → EndsInBase fs → EndsInBase (f ∷ fs)
over_based f [] h = absurd h
over_based f (g ∷ fs) h = h

-- changing the top frame without changing its body leaves the base at the bottom
head_ends : (g : Frame → Frame) (f : Frame) (fs : List Frame) → ((f : Frame) → (g f).body ≡ f.body) → EndsInBase (f ∷ fs) → EndsInBase (g f ∷ fs)
head_ends g f [] k h = ap is_base_body (k f) ∙ h
head_ends g f (x ∷ fs) k h = h

-- changing a named frame without changing its body leaves the base at the bottom
name_ends : (n : ℕ) (g : Frame → Frame) (fs : List Frame) → ((f : Frame) → (g f).body ≡ f.body) → EndsInBase fs → EndsInBase (at_name n g fs)
name_ends n g [] k h = h
name_ends n g (f ∷ fs) k h = go (f.name == n)
  where
    go : (b : Bool) → EndsInBase ((if b then g f else f) ∷ fs)
    go true = head_ends g f fs k h
    go false = h

-- the end of a thread's top frame leaves the base at the bottom
ended_ends : (f : Frame) (fs : List Frame) → EndsInBase (f ∷ fs) → EndsInBase (ended_on_thread (f ∷ fs))
ended_ends f fs h = go (is_base_body f.body) refl
  where
    rest : (fs : List Frame) → EndsInBase (f ∷ fs) → is_base_body f.body ≡ false → EndsInBase fs
    rest [] k e = cc
    rest (g ∷ gs) k e = k

    go : (b : Bool) → is_base_body f.body ≡ b → EndsInBase (if b then (ended_base f ∷ fs) else fs)
    go true e = head_ends ended_base f fs (λ g. refl) h
    go false e = rest fs h e

-- the end of a thread's named frame leaves the base at the bottom
end_ends : (n : ℕ) (fs : List Frame) → EndsInBase fs → EndsInBase (end_on_thread n fs)
end_ends n [] h = h
end_ends n (f ∷ fs) h = go (f.name == n)
  where
    go : (b : Bool) → EndsInBase (if b then ended_on_thread (f ∷ fs) else (f ∷ fs))
    go true = ended_ends f fs h
    go false = h

-- flushing an APC from a thread's frames leaves the base at the bottom
flush_ends : (n : ℕ) (a : ApcNo) (r : Option RoutineNo) (fs : List Frame) → EndsInBase fs → EndsInBase (flushed n a r fs)
flush_ends n a None fs h = h
flush_ends n a (Some r) fs h = over_based (new_frame n (OnRundown a)) fs h

-- an event of the running thread, but its end, leaves it its base
ends_after : (s : Script) (n : ℕ) (due : Option ℕ) (w : What) (r : Option ThreadNo) (t : ThreadNo) (fs : List Frame) → thread_field w r ≡ Some t → (fs ≡ []) ⊎
    EndsInBase fs → (r ≡ Some t → EndsInBase fs) → ((thread_after s n due w fs ≡ []) ⊎ EndsInBase (thread_after s n due w fs)) ×
    (running_after w r ≡ Some t → EndsInBase (thread_after s n due w fs))
ends_after s n due (Switch u st) r t fs e o k =
    let h = taken fs o in (inr h, λ _. h)
  where
    taken : (fs : List Frame) → (fs ≡ []) ⊎ EndsInBase fs → EndsInBase (switched_to n u st fs)
    taken [] h = refl
    taken (f ∷ gs) (inl e) = absurd cc
    taken (f ∷ gs) (inr h) = head_ends (resumed st) f gs (resumed_keeps st).body h
ends_after s n due (Gone u) r t fs e o k = (inl refl, λ x. absurd cc)
ends_after s n due (Look r) x t fs e o k = absurd cc
ends_after s n due (Begin (Apc a) from) r t fs e o k =
    let h = over_based (new_frame n (OnApc a (kind_of s a))) fs (k e) in (inr h, λ _. h)
ends_after s n due (Flush a from) r t fs e o k =
    let h = flush_ends n a (rundown_of s a) fs (k e) in (inr h, λ _. h)
ends_after s n due (Call f c y) r t fs e o k =
    let h = name_ends f (called due c y) fs (called_keeps due c y).body (k e) in (inr h, λ _. h)
ends_after s n due (Rewait f y) r t fs e o k =
    let h = name_ends f (rewaited y) fs (rewaited_keeps y).body (k e) in (inr h, λ _. h)
ends_after s n due (Normal f) r t fs e o k =
    let h = name_ends f normal_of fs normal_keeps.body (k e) in (inr h, λ _. h)
ends_after s n due (Free f l) r t fs e o k =
    let h = name_ends f freed fs (λ f. refl) (k e) in (inr h, λ _. h)
ends_after s n due (End f) r t fs e o k = let h = end_ends f fs (k e) in (inr h, λ _. h)
ends_after s n due _ r t fs e o k = (inr (k e), λ _. k e)

-- a thread that runs after an event is the one that the event names
names_runner : (w : What) (r : Option ThreadNo) (t : ThreadNo) → running_after w r ≡ Some t → (thread_field w r ≡ Some t) ⊎ (r ≡ Some t)
names_runner (Switch u st) r t e = inl e
names_runner (Gone u) r t e = absurd cc
names_runner (Call f Yield Done) r t e = absurd cc
names_runner (Call f c Blocked) r t e = absurd cc
names_runner (Rewait f Blocked) r t e = absurd cc
names_runner _ r t e = inr e

-- the frames of each thread are none or end in a base
part_based : (x : Frames) (t : ℕ) → AreBased x → (get_or x.threads t [] ≡ []) ⊎ EndsInBase (get_or x.threads t [])
part_based x t h = go (nat_lt t (length x.threads)) refl
  where
    go : (b : Bool) → nat_lt t (length x.threads) ≡ b → (get_or x.threads t [] ≡ []) ⊎ EndsInBase (get_or x.threads t [])
    go true e = h.parts t [] (grind (arith, nat_tests))
    go false e =
        let l : length x.threads ≤ t = grind (arith, nat_tests) in inl (get_or_past x.threads t [] l)

-- the frames of the running thread end in a base
runs_based : (x : Frames) (t : ThreadNo) → AreBased x → x.running ≡ Some t → EndsInBase (frames_in x.threads t)
runs_based x t h e = rw e at h.runs

-- a thread is itself
itself : (t : ThreadNo) → is_thread (Some t) t ≡ true
itself t = grind (arith, nat_tests)

-- after an event each thread still has no frame or its base under the others, and a running one has a base
pub based_after : (s : Script) (n : ℕ) (due : Option ℕ) (e : Event) (x : Frames) → length x.threads ≡ length s.threads → e.thread
    ≡ thread_field e.what x.running → IfSome (running_after e.what x.running) (λ t. t.0 < length x.threads) → AreBased x → AreBased (frames_after s n due e x)
based_after s n due e x l k b h = record {
  parts = All-from_get_or (λ fs. (fs ≡ []) ⊎ EndsInBase fs) _ []
      (λ i q. let c : i < length s.threads = omega (arith, length-table_from {A = List Frame} 0 (length s.threads) (λ t. left_of t)) in
      rw (get_or-table {A = List Frame} (length s.threads) i (λ t. left_of t) [] c) (part i (is_by e (thread i)) refl));
  runs = runs (running_after e.what x.running) refl b;
}
  where
    left_of : ℕ → List Frame
    left_of t = thread_if (is_by e (thread t)) s n due e.what (frames_in x.threads (thread t))

    named : (t : ThreadNo) → is_by e t ≡ true → thread_field e.what x.running ≡ Some t
    named t q = sym k ∙ same_thread e.thread t q

    after : (t : ThreadNo) → is_by e t ≡ true → ((thread_after s n due e.what (frames_in x.threads t) ≡ []) ⊎
        EndsInBase (thread_after s n due e.what (frames_in x.threads t))) ×
        (running_after e.what x.running ≡ Some t → EndsInBase (thread_after s n due e.what (frames_in x.threads t)))
    after t q =
        ends_after s n due e.what x.running t (frames_in x.threads t) (named t q) (part_based x t.0 h) (runs_based x t h)

    part : (i : ℕ) (b : Bool) → is_by e (thread i) ≡ b → (thread_if b s n due e.what (get_or x.threads i []) ≡ []) ⊎
        EndsInBase (thread_if b s n due e.what (get_or x.threads i []))
    part i true q = (after (thread i) q).0
    part i false q = part_based x i h

    runner : (t : ThreadNo) (b : Bool) → is_by e t ≡ b → running_after e.what x.running ≡ Some t →
        EndsInBase (thread_if b s n due e.what (frames_in x.threads t))
    runner t true q r = (after t q).1 r
    runner t false q r = other (names_runner e.what x.running t r)
      where
        other : (thread_field e.what x.running ≡ Some t) ⊎ (x.running ≡ Some t) → EndsInBase (frames_in x.threads t)
        other (inl f) =
            let o : e.thread ≡ Some t = k ∙ f in
            let y : is_thread (Some t) t ≡ false = rw o at q in
            absurd (cc (itself t))
        other (inr f) = runs_based x t h f

    runs : (r : Option ThreadNo) → running_after e.what x.running ≡ r → IfSome r (λ t. t.0 < length x.threads) →
        IfSome r (λ t. EndsInBase (frames_in (table (length s.threads) (λ t. left_of t)) t))
    runs None q c = tt
    runs (Some t) q c =
        rw (get_or-table {A = List Frame} (length s.threads) t.0 (λ t. left_of t) [] (omega (arith, l))) (runner t (is_by e t) refl q)
