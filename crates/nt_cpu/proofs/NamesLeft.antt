-- After the event of a number each frame is named below the next one.
use Rattle.std.proofs.Common.{arith}
use Rattle.std.proofs.lemmas.Bool.Decides.{nat_tests}
use Rattle.std.proofs.lemmas.List.{get_or_past}
use Rattle.std.proofs.lemmas.List.Elements.{All-from_get_or}
use Rattle.std.specs.Prelude.{Bool, List, None, Option, Some, [], false, get_or, if◌then◌else◌, length, nat_lt, refl, true, ℕ, ◌+◌, ◌<◌, ◌==◌, ◌∷◌, ◌≡◌, ◌≤◌}
use Rattle.nt_event.specs.declared.events.Begun.TheVariants.{Apc, Dpc, Int, Threaded}
use Rattle.nt_event.specs.declared.events.Event.{Event}
use Rattle.nt_event.specs.declared.events.What.{What}
use Rattle.nt_event.specs.declared.events.What.TheVariants.{Free, Begin, Call, End, Flush, Gone, Normal, Rewait, Switch}
use Rattle.nt_event.specs.Frame.{Frame}
use Rattle.nt_event.specs.declared.numbers.ApcNo.{ApcNo}
use Rattle.nt_event.specs.declared.numbers.RoutineNo.{RoutineNo}
use Rattle.nt_event.specs.declared.numbers.ThreadNo.{ThreadNo}
use Rattle.nt_event.specs.declared.scripts.Script.{Script}
use Rattle.nt_event.specs.Frames.{freed, Frames, at_name, called, end_on_thread, ended_on_thread, flushed, frames_after, frames_in, is_base_body, ended_base}
use Rattle.nt_event.specs.Frames.{normal_of, own_after, rewaited, switched_to, thread_after, thread_if, without}
use Rattle.nt_event.specs.Routines.{rundown_of}
use Rattle.nt_event.specs.Numbers.{is_by, thread}
use Rattle.nt_event.proofs.Tables.{get_or-table, length-table_from}
use Rattle.nt_runs.proofs.Names.{called_name, resumed_name}
use Rattle.nt_frame.specs.Nesting.{AreNamedBelow, AreNested, IsPart, next_name}

-- changing a named frame without its name keeps the names below the next one
next_named : (n m : ℕ) (g : Frame → Frame) (fs : List Frame) → ((f : Frame) → (g f).name ≡ f.name) → next_name fs ≤ n → next_name (at_name m g fs) ≤ n + 1
next_named n m g [] k h = omega arith
next_named n m g (f ∷ fs) k h = go (f.name == m)
  where
    go : (b : Bool) → (if b then g f else f).name + 1 ≤ n + 1
    go true = rw (k f) (omega arith)
    go false = omega arith

-- the frames under the top one are named below the next one
next_tail : (n : ℕ) (own : Bool) (f : Frame) (fs : List Frame) → IsPart own (f ∷ fs) → f.name + 1 ≤ n → next_name fs ≤ n + 1
next_tail n own f [] p h = omega arith
next_tail n own f (g ∷ gs) p h = omega (arith, p.1.1)

-- taking a named frame away keeps the names below the next one
next_without : (n m : ℕ) (own : Bool) (fs : List Frame) → IsPart own fs → next_name fs ≤ n → next_name (without m fs) ≤ n + 1
next_without n m own [] p h = omega arith
next_without n m own (f ∷ fs) p h = go (f.name == m)
  where
    go : (b : Bool) → next_name (if b then fs else (f ∷ fs)) ≤ n + 1
    go true = next_tail n own f fs p h
    go false = omega arith

-- the end of a thread's frame keeps the names below the next one
next_ended : (n m : ℕ) (fs : List Frame) → IsPart false fs → next_name fs ≤ n → next_name (end_on_thread m fs) ≤ n + 1
next_ended n m [] p h = omega arith
next_ended n m (f ∷ fs) p h = go (f.name == m)
  where
    ended : (b : Bool) → next_name (if b then (ended_base f ∷ fs) else fs) ≤ n + 1
    ended true = omega arith
    ended false = next_tail n false f fs p h

    go : (b : Bool) → next_name (if b then ended_on_thread (f ∷ fs) else (f ∷ fs)) ≤ n + 1
    go true = ended (is_base_body f.body)
    go false = omega arith

-- flushing an APC from the frames keeps the names below the next one
next_flushed : (n : ℕ) (a : ApcNo) (r : Option RoutineNo) (fs : List Frame) → next_name fs ≤ n → next_name (flushed n a r fs) ≤ n + 1
next_flushed n a None fs h = omega arith
next_flushed n a (Some r) fs h = omega arith

-- a switch to a thread keeps the names of its frames below the next one
next_switched : (n : ℕ) (t : ThreadNo) (st : Option ℕ) (fs : List Frame) → next_name fs ≤ n → next_name (switched_to n t st fs) ≤ n + 1
next_switched n t st [] h = omega arith
next_switched n t st (f ∷ fs) h = rw (resumed_name st f) (omega arith)

-- an event leaves the processor's own frames named below the next one
next_own : (n : ℕ) (due : Option ℕ) (w : What) (fs : List Frame) → IsPart true fs → next_name fs ≤ n → next_name (own_after n due w fs) ≤ n + 1
next_own n due (Begin (Int l) from) fs p h = omega arith
next_own n due (Begin (Dpc d) from) fs p h = omega arith
next_own n due (Begin (Threaded d) from) fs p h = omega arith
next_own n due (Begin (Apc a) from) fs p h = omega arith
next_own n due (Call f c y) fs p h = next_named n f (called due c y) fs (called_name due c y) h
next_own n due (Free f l) fs p h = next_named n f freed fs (λ f. refl) h
next_own n due (End f) fs p h = next_without n f true fs p h
next_own n due _ fs p h = omega arith

-- an event of a thread leaves its frames named below the next one
next_thread : (s : Script) (n : ℕ) (due : Option ℕ) (w : What) (fs : List Frame) → IsPart false fs → next_name fs ≤ n →
    next_name (thread_after s n due w fs) ≤ n + 1
next_thread s n due (Switch t st) fs p h = next_switched n t st fs h
next_thread s n due (Begin (Apc a) from) fs p h = omega arith
next_thread s n due (Flush a from) fs p h = next_flushed n a (rundown_of s a) fs h
next_thread s n due (Call f c y) fs p h = next_named n f (called due c y) fs (called_name due c y) h
next_thread s n due (Rewait f y) fs p h = next_named n f (rewaited y) fs (λ f. refl) h
next_thread s n due (Normal f) fs p h = next_named n f normal_of fs (λ f. refl) h
next_thread s n due (Free f l) fs p h = next_named n f freed fs (λ f. refl) h
next_thread s n due (End f) fs p h = next_ended n f fs p h
next_thread s n due (Gone t) fs p h = omega arith
next_thread s n due _ fs p h = omega arith

-- an event, of the thread or not, leaves the thread's frames named below the next one
next_if : (b : Bool) (s : Script) (n : ℕ) (due : Option ℕ) (w : What) (fs : List Frame) → IsPart false fs → next_name fs ≤ n →
    next_name (thread_if b s n due w fs) ≤ n + 1
next_if true s n due w fs p h = next_thread s n due w fs p h
next_if false s n due w fs p h = omega arith

-- the part of any number of a thread
pub record IsNamedPart (n : ℕ) (fs : List Frame) : Type 0 where
  pub part : IsPart false fs
  pub below : next_name fs ≤ n

-- the frames of each thread are a thread's part, and are named below the bound
named_part : (n : ℕ) (x : Frames) (t : ℕ) → AreNested x → AreNamedBelow n x → IsNamedPart n (get_or x.threads t [])
named_part n x t a h = go (nat_lt t (length x.threads)) refl
  where
    go : (b : Bool) → nat_lt t (length x.threads) ≡ b → IsNamedPart n (get_or x.threads t [])
    go true e =
        let l : t < length x.threads = grind (arith, nat_tests) in
        record { part = (a.threads t [] l).part; below = h.1 t [] l }
    go false e =
        let l : length x.threads ≤ t = grind (arith, nat_tests) in
        rw (get_or_past x.threads t [] l) (record { part = tt; below = omega arith })

-- frames named below an event's number are named below the next number after the event
pub named_after : (s : Script) (n : ℕ) (due : Option ℕ) (e : Event) (x : Frames) → AreNested x → AreNamedBelow n x →
    AreNamedBelow (n + 1) (frames_after s n due e x)
named_after s n due e x a h = (
  next_own n due e.what x.own a.own h.0,
  All-from_get_or (λ fs. next_name fs ≤ n + 1) _ [] (λ i b. let k : i < length s.threads = omega
      (arith, length-table_from {A = List Frame} 0 (length s.threads) (λ t. thread_if (is_by e (thread t)) s n due e.what (frames_in x.threads (thread t)))) in
      let p = named_part n x i a h in
      rw (get_or-table {A = List Frame} (length s.threads) i (λ t. thread_if (is_by e (thread t)) s n due e.what (frames_in x.threads (thread t))) [] k)
      (next_if (is_by e (thread i)) s n due e.what (get_or x.threads i []) p.part p.below)),
)
