-- What an event leaves of the frames, as one change: of the own part, of the running thread's, and of who runs.
use Rattle.std.proofs.Common.{◌≡◌, ◌≢◌, ℕ, ◌<◌, ◌==◌, Bool, true, false, Option, None, Some, IfSome, List, [], get_or, length, set, arith, sym, ◌∙◌, ap, refl}
use Rattle.std.proofs.lemmas.Bool.Decides.{nat_tests}
use Rattle.std.proofs.lemmas.List.{get_or-set_other, get_or-set_same, length-set, set-get_or}
use Rattle.nt_event.specs.declared.events.Event.{Event}
use Rattle.nt_event.specs.declared.events.What.{What}
use Rattle.nt_event.specs.Frame.{Frame}
use Rattle.nt_event.specs.declared.numbers.ThreadNo.{ThreadNo}
use Rattle.nt_event.specs.declared.scripts.Script.{Script}
use Rattle.nt_event.specs.Frames.{Frames, frames_after, frames_in, own_after, running_after, thread_after, thread_if}
use Rattle.nt_event.specs.Numbers.{is_thread, thread}
use Rattle.nt_event.specs.Lists.{table}
use Rattle.nt_event.proofs.Tables.{table-self}
use Rattle.nt_frame.specs.Nesting.{AreNested}

-- the part of this thread changed, where there is one
abbrev pub changed : (List Frame → List Frame) → Option ThreadNo → List (List Frame) → List (List Frame)
changed g None parts = parts
changed g (Some t) parts = set parts t.0 (g (frames_in parts t))

-- at each place, what an event leaves of the threads' parts is the table with its own thread's part written
changed_at : (s : Script) (n : ℕ) (due : Option ℕ) (w : What) (t : ThreadNo) (parts : List (List Frame)) (i : ℕ) → t.0 < length parts →
    thread_if (t.0 == i) s n due w (get_or parts i []) ≡ get_or (set parts t.0 (thread_after s n due w (get_or parts t.0 []))) i []
changed_at s n due w t parts i b = go (t.0 == i) refl
  where
    go : (h : Bool) → (t.0 == i) ≡ h → thread_if h s n due w (get_or parts i []) ≡ get_or (set parts t.0 (thread_after s n due w (get_or parts t.0 []))) i []
    go true h =
        let e : i ≡ t.0 = grind (arith, nat_tests) in
        rw e (sym (get_or-set_same parts t.0 (thread_after s n due w (get_or parts t.0 [])) [] b))
    go false h =
        let e : i ≢ t.0 = λ k. grind (arith, nat_tests) in
        sym (get_or-set_other parts t.0 i (thread_after s n due w (get_or parts t.0 [])) [] e)

-- the table of what an event leaves of each thread's part has the event's thread changed, and no other
pub threads_after : (s : Script) (n : ℕ) (due : Option ℕ) (w : What) (r : Option ThreadNo) (parts : List (List Frame)) → length parts ≡ length s.threads →
    IfSome r (λ t. t.0 < length parts) → table (length s.threads) (λ i. thread_if (is_thread r (thread i)) s n due w (frames_in parts (thread i))) ≡ changed
    (thread_after s n due w) r parts
threads_after s n due w None parts l b =
    table-self [] (length s.threads) parts (λ i. get_or parts i []) l (λ i h. refl)
threads_after s n due w (Some t) parts l b =
    table-self [] (length s.threads) (set parts t.0 (thread_after s n due w (get_or parts t.0 []))) (λ i. thread_if (t.0 == i) s n due w (get_or parts i []))
    (length-set parts t.0 _ ∙ l) (λ i h. changed_at s n due w t parts i b)

-- a part that doesn't change
pub changed_same : (r : Option ThreadNo) (parts : List (List Frame)) → changed (λ fs. fs) r parts ≡ parts
changed_same None parts = refl
changed_same (Some t) parts = set-get_or parts t.0 []

-- the event is one of the processor that has these frames: it names the thread that runs, and there is a part for each thread
pub record IsOurs (s : Script) (e : Event) (x : Frames) : Type 0 where
  pub nested : AreNested x
  pub threads : length x.threads ≡ length s.threads
  pub thread : e.thread ≡ x.running

-- an event of the processor changes the own part, the running thread's part and who runs, and nothing else
pub frames_after_is : (s : Script) (n : ℕ) (due : Option ℕ) (e : Event) (w : What) (x : Frames) → IsOurs s e x → e.what ≡ w →
    frames_after s n due e x ≡ record {
      own = own_after n due w x.own;
      running = running_after w x.running;
      threads = changed (thread_after s n due w) x.running x.threads;
    }
frames_after_is s n due e w x h k =
    rw (k, h.thread) (ap (λ (ts : List (List Frame)). record { own = own_after n due w x.own; running = running_after w x.running; threads = ts })
    (threads_after s n due w x.running x.threads h.threads h.nested.running))
