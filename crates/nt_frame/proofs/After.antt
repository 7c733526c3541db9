-- What each kind of event leaves of the frames is what these calls leave.
use Rattle.std.proofs.Common.{◌≡◌, ℕ, ◌<◌, Bool, true, false, not, Option, None, Some, List, [], ◌∷◌, length, set, sym, ◌∙◌, ap, refl}
use Rattle.std.specs.Option.{option_or}
use Rattle.nt_event.specs.declared.commands.Command.{Command}
use Rattle.nt_event.specs.declared.commands.Reply.{Reply}
use Rattle.nt_event.specs.declared.commands.TimerKey.{TimerKey}
use Rattle.nt_event.specs.declared.events.Begun.TheVariants.{Apc as BeginApc, Dpc as BeginDpc, Int as BeginInt, Threaded as BeginThreaded}
use Rattle.nt_event.specs.declared.events.Event.{Event}
use Rattle.nt_event.specs.declared.events.Rises.{Rises}
use Rattle.nt_event.specs.declared.events.What.TheVariants.{Begin, Call, Clean, End, Expire, Fire, Flush, Free, Gone, Look, Normal, Rest, Rewait, Switch}
use Rattle.nt_event.specs.declared.frames.Body.TheVariants.{Apc, Base, Dpc, Int, Rundown, Threaded}
use Rattle.nt_event.specs.Frame.{Frame}
use Rattle.nt_event.specs.declared.numbers.ApcNo.{ApcNo}
use Rattle.nt_event.specs.declared.numbers.DpcNo.{DpcNo}
use Rattle.nt_event.specs.declared.numbers.LockNo.{LockNo}
use Rattle.nt_event.specs.declared.numbers.RoutineNo.{RoutineNo}
use Rattle.nt_event.specs.declared.numbers.ThreadNo.{ThreadNo}
use Rattle.nt_event.specs.declared.scripts.Script.{Script}
use Rattle.nt_event.specs.Frames.{Frames, at_head, at_name, called, end_on_thread, freed, frames_after, frames_in, innermost, is_base_body, ended_base}
use Rattle.nt_event.specs.Frames.{new_frame}
use Rattle.nt_event.specs.Frames.{normal_of, resumed, rewaited, running_after, switched_to, thread_after, thread_part, without}
use Rattle.nt_event.specs.Routines.{kind_of, rundown_of}
use Rattle.nt_event.specs.Lists.{head_of, is_null, tail_of}
use Rattle.nt_frame.specs.Changes.{at_innermost, begun, closed, on_innermost_part, on_part, taken, without_innermost}
use Rattle.nt_frame.specs.Nesting.{AreNested}
use Rattle.nt_frame.specs.Rules.{may_go_on}
use Rattle.nt_frame.proofs.Begun.{base_is_not_own}
use Rattle.nt_frame.proofs.Changed.{innermost_frame}
use Rattle.nt_frame.proofs.Ended.{normal_is_on_thread}
use Rattle.nt_frame.proofs.Events.{IsOurs, changed, changed_same, frames_after_is, threads_after}
use Rattle.nt_frame.proofs.Named.{at_name_head, at_name_older, changed_by, changed_stays, end_base_head, end_head, end_older, named_change, on_running_is}
use Rattle.nt_frame.proofs.Named.{thread_change, without_head}
use Rattle.nt_event.proofs.Booleans.{null_is}

-- the innermost frame stands on the thread's part where the own part has none
on_part_of : (f : Frame) (x : Frames) → x.own ≡ [] → innermost x ≡ Some f → head_of (thread_part x) ≡ Some f
on_part_of f x o q =
    let p : option_or (head_of x.own) (head_of (thread_part x)) ≡ Some f = q in rw o at p

-- a change of a part leaves the running thread as it is
same_running : (g : List Frame → List Frame) (x : Frames) → record (on_innermost_part g x) { running = x.running } ≡ on_innermost_part g x
same_running g x = go (not (is_null x.own)) x.running
  where
    go : (b : Bool) (r : Option ThreadNo) → record (on_part b g x) { running = x.running } ≡ on_part b g x
    go true r = refl
    go false r = rw (on_running_is g x.running x)

-- ---- begun: `begin`

-- writing the running thread's part with itself leaves the threads' parts as they were
same_threads : (os : List Frame) (r : Option ThreadNo) (x : Frames) → record {
  own = os;
  running = r;
  threads = changed (λ fs. fs) x.running x.threads;
} ≡ record x { own = os; running = r }
same_threads os r x =
    ap (λ (ts : List (List Frame)). record { own = os; running = r; threads = ts }) (changed_same x.running x.threads)

-- the begin of an interrupt leaves the frames with one more, of this interrupt
pub after_int : (s : Script) (n : ℕ) (due : Option ℕ) (e : Event) (x : Frames) (level from : ℕ) → IsOurs s e x → e.what ≡ Begin (BeginInt level) from →
    frames_after s n due e x ≡ begun n (Int level) x
after_int s n due e x level from h k =
    frames_after_is s n due e (Begin (BeginInt level) from) x h k ∙ same_threads (new_frame n (Int level) ∷ x.own) x.running x

-- the begin of a DPC leaves the frames with one more, of this DPC
pub after_dpc : (s : Script) (n : ℕ) (due : Option ℕ) (e : Event) (x : Frames) (d : DpcNo) (from : ℕ) → IsOurs s e x → e.what ≡ Begin (BeginDpc d) from →
    frames_after s n due e x ≡ begun n (Dpc d) x
after_dpc s n due e x d from h k =
    frames_after_is s n due e (Begin (BeginDpc d) from) x h k ∙ same_threads (new_frame n (Dpc d) ∷ x.own) x.running x

-- the begin of a threaded DPC leaves the frames with one more, of this threaded DPC
pub after_threaded : (s : Script) (n : ℕ) (due : Option ℕ) (e : Event) (x : Frames) (d : DpcNo) (from : ℕ) → IsOurs s e x →
    e.what ≡ Begin (BeginThreaded d) from → frames_after s n due e x ≡ begun n (Threaded d) x
after_threaded s n due e x d from h k =
    frames_after_is s n due e (Begin (BeginThreaded d) from) x h k ∙ same_threads (new_frame n (Threaded d) ∷ x.own) x.running x

-- the begin of an APC leaves the frames with one more, of this APC with its kind
pub after_apc : (s : Script) (n : ℕ) (due : Option ℕ) (e : Event) (x : Frames) (a : ApcNo) (from : ℕ) → IsOurs s e x → e.what ≡ Begin (BeginApc a) from →
    frames_after s n due e x ≡ begun n (Apc a (kind_of s a)) x
after_apc s n due e x a from h k =
    frames_after_is s n due e (Begin (BeginApc a) from) x h k ∙ sym (on_running_is (λ fs. new_frame n (Apc a (kind_of s a)) ∷ fs) x.running x)

-- a flushed APC with a rundown routine: `begin`; without one, nothing
pub after_rundown : (s : Script) (n : ℕ) (due : Option ℕ) (e : Event) (x : Frames) (a : ApcNo) (from : ℕ) (r : RoutineNo) → IsOurs s e x →
    e.what ≡ Flush a from → rundown_of s a ≡ Some r → frames_after s n due e x ≡ begun n (Rundown a) x
after_rundown s n due e x a from r h k q =
    frames_after_is s n due e (Flush a from) x h k ∙ ap (λ (ts : List (List Frame)). record { own = x.own; running = x.running; threads = ts })
    (changed_by (thread_after s n due (Flush a from)) (λ fs. new_frame n (Rundown a) ∷ fs) x.running x.threads (rw q))
    ∙ sym (on_running_is (λ fs. new_frame n (Rundown a) ∷ fs) x.running x)

-- a flush of an APC without a rundown routine leaves the frames as they were
pub after_flush : (s : Script) (n : ℕ) (due : Option ℕ) (e : Event) (x : Frames) (a : ApcNo) (from : ℕ) → IsOurs s e x → e.what ≡ Flush a from →
    rundown_of s a ≡ None → frames_after s n due e x ≡ x
after_flush s n due e x a from h k q =
    frames_after_is s n due e (Flush a from) x h k ∙ ap (λ (ts : List (List Frame)). record { own = x.own; running = x.running; threads = ts })
    (changed_stays (thread_after s n due (Flush a from)) x.running x.threads (rw q))

-- ---- called

-- the innermost frame calls a command
pub after_call : (s : Script) (n : ℕ) (due : Option ℕ) (e : Event) (x : Frames) (f : Frame) (c : Command) (y : Reply) → IsOurs s e x → innermost x ≡ Some f →
    e.what ≡ Call f.name c y → frames_after s n due e x ≡ record (at_innermost (called due c y) x) { running = running_after (Call f.name c y) x.running }
after_call s n due e x f c y h q k =
    frames_after_is s n due e (Call f.name c y) x h k ∙ named_change (running_after (Call f.name c y) x.running) f (at_name f.name (called due c y))
    (at_name f.name (called due c y)) (at_head (called due c y)) x h.nested q refl (at_name_head (called due c y) f) (at_name_head (called due c y) f)
    (at_name_older (called due c y) f.name)

-- the innermost frame, which stands on the thread's part, takes up its wait again
pub after_rewait : (s : Script) (n : ℕ) (due : Option ℕ) (e : Event) (x : Frames) (f : Frame) (y : Reply) → IsOurs s e x → innermost x ≡ Some f → x.own ≡ [] →
    e.what ≡ Rewait f.name y → frames_after s n due e x ≡ record (at_innermost (rewaited y) x) { running = running_after (Rewait f.name y) x.running }
after_rewait s n due e x f y h q o k =
    frames_after_is s n due e (Rewait f.name y) x h k ∙ thread_change (running_after (Rewait f.name y) x.running) (at_name f.name (rewaited y))
    (at_head (rewaited y)) x o (at_name_head (rewaited y) f (thread_part x) (on_part_of f x o q))

-- the innermost frame frees the lock that it acquired last
pub after_free : (s : Script) (n : ℕ) (due : Option ℕ) (e : Event) (x : Frames) (f : Frame) (k : LockNo) → IsOurs s e x → innermost x ≡ Some f →
    e.what ≡ Free f.name k → frames_after s n due e x ≡ at_innermost freed x
after_free s n due e x f k h q i =
    frames_after_is s n due e (Free f.name k) x h i ∙ named_change x.running f (at_name f.name freed) (at_name f.name freed) (at_head freed) x h.nested q refl
    (at_name_head freed f) (at_name_head freed f) (at_name_older freed f.name) ∙ same_running (at_head freed) x

-- ---- gone on and ended: `normal`, `finish`, `end_base`, `gone`

-- where an APC goes on to its normal routine, the innermost frame begins its normal phase
pub after_normal : (s : Script) (n : ℕ) (due : Option ℕ) (e : Event) (x : Frames) (f : Frame) → IsOurs s e x → innermost x ≡ Some f → may_go_on x ≡ true →
    e.what ≡ Normal f.name → frames_after s n due e x ≡ at_innermost normal_of x
after_normal s n due e x f h q m k =
    let o : x.own ≡ [] = null_is x.own (normal_is_on_thread f x h.nested q m) in
    frames_after_is s n due e (Normal f.name) x h k ∙ thread_change x.running (at_name f.name normal_of) (at_head normal_of) x o
    (at_name_head normal_of f (thread_part x) (on_part_of f x o q)) ∙ same_running (at_head normal_of) x

-- the end of a routine that is no base takes the innermost frame away
pub after_end : (s : Script) (n : ℕ) (due : Option ℕ) (e : Event) (x : Frames) (f : Frame) → IsOurs s e x → innermost x ≡ Some f →
    is_base_body f.body ≡ false → e.what ≡ End f.name → frames_after s n due e x ≡ without_innermost x
after_end s n due e x f h q b k =
    frames_after_is s n due e (End f.name) x h k ∙ named_change x.running f (without f.name) (end_on_thread f.name) tail_of x h.nested q refl (without_head f)
    (λ fs i. end_head f fs b i) (end_older f.name) ∙ same_running tail_of x

-- a base frame stands on a thread's part
base_is_on_thread : (f : Frame) (x : Frames) → AreNested x → innermost x ≡ Some f → is_base_body f.body ≡ true → x.own ≡ []
base_is_on_thread f x h q b = null_is x.own (go (is_null x.own) refl)
  where
    go : (o : Bool) → is_null x.own ≡ o → o ≡ true
    go true i = refl
    go false i = absurd (base_is_not_own f.body (rw i at (innermost_frame f x h q).part) b)

-- the end of a base routine leaves the base as the innermost frame, of a thread that is leaving
pub after_end_base : (s : Script) (n : ℕ) (due : Option ℕ) (e : Event) (x : Frames) (f : Frame) → IsOurs s e x → innermost x ≡ Some f →
    is_base_body f.body ≡ true → e.what ≡ End f.name → frames_after s n due e x ≡ at_innermost ended_base x
after_end_base s n due e x f h q b k =
    let o : x.own ≡ [] = base_is_on_thread f x h.nested q b in
    let w : without f.name x.own ≡ x.own = rw o refl in
    frames_after_is s n due e (End f.name) x h k ∙ ap (λ (os : List Frame). record {
      own = os;
      running = x.running;
      threads = changed (end_on_thread f.name) x.running x.threads;
    }) w
    ∙ thread_change x.running (end_on_thread f.name) (at_head ended_base) x o (end_base_head f (thread_part x) b (on_part_of f x o q))
    ∙ same_running (at_head ended_base) x

-- where a thread is gone, its frames are closed and none runs
pub after_gone : (s : Script) (n : ℕ) (due : Option ℕ) (e : Event) (x : Frames) (t : ThreadNo) → IsOurs s e x → e.what ≡ Gone t →
    frames_after s n due e x ≡ closed x
after_gone s n due e x t h k =
    frames_after_is s n due e (Gone t) x h k ∙ sym (rw (on_running_is (λ _. []) x.running x))

-- ---- the others change no frame

-- a look leaves the frames as they were
pub after_look : (s : Script) (n : ℕ) (due : Option ℕ) (e : Event) (x : Frames) (r : Rises) → length x.threads ≡ length s.threads → e.thread ≡ None →
    e.what ≡ Look r → frames_after s n due e x ≡ x
after_look s n due e x r l t k =
    rw (k, t) (ap (λ (ts : List (List Frame)). record { own = x.own; running = x.running; threads = ts }) (threads_after s n due (Look r) None x.threads l tt))

-- the expiry of a timer or a delay leaves the frames as they were
pub after_expire : (s : Script) (n : ℕ) (due : Option ℕ) (e : Event) (x : Frames) (key : TimerKey) (from : ℕ) → IsOurs s e x → e.what ≡ Expire key from →
    frames_after s n due e x ≡ x
after_expire s n due e x key from h k =
    frames_after_is s n due e (Expire key from) x h k ∙ same_threads x.own x.running x

-- the insert of an expired timer's DPC leaves the frames as they were
pub after_fire : (s : Script) (n : ℕ) (due : Option ℕ) (e : Event) (x : Frames) (d : DpcNo) (y : Reply) → IsOurs s e x → e.what ≡ Fire d y →
    frames_after s n due e x ≡ x
after_fire s n due e x d y h k =
    frames_after_is s n due e (Fire d y) x h k ∙ same_threads x.own x.running x

-- the event that a class has been served leaves the frames as they were
pub after_clean : (s : Script) (n : ℕ) (due : Option ℕ) (e : Event) (x : Frames) (class : ℕ) → IsOurs s e x → e.what ≡ Clean class →
    frames_after s n due e x ≡ x
after_clean s n due e x class h k =
    frames_after_is s n due e (Clean class) x h k ∙ same_threads x.own x.running x

-- a rest leaves the frames as they were
pub after_rest : (s : Script) (n : ℕ) (due : Option ℕ) (e : Event) (x : Frames) → IsOurs s e x → e.what ≡ Rest → frames_after s n due e x ≡ x
after_rest s n due e x h k =
    frames_after_is s n due e Rest x h k ∙ same_threads x.own x.running x

-- ---- taken up: `switch_to`, and then `begin` of the base or `set_again` by the status

-- a switch to a thread leaves this thread running, with its part as the switch makes it, the rest as it was
switch_is : (s : Script) (n : ℕ) (due : Option ℕ) (e : Event) (x : Frames) (t : ThreadNo) (status : Option ℕ) → length x.threads ≡ length s.threads →
    t.0 < length x.threads → e.thread ≡ Some t → e.what ≡ Switch t status →
    frames_after s n due e x ≡ record { own = x.own; running = Some t; threads = set x.threads t.0 (switched_to n t status (frames_in x.threads t)) }
switch_is s n due e x t status l b i k =
    rw (k, i) (ap (λ (ts : List (List Frame)). record { own = x.own; running = Some t; threads = ts })
    (threads_after s n due (Switch t status) (Some t) x.threads l b))

-- a switch to a thread without frames takes it up and begins its base
pub after_first_switch : (s : Script) (n : ℕ) (due : Option ℕ) (e : Event) (x : Frames) (t : ThreadNo) (status : Option ℕ) →
    length x.threads ≡ length s.threads → t.0 < length x.threads → e.thread ≡ Some t → e.what ≡ Switch t status → frames_in x.threads t ≡ [] →
    frames_after s n due e x ≡ begun n (Base t) (taken t x)
after_first_switch s n due e x t status l b i k q =
    switch_is s n due e x t status l b i k ∙ rw q

-- a switch to a thread with frames takes it up, and its innermost frame gets the status of its wait
pub after_switch : (s : Script) (n : ℕ) (due : Option ℕ) (e : Event) (x : Frames) (t : ThreadNo) (status : Option ℕ) (f : Frame) →
    length x.threads ≡ length s.threads → t.0 < length x.threads → x.own ≡ [] → e.thread ≡ Some t → e.what ≡ Switch t status →
    head_of (frames_in x.threads t) ≡ Some f → frames_after s n due e x ≡ at_innermost (resumed status) (taken t x)
after_switch s n due e x t status f l b o i k q =
    switch_is s n due e x t status l b i k ∙ go (frames_in x.threads t) refl q
  where
    go : (fs : List Frame) → frames_in x.threads t ≡ fs → head_of fs ≡ Some f →
        record { own = x.own; running = Some t; threads = set x.threads t.0 (switched_to n t status (frames_in x.threads t)) } ≡ at_innermost (resumed status)
        (taken t x)
    go [] a z = cc
    go (y ∷ ys) a z = let m : is_null x.own ≡ true = rw o refl in rw (m, a)
