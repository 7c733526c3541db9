-- What is done to the frames for an event is what the event leaves of them.
use Rattle.std.proofs.Common.{ap, sym, ◌∙◌}
use Rattle.std.specs.Prelude.{Bool, List, None, Option, Some, [], false, if◌then◌else◌, is_some, length, refl, true, ℕ, ◌<◌, ◌∷◌, ◌≡◌}
use Rattle.nt_event.specs.declared.commands.Command.{Command}
use Rattle.nt_event.specs.declared.commands.Reply.{Reply}
use Rattle.nt_event.specs.declared.events.Begun.{Begun}
use Rattle.nt_event.specs.declared.events.Begun.TheVariants.{Apc, Dpc, Int, Threaded}
use Rattle.nt_event.specs.declared.events.Event.{Event}
use Rattle.nt_event.specs.declared.events.What.{What}
use Rattle.nt_event.specs.declared.events.What.TheVariants.{Begin, Call, Clean, End, Expire, Fire, Flush, Free, Gone, Look, Normal, Rest, Rewait, Switch}
use Rattle.nt_event.specs.declared.frames.Body.TheVariants.{Base, Rundown}
use Rattle.nt_event.specs.Frame.{Frame}
use Rattle.nt_event.specs.declared.numbers.ApcNo.{ApcNo}
use Rattle.nt_event.specs.declared.numbers.LockNo.{LockNo}
use Rattle.nt_event.specs.declared.numbers.RoutineNo.{RoutineNo}
use Rattle.nt_event.specs.declared.numbers.ThreadNo.{ThreadNo}
use Rattle.nt_event.specs.declared.scripts.Script.{Script}
use Rattle.nt_event.specs.Frames.{Frames, called, frames_after, frames_in, freed, is_base_body, ended_base, normal_of, resumed, rewaited, running_after}
use Rattle.nt_event.specs.Routines.{rundown_of}
use Rattle.nt_event.specs.Step.{thread_field}
use Rattle.nt_event.specs.Lists.{is_null}
use Rattle.nt_frame.specs.Changes.{at_innermost, begun, closed, taken, without_innermost}
use Rattle.nt_frame.specs.Nesting.{AreNested}
use Rattle.nt_frame.specs.Rules.{is_at_base, may_go_on}
use Rattle.nt_frame.proofs.After.{after_apc, after_call, after_clean, after_dpc, after_end, after_end_base, after_expire, after_fire, after_first_switch}
use Rattle.nt_frame.proofs.After.{after_flush, after_free, after_gone, after_int, after_look, after_normal, after_rest, after_rewait, after_rundown}
use Rattle.nt_frame.proofs.After.{after_switch, after_threaded}
use Rattle.nt_frame.proofs.Events.{IsOurs}
use Rattle.nt_cpu.specs.Fits.{IsAt, body_of}
use Rattle.nt_cpu.proofs.FramesLeft.{call_runs}

-- the event is one of the processor that has these frames
pub record Occurs (s : Script) (e : Event) (x : Frames) : Type 0 where
  pub nested : AreNested x
  pub threads : length x.threads ≡ length s.threads
  pub thread : e.thread ≡ thread_field e.what x.running

-- an event of the running thread
ours : (s : Script) (e : Event) (w : What) (x : Frames) → Occurs s e x → e.what ≡ w → thread_field w x.running ≡ x.running → IsOurs s e x
ours s e w x o k h = record {
  nested = o.nested;
  threads = o.threads;
  thread = o.thread ∙ (ap (λ (v : What). thread_field v x.running) k ∙ h);
}

-- doing a call's effect to the innermost frame and to the running thread is what the call leaves of the frames
pub left_call : (s : Script) (n : ℕ) (due : Option ℕ) (e : Event) (x z : Frames) (f : ℕ) (c : Command) (y : Reply) → Occurs s e x → e.what ≡ Call f c y →
    IsAt f x → z ≡ record (at_innermost (called due c y) x) { running = running_after (Call 0 c y) x.running } → z ≡ frames_after s n due e x
left_call s n due e x z f c y o k a h =
    h
    ∙ ap (λ (r : Option ThreadNo). record (at_innermost (called due c y) x) { running = r })
    (call_runs 0 c y x.running ∙ sym (call_runs a.frame.name c y x.running))
    ∙ sym (after_call s n due e x a.frame c y (ours s e (Call f c y) x o k refl) a.is (k ∙ ap (λ (m : ℕ). Call m c y) (sym a.name)))

-- opening a frame for the body that begins is what a Begin leaves of the frames
pub left_begin : (s : Script) (n : ℕ) (due : Option ℕ) (e : Event) (x z : Frames) (b : Begun) (from : ℕ) → Occurs s e x → e.what ≡ Begin b from → z
    ≡ begun n (body_of s b) x → z ≡ frames_after s n due e x
left_begin s n due e x z (Int level) from o k h =
    h ∙ sym (after_int s n due e x level from (ours s e (Begin (Int level) from) x o k refl) k)
left_begin s n due e x z (Dpc d) from o k h =
    h ∙ sym (after_dpc s n due e x d from (ours s e (Begin (Dpc d) from) x o k refl) k)
left_begin s n due e x z (Threaded d) from o k h =
    h ∙ sym (after_threaded s n due e x d from (ours s e (Begin (Threaded d) from) x o k refl) k)
left_begin s n due e x z (Apc a) from o k h =
    h ∙ sym (after_apc s n due e x a from (ours s e (Begin (Apc a) from) x o k refl) k)

-- going on to the normal routine in the innermost frame is what a Normal leaves of the frames
pub left_normal : (s : Script) (n : ℕ) (due : Option ℕ) (e : Event) (x z : Frames) (f : ℕ) → Occurs s e x → e.what ≡ Normal f → IsAt f x → may_go_on x ≡ true →
    z ≡ at_innermost normal_of x → z ≡ frames_after s n due e x
left_normal s n due e x z f o k a g h =
    h ∙ sym (after_normal s n due e x a.frame (ours s e (Normal f) x o k refl) a.is g (k ∙ ap Normal (sym a.name)))

-- ending the base frame or taking the innermost frame away is what an End leaves of the frames
pub left_end : (s : Script) (n : ℕ) (due : Option ℕ) (e : Event) (x z : Frames) (f : ℕ) → Occurs s e x → e.what ≡ End f → IsAt f x → z
    ≡ (if is_at_base x then at_innermost ended_base x else without_innermost x) → z ≡ frames_after s n due e x
left_end s n due e x z f o k a h = go (is_base_body a.frame.body) refl
  where
    base : is_at_base x ≡ is_base_body a.frame.body
    base = rw (a.is) refl

    named : e.what ≡ End a.frame.name
    named = k ∙ ap End (sym a.name)

    go : (b : Bool) → is_base_body a.frame.body ≡ b → z ≡ frames_after s n due e x
    go true q =
        h ∙ rw (base ∙ q) (sym (after_end_base s n due e x a.frame (ours s e (End f) x o k refl) a.is q named))
    go false q =
        h ∙ rw (base ∙ q) (sym (after_end s n due e x a.frame (ours s e (End f) x o k refl) a.is q named))

-- taking a thread up at its base, or with its wait's status, is what a Switch leaves of the frames
pub left_switch : (s : Script) (n : ℕ) (due : Option ℕ) (e : Event) (x z : Frames) (t : ThreadNo) (status : Option ℕ) → Occurs s e x → e.what
    ≡ Switch t status → x.own ≡ [] → t.0 < length x.threads → z
    ≡ (if is_null (frames_in x.threads t) then begun n (Base t) (taken t x) else at_innermost (resumed status) (taken t x)) → z ≡ frames_after s n due e x
left_switch s n due e x z t status o k own b h = go (frames_in x.threads t) refl
  where
    thread : e.thread ≡ Some t
    thread = o.thread ∙ ap (λ (v : What). thread_field v x.running) k

    go : (fs : List Frame) → frames_in x.threads t ≡ fs → z ≡ frames_after s n due e x
    go [] q =
        let i : is_null (frames_in x.threads t) ≡ true = rw q refl in
        h ∙ rw i (sym (after_first_switch s n due e x t status o.threads b thread k q))
    go (f ∷ fs) q =
        let i : is_null (frames_in x.threads t) ≡ false = rw q refl in
        h ∙ rw i (sym (after_switch s n due e x t status f o.threads b own thread k (rw q refl)))

-- taking a wait up again in the innermost frame is what a Rewait leaves of the frames
pub left_rewait : (s : Script) (n : ℕ) (due : Option ℕ) (e : Event) (x z : Frames) (f : ℕ) (y : Reply) → Occurs s e x → e.what ≡ Rewait f y → IsAt f x → x.own
    ≡ [] → z ≡ record (at_innermost (rewaited y) x) { running = running_after (Rewait 0 y) x.running } → z ≡ frames_after s n due e x
left_rewait s n due e x z f y o k a own h =
    h ∙ sym (after_rewait s n due e x a.frame y (ours s e (Rewait f y) x o k refl) a.is own (k ∙ ap (λ (m : ℕ). Rewait m y) (sym a.name)))

-- opening a frame for the rundown routine, if there is one, is what a Flush leaves of the frames
pub left_flush : (s : Script) (n : ℕ) (due : Option ℕ) (e : Event) (x z : Frames) (a : ApcNo) (from : ℕ) → Occurs s e x → e.what ≡ Flush a from → z
    ≡ (if is_some (rundown_of s a) then begun n (Rundown a) x else x) → z ≡ frames_after s n due e x
left_flush s n due e x z a from o k h = go (rundown_of s a) refl
  where
    go : (r : Option RoutineNo) → rundown_of s a ≡ r → z ≡ frames_after s n due e x
    go None q =
        let i : is_some (rundown_of s a) ≡ false = rw q refl in
        h ∙ rw i (sym (after_flush s n due e x a from (ours s e (Flush a from) x o k refl) k q))
    go (Some r) q =
        let i : is_some (rundown_of s a) ≡ true = rw q refl in
        h ∙ rw i (sym (after_rundown s n due e x a from r (ours s e (Flush a from) x o k refl) k q))

-- closing the running thread's part is what a Gone leaves of the frames
pub left_gone : (s : Script) (n : ℕ) (due : Option ℕ) (e : Event) (x z : Frames) (t : ThreadNo) → Occurs s e x → e.what ≡ Gone t → z ≡ closed x → z
    ≡ frames_after s n due e x
left_gone s n due e x z t o k h =
    h ∙ sym (after_gone s n due e x t (ours s e (Gone t) x o k refl) k)

-- freeing the lock that the innermost frame acquired last is what a Free leaves of the frames
pub left_free : (s : Script) (n : ℕ) (due : Option ℕ) (e : Event) (x z : Frames) (f : ℕ) (k : LockNo) → Occurs s e x → e.what ≡ Free f k → IsAt f x →
    z ≡ at_innermost freed x → z ≡ frames_after s n due e x
left_free s n due e x z f k o w a h =
    h ∙ sym (after_free s n due e x a.frame k (ours s e (Free f k) x o w refl) a.is (w ∙ ap (λ (m : ℕ). Free m k) (sym a.name)))

-- the events that change no frame
abbrev pub keeps_frames : What → Bool
keeps_frames (Look r) = true
keeps_frames (Expire key from) = true
keeps_frames (Fire d y) = true
keeps_frames (Clean class) = true
keeps_frames Rest = true
keeps_frames (Call f c y) = false
keeps_frames (Begin b from) = false
keeps_frames (Normal f) = false
keeps_frames (End f) = false
keeps_frames (Switch t st) = false
keeps_frames (Rewait f y) = false
keeps_frames (Flush a from) = false
keeps_frames (Gone t) = false
keeps_frames (Free f k) = false

-- an event that changes no frame leaves the frames as they were
pub left_other : (s : Script) (n : ℕ) (due : Option ℕ) (e : Event) (x : Frames) (w : What) → Occurs s e x → e.what ≡ w → keeps_frames w ≡ true →
    x ≡ frames_after s n due e x
left_other s n due e x (Look r) o k p =
    sym (after_look s n due e x r o.threads (o.thread ∙ ap (λ (v : What). thread_field v x.running) k) k)
left_other s n due e x (Expire key from) o k p =
    sym (after_expire s n due e x key from (ours s e (Expire key from) x o k refl) k)
left_other s n due e x (Fire d y) o k p =
    sym (after_fire s n due e x d y (ours s e (Fire d y) x o k refl) k)
left_other s n due e x (Clean class) o k p =
    sym (after_clean s n due e x class (ours s e (Clean class) x o k refl) k)
left_other s n due e x Rest o k p =
    sym (after_rest s n due e x (ours s e Rest x o k refl) k)
left_other s n due e x _ o k p = cc
