-- What each event leaves of the frames is what its calls leave.
use Rattle.std.proofs.Common.{◌≡◌, ℕ, ◌<◌, ◌==◌, Bool, true, false, Option, None, Some, List, [], ◌∷◌, ◌++◌, length, arith, sym, ◌∙◌, ap, refl}
use Rattle.std.proofs.lemmas.Bool.Decides.{nat_tests}
use Rattle.std.specs.Option.{option_map_or}
use Rattle.nt_event.specs.declared.commands.Command.{Command}
use Rattle.nt_event.specs.declared.commands.Command.TheVariants.{Acquire, Delay, EnterCrit, EnterGuard, LeaveCrit, LeaveGuard, Lower, Raise, StartWait, Unlock}
use Rattle.nt_event.specs.declared.commands.Command.TheVariants.{Yield}
use Rattle.nt_event.specs.declared.commands.Reply.{Reply}
use Rattle.nt_event.specs.declared.commands.Reply.TheVariants.{Blocked, Done, Spin, Status}
use Rattle.nt_event.specs.declared.events.Begun.TheVariants.{Apc as BeginApc, Dpc as BeginDpc, Int as BeginInt, Threaded as BeginThreaded}
use Rattle.nt_event.specs.declared.events.Event.{Event}
use Rattle.nt_event.specs.declared.events.What.{What}
use Rattle.nt_event.specs.declared.events.What.TheVariants.{Begin, Call, Clean, End, Expire, Fire, Flush, Free, Gone, Look, Normal, Rest, Rewait, Switch}
use Rattle.nt_event.specs.Frame.{Frame}
use Rattle.nt_event.specs.declared.numbers.ApcNo.{ApcNo}
use Rattle.nt_event.specs.declared.numbers.CpuNo.{CpuNo}
use Rattle.nt_event.specs.declared.numbers.LockNo.{LockNo}
use Rattle.nt_event.specs.declared.numbers.RoutineNo.{RoutineNo}
use Rattle.nt_event.specs.declared.numbers.ThreadNo.{ThreadNo}
use Rattle.nt_event.specs.declared.scripts.Script.{Script}
use Rattle.nt_event.specs.Frames.{Frames, done_to, due_of, freed, frames_after, frames_of, time, frames_in, innermost, is_base_body, resumed, rewaited}
use Rattle.nt_event.specs.Routines.{rundown_of}
use Rattle.nt_event.specs.Lists.{head_of}
use Rattle.nt_event.specs.Numbers.{is_of}
use Rattle.nt_event.specs.Replies.{kernel_apc}
use Rattle.nt_event.proofs.Moves.{frames_move, frames_stay}
use Rattle.nt_frame.specs.declared.calls.FrameCall.{FrameCall}
use Rattle.nt_frame.specs.Calls.{commanded, left_by, left_by_all, unless_refused}
use Rattle.nt_frame.specs.Changes.{advanced, at_innermost, no_frames, taken}
use Rattle.nt_frame.specs.EventCalls.{EachIsMade, EventsAreCalls, HistoriesAreCalls, calls_in, EventSays, IsInnermost, Replies, calls_of, command_calls}
use Rattle.nt_frame.specs.EventCalls.{rewait_calls, status_calls, switch_calls, thread_of}
use Rattle.nt_frame.specs.Rules.{is_at_base, refusal_in}
use Rattle.nt_frame.proofs.After.{after_apc, after_clean, after_dpc, after_end, after_end_base, after_expire, after_fire, after_first_switch, after_flush}
use Rattle.nt_frame.proofs.After.{after_free, after_gone, after_int, after_look, after_normal, after_rest, after_rewait, after_rundown, after_switch}
use Rattle.nt_frame.proofs.After.{after_threaded}
use Rattle.nt_frame.proofs.Commands.{awaiting, call_acquire, call_spin, call_unlock, call_by, call_delay, call_delay_blocked, call_own, call_wait}
use Rattle.nt_frame.proofs.Commands.{call_wait_blocked, call_yield}
use Rattle.nt_frame.proofs.Commands.{rewait_blocked, stays}
use Rattle.nt_frame.proofs.Events.{IsOurs}
use Rattle.nt_frame.proofs.Tasks.{base_here}
use Rattle.nt_frame.proofs.Twice.{at_innermost_by, at_innermost_id, running-at_innermost}

-- the routine that an event names is the innermost frame
named : (n : ℕ) (x : Frames) → IsInnermost n x → (f : Frame) × (innermost x ≡ Some f) × (f.name ≡ n)
named n x h = go (innermost x) refl h
  where
    go : (o : Option Frame) → innermost x ≡ o → option_map_or (λ f. f.name == n) o false ≡ true → (f : Frame) × (innermost x ≡ Some f) × (f.name ≡ n)
    go None e k = absurd (cc)
    go (Some f) e k = (f, e, grind (arith, nat_tests))

-- ---- calls

-- a command that isn't refused leaves what its effect and then the step to the next place leave
accepted : (c : Command) (x : Frames) → refusal_in c x ≡ None → at_innermost advanced (at_innermost (done_to c) x) ≡ at_innermost advanced (commanded c x)
accepted c x h = rw h

-- an unlock that isn't refused leaves what freeing the lock and then the step to the next place leave
unlocked : (l : LockNo) (x : Frames) → refusal_in (Unlock l) x ≡ None →
    at_innermost advanced (at_innermost freed x) ≡ at_innermost advanced (unless_refused (refusal_in (Unlock l) x) (at_innermost freed x) x)
unlocked l x h = rw h

-- case: a call of the innermost frame leaves what the frame calls of its command leave
call_case : (s : Script) (n : ℕ) (due : Option ℕ) (e : Event) (x : Frames) (f : Frame) (c : Command) (y : Reply) → IsOurs s e x → innermost x ≡ Some f →
    e.what ≡ Call f.name c y → Replies c y x → frames_after s n due e x ≡ left_by_all (command_calls due c y) x
call_case s n due e x f (StartWait m a) (Status st) h q k r = call_wait s n due e x f m a st h q k
call_case s n due e x f (StartWait m a) Blocked h q k r = call_wait_blocked s n due e x f m a h q k
call_case s n due e x f (StartWait m a) Spin h q k r = absurd (cc)
call_case s n due e x f (StartWait m a) y h q k r =
    call_by s n due e x f (StartWait m a) y h q k (λ g. refl) refl
call_case s n due e x f (Delay m a units) (Status st) h q k r = call_delay s n due e x f m a units st h q k
call_case s n due e x f (Delay m a units) Blocked h q k r = call_delay_blocked s n due e x f m a units h q k
call_case s n due e x f (Delay m a units) Spin h q k r = absurd (cc)
call_case s n due e x f (Delay m a units) y h q k r =
    call_by s n due e x f (Delay m a units) y h q k (λ g. refl) refl
call_case s n due e x f (Acquire l) Done h q k r = call_acquire s n due e x f l h q k
call_case s n due e x f (Acquire l) Spin h q k r = call_spin s n due e x f l h q k
call_case s n due e x f (Unlock l) Done h q k r = call_unlock s n due e x f l h q k ∙ unlocked l x r
call_case s n due e x f c Blocked h q k r = absurd r
call_case s n due e x f c Spin h q k r = absurd r
call_case s n due e x f (Raise l) Done h q k r =
    call_own s n due e x f (Raise l) h q refl k ∙ accepted (Raise l) x r
call_case s n due e x f (Lower l) Done h q k r =
    call_own s n due e x f (Lower l) h q refl k ∙ accepted (Lower l) x r
call_case s n due e x f EnterCrit Done h q k r =
    call_own s n due e x f EnterCrit h q refl k ∙ accepted EnterCrit x r
call_case s n due e x f EnterGuard Done h q k r =
    call_own s n due e x f EnterGuard h q refl k ∙ accepted EnterGuard x r
call_case s n due e x f LeaveCrit Done h q k r =
    call_own s n due e x f LeaveCrit h q refl k ∙ accepted LeaveCrit x r
call_case s n due e x f LeaveGuard Done h q k r =
    call_own s n due e x f LeaveGuard h q refl k ∙ accepted LeaveGuard x r
call_case s n due e x f Yield Done h q k r = call_yield s n due e x f h q k
call_case s n due e x f (Raise l) y h q k r = call_by s n due e x f (Raise l) y h q k (λ g. refl) refl
call_case s n due e x f (Lower l) y h q k r = call_by s n due e x f (Lower l) y h q k (λ g. refl) refl
call_case s n due e x f EnterCrit y h q k r = call_by s n due e x f EnterCrit y h q k (λ g. refl) refl
call_case s n due e x f EnterGuard y h q k r = call_by s n due e x f EnterGuard y h q k (λ g. refl) refl
call_case s n due e x f LeaveCrit y h q k r = call_by s n due e x f LeaveCrit y h q k (λ g. refl) refl
call_case s n due e x f LeaveGuard y h q k r = call_by s n due e x f LeaveGuard y h q k (λ g. refl) refl
call_case s n due e x f Yield y h q k r = call_by s n due e x f Yield y h q k (λ g. refl) refl
call_case s n due e x f c y h q k r = call_by s n due e x f c y h q k (λ g. refl) refl

-- ---- waits that are taken up again

-- case: a wait taken up again that ends with a status leaves what the calls of the status leave
rewait_status : (s : Script) (n : ℕ) (due : Option ℕ) (e : Event) (x : Frames) (f : Frame) (st : ℕ) (b : Bool) → (st == kernel_apc) ≡ b → IsOurs s e x →
    innermost x ≡ Some f → x.own ≡ [] → e.what ≡ Rewait f.name (Status st) → at_innermost (rewaited (Status st)) x ≡ left_by_all (status_calls (Some st)) x
rewait_status s n due e x f st true z h q o k =
    at_innermost_by (rewaited (Status st)) (λ g. g) x (λ g. rw z) ∙ at_innermost_id x ∙ rw z
rewait_status s n due e x f st false z h q o k =
    at_innermost_by (rewaited (Status st)) (awaiting None) x (λ g. rw z) ∙ rw z

-- case: a wait taken up again leaves what the calls of its reply leave
rewait_case : (s : Script) (n : ℕ) (due : Option ℕ) (e : Event) (x : Frames) (f : Frame) (y : Reply) → IsOurs s e x → innermost x ≡ Some f → x.own ≡ [] →
    e.what ≡ Rewait f.name y → frames_after s n due e x ≡ left_by_all (rewait_calls y) x
rewait_case s n due e x f Blocked h q o k = rewait_blocked s n due e x f h q o k
rewait_case s n due e x f (Status st) h q o k =
    after_rewait s n due e x f (Status st) h q o k
    ∙ stays (at_innermost (rewaited (Status st)) x) x x.running refl (running-at_innermost (rewaited (Status st)) x)
    ∙ rewait_status s n due e x f st (st == kernel_apc) refl h q o k
rewait_case s n due e x f y h q o k =
    after_rewait s n due e x f y h q o k
    ∙ stays (at_innermost (rewaited y) x) x x.running refl (running-at_innermost (rewaited y) x)
    ∙ at_innermost_id x

-- ---- the ends of frames and threads

-- case: the end of the innermost frame leaves what its calls leave, at the base or above it
end_case : (s : Script) (n : ℕ) (due : Option ℕ) (e : Event) (x : Frames) (f : Frame) (b : Bool) → is_at_base x ≡ b → IsOurs s e x → innermost x ≡ Some f →
    e.what ≡ End f.name → frames_after s n due e x ≡ left_by_all (calls_of s n due (End f.name) x) x
end_case s n due e x f true b h q k =
    let i : is_base_body f.body ≡ true = sym (base_here f x q) ∙ b in
    after_end_base s n due e x f h q i k ∙ rw b
end_case s n due e x f false b h q k =
    let i : is_base_body f.body ≡ false = sym (base_here f x q) ∙ b in
    after_end s n due e x f h q i k ∙ rw b

-- case: a flushed APC leaves what its calls leave, with a rundown routine or without
flush_case : (s : Script) (n : ℕ) (due : Option ℕ) (e : Event) (x : Frames) (a : ApcNo) (from : ℕ) (r : Option RoutineNo) → rundown_of s a ≡ r → IsOurs s e x →
    e.what ≡ Flush a from → frames_after s n due e x ≡ left_by_all (calls_of s n due (Flush a from) x) x
flush_case s n due e x a from None q h k = after_flush s n due e x a from h k q ∙ rw q
flush_case s n due e x a from (Some r) q h k = after_rundown s n due e x a from r h k q ∙ rw q

-- ---- a thread is taken up

-- taking a thread up with a status leaves what the calls of the status leave after it is taken
resumed_case : (x : Frames) (t : ThreadNo) (status : Option ℕ) → at_innermost (resumed status) (taken t x) ≡ left_by_all (status_calls status) (taken t x)
resumed_case x t None = at_innermost_id (taken t x)
resumed_case x t (Some st) = go (st == kernel_apc) refl
  where
    go : (b : Bool) → (st == kernel_apc) ≡ b → at_innermost (resumed (Some st)) (taken t x) ≡ left_by_all (status_calls (Some st)) (taken t x)
    go true z = at_innermost_by (resumed (Some st)) (λ g. g) (taken t x) (λ g. rw z) ∙ at_innermost_id (taken t x) ∙ rw z
    go false z = at_innermost_by (resumed (Some st)) (awaiting None) (taken t x) (λ g. rw z) ∙ rw z

-- case: a switch to a thread leaves what its calls leave, by the frames that the thread has
switch_case : (s : Script) (n : ℕ) (due : Option ℕ) (e : Event) (x : Frames) (t : ThreadNo) (status : Option ℕ) (fs : List Frame) →
    frames_in x.threads t ≡ fs → length x.threads ≡ length s.threads → t.0 < length x.threads → x.own ≡ [] → e.thread ≡ Some t → e.what ≡ Switch t status →
    frames_after s n due e x ≡ left_by_all (switch_calls n t status fs) x
switch_case s n due e x t status [] q l b o i k = after_first_switch s n due e x t status l b i k q
switch_case s n due e x t status (f ∷ fs) q l b o i k =
    let m : head_of (frames_in x.threads t) ≡ Some f = rw q in
    after_switch s n due e x t status f l b o i k m ∙ resumed_case x t status

-- ---- all events

-- what each event leaves of the frames is what its calls leave
pub events_are_calls : EventsAreCalls
events_are_calls s n due e x h = go e.what refl h.thread h.says
  where
    ours : e.thread ≡ x.running → IsOurs s e x
    ours t = record { nested = h.nested; threads = h.threads; thread = t }

    go : (w : What) → e.what ≡ w → e.thread ≡ thread_of w x.running → EventSays w x → frames_after s n due e x ≡ left_by_all (calls_of s n due w x) x
    go (Begin (BeginInt level) from) k t f = after_int s n due e x level from (ours t) k
    go (Begin (BeginDpc d) from) k t f = after_dpc s n due e x d from (ours t) k
    go (Begin (BeginThreaded d) from) k t f = after_threaded s n due e x d from (ours t) k
    go (Begin (BeginApc a) from) k t f = after_apc s n due e x a from (ours t) k
    go (Call name c y) k t f =
        let g : (f : Frame) × (innermost x ≡ Some f) × (f.name ≡ name) = named name x f.0 in
        let i : e.what ≡ Call g.0.name c y = rw g.2 k in
        call_case s n due e x g.0 c y (ours t) g.1 i f.1
    go (Look r) k t f = after_look s n due e x r h.threads t k
    go (Normal name) k t f =
        let g : (f : Frame) × (innermost x ≡ Some f) × (f.name ≡ name) = named name x f.0 in
        let i : e.what ≡ Normal g.0.name = rw g.2 k in
        after_normal s n due e x g.0 (ours t) g.1 f.1 i
    go (End name) k t f =
        let g : (f : Frame) × (innermost x ≡ Some f) × (f.name ≡ name) = named name x f in
        let i : e.what ≡ End g.0.name = rw g.2 k in
        end_case s n due e x g.0 (is_at_base x) refl (ours t) g.1 i
    go (Expire key from) k t f = after_expire s n due e x key from (ours t) k
    go (Fire d y) k t f = after_fire s n due e x d y (ours t) k
    go (Clean class) k t f = after_clean s n due e x class (ours t) k
    go (Switch u status) k t f =
        switch_case s n due e x u status (frames_in x.threads u) refl h.threads f.0 f.1 t k
    go (Rewait name y) k t f =
        let g : (f : Frame) × (innermost x ≡ Some f) × (f.name ≡ name) = named name x f.0 in
        let i : e.what ≡ Rewait g.0.name y = rw g.2 k in
        rewait_case s n due e x g.0 y (ours t) g.1 f.1 i
    go (Flush a from) k t f = flush_case s n due e x a from (rundown_of s a) refl (ours t) k
    go (Gone u) k t f = after_gone s n due e x u (ours t) k
    go (Free name l) k t f =
        let g : (f : Frame) × (innermost x ≡ Some f) × (f.name ≡ name) = named name x f in
        let i : e.what ≡ Free g.0.name l = rw g.2 k in
        after_free s n due e x g.0 l (ours t) g.1 i
    go Rest k t f = after_rest s n due e x (ours t) k

-- ---- whole histories

-- what two lists of frame calls leave together is what the second leaves after the first
left_by_all-append : (cs ds : List FrameCall) (x : Frames) → left_by_all (cs ++ ds) x ≡ left_by_all ds (left_by_all cs x)
left_by_all-append [] ds x = refl
left_by_all-append (c ∷ cs) ds x = left_by_all-append cs ds (left_by c x)

-- one more event leaves of a processor's frames what the calls of the whole history leave
history_step : (s : Script) (p : CpuNo) (e : Event) (past : List Event) (b : Bool) → is_of e p ≡ b → EachIsMade s p (e ∷ past) →
    frames_of s p past ≡ left_by_all (calls_in s p past) (no_frames (length s.threads)) →
    frames_of s p (e ∷ past) ≡ left_by_all (calls_in s p (e ∷ past)) (no_frames (length s.threads))
history_step s p e past true b h old =
    let now : List FrameCall = calls_of s (length past) (due_of e.what (time past)) e.what (frames_of s p past) in
    let here : calls_in s p (e ∷ past) ≡ calls_in s p past ++ now = rw b in
    frames_move s p e past b
    ∙ events_are_calls s (length past) (due_of e.what (time past)) e (frames_of s p past) (h.0 b)
    ∙ ap (left_by_all now) old
    ∙ sym (left_by_all-append (calls_in s p past) now (no_frames (length s.threads)))
    ∙ ap (λ (cs : List FrameCall). left_by_all cs (no_frames (length s.threads))) (sym here)
history_step s p e past false b h old = frames_stay s p e past b ∙ old ∙ rw b

-- the frames of a history are what its calls leave, beginning with none
pub histories_are_calls : HistoriesAreCalls
histories_are_calls s p [] h = refl
histories_are_calls s p (e ∷ past) h =
    history_step s p e past (is_of e p) refl h (histories_are_calls s p past h.1)
