-- What a call leaves of the frames, as the methods of `Frames` make it: the effect of the command, then the place.
use Rattle.std.proofs.Common.{◌≡◌, ℕ, ◌+◌, ◌<◌, ◌==◌, Bool, true, false, Option, None, Some, if◌then◌else◌, [], length, sym, ◌∙◌, ap, refl}
use Rattle.nt_event.specs.declared.commands.Command.{Command}
use Rattle.nt_event.specs.declared.commands.Command.TheVariants.{Acquire, Alert, CancelTimer, Clock, Delay, EnterCrit, EnterGuard, InsertApc, Interrupt}
use Rattle.nt_event.specs.declared.commands.Command.TheVariants.{LeaveCrit}
use Rattle.nt_event.specs.declared.commands.Command.TheVariants.{LeaveGuard, Lower, Note, Queue, Raise, Release, RemoveApc, SetImportance, SetTarget, SetTimer}
use Rattle.nt_event.specs.declared.commands.Command.TheVariants.{StartWait, TestAlert, ToUser, Unlock, Unqueue, Yield}
use Rattle.nt_event.specs.declared.commands.Mode.{Mode}
use Rattle.nt_event.specs.declared.commands.Refusal.{Refusal}
use Rattle.nt_event.specs.declared.commands.Reply.{Reply}
use Rattle.nt_event.specs.declared.commands.Reply.TheVariants.{Blocked, Done, Refused, Spin, Status}
use Rattle.nt_event.specs.declared.events.Event.{Event}
use Rattle.nt_event.specs.declared.events.What.TheVariants.{Call, Rewait, Switch}
use Rattle.nt_event.specs.declared.frames.Again.{Again}
use Rattle.nt_event.specs.Frame.{Frame}
use Rattle.nt_event.specs.declared.frames.Region.{Region}
use Rattle.nt_event.specs.declared.frames.Region.TheVariants.{Crit, Guard}
use Rattle.nt_event.specs.declared.numbers.LockNo.{LockNo}
use Rattle.nt_event.specs.declared.numbers.ThreadNo.{ThreadNo}
use Rattle.nt_event.specs.declared.scripts.Script.{Script}
use Rattle.nt_event.specs.Frames.{Frames, again_after, called, done_to, frames_after, freed, frames_in, innermost, resumed, rewaited, running_after}
use Rattle.nt_event.specs.Lists.{head_of}
use Rattle.nt_event.specs.Replies.{is_blocked, is_done, is_spin, kernel_apc}
use Rattle.nt_frame.specs.Changes.{acquired, advanced, at_innermost, taken}
use Rattle.nt_frame.specs.Rules.{enter_of, is_frames_own, leave_of}
use Rattle.nt_frame.proofs.After.{after_call, after_rewait, after_switch}
use Rattle.nt_frame.proofs.Events.{IsOurs}
use Rattle.nt_frame.proofs.Twice.{at_innermost-at_innermost, at_innermost_by, at_innermost_id, running-at_innermost}

-- a wait is set to be taken up again: `set_again`
abbrev pub awaiting : Option Again → Frame → Frame
awaiting a f = record f { again = a }

-- the thread runs no more: `switch_away`
abbrev pub stopped : Frames → Frames
stopped x = record x { running = None }

-- the running thread stays: so the record of what is left has it as it was
pub stays : (x y : Frames) (r : Option ThreadNo) → r ≡ y.running → x.running ≡ y.running → record x { running = r } ≡ x
stays x y r e k = ap (λ (q : Option ThreadNo). record x { running = q }) (e ∙ sym k)

-- ---- calls that change the place alone

-- a call that changes nothing of the frame but its place, and lets the thread run
pub call_by : (s : Script) (n : ℕ) (due : Option ℕ) (e : Event) (x : Frames) (f : Frame) (c : Command) (y : Reply) → IsOurs s e x → innermost x ≡ Some f →
    e.what ≡ Call f.name c y → ((g : Frame) → called due c y g ≡ advanced g) → running_after (Call f.name c y) x.running ≡ x.running →
    frames_after s n due e x ≡ at_innermost advanced x
call_by s n due e x f c y h q k place runs =
    after_call s n due e x f c y h q k
    ∙ ap (λ (z : Frames). record z { running = running_after (Call f.name c y) x.running }) (at_innermost_by (called due c y) advanced x place)
    ∙ stays (at_innermost advanced x) x (running_after (Call f.name c y) x.running) runs (running-at_innermost advanced x)

-- a refused command changes only the place of its frame
refused_call : (due : Option ℕ) (c : Command) (why : Refusal) (f : Frame) → called due c (Refused why) f ≡ advanced f
refused_call due (StartWait m a) why f = refl
refused_call due (Delay m a units) why f = refl
refused_call due (Acquire k) why f = refl
refused_call due (Unlock k) why f = refl
refused_call due _ why f = refl

-- a refused command leaves the running thread running
refused_runs : (n : ℕ) (c : Command) (why : Refusal) (r : Option ThreadNo) → running_after (Call n c (Refused why)) r ≡ r
refused_runs n Yield why r = refl
refused_runs n _ why r = refl

-- a refused command changes the place alone
pub call_refused : (s : Script) (n : ℕ) (due : Option ℕ) (e : Event) (x : Frames) (f : Frame) (c : Command) (why : Refusal) → IsOurs s e x →
    innermost x ≡ Some f → e.what ≡ Call f.name c (Refused why) → frames_after s n due e x ≡ at_innermost advanced x
call_refused s n due e x f c why h q k =
    call_by s n due e x f c (Refused why) h q k (refused_call due c why) (refused_runs f.name c why x.running)

-- the commands that change nothing of their frame but its place, and let their thread run
abbrev pub is_plain : Command → Bool
is_plain (Raise level) = false
is_plain (Lower level) = false
is_plain EnterCrit = false
is_plain EnterGuard = false
is_plain LeaveCrit = false
is_plain LeaveGuard = false
is_plain (StartWait m a) = false
is_plain (Delay m a units) = false
is_plain Yield = false
is_plain (Acquire k) = false
is_plain (Unlock k) = false
is_plain _ = true

-- a frame whose place moves on, whatever the test of Done says, is only advanced, if it doesn't spin
plain_frame : (b c : Bool) (f : Frame) → b ≡ false →
    record (if c then f else f) {
      place = if b then f.place else (f.place + 1);
      level = (if c then f else f).level;
      spin = None;
      held = f.held;
    } ≡ advanced f
plain_frame b true f h = rw h refl
plain_frame b false f h = rw h refl

-- a plain command without a spin changes only the place of its frame
plain_call : (due : Option ℕ) (c : Command) (y : Reply) → is_plain c ≡ true → is_spin y ≡ false → (f : Frame) → called due c y f ≡ advanced f
plain_call due (Raise level) y p b f = cc
plain_call due (Lower level) y p b f = cc
plain_call due EnterCrit y p b f = cc
plain_call due EnterGuard y p b f = cc
plain_call due LeaveCrit y p b f = cc
plain_call due LeaveGuard y p b f = cc
plain_call due (StartWait m a) y p b f = cc
plain_call due (Delay m a units) y p b f = cc
plain_call due Yield y p b f = cc
plain_call due (Acquire k) y p b f = cc
plain_call due (Unlock k) y p b f = cc
plain_call due (Queue d) y p b f = plain_frame (is_spin y) (is_done y) f b
plain_call due (Unqueue d) y p b f = plain_frame (is_spin y) (is_done y) f b
plain_call due (SetImportance d i) y p b f = plain_frame (is_spin y) (is_done y) f b
plain_call due (SetTarget d t) y p b f = plain_frame (is_spin y) (is_done y) f b
plain_call due (SetTimer t u v) y p b f = plain_frame (is_spin y) (is_done y) f b
plain_call due (CancelTimer t) y p b f = plain_frame (is_spin y) (is_done y) f b
plain_call due (InsertApc a) y p b f = plain_frame (is_spin y) (is_done y) f b
plain_call due (RemoveApc a) y p b f = plain_frame (is_spin y) (is_done y) f b
plain_call due (Release t) y p b f = plain_frame (is_spin y) (is_done y) f b
plain_call due (Alert t m) y p b f = plain_frame (is_spin y) (is_done y) f b
plain_call due (TestAlert m) y p b f = plain_frame (is_spin y) (is_done y) f b
plain_call due (Interrupt q l) y p b f = plain_frame (is_spin y) (is_done y) f b
plain_call due (Clock units) y p b f = plain_frame (is_spin y) (is_done y) f b
plain_call due ToUser y p b f = plain_frame (is_spin y) (is_done y) f b
plain_call due (Note m) y p b f = plain_frame (is_spin y) (is_done y) f b

-- a plain command that doesn't block leaves the running thread running
plain_runs : (n : ℕ) (c : Command) (y : Reply) (r : Option ThreadNo) → is_plain c ≡ true → is_blocked y ≡ false → running_after (Call n c y) r ≡ r
plain_runs n Yield y r p b = cc
plain_runs n _ y r p b = rw b

-- one that changes nothing else of its frame, and doesn't block
pub call_plain : (s : Script) (n : ℕ) (due : Option ℕ) (e : Event) (x : Frames) (f : Frame) (c : Command) (y : Reply) → IsOurs s e x → innermost x ≡ Some f →
    is_plain c ≡ true → is_blocked y ≡ false → is_spin y ≡ false → e.what ≡ Call f.name c y → frames_after s n due e x ≡ at_innermost advanced x
call_plain s n due e x f c y h q p b i k =
    call_by s n due e x f c y h q k (plain_call due c y p i) (plain_runs f.name c y x.running p b)

-- ---- levels and regions: `raise`, `lower`, `enter`, `leave`

-- an accepted command for levels or regions has its effect on the frame and then moves its place on
own_call : (due : Option ℕ) (c : Command) → is_frames_own c ≡ true → (f : Frame) → called due c Done f ≡ advanced (done_to c f)
own_call due (Raise level) p f = refl
own_call due (Lower level) p f = refl
own_call due EnterCrit p f = refl
own_call due EnterGuard p f = refl
own_call due LeaveCrit p f = refl
own_call due LeaveGuard p f = refl
own_call due _ p f = cc

-- an accepted command for levels or regions leaves the running thread running
own_runs : (n : ℕ) (c : Command) (r : Option ThreadNo) → is_frames_own c ≡ true → running_after (Call n c Done) r ≡ r
own_runs n Yield r p = cc
own_runs n _ r p = refl

-- a done call of levels or regions has its effect on the innermost frame, which then goes one place on
pub call_own : (s : Script) (n : ℕ) (due : Option ℕ) (e : Event) (x : Frames) (f : Frame) (c : Command) → IsOurs s e x → innermost x ≡ Some f →
    is_frames_own c ≡ true → e.what ≡ Call f.name c Done → frames_after s n due e x ≡ at_innermost advanced (at_innermost (done_to c) x)
call_own s n due e x f c h q p k =
    after_call s n due e x f c Done h q k
    ∙ ap (λ (z : Frames). record z { running = running_after (Call f.name c Done) x.running })
    (at_innermost_by (called due c Done) (λ g. advanced (done_to c g)) x (own_call due c p))
    ∙ stays (at_innermost (λ g. advanced (done_to c g)) x) x (running_after (Call f.name c Done) x.running) (own_runs f.name c x.running p)
    (running-at_innermost (λ g. advanced (done_to c g)) x)
    ∙ sym (at_innermost-at_innermost advanced (done_to c) x h.nested)

-- the commands that enter and leave a region are such
pub enter_is_own : (r : Region) → is_frames_own (enter_of r) ≡ true
enter_is_own Crit = refl
enter_is_own Guard = refl

-- the command that leaves a region is one that the frames alone answer
pub leave_is_own : (r : Region) → is_frames_own (leave_of r) ≡ true
leave_is_own Crit = refl
leave_is_own Guard = refl

-- ---- locks: `acquired`, `unlock`

-- an acquire that is done gives the innermost frame the lock, and it goes one place on
pub call_acquire : (s : Script) (n : ℕ) (due : Option ℕ) (e : Event) (x : Frames) (f : Frame) (k : LockNo) → IsOurs s e x → innermost x ≡ Some f →
    e.what ≡ Call f.name (Acquire k) Done → frames_after s n due e x ≡ at_innermost advanced (at_innermost (acquired k true) x)
call_acquire s n due e x f k h q i =
    after_call s n due e x f (Acquire k) Done h q i
    ∙ stays (at_innermost (called due (Acquire k) Done) x) x x.running refl (running-at_innermost (called due (Acquire k) Done) x)
    ∙ at_innermost_by (called due (Acquire k) Done) (λ g. advanced (acquired k true g)) x (λ g. refl)
    ∙ sym (at_innermost-at_innermost advanced (acquired k true) x h.nested)

-- an acquire that spins leaves the innermost frame spinning on the lock at the same place
pub call_spin : (s : Script) (n : ℕ) (due : Option ℕ) (e : Event) (x : Frames) (f : Frame) (k : LockNo) → IsOurs s e x → innermost x ≡ Some f →
    e.what ≡ Call f.name (Acquire k) Spin → frames_after s n due e x ≡ at_innermost (acquired k false) x
call_spin s n due e x f k h q i =
    after_call s n due e x f (Acquire k) Spin h q i
    ∙ stays (at_innermost (called due (Acquire k) Spin) x) x x.running refl (running-at_innermost (called due (Acquire k) Spin) x)
    ∙ at_innermost_by (called due (Acquire k) Spin) (acquired k false) x (λ g. refl)

-- an unlock frees the lock that the innermost frame acquired last, and the frame goes one place on
pub call_unlock : (s : Script) (n : ℕ) (due : Option ℕ) (e : Event) (x : Frames) (f : Frame) (k : LockNo) → IsOurs s e x → innermost x ≡ Some f →
    e.what ≡ Call f.name (Unlock k) Done → frames_after s n due e x ≡ at_innermost advanced (at_innermost freed x)
call_unlock s n due e x f k h q i =
    after_call s n due e x f (Unlock k) Done h q i
    ∙ stays (at_innermost (called due (Unlock k) Done) x) x x.running refl (running-at_innermost (called due (Unlock k) Done) x)
    ∙ at_innermost_by (called due (Unlock k) Done) (λ g. advanced (freed g)) x (λ g. refl)
    ∙ sym (at_innermost-at_innermost advanced freed x h.nested)

-- ---- waits: `set_again`, `advance_place` and, where it blocks, `switch_away`; a yield likewise

-- a yield that is done lets the innermost frame go one place on and stops the running thread
pub call_yield : (s : Script) (n : ℕ) (due : Option ℕ) (e : Event) (x : Frames) (f : Frame) → IsOurs s e x → innermost x ≡ Some f →
    e.what ≡ Call f.name Yield Done → frames_after s n due e x ≡ stopped (at_innermost advanced x)
call_yield s n due e x f h q k = after_call s n due e x f Yield Done h q k

-- the wait that a call of `wait` leaves to be taken up where it isn't refused, and that of a delay with this due time
abbrev pub wait_of : Mode → Bool → Option ℕ → Again
wait_of m a due = record { mode = m; alertable = a; due = due }

-- what is left of a wait after a status doesn't depend on what was left before
again_status : (st : ℕ) (w old : Option Again) → again_after (Status st) w old ≡ again_after (Status st) w None
again_status st w old = refl

-- a wait that ends at once leaves a wait to take up only if interrupted, and the frame goes one place on
pub call_wait : (s : Script) (n : ℕ) (due : Option ℕ) (e : Event) (x : Frames) (f : Frame) (m : Mode) (a : Bool) (st : ℕ) → IsOurs s e x →
    innermost x ≡ Some f → e.what ≡ Call f.name (StartWait m a) (Status st) →
    frames_after s n due e x ≡ at_innermost advanced (at_innermost (awaiting (again_after (Status st) (Some (wait_of m a None)) None)) x)
call_wait s n due e x f m a st h q k =
    after_call s n due e x f (StartWait m a) (Status st) h q k
    ∙ stays (at_innermost (called due (StartWait m a) (Status st)) x) x x.running refl (running-at_innermost (called due (StartWait m a) (Status st)) x)
    ∙ sym (at_innermost-at_innermost advanced (awaiting (again_after (Status st) (Some (wait_of m a None)) None)) x h.nested)

-- a wait that blocks is kept to be taken up, the frame goes one place on and the thread stops
pub call_wait_blocked : (s : Script) (n : ℕ) (due : Option ℕ) (e : Event) (x : Frames) (f : Frame) (m : Mode) (a : Bool) → IsOurs s e x →
    innermost x ≡ Some f → e.what ≡ Call f.name (StartWait m a) Blocked →
    frames_after s n due e x ≡ stopped (at_innermost advanced (at_innermost (awaiting (Some (wait_of m a None))) x))
call_wait_blocked s n due e x f m a h q k =
    after_call s n due e x f (StartWait m a) Blocked h q k
    ∙ ap stopped (sym (at_innermost-at_innermost advanced (awaiting (Some (wait_of m a None))) x h.nested))

-- a delay that ends at once leaves a delay to take up only if interrupted, and the frame goes one place on
pub call_delay : (s : Script) (n : ℕ) (due : Option ℕ) (e : Event) (x : Frames) (f : Frame) (m : Mode) (a : Bool) (units st : ℕ) → IsOurs s e x →
    innermost x ≡ Some f → e.what ≡ Call f.name (Delay m a units) (Status st) →
    frames_after s n due e x ≡ at_innermost advanced (at_innermost (awaiting (again_after (Status st) (Some (wait_of m a due)) None)) x)
call_delay s n due e x f m a units st h q k =
    after_call s n due e x f (Delay m a units) (Status st) h q k
    ∙ stays (at_innermost (called due (Delay m a units) (Status st)) x) x x.running refl (running-at_innermost (called due (Delay m a units) (Status st)) x)
    ∙ sym (at_innermost-at_innermost advanced (awaiting (again_after (Status st) (Some (wait_of m a due)) None)) x h.nested)

-- a delay that blocks is kept with its due time to be taken up, the frame goes on and the thread stops
pub call_delay_blocked : (s : Script) (n : ℕ) (due : Option ℕ) (e : Event) (x : Frames) (f : Frame) (m : Mode) (a : Bool) (units : ℕ) → IsOurs s e x →
    innermost x ≡ Some f → e.what ≡ Call f.name (Delay m a units) Blocked →
    frames_after s n due e x ≡ stopped (at_innermost advanced (at_innermost (awaiting (Some (wait_of m a due))) x))
call_delay_blocked s n due e x f m a units h q k =
    after_call s n due e x f (Delay m a units) Blocked h q k
    ∙ ap stopped (sym (at_innermost-at_innermost advanced (awaiting (Some (wait_of m a due))) x h.nested))

-- ---- a wait that is taken up again

-- interrupted once more: nothing changes
pub rewait_again : (s : Script) (n : ℕ) (due : Option ℕ) (e : Event) (x : Frames) (f : Frame) → IsOurs s e x → innermost x ≡ Some f → x.own ≡ [] →
    e.what ≡ Rewait f.name (Status kernel_apc) → frames_after s n due e x ≡ x
rewait_again s n due e x f h q o k =
    after_rewait s n due e x f (Status kernel_apc) h q o k
    ∙ stays (at_innermost (rewaited (Status kernel_apc)) x) x x.running refl (running-at_innermost (rewaited (Status kernel_apc)) x)
    ∙ at_innermost_id x

-- over: `set_again` to None
pub rewait_over : (s : Script) (n : ℕ) (due : Option ℕ) (e : Event) (x : Frames) (f : Frame) (st : ℕ) → IsOurs s e x → innermost x ≡ Some f → x.own ≡ [] →
    (st == kernel_apc) ≡ false → e.what ≡ Rewait f.name (Status st) → frames_after s n due e x ≡ at_innermost (awaiting None) x
rewait_over s n due e x f st h q o b k =
    after_rewait s n due e x f (Status st) h q o k
    ∙ stays (at_innermost (rewaited (Status st)) x) x x.running refl (running-at_innermost (rewaited (Status st)) x)
    ∙ at_innermost_by (rewaited (Status st)) (awaiting None) x (λ g. ap (λ (w : Option Again). record g { again = w }) (rw b))

-- blocked once more: `switch_away`
pub rewait_blocked : (s : Script) (n : ℕ) (due : Option ℕ) (e : Event) (x : Frames) (f : Frame) → IsOurs s e x → innermost x ≡ Some f → x.own ≡ [] →
    e.what ≡ Rewait f.name Blocked → frames_after s n due e x ≡ stopped x
rewait_blocked s n due e x f h q o k =
    after_rewait s n due e x f Blocked h q o k ∙ ap stopped (at_innermost_id x)

-- ---- a thread that is taken up with its frames

-- with no status, or with that of a kernel APC: `switch_to` alone
pub switch_on : (s : Script) (n : ℕ) (due : Option ℕ) (e : Event) (x : Frames) (t : ThreadNo) (f : Frame) → length x.threads ≡ length s.threads →
    t.0 < length x.threads → x.own ≡ [] → e.thread ≡ Some t → e.what ≡ Switch t None → head_of (frames_in x.threads t) ≡ Some f →
    frames_after s n due e x ≡ taken t x
switch_on s n due e x t f l b o i k q =
    after_switch s n due e x t None f l b o i k q ∙ at_innermost_id (taken t x)

-- a switch to a thread whose wait a kernel APC interrupted takes it up and keeps its frames as they were
pub switch_again : (s : Script) (n : ℕ) (due : Option ℕ) (e : Event) (x : Frames) (t : ThreadNo) (f : Frame) → length x.threads ≡ length s.threads →
    t.0 < length x.threads → x.own ≡ [] → e.thread ≡ Some t → e.what ≡ Switch t (Some kernel_apc) → head_of (frames_in x.threads t) ≡ Some f →
    frames_after s n due e x ≡ taken t x
switch_again s n due e x t f l b o i k q =
    after_switch s n due e x t (Some kernel_apc) f l b o i k q ∙ at_innermost_id (taken t x)

-- with another status the wait is over: `set_again` to None
pub switch_over : (s : Script) (n : ℕ) (due : Option ℕ) (e : Event) (x : Frames) (t : ThreadNo) (st : ℕ) (f : Frame) → length x.threads ≡ length s.threads →
    t.0 < length x.threads → x.own ≡ [] → e.thread ≡ Some t → (st == kernel_apc) ≡ false → e.what ≡ Switch t (Some st) →
    head_of (frames_in x.threads t) ≡ Some f → frames_after s n due e x ≡ at_innermost (awaiting None) (taken t x)
switch_over s n due e x t st f l b o i z k q =
    after_switch s n due e x t (Some st) f l b o i k q
    ∙ at_innermost_by (resumed (Some st)) (awaiting None) (taken t x) (λ g. ap (λ (w : Option Again). record g { again = w }) (rw z))
