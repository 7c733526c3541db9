-- What the calls of the frames leave is what an event leaves.
use Rattle.std.proofs.Common.{ap, sym, ◌∙◌}
use Rattle.std.proofs.lemmas.List.{get_or-set_same}
use Rattle.std.specs.Prelude.{Bool, IsSome, List, None, Option, Some, [], false, get_or, if◌then◌else◌, is_none, option_map, refl, true, ℕ, ◌<◌, ◌∷◌, ◌≡◌}
use Rattle.nt_event.specs.declared.commands.Command.{Command}
use Rattle.nt_event.specs.declared.commands.Command.TheVariants.{Acquire, Delay, EnterCrit, EnterGuard, LeaveCrit, LeaveGuard, Lower, Raise, StartWait, Unlock}
use Rattle.nt_event.specs.declared.commands.Command.TheVariants.{Yield}
use Rattle.nt_event.specs.declared.commands.Reply.{Reply}
use Rattle.nt_event.specs.declared.commands.Reply.TheVariants.{Blocked, Done, No, Refused, Spin, Status, Yes}
use Rattle.nt_event.specs.declared.frames.Again.{Again}
use Rattle.nt_event.specs.Locks.{Frees, Gets, LockMove, NoMove, Spins, call_move}
use Rattle.nt_event.specs.declared.events.What.TheVariants.{Call}
use Rattle.nt_event.specs.Frame.{Frame}
use Rattle.nt_event.specs.declared.numbers.LockNo.{LockNo}
use Rattle.nt_event.specs.declared.numbers.ThreadNo.{ThreadNo}
use Rattle.nt_event.specs.Calls.{stops, wait_begun}
use Rattle.nt_event.specs.Frames.{Frames, again_after, at_head, called, done_to, effect, effect_by, innermost, running_after, thread_part}
use Rattle.nt_event.specs.Lists.{head_of, is_null}
use Rattle.nt_event.specs.Replies.{is_done, is_spin}
use Rattle.nt_frame.specs.Changes.{advanced, at_innermost, on_running}
use Rattle.nt_frame.specs.Nesting.{AreNested}
use Rattle.nt_event.proofs.Booleans.{and_right}
use Rattle.nt_frame.specs.Rules.{refusal_in}
use Rattle.nt_cpu.specs.Fits.{may_call, may_reply}
use Rattle.nt_cpu.specs.Moved.{command_done, effect_made, moved}
use Rattle.nt_frame.proofs.Twice.{at_innermost-at_innermost, at_innermost_by, at_innermost_id, running-at_innermost}

-- a change that makes of each frame the frame itself
unchanged : (g : Frame → Frame) (x : Frames) → ((f : Frame) → g f ≡ f) → x ≡ at_innermost g x
unchanged g x h = sym (at_innermost_by g (λ f. f) x h ∙ at_innermost_id x)

-- another command changes its frame where it is done
other_effect : (due : Option ℕ) (c : Command) (y : Reply) (f : Frame) → wait_begun due c ≡ None → effect due c y f ≡ (if is_done y then done_to c f else f)
other_effect due (StartWait m a) y f h = cc
other_effect due (Delay m a units) y f h = cc
other_effect due _ y f h = refl

-- only a command that is done, or spins, moves a lock
no_move : (c : Command) (y : Reply) → is_done y ≡ false → is_spin y ≡ false → call_move c y ≡ NoMove
no_move (Acquire k) Done d p = absurd (cc)
no_move (Acquire k) Spin d p = absurd (cc)
no_move (Unlock k) Done d p = absurd (cc)
no_move c y d p = refl

-- a call that begins no wait, is not done and does not spin changes nothing in the innermost frame
pub undone : (due : Option ℕ) (c : Command) (y : Reply) (x : Frames) → wait_begun due c ≡ None → is_done y ≡ false → is_spin y ≡ false →
    x ≡ at_innermost (effect_made due c y) x
undone due c y x h d p =
    unchanged (effect_made due c y) x (λ f. ap (λ (m : LockMove). moved m (effect due c y f)) (no_move c y d p) ∙ (other_effect due c y f h ∙ rw d))

-- one that is done has its effect
pub done_made : (due : Option ℕ) (c : Command) (y : Reply) (x : Frames) → wait_begun due c ≡ None → is_done y ≡ true →
    at_innermost (command_done c) x ≡ at_innermost (effect_made due c y) x
done_made due c Done x h d =
    at_innermost_by (command_done c) (effect_made due c Done) x (λ f. ap (moved (call_move c Done)) (sym (other_effect due c Done f h)))
done_made due c Spin x h d = absurd (cc)
done_made due c Yes x h d = absurd (cc)
done_made due c No x h d = absurd (cc)
done_made due c (Status status) x h d = absurd (cc)
done_made due c Blocked x h d = absurd (cc)
done_made due c (Refused why) x h d = absurd (cc)

-- spinning on a lock in the innermost frame is the effect of a call that spins
pub spin_made : (due : Option ℕ) (c : Command) (y : Reply) (x : Frames) → wait_begun due c ≡ None → is_spin y ≡ true →
    at_innermost (moved (call_move c Spin)) x ≡ at_innermost (effect_made due c y) x
spin_made due c Spin x h d =
    at_innermost_by (moved (call_move c Spin)) (effect_made due c Spin) x (λ f. ap (moved (call_move c Spin)) (sym (other_effect due c Spin f h)))
spin_made due c Done x h d = absurd (cc)
spin_made due c Yes x h d = absurd (cc)
spin_made due c No x h d = absurd (cc)
spin_made due c (Status status) x h d = absurd (cc)
spin_made due c Blocked x h d = absurd (cc)
spin_made due c (Refused why) x h d = absurd (cc)

-- a command that begins a wait moves no lock
pub wait_made : (due : Option ℕ) (c : Command) (y : Reply) (w : Again) (x : Frames) → wait_begun due c ≡ Some w →
    at_innermost (λ f. record f { again = again_after y (Some w) f.again }) x ≡ at_innermost (effect_made due c y) x
wait_made due (StartWait m a) y w x h = at_innermost_by _ (effect_made due (StartWait m a) y) x
    (λ f. ap (λ (o : Option Again). effect_by o (StartWait m a) y f) (sym h))
wait_made due (Delay m a u) y w x h = at_innermost_by _ (effect_made due (Delay m a u) y) x
    (λ f. ap (λ (o : Option Again). effect_by o (Delay m a u) y f) (sym h))
wait_made due _ y w x h = cc

-- the innermost frame of a part is changed
head-at_head : (g : Frame → Frame) (fs : List Frame) → head_of (at_head g fs) ≡ option_map g (head_of fs)
head-at_head g [] = refl
head-at_head g (f ∷ fs) = refl

-- the part of the running thread is changed
pub thread_part_changed : (g : List Frame → List Frame) (x : Frames) → AreNested x → g [] ≡ [] → thread_part (on_running g x.running x) ≡ g (thread_part x)
thread_part_changed g x h z = go x.running refl
  where
    go : (r : Option ThreadNo) → x.running ≡ r → thread_part (on_running g r x) ≡ g (thread_part x)
    go None e = rw e (sym z)
    go (Some t) e = rw e (get_or-set_same x.threads t.0 (g (get_or x.threads t.0 [])) [] (rw e at h.running))

-- changing the running thread's part leaves the processor's own part
pub on_running_own : (g : List Frame → List Frame) (x : Frames) (r : Option ThreadNo) → (on_running g r x).own ≡ x.own
on_running_own g x None = refl
on_running_own g x (Some t) = refl

-- the innermost frame after a change of it
pub innermost-at_innermost : (g : Frame → Frame) (x : Frames) → AreNested x → innermost (at_innermost g x) ≡ option_map g (innermost x)
innermost-at_innermost g x h = go x.own refl
  where
    go : (os : List Frame) → x.own ≡ os → innermost (at_innermost g x) ≡ option_map g (innermost x)
    go [] e =
        let n : is_null x.own ≡ true = rw e refl in
        let o : (on_running (at_head g) x.running x).own ≡ [] = on_running_own (at_head g) x x.running ∙ e in
        let t : thread_part (on_running (at_head g) x.running x) ≡ at_head g (thread_part x) = thread_part_changed (at_head g) x h refl in
        rw (n, o, t, e) (head-at_head g (thread_part x))
    go (y ∷ ys) e =
        let n : is_null x.own ≡ false = rw e refl in rw (n, e) refl

-- a done command leaves the frame's place
done_place : (c : Command) (f : Frame) → (done_to c f).place ≡ f.place
done_place (Raise l) f = refl
done_place (Lower l) f = refl
done_place EnterCrit f = refl
done_place EnterGuard f = refl
done_place LeaveCrit f = refl
done_place LeaveGuard f = refl
done_place _ f = refl

-- a choice between two frames with the same place has that place
if_place : (b : Bool) (g f : Frame) → g.place ≡ f.place → (if b then g else f).place ≡ f.place
if_place true g f h = h
if_place false g f h = refl

-- a move of a lock leaves the frame's place
moved_place : (m : LockMove) (f : Frame) → (moved m f).place ≡ f.place
moved_place (Gets k) f = refl
moved_place (Spins k) f = refl
moved_place (Frees k) f = refl
moved_place NoMove f = refl

-- a call's effect leaves the place
effect_place : (due : Option ℕ) (c : Command) (y : Reply) (f : Frame) → (effect due c y f).place ≡ f.place
effect_place due (StartWait m a) y f = refl
effect_place due (Delay m a u) y f = refl
effect_place due c y f = if_place (is_done y) (done_to c f) f (done_place c f)

-- the effect of a call leaves the place of its frame
pub made_place : (due : Option ℕ) (c : Command) (y : Reply) (f : Frame) → (effect_made due c y f).place ≡ f.place
made_place due c y f = moved_place (call_move c y) (effect due c y f) ∙ effect_place due c y f

-- the effect of a call that is no spin, advanced, is the call as called
called_made : (due : Option ℕ) (c : Command) (y : Reply) (f : Frame) → is_spin y ≡ false → advanced (effect_made due c y f) ≡ called due c y f
called_made due c Spin f h = absurd (cc)
called_made due (Raise l) Done f h = refl
called_made due (Lower l) Done f h = refl
called_made due EnterCrit Done f h = refl
called_made due EnterGuard Done f h = refl
called_made due LeaveCrit Done f h = refl
called_made due LeaveGuard Done f h = refl
called_made due (StartWait m a) Done f h = refl
called_made due (Delay m a u) Done f h = refl
called_made due (Acquire k) Done f h = refl
called_made due (Unlock k) Done f h = refl
called_made due (Raise l) Yes f h = refl
called_made due (Raise l) No f h = refl
called_made due (Raise l) (Status status) f h = refl
called_made due (Raise l) Blocked f h = refl
called_made due (Raise l) (Refused why) f h = refl
called_made due c y f h = refl

-- a try that spins is at its place
called_spun : (due : Option ℕ) (c : Command) (y : Reply) (f : Frame) → is_spin y ≡ true → may_reply c y ≡ true → effect_made due c y f ≡ called due c y f
called_spun due c Done f h r = absurd (cc)
called_spun due c Yes f h r = absurd (cc)
called_spun due c No f h r = absurd (cc)
called_spun due c (Status status) f h r = absurd (cc)
called_spun due c Blocked f h r = absurd (cc)
called_spun due c (Refused why) f h r = absurd (cc)
called_spun due (Acquire k) Spin f h r = refl
called_spun due c Spin f h r = absurd (cc)

-- the effect of a call, and then its place
pub then_advanced : (due : Option ℕ) (c : Command) (y : Reply) (x : Frames) → AreNested x → is_spin y ≡ false →
    at_innermost advanced (at_innermost (effect_made due c y) x) ≡ at_innermost (called due c y) x
then_advanced due c y x h p =
    at_innermost-at_innermost advanced (effect_made due c y) x h
    ∙ at_innermost_by (λ f. advanced (effect_made due c y f)) (called due c y) x (λ f. called_made due c y f p)

-- who runs after a call
pub call_runs : (n : ℕ) (c : Command) (y : Reply) (r : Option ThreadNo) → running_after (Call n c y) r ≡ (if stops c y then None else r)
call_runs n c y r = refl

-- no thread runs after a call that stops its thread
pub stopped_runs : (c : Command) (y : Reply) (r : Option ThreadNo) → stops c y ≡ true → running_after (Call 0 c y) r ≡ None
stopped_runs c y r h = call_runs 0 c y r ∙ rw h refl

-- the running thread still runs after a call that does not stop it
pub going_runs : (c : Command) (y : Reply) (r : Option ThreadNo) → stops c y ≡ false → running_after (Call 0 c y) r ≡ r
going_runs c y r h = call_runs 0 c y r ∙ rw h refl

-- ---- a call, as the calls of the frames make it

-- changing the innermost frame leaves one, if there was one
pub some_changed : (g : Frame → Frame) (x y : Frames) → AreNested x → y ≡ at_innermost g x → IsSome (innermost x) → IsSome (innermost y)
some_changed g x y h e q = rw (e, innermost-at_innermost g x h) (go (innermost x) q)
  where
    go : (o : Option Frame) → IsSome o → IsSome (option_map g o)
    go None k = k
    go (Some f) k = k

-- the innermost frame's place stays below a number when a call's effect is done to it
pub place_changed : (due : Option ℕ) (c : Command) (y : Reply) (x z : Frames) (n : ℕ) → AreNested x → z ≡ at_innermost (effect_made due c y) x →
    ((f : Frame) → innermost x ≡ Some f → f.place < n) → (f : Frame) → innermost z ≡ Some f → f.place < n
place_changed due c y x z n h e b f k =
    go (innermost x) refl (sym (innermost-at_innermost (effect_made due c y) x h) ∙ (ap innermost (sym e) ∙ k))
  where
    go : (o : Option Frame) → innermost x ≡ o → option_map (effect_made due c y) o ≡ Some f → f.place < n
    go None q i = absurd cc
    go (Some g) q i =
        let j : effect_made due c y g ≡ f = cc in rw (← j, made_place due c y g) (b g q)

-- effect, one more call and no running thread together are what a call that stops its thread leaves
pub called_stopped : (due : Option ℕ) (c : Command) (y : Reply) (x a b d : Frames) → AreNested x → is_spin y ≡ false →
    a ≡ at_innermost (effect_made due c y) x → b ≡ at_innermost advanced a → d ≡ record b { running = None } → stops c y ≡ true →
    d ≡ record (at_innermost (called due c y) x) { running = running_after (Call 0 c y) x.running }
called_stopped due c y x a b d h i p q r t =
    r
    ∙ ap (λ (z : Frames). record z { running = None }) (q ∙ (ap (at_innermost advanced) p ∙ then_advanced due c y x h i))
    ∙ ap (λ (o : Option ThreadNo). record (at_innermost (called due c y) x) { running = o }) (sym (stopped_runs c y x.running t))

-- effect and one more call together are what a call that neither spins nor stops its thread leaves
pub called_going : (due : Option ℕ) (c : Command) (y : Reply) (x a b : Frames) → AreNested x → is_spin y ≡ false → a ≡ at_innermost (effect_made due c y) x → b
    ≡ at_innermost advanced a → stops c y ≡ false → b ≡ record (at_innermost (called due c y) x) { running = running_after (Call 0 c y) x.running }
called_going due c y x a b h i p q t =
    q
    ∙ ap (at_innermost advanced) p
    ∙ then_advanced due c y x h i
    ∙ ap (λ (o : Option ThreadNo). record (at_innermost (called due c y) x) { running = o })
    (running-at_innermost (called due c y) x ∙ sym (going_runs c y x.running t))

-- a try that spins stops nobody
spun_goes : (c : Command) (y : Reply) → is_spin y ≡ true → stops c y ≡ false
spun_goes Yield Spin h = refl
spun_goes c Spin h = refl
spun_goes c y h = absurd (cc)

-- the effect alone is what a call that spins leaves
pub called_spins : (due : Option ℕ) (c : Command) (y : Reply) (x a : Frames) → is_spin y ≡ true → may_reply c y ≡ true →
    a ≡ at_innermost (effect_made due c y) x →
    a ≡ record (at_innermost (called due c y) x) { running = running_after (Call 0 c y) x.running }
called_spins due c y x a h r p =
    p
    ∙ at_innermost_by (effect_made due c y) (called due c y) x (λ f. called_spun due c y f h r)
    ∙ ap (λ (o : Option ThreadNo). record (at_innermost (called due c y) x) { running = o })
    (running-at_innermost (called due c y) x ∙ sym (going_runs c y x.running (spun_goes c y h)))

-- a reply that spins is one that the command may have
pub spun_reply : (c : Command) (y : Reply) (x : Frames) → is_spin y ≡ true → may_call c y x ≡ true → may_reply c y ≡ true
spun_reply c Spin x h m = and_right (is_none (refusal_in c x)) (may_reply c Spin) m
spun_reply c y x h m = absurd (cc)

-- another command than a try of a lock never spins, and moves none
pub never_spins : (c : Command) (x : Frames) → ((k : LockNo) → c ≡ Acquire k → ⊥) → x ≡ at_innermost (moved (call_move c Spin)) x
never_spins (Acquire k) x n = absurd (n k refl)
never_spins (Raise l) x n = unchanged (moved NoMove) x (λ f. refl)
never_spins c x n = unchanged (moved NoMove) x (λ f. refl)
