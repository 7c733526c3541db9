-- What holds of a processor at any time holds after each event.
use Rattle.std.proofs.Common.{◌∙◌}
use Rattle.std.specs.Prelude.{Bool, List, None, Option, [], false, if◌then◌else◌, is_none, refl, true, ℕ, ◌&&◌, ◌==◌, ◌||◌, ◌∷◌, ◌≡◌}
use Rattle.nt_event.specs.declared.commands.Command.{Command}
use Rattle.nt_event.specs.declared.commands.Command.TheVariants.{Delay, EnterCrit, EnterGuard, LeaveCrit, LeaveGuard, Lower, Raise, StartWait}
use Rattle.nt_event.specs.declared.commands.Reply.{Reply}
use Rattle.nt_event.specs.declared.commands.Reply.TheVariants.{Spin, Blocked, Done, No, Refused, Status, Yes}
use Rattle.nt_event.specs.declared.events.Begun.TheVariants.{Apc, Dpc, Int, Threaded}
use Rattle.nt_event.specs.declared.events.What.{What}
use Rattle.nt_event.specs.declared.events.What.TheVariants.{Free, Begin, Call, End}
use Rattle.nt_event.specs.declared.frames.Again.{Again}
use Rattle.nt_event.specs.Frame.{Frame}
use Rattle.nt_event.specs.declared.scripts.Script.{Script}
use Rattle.nt_event.specs.Frames.{freed, Frames, again_after, at_name, called, done_to, own_after, without}
use Rattle.nt_event.specs.Replies.{is_done, is_refused}
use Rattle.nt_frame.specs.Nesting.{HaveNoWaits}
use Rattle.nt_frame.specs.Rules.{refusal_in}
use Rattle.nt_cpu.specs.Fits.{Allow, may_call, may_reply}

-- no frame of the own part has a wait

-- changing a named frame without giving it a wait leaves all frames without waits
waits_at_name : (m : ℕ) (g : Frame → Frame) (fs : List Frame) → ((f : Frame) → f.again ≡ None → (g f).again ≡ None) → HaveNoWaits fs →
    HaveNoWaits (at_name m g fs)
waits_at_name m g [] k h = tt
waits_at_name m g (f ∷ fs) k h = (go (f.name == m), h.1)
  where
    go : (b : Bool) → (if b then g f else f).again ≡ None
    go true = k f h.0
    go false = h.0

-- taking a frame away leaves the others without waits
waits_without : (m : ℕ) (fs : List Frame) → HaveNoWaits fs → HaveNoWaits (without m fs)
waits_without m [] h = tt
waits_without m (f ∷ fs) h = go (f.name == m)
  where
    go : (b : Bool) → HaveNoWaits (if b then fs else (f ∷ fs))
    go true = h.1
    go false = h

-- a refused call, or one of no wait, sets no wait
abbrev pub is_wait : Command → Bool
is_wait (StartWait m a) = true
is_wait (Delay m a u) = true
is_wait _ = false

-- a refused wait leaves no wait to take up if there was none
wait_none : (y : Reply) (m : Option Again) (old : Option Again) → is_refused y ≡ true → old ≡ None → again_after y m old ≡ None
wait_none (Refused r) m old h k = k
wait_none Done m old h k = absurd cc
wait_none Spin m old h k = absurd cc
wait_none Yes m old h k = absurd cc
wait_none No m old h k = absurd cc
wait_none (Status st) m old h k = absurd cc
wait_none Blocked m old h k = absurd cc

-- a done command leaves the frame's wait to take up as it was
done_again : (c : Command) (f : Frame) → (done_to c f).again ≡ f.again
done_again (Raise l) f = refl
done_again (Lower l) f = refl
done_again EnterCrit f = refl
done_again EnterGuard f = refl
done_again LeaveCrit f = refl
done_again LeaveGuard f = refl
done_again _ f = refl

-- a call leaves a frame without a wait, if it is no wait or the wait was refused
sets_none : (due : Option ℕ) (c : Command) (y : Reply) (f : Frame) → (is_wait c ≡ true → is_refused y ≡ true) → f.again ≡ None → (called due c y f).again ≡ None
sets_none due (StartWait m a) y f h k = wait_none y _ f.again (h refl) k
sets_none due (Delay m a u) y f h k = wait_none y _ f.again (h refl) k
sets_none due c y f h k = go (is_done y)
  where
    go : (b : Bool) → (if b then done_to c f else f).again ≡ None
    go true = done_again c f ∙ k
    go false = k

-- a wait that is called by a routine of the own part is refused
own_refuses : (c : Command) (x : Frames) (g : Frame) (gs : List Frame) → x.own ≡ g ∷ gs → is_wait c ≡ true → is_none (refusal_in c x) ≡ false
own_refuses (StartWait m a) x g gs e h = rw e refl
own_refuses (Delay m a u) x g gs e h = rw e refl
own_refuses _ x g gs e h = absurd cc

-- a wait called by a frame of the processor's own is refused
is_refused_there : (c : Command) (y : Reply) (x : Frames) (g : Frame) (gs : List Frame) → x.own ≡ g ∷ gs → may_call c y x ≡ true → is_wait c ≡ true →
    is_refused y ≡ true
is_refused_there c y x g gs e m h =
    let n : is_none (refusal_in c x) ≡ false = own_refuses c x g gs e h in go (is_refused y) refl (rw n at m)
  where
    go : (b : Bool) → is_refused y ≡ b → (b || (false && may_reply c y)) ≡ true → is_refused y ≡ true
    go true q k = q
    go false q k = absurd cc

-- a call that is allowed leaves the processor's own frames without waits
waits_call : (m : ℕ) (due : Option ℕ) (f : ℕ) (c : Command) (y : Reply) (x : Frames) → may_call c y x ≡ true → HaveNoWaits x.own →
    HaveNoWaits (at_name f (called due c y) x.own)
waits_call m due f c y x a h = go x.own refl
  where
    go : (fs : List Frame) → x.own ≡ fs → HaveNoWaits (at_name f (called due c y) x.own)
    go [] e = rw e tt
    go (g ∷ gs) e =
        waits_at_name f (called due c y) x.own (λ q k. sets_none due c y q (is_refused_there c y x g gs e a) k) h

-- no frame of a processor's own part has a wait to take up after an event that the frames allow
pub waits_after : (s : Script) (m : ℕ) (due : Option ℕ) (w : What) (x : Frames) → Allow s w x → HaveNoWaits x.own → HaveNoWaits (own_after m due w x.own)
waits_after s m due (Begin (Int l) from) x a h = (refl, h)
waits_after s m due (Begin (Dpc d) from) x a h = (refl, h)
waits_after s m due (Begin (Threaded d) from) x a h = (refl, h)
waits_after s m due (Begin (Apc p) from) x a h = h
waits_after s m due (Call f c y) x a h = waits_call m due f c y x a.1 h
waits_after s m due (Free f l) x a h = waits_at_name f freed x.own (λ q k. k) h
waits_after s m due (End f) x a h = waits_without f x.own h
waits_after s m due _ x a h = h
