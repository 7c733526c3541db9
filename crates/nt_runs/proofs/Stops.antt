-- Where a thread stops running: it blocks in a wait, yields, or is gone. No wait is made on a processor's own part.
use Rattle.std.proofs.Common.{ap, inl, inr, subst, sym, ◌∙◌}
use Rattle.std.specs.Option.{option_or}
use Rattle.std.specs.Prelude.{Bool, List, None, Option, Some, [], false, if◌then◌else◌, length, not, refl, true, ℕ, ◌==◌, ◌∷◌, ◌≡◌, ◌⊎◌}
use Rattle.nt_event.specs.declared.commands.Command.{Command}
use Rattle.nt_event.specs.declared.commands.Command.TheVariants.{Acquire, Alert, CancelTimer, Delay, InsertApc, Queue, Raise, Release, RemoveApc, SetTimer}
use Rattle.nt_event.specs.declared.commands.Command.TheVariants.{StartWait, TestAlert, Unqueue, Yield}
use Rattle.nt_event.specs.declared.commands.Refusal.{Refusal}
use Rattle.nt_event.specs.declared.commands.Refusal.TheVariants.{NotThread}
use Rattle.nt_event.specs.declared.commands.Regions.{Regions}
use Rattle.nt_event.specs.declared.commands.Reply.{Reply}
use Rattle.nt_event.specs.declared.commands.Reply.TheVariants.{Blocked, Done, Refused, Spin}
use Rattle.nt_event.specs.declared.events.Begun.TheVariants.{Apc, Dpc, Int, Threaded}
use Rattle.nt_event.specs.declared.events.Event.{Event}
use Rattle.nt_event.specs.declared.events.What.{What}
use Rattle.nt_event.specs.declared.events.What.TheVariants.{Begin, Call, End, Free}
use Rattle.nt_event.specs.Frame.{Frame}
use Rattle.nt_event.specs.declared.jobs.Stand.{Stand}
use Rattle.nt_event.specs.declared.numbers.CpuNo.{CpuNo}
use Rattle.nt_event.specs.declared.scripts.Script.{Script}
use Rattle.nt_event.specs.Commands.{refusal, refuse, reply}
use Rattle.nt_event.specs.Frames.{at_name, called, done_to, due_of, freed, own_after, own_frames, thread_part, time, without}
use Rattle.nt_event.specs.Jobs.{level_at}
use Rattle.nt_event.specs.Lanes.{Lanes, lanes_at}
use Rattle.nt_event.specs.Own.{Own, own_of, stand_in}
use Rattle.nt_event.specs.Regions.{regions_of}
use Rattle.nt_event.specs.Step.{IsRun}
use Rattle.nt_event.specs.Lists.{head_of, is_null}
use Rattle.nt_event.specs.Numbers.{is_of}
use Rattle.nt_event.specs.Replies.{is_refused, yes_if}
use Rattle.nt_runs.proofs.Known.{Known, KnownCall, KnownRewait, legal_known, refusal_in, reply_or}
use Rattle.nt_runs.proofs.Running.{same_cpu}
use Rattle.nt_runs.proofs.Turns.{is_next}

-- ---- a wait blocks on a thread's part alone

abbrev pub is_wait : Command → Bool
is_wait (StartWait m a) = true
is_wait (Delay m a u) = true
is_wait c = false

-- an answer of yes or no never blocks
yes_blocked : (b : Bool) → yes_if b ≡ Blocked → ⊥
yes_blocked true h = cc
yes_blocked false h = cc

-- a lock's answer of done or spin never blocks
spin_blocked : (b : Bool) → (if b then Done else Spin) ≡ Blocked → ⊥
spin_blocked true h = cc
spin_blocked false h = cc

-- a command whose reply blocks is a wait or a delay
reply_blocked : (s : Script) (st : Stand) (l : Lanes) (c : Command) → reply s st l c ≡ Blocked → is_wait c ≡ true
reply_blocked s st l (StartWait m a) h = refl
reply_blocked s st l (Delay m a u) h = refl
reply_blocked s st l (Queue d) h = absurd (yes_blocked _ h)
reply_blocked s st l (Unqueue d) h = absurd (yes_blocked _ h)
reply_blocked s st l (SetTimer t due period) h = absurd (yes_blocked _ h)
reply_blocked s st l (CancelTimer t) h = absurd (yes_blocked _ h)
reply_blocked s st l (InsertApc a) h = absurd (yes_blocked _ h)
reply_blocked s st l (RemoveApc a) h = absurd (yes_blocked _ h)
reply_blocked s st l (Release t) h = absurd (yes_blocked _ h)
reply_blocked s st l (Alert t m) h = absurd (yes_blocked _ h)
reply_blocked s st l (TestAlert m) h = absurd (yes_blocked _ h)
reply_blocked s st l (Acquire k) h = absurd (spin_blocked _ h)
reply_blocked s st l c h = cc

-- an accepted wait or yield is called on a thread's part
abbrev pub is_thread_call : Command → Bool
is_thread_call (StartWait m a) = true
is_thread_call (Delay m a u) = true
is_thread_call Yield = true
is_thread_call c = false

-- a test that refuses nothing found its condition false
pub refuse_none : (b : Bool) (r : Refusal) (o : Option Refusal) → refuse b r o ≡ None → b ≡ false
refuse_none true r o h = cc
refuse_none false r o h = refl

-- an accepted wait, delay or yield is called on a thread's part
accepted_on_thread : (level : ℕ) (own : Bool) (r : Regions) (f : Frame) (c : Command) → is_thread_call c ≡ true → refusal level own r f c ≡ None → own ≡ false
accepted_on_thread level own r f (StartWait m a) k h = refuse_none own NotThread _ h
accepted_on_thread level own r f (Delay m a u) k h = refuse_none own NotThread _ h
accepted_on_thread level own r f Yield k h = refuse_none own NotThread _ h
accepted_on_thread level own r f c k h = cc

-- a wait or delay is a call that a thread makes
wait_is_thread_call : (c : Command) → is_wait c ≡ true → is_thread_call c ≡ true
wait_is_thread_call (StartWait m a) h = refl
wait_is_thread_call (Delay m a u) h = refl
wait_is_thread_call c h = cc

-- a reply that isn't a refusal is the one of an accepted command
not_refused : (o : Option Refusal) (y z : Reply) → y ≡ reply_or o z → is_refused y ≡ false → (o ≡ None) × (y ≡ z)
not_refused None y z e h = (refl, e)
not_refused (Some r) y z e h = let k : is_refused (Refused r) ≡ false = subst (λ (v : Reply). is_refused v ≡ false) e h in cc

-- a call that isn't refused is answered as its reply says, and its command isn't refused in its frame
pub call_accepted : (s : Script) (p : CpuNo) (x : Own) (l : Lanes) (n : ℕ) (c : Command) (y : Reply) → (k : KnownCall s p x l n c y) → is_refused y ≡ false →
    (refusal_in x k.frame c ≡ None) × (y ≡ reply s (stand_in p x) l c)
call_accepted s p x l n c y k h = not_refused (refusal_in x k.frame c) y (reply s (stand_in p x) l c) k.reply h

-- a truth value whose negation is false is true
pub null_of : (b : Bool) → not b ≡ false → b ≡ true
null_of true h = refl
null_of false h = cc

-- a blocked call is a wait, and no frame stands on the own part
pub blocked_call : (s : Script) (p : CpuNo) (x : Own) (l : Lanes) (n : ℕ) (c : Command) → KnownCall s p x l n c Blocked → (is_wait c ≡ true) ×
    (is_null x.frames.own ≡ true)
blocked_call s p x l n c k =
    let a = call_accepted s p x l n c Blocked k refl in
    let w : is_wait c ≡ true = reply_blocked s (stand_in p x) l c (sym a.1) in (
      w,
      null_of (is_null x.frames.own) (accepted_on_thread (level_at x) (not (is_null x.frames.own)) (regions_of (thread_part x.frames)) k.frame c
          (wait_is_thread_call c w) a.0),
    )

-- an accepted yield is made with an empty own part
pub yield_call : (s : Script) (p : CpuNo) (x : Own) (l : Lanes) (n : ℕ) → KnownCall s p x l n Yield Done → is_null x.frames.own ≡ true
yield_call s p x l n k =
    let a = call_accepted s p x l n Yield Done k refl in
    null_of (is_null x.frames.own) (accepted_on_thread (level_at x) (not (is_null x.frames.own)) (regions_of (thread_part x.frames)) k.frame Yield refl a.0)

-- ---- no frame on the own part has a wait to take up

abbrev pub NoneAgain : List Frame → Type 0
NoneAgain [] = Unit {0}
NoneAgain (f ∷ fs) = (f.again ≡ None) × NoneAgain fs

-- doing a command leaves the wait that its frame has to take up
done_again : (c : Command) (f : Frame) → (done_to c f).again ≡ f.again
done_again (Raise l) f = refl
done_again c f = refl

-- a call that is no accepted wait keeps it
pub effect_again : (due : Option ℕ) (c : Command) (y : Reply) (f : Frame) → (is_wait c ≡ false) ⊎ (is_refused y ≡ true) → (called due c y f).again ≡ f.again
effect_again due (StartWait m a) y f (inl h) = cc
effect_again due (StartWait m a) (Refused r) f (inr h) = refl
effect_again due (StartWait m a) y f (inr h) = cc
effect_again due (Delay m a u) y f (inl h) = cc
effect_again due (Delay m a u) (Refused r) f (inr h) = refl
effect_again due (Delay m a u) y f (inr h) = cc
effect_again due c Done f h = done_again c f
effect_again due c y f h = refl

-- a change by name that keeps waits to take up leaves frames without any, if they had none
named_again : (n : ℕ) (g : Frame → Frame) (fs : List Frame) → ((f : Frame) → (g f).again ≡ f.again) → NoneAgain fs → NoneAgain (at_name n g fs)
named_again n g [] k h = h
named_again n g (f ∷ fs) k h = (go (f.name == n), h.1)
  where
    go : (b : Bool) → (if b then g f else f).again ≡ None
    go true = k f ∙ h.0
    go false = h.0

-- taking out a frame by name leaves frames without waits to take up, if they had none
without_again : (n : ℕ) (fs : List Frame) → NoneAgain fs → NoneAgain (without n fs)
without_again n [] h = h
without_again n (f ∷ fs) h = go (f.name == n)
  where
    go : (b : Bool) → NoneAgain (if b then fs else (f ∷ fs))
    go true = h.1
    go false = h

-- with a frame on the own part, a call is no accepted wait
own_no_wait : (s : Script) (p : CpuNo) (x : Own) (l : Lanes) (n : ℕ) (c : Command) (y : Reply) → KnownCall s p x l n c y → is_null x.frames.own ≡ false →
    (is_wait c ≡ false) ⊎ (is_refused y ≡ true)
own_no_wait s p x l n c y k own = go (is_wait c) (is_refused y) refl refl
  where
    go : (w r : Bool) → is_wait c ≡ w → is_refused y ≡ r → (is_wait c ≡ false) ⊎ (is_refused y ≡ true)
    go false r a b = inl a
    go true true a b = inr b
    go true false a b =
        let k2 = call_accepted s p x l n c y k b in
        let m : not (is_null x.frames.own) ≡ false = accepted_on_thread (level_at x) (not (is_null x.frames.own)) (regions_of (thread_part x.frames)) k.frame c
        (wait_is_thread_call c a) k2.0 in
        let o : is_null x.frames.own ≡ true = null_of (is_null x.frames.own) m in
        cc

-- what a known event leaves of the own part
own_again : (s : Script) (p : CpuNo) (x : Own) (l : Lanes) (n : ℕ) (due : Option ℕ) (w : What) (fs : List Frame) → x.frames.own ≡ fs →
    (is_next w ≡ true → Known s p x l w) → NoneAgain fs → NoneAgain (own_after n due w fs)
own_again s p x l n due (Begin (Int c) from) fs e k h = (refl, h)
own_again s p x l n due (Begin (Dpc d) from) fs e k h = (refl, h)
own_again s p x l n due (Begin (Threaded d) from) fs e k h = (refl, h)
own_again s p x l n due (Begin (Apc a) from) fs e k h = h
own_again s p x l n due (Call f c y) [] e k h = h
own_again s p x l n due (Call f c y) (g ∷ fs) e k h =
    named_again f (called due c y) (g ∷ fs) (λ x'. effect_again due c y x' (own_no_wait s p x l f c y (k refl) (ap (λ (gs : List Frame). is_null gs) e))) h
own_again s p x l n due (End f) fs e k h = without_again f fs h
own_again s p x l n due (Free f c) fs e k h = named_again f freed fs (λ x'. refl) h
own_again s p x l n due w fs e k h = h

-- in a run no frame on a processor's own part has a wait to take up
pub none_again : (s : Script) (limit : ℕ) (p : CpuNo) (past : List Event) → IsRun s limit past → NoneAgain (own_frames p past)
none_again s limit p [] r = tt
none_again s limit p (e ∷ past) r = go (is_of e p) refl (none_again s limit p past r.1)
  where
    known : is_of e p ≡ true → is_next e.what ≡ true → Known s p (own_of s p past) (lanes_at s past) e.what
    known h n =
        subst (λ (q : CpuNo). Known s q (own_of s q past) (lanes_at s past) e.what) (same_cpu e p h) (legal_known s limit e past r.0 n)

    go : (b : Bool) → is_of e p ≡ b → NoneAgain (own_frames p past) →
        NoneAgain (if b then own_after (length past) (due_of e.what (time past)) e.what (own_frames p past) else own_frames p past)
    go true h ih =
        own_again s p (own_of s p past) (lanes_at s past) (length past) (due_of e.what (time past)) e.what (own_frames p past) refl (known h) ih
    go false h ih = ih

-- so a wait that is taken up again stands on a thread's part
pub rewait_on_thread : (p : CpuNo) (x : Own) (l : Lanes) (n : ℕ) (y : Reply) → KnownRewait p x l n y → NoneAgain x.frames.own → is_null x.frames.own ≡ true
rewait_on_thread p x l n y k h = go x.frames.own refl h
  where
    go : (fs : List Frame) → x.frames.own ≡ fs → NoneAgain fs → is_null fs ≡ true
    go [] e h = refl
    go (f ∷ fs) e h =
        let first : option_or (head_of (f ∷ fs)) (head_of (thread_part x.frames))
        ≡ Some k.frame = subst (λ (gs : List Frame). option_or (head_of gs) (head_of (thread_part x.frames)) ≡ Some k.frame) e k.goes_on.inner in
        let same : f ≡ k.frame = cc in
        let none : k.frame.again ≡ None = ap (λ (g : Frame). g.again) (sym same) ∙ h.0 in
        let some = k.again in
        cc
