-- In a run the open frames of a processor have different names; so a call changes the innermost frame alone, and a leaving base
-- stays at PASSIVE_LEVEL, and a frame with a wait to take up stays at APC_LEVEL or below.
use Rattle.std.proofs.Common.{arith, subst, sym, ◌∙◌}
use Rattle.std.specs.Prelude.{Bool, List, None, Option, Some, [], false, if◌then◌else◌, length, refl, suc, true, ℕ, ◌<◌, ◌==◌, ◌∷◌, ◌≡◌, ◌≤◌}
use Rattle.nt_event.specs.declared.commands.Command.{Command}
use Rattle.nt_event.specs.declared.commands.Command.TheVariants.{Delay, Raise, StartWait}
use Rattle.nt_event.specs.declared.commands.Reply.{Reply}
use Rattle.nt_event.specs.declared.commands.Reply.TheVariants.{Done}
use Rattle.nt_event.specs.declared.events.Begun.TheVariants.{Apc, Dpc, Int, Threaded}
use Rattle.nt_event.specs.declared.events.Event.{Event}
use Rattle.nt_event.specs.declared.events.What.{What}
use Rattle.nt_event.specs.declared.events.What.TheVariants.{Begin, Call, End, Flush, Free, Gone, Normal, Rewait, Switch}
use Rattle.nt_event.specs.declared.frames.Body.TheVariants.{Apc as OnApc, Base as OnBase, Rundown as OnRundown}
use Rattle.nt_event.specs.Frame.{Frame}
use Rattle.nt_event.specs.declared.numbers.CpuNo.{CpuNo}
use Rattle.nt_event.specs.declared.numbers.RoutineNo.{RoutineNo}
use Rattle.nt_event.specs.declared.numbers.ThreadNo.{ThreadNo}
use Rattle.nt_event.specs.declared.scripts.Script.{Script}
use Rattle.nt_event.specs.Frames.{at_name, called, done_to, due_of, end_on_thread, ended_base, flushed, freed, is_base_body, new_frame, normal_of, own_after}
use Rattle.nt_event.specs.Frames.{own_frames, resumed, rewaited, thread_after, thread_frames, time, without}
use Rattle.nt_event.specs.Routines.{kind_of, rundown_of}
use Rattle.nt_event.specs.Numbers.{is_by, is_of}
use Rattle.nt_runs.proofs.Running.{frames_when}

-- ---- names

abbrev pub AllBelow : ℕ → List Frame → Type 0
AllBelow n [] = Unit {0}
AllBelow n (f ∷ fs) = (f.name < n) × AllBelow n fs

abbrev pub NotAmong : ℕ → List Frame → Type 0
NotAmong n [] = Unit {0}
NotAmong n (f ∷ fs) = (f.name ≡ n → ⊥) × NotAmong n fs

-- no frame of the one part has the name of one of the other
abbrev pub Apart : List Frame → List Frame → Type 0
Apart [] fs = Unit {0}
Apart (g ∷ gs) fs = NotAmong g.name fs × Apart gs fs

-- names below a bound are below each greater one
below_more : (n m : ℕ) (fs : List Frame) → n ≤ m → AllBelow n fs → AllBelow m fs
below_more n m [] l h = tt
below_more n m (f ∷ fs) l h = (omega (arith, l, h.0), below_more n m fs l h.1)

-- a number above all names of a list is none of them
new_among : (n : ℕ) (fs : List Frame) → AllBelow n fs → NotAmong n fs
new_among n [] h = tt
new_among n (f ∷ fs) h = (λ e. absurd (omega (arith, h.0, e)), new_among n fs h.1)

-- a change that keeps names
abbrev Naming : (Frame → Frame) → Type 0
Naming g = (f : Frame) → (g f).name ≡ f.name

-- doing a command leaves the name of its frame as it was
pub done_name : (c : Command) (f : Frame) → (done_to c f).name ≡ f.name
done_name (Raise l) f = refl
done_name c f = refl

-- a call leaves the name of its frame as it was
pub called_name : (due : Option ℕ) (c : Command) (y : Reply) (f : Frame) → (called due c y f).name ≡ f.name
called_name due (StartWait m a) y f = refl
called_name due (Delay m a u) y f = refl
called_name due c Done f = done_name c f
called_name due c y f = refl

-- coming back from a wait leaves the name of a frame as it was
pub resumed_name : (st : Option ℕ) (f : Frame) → (resumed st f).name ≡ f.name
resumed_name None f = refl
resumed_name (Some x) f = refl

-- a list whose names are among those of another
abbrev Within : List Frame → List Frame → Type 0
Within gs fs = ((n : ℕ) → AllBelow n fs → AllBelow n gs) × ((n : ℕ) → NotAmong n fs → NotAmong n gs)

-- a list of frames has names within its own
within_same : (fs : List Frame) → Within fs fs
within_same fs = (λ n h. h, λ n h. h)

-- a change of the first frame that keeps its name keeps the names of the list
within_head : (g : Frame → Frame) (f : Frame) (fs : List Frame) → (g f).name ≡ f.name → Within (g f ∷ fs) (f ∷ fs)
within_head g f fs e = (λ n h. (rw e h.0, h.1), λ n h. (λ x. h.0 (sym e ∙ x), h.1))

-- a change by name that keeps names keeps the names of the list
within_named : (n : ℕ) (g : Frame → Frame) (fs : List Frame) → Naming g → Within (at_name n g fs) fs
within_named n g [] k = within_same []
within_named n g (f ∷ fs) k = go (f.name == n)
  where
    go : (b : Bool) → Within ((if b then g f else f) ∷ fs) (f ∷ fs)
    go true = within_head g f fs (k f)
    go false = within_same (f ∷ fs)

-- the frames under the innermost one have names within all
within_tail : (f : Frame) (fs : List Frame) → Within fs (f ∷ fs)
within_tail f fs = (λ n h. h.1, λ n h. h.1)

-- taking out a frame by name leaves names within those before
within_without : (n : ℕ) (fs : List Frame) → Within (without n fs) fs
within_without n [] = within_same []
within_without n (f ∷ fs) = go (f.name == n)
  where
    go : (b : Bool) → Within (if b then fs else (f ∷ fs)) (f ∷ fs)
    go true = within_tail f fs
    go false = within_same (f ∷ fs)

-- the end of a thread's innermost frame leaves names within those before
within_end : (n : ℕ) (fs : List Frame) → Within (end_on_thread n fs) fs
within_end n [] = within_same []
within_end n (f ∷ fs) = go (f.name == n) (is_base_body f.body)
  where
    go : (b c : Bool) → Within (if b then (if c then (ended_base f ∷ fs) else fs) else (f ∷ fs)) (f ∷ fs)
    go true true = within_head ended_base f fs refl
    go true false = within_tail f fs
    go false c = within_same (f ∷ fs)

-- two lists of different names stay so when the second is cut to names within it
apart_within : (gs hs fs : List Frame) → Within hs fs → Apart gs fs → Apart gs hs
apart_within [] hs fs w h = tt
apart_within (g ∷ gs) hs fs w h = (w.1 g.name h.0, apart_within gs hs fs w h.1)

-- a new frame on the thread's part
apart_new : (gs : List Frame) (f : Frame) (fs : List Frame) → AllBelow f.name gs → Apart gs fs → Apart gs (f ∷ fs)
apart_new [] f fs b h = tt
apart_new (g ∷ gs) f fs b h = ((λ e. absurd (omega (arith, b.0, e)), h.0), apart_new gs f fs b.1 h.1)

-- a change by name that keeps names leaves the names of two parts different
apart_named : (n : ℕ) (g : Frame → Frame) (gs fs : List Frame) → Naming g → Apart gs fs → Apart (at_name n g gs) fs
apart_named n g [] fs k h = h
apart_named n g (x ∷ gs) fs k h = (go (x.name == n), h.1)
  where
    go : (b : Bool) → NotAmong (if b then g x else x).name fs
    go true = subst (λ (m : ℕ). NotAmong m fs) (sym (k x)) h.0
    go false = h.0

-- taking out a frame by name leaves the names of two parts different
apart_without : (n : ℕ) (gs fs : List Frame) → Apart gs fs → Apart (without n gs) fs
apart_without n [] fs h = h
apart_without n (g ∷ gs) fs h = go (g.name == n)
  where
    go : (b : Bool) → Apart (if b then gs else (g ∷ gs)) fs
    go true = h.1
    go false = h

-- ---- the names of a processor's own part and of one of its threads

pub record Named (n : ℕ) (gs fs : List Frame) : Type 0 where
  pub own : AllBelow n gs
  pub thread : AllBelow n fs
  pub apart : Apart gs fs

-- what an event of this number leaves of the own part
named_own : (n : ℕ) (due : Option ℕ) (w : What) (gs fs : List Frame) → Named n gs fs → AllBelow (suc n) (own_after n due w gs) × Apart (own_after n due w gs) fs
named_own n due (Begin (Int l) from) gs fs h =
    ((omega arith, below_more n (suc n) gs (omega arith) h.own), (new_among n fs h.thread, h.apart))
named_own n due (Begin (Dpc d) from) gs fs h =
    ((omega arith, below_more n (suc n) gs (omega arith) h.own), (new_among n fs h.thread, h.apart))
named_own n due (Begin (Threaded d) from) gs fs h =
    ((omega arith, below_more n (suc n) gs (omega arith) h.own), (new_among n fs h.thread, h.apart))
named_own n due (Begin (Apc a) from) gs fs h = (below_more n (suc n) gs (omega arith) h.own, h.apart)
named_own n due (Call f c y) gs fs h = (
  below_more n (suc n) (at_name f (called due c y) gs) (omega arith) ((within_named f (called due c y) gs (called_name due c y)).0 n h.own),
  apart_named f (called due c y) gs fs (called_name due c y) h.apart,
)
named_own n due (Free f k) gs fs h = (
  below_more n (suc n) (at_name f freed gs) (omega arith) ((within_named f freed gs (λ x. refl)).0 n h.own),
  apart_named f freed gs fs (λ x. refl) h.apart,
)
named_own n due (End f) gs fs h =
    (below_more n (suc n) (without f gs) (omega arith) ((within_without f gs).0 n h.own), apart_without f gs fs h.apart)
named_own n due w gs fs h = (below_more n (suc n) gs (omega arith) h.own, h.apart)

-- a part whose names are among those before
moved_thread : (n : ℕ) (gs hs fs : List Frame) → Within hs fs → Named n gs fs → AllBelow (suc n) hs × Apart gs hs
moved_thread n gs hs fs w h = (below_more n (suc n) hs (omega arith) (w.0 n h.thread), apart_within gs hs fs w h.apart)

-- and of the thread's part, where the own part is as before
named_thread : (s : Script) (n : ℕ) (due : Option ℕ) (w : What) (gs fs : List Frame) → Named n gs fs → AllBelow (suc n) (thread_after s n due w fs) ×
    Apart gs (thread_after s n due w fs)
named_thread s n due (Switch t st) gs [] h = ((omega arith, tt), apart_new gs (new_frame n (OnBase t)) [] h.own h.apart)
named_thread s n due (Switch t st) gs (f ∷ fs) h =
    moved_thread n gs (resumed st f ∷ fs) (f ∷ fs) (within_head (resumed st) f fs (resumed_name st f)) h
named_thread s n due (Begin (Apc a) from) gs fs h =
    ((omega arith, below_more n (suc n) fs (omega arith) h.thread), apart_new gs (new_frame n (OnApc a (kind_of s a))) fs h.own h.apart)
named_thread s n due (Flush a from) gs fs h = go (rundown_of s a)
  where
    go : (o : Option RoutineNo) → AllBelow (suc n) (flushed n a o fs) × Apart gs (flushed n a o fs)
    go None = (below_more n (suc n) fs (omega arith) h.thread, h.apart)
    go (Some r) =
        ((omega arith, below_more n (suc n) fs (omega arith) h.thread), apart_new gs (new_frame n (OnRundown a)) fs h.own h.apart)
named_thread s n due (Call f c y) gs fs h =
    moved_thread n gs (at_name f (called due c y) fs) fs (within_named f (called due c y) fs (called_name due c y)) h
named_thread s n due (Rewait f y) gs fs h =
    moved_thread n gs (at_name f (rewaited y) fs) fs (within_named f (rewaited y) fs (λ x. refl)) h
named_thread s n due (Normal f) gs fs h =
    moved_thread n gs (at_name f normal_of fs) fs (within_named f normal_of fs (λ x. refl)) h
named_thread s n due (Free f k) gs fs h =
    moved_thread n gs (at_name f freed fs) fs (within_named f freed fs (λ x. refl)) h
named_thread s n due (End f) gs fs h =
    moved_thread n gs (end_on_thread f fs) fs (within_end f fs) h
named_thread s n due (Gone t) gs fs h = (tt, none_apart gs)
  where
    none_apart : (gs : List Frame) → Apart gs []
    none_apart [] = tt
    none_apart (g ∷ gs) = (tt, none_apart gs)
named_thread s n due w gs fs h = (below_more n (suc n) fs (omega arith) h.thread, h.apart)

-- an event begins a frame on one of the parts alone
abbrev begins_own : What → Bool
begins_own (Begin (Int l) from) = true
begins_own (Begin (Dpc d) from) = true
begins_own (Begin (Threaded d) from) = true
begins_own w = false

-- a thread's part after an event that begins a frame on the own part
own_alone : (s : Script) (n : ℕ) (due : Option ℕ) (w : What) (fs : List Frame) → begins_own w ≡ true → thread_after s n due w fs ≡ fs
own_alone s n due (Begin (Int l) from) fs h = refl
own_alone s n due (Begin (Dpc d) from) fs h = refl
own_alone s n due (Begin (Threaded d) from) fs h = refl
own_alone s n due w fs h = cc

-- the own part's names after another event are among those before it
own_within : (n : ℕ) (due : Option ℕ) (w : What) (gs : List Frame) → begins_own w ≡ false → Within (own_after n due w gs) gs
own_within n due (Begin (Int l) from) gs h = cc
own_within n due (Begin (Dpc d) from) gs h = cc
own_within n due (Begin (Threaded d) from) gs h = cc
own_within n due (Begin (Apc a) from) gs h = within_same gs
own_within n due (Call f c y) gs h = within_named f (called due c y) gs (called_name due c y)
own_within n due (End f) gs h = within_without f gs
own_within n due (Free f k) gs h = within_named f freed gs (λ x. refl)
own_within n due w gs h = within_same gs

-- an event leaves the names of both parts different, and below the next number
named_both : (s : Script) (n : ℕ) (due : Option ℕ) (w : What) (gs fs : List Frame) → Named n gs fs →
    Named (suc n) (own_after n due w gs) (thread_after s n due w fs)
named_both s n due w gs fs h = go (begins_own w) refl
  where
    go : (b : Bool) → begins_own w ≡ b → Named (suc n) (own_after n due w gs) (thread_after s n due w fs)
    go true e =
        let o = named_own n due w gs fs h in
        let same : thread_after s n due w fs ≡ fs = own_alone s n due w fs e in
        record {
          own = o.0;
          thread = subst (AllBelow (suc n)) (sym same) (below_more n (suc n) fs (omega arith) h.thread);
          apart = subst (Apart (own_after n due w gs)) (sym same) o.1;
        }
    go false e =
        let o = named_own n due w gs fs h in
        let k : Named n (own_after n due w gs) fs = record { own = (own_within n due w gs e).0 n h.own; thread = h.thread; apart = o.1 } in
        let t = named_thread s n due w (own_after n due w gs) fs k in
        record { own = o.0; thread = t.0; apart = t.1 }

-- a step of a run leaves the names of a processor's frames different, and below the next number
named_step : (s : Script) (p : CpuNo) (t : ThreadNo) (e : Event) (past : List Event) (own by : Bool) → is_of e p ≡ own → is_by e t ≡ by →
    Named (length past) (own_frames p past) (thread_frames s p t past) → Named (suc (length past)) (own_frames p (e ∷ past)) (thread_frames s p t (e ∷ past))
named_step s p t e past false by o b h =
    let x : own_frames p (e ∷ past) ≡ own_frames p past = rw o in
    let y : thread_frames s p t (e ∷ past) ≡ thread_frames s p t past = rw o in
    record {
      own = subst (AllBelow (suc (length past))) (sym x) (below_more (length past) (suc (length past)) (own_frames p past) (omega arith) h.own);
      thread = subst (AllBelow (suc (length past))) (sym y) (below_more (length past) (suc (length past)) (thread_frames s p t past) (omega arith) h.thread);
      apart = subst (λ (gs : List Frame). Apart gs (thread_frames s p t (e ∷ past))) (sym x) (subst (Apart (own_frames p past)) (sym y) h.apart);
    }
named_step s p t e past true false o b h =
    let x : own_frames p (e ∷ past) ≡ own_after (length past) (due_of e.what (time past)) e.what (own_frames p past) = rw o in
    let y : thread_frames s p t (e ∷ past) ≡ thread_frames s p t past = frames_when s p t e past false o b in
    let k = named_own (length past) (due_of e.what (time past)) e.what (own_frames p past) (thread_frames s p t past) h in
    record {
      own = subst (AllBelow (suc (length past))) (sym x) k.0;
      thread = subst (AllBelow (suc (length past))) (sym y) (below_more (length past) (suc (length past)) (thread_frames s p t past) (omega arith) h.thread);
      apart = subst (λ (gs : List Frame). Apart gs (thread_frames s p t (e ∷ past))) (sym x)
          (subst (Apart (own_after (length past) (due_of e.what (time past)) e.what (own_frames p past))) (sym y) k.1);
    }
named_step s p t e past true true o b h =
    let x : own_frames p (e ∷ past) ≡ own_after (length past) (due_of e.what (time past)) e.what (own_frames p past) = rw o in
    let y : thread_frames s p t (e ∷ past) ≡ thread_after s (length past) (due_of e.what (time past)) e.what
    (thread_frames s p t past) = frames_when s p t e past true o b in
    let k = named_both s (length past) (due_of e.what (time past)) e.what (own_frames p past) (thread_frames s p t past) h in
    subst (λ (gs : List Frame). Named (suc (length past)) gs (thread_frames s p t (e ∷ past))) (sym x)
    (subst (Named (suc (length past)) (own_after (length past) (due_of e.what (time past)) e.what (own_frames p past))) (sym y) k)

-- the names of a processor's open frames are below the number of the next event, and those of its own part aren't a thread's
pub all_named : (s : Script) (p : CpuNo) (t : ThreadNo) (past : List Event) → Named (length past) (own_frames p past) (thread_frames s p t past)
all_named s p t [] = record { own = tt; thread = tt; apart = tt }
all_named s p t (e ∷ past) = named_step s p t e past (is_of e p) (is_by e t) refl refl (all_named s p t past)
