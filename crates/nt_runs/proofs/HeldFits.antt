-- In a run of a script that fits, the locks that a frame holds are declared.
use Rattle.std.proofs.Common.{ap, subst, sym, ◌∙◌}
use Rattle.std.specs.Prelude.{Bool, List, None, Option, Some, [], false, if◌then◌else◌, length, refl, true, ℕ, ◌∷◌, ◌≡◌}
use Rattle.nt_event.specs.declared.commands.Command.{Command}
use Rattle.nt_event.specs.declared.commands.Command.TheVariants.{Acquire, Unlock}
use Rattle.nt_event.specs.declared.commands.Reply.{Reply}
use Rattle.nt_event.specs.declared.commands.Reply.TheVariants.{Done, Spin}
use Rattle.nt_event.specs.declared.events.Begun.TheVariants.{Apc, Dpc, Int, Threaded}
use Rattle.nt_event.specs.declared.events.Event.{Event}
use Rattle.nt_event.specs.declared.events.What.{What}
use Rattle.nt_event.specs.declared.events.What.TheVariants.{Begin, Call, End, Free}
use Rattle.nt_event.specs.Frame.{Frame}
use Rattle.nt_event.specs.declared.frames.Held.{Held}
use Rattle.nt_event.specs.declared.numbers.CpuNo.{CpuNo}
use Rattle.nt_event.specs.declared.scripts.Script.{Script}
use Rattle.nt_runs.proofs.ThreadFrames.{Each, Kept, each_frame}
use Rattle.nt_event.specs.Step.{IsRun}
use Rattle.nt_runs.proofs.Known.{Known, KnownCall}
use Rattle.nt_event.specs.Lanes.{Lanes, lanes_at}
use Rattle.nt_event.specs.Own.{Own, own_of}
use Rattle.nt_event.specs.Numbers.{is_of}
use Rattle.nt_event.specs.Frames.{called, due_of, frames_of, freed, innermost, own_after, own_frames, resumed, thread_frames, thread_part, time}
use Rattle.nt_event.specs.Script.{fits, has_lock}
use Rattle.nt_event.specs.Lists.{head_of, is_null, tail_of}
use Rattle.nt_runs.proofs.Engaged.{inner_own, known_of, without_each}
use Rattle.nt_runs.proofs.Turns.{is_next}
use Rattle.nt_runs.proofs.Declared.{next_fits}
use Rattle.std.specs.Option.{option_or}
use Rattle.nt_runs.proofs.Shared.{part_head, thread_runs}
use Rattle.nt_runs.proofs.Running.{part_of_running, running_here}

abbrev AreDeclared : Script → List Held → Type 0
AreDeclared s [] = Unit {0}
AreDeclared s (h ∷ hs) = (has_lock s h.lock ≡ true) × AreDeclared s hs

abbrev Declares : Script → Frame → Type 0
Declares s f = AreDeclared s f.held

-- without the lock acquired last the held locks are still declared
tail_declared : (s : Script) (hs : List Held) → AreDeclared s hs → AreDeclared s (tail_of hs)
tail_declared s [] h = tt
tail_declared s (x ∷ xs) h = h.1

-- in a script that fits a known call leaves its frame with declared locks alone
called_declared : (s : Script) (p : CpuNo) (x : Own) (l : Lanes) (n : ℕ) (due : Option ℕ) (c : Command) (y : Reply) → fits s ≡ true →
    (k : KnownCall s p x l n c y) → Declares s k.frame → Declares s (called due c y k.frame)
called_declared s p x l n due (Acquire a) Done f k h = (next_fits s p k.frame (Acquire a) f k.command, h)
called_declared s p x l n due (Acquire a) Spin f k h = h
called_declared s p x l n due (Unlock a) Done f k h = tail_declared s k.frame.held h
called_declared s p x l n due c y f k h = h

-- a frame that comes back from a wait holds declared locks, if it did before
resumed_declared : (s : Script) (st : Option ℕ) (f : Frame) → Declares s f → Declares s (resumed st f)
resumed_declared s None f h = h
resumed_declared s (Some x) f h = h

-- in a script that fits each change of a frame keeps its held locks declared
declares_kept : (s : Script) (p : CpuNo) → fits s ≡ true → Kept s p (Declares s)
declares_kept s p f = record {
  base = λ n t. tt;
  apc = λ n a k. tt;
  rundown = λ n a. tt;
  resumed = resumed_declared s;
  rewaited = λ y i h. h;
  left = λ x n k b h. h;
  normal = λ x n k h. h;
  freed = λ x n c k h. tail_declared s k.frame.held h;
  called = λ x l n due c y k h. called_declared s p x l n due c y f k h;
}

-- a known event leaves the locks held on the own part declared
own_after_declared : (s : Script) (p : CpuNo) (x : Own) (l : Lanes) (n : ℕ) (due : Option ℕ) (w : What) (gs : List Frame) → fits s ≡ true →
    x.frames.own ≡ gs → (is_next w ≡ true → Known s p x l w) → Each (Declares s) gs → Each (Declares s) (own_after n due w gs)
own_after_declared s p x l n due (Begin (Int c) from) gs f o k h = (tt, h)
own_after_declared s p x l n due (Begin (Dpc d) from) gs f o k h = (tt, h)
own_after_declared s p x l n due (Begin (Threaded d) from) gs f o k h = (tt, h)
own_after_declared s p x l n due (Begin (Apc a) from) gs f o k h = h
own_after_declared s p x l n due (Call i c y) gs f o k h =
    let q = k refl in inner_own (Declares s) x i (called due c y) q.frame gs o q.goes_on.inner (called_declared s p x l i due c y f q) h
own_after_declared s p x l n due (Free i c) gs f o k h =
    let q = k refl in inner_own (Declares s) x i freed q.frame gs o q.goes_on.inner (tail_declared s q.frame.held) h
own_after_declared s p x l n due (End i) gs f o k h = without_each (Declares s) i gs h
own_after_declared s p x l n due w gs f o k h = h

-- in a run of a script that fits the locks held on the own part are declared
own_declared : (s : Script) (limit : ℕ) (p : CpuNo) (past : List Event) → fits s ≡ true → IsRun s limit past → Each (Declares s) (own_frames p past)
own_declared s limit p [] f r = tt
own_declared s limit p (e ∷ past) f r = go (is_of e p) refl (own_declared s limit p past f r.1)
  where
    go : (b : Bool) → is_of e p ≡ b → Each (Declares s) (own_frames p past) →
        Each (Declares s) (if b then own_after (length past) (due_of e.what (time past)) e.what (own_frames p past) else own_frames p past)
    go true o h =
        own_after_declared s p (own_of s p past) (lanes_at s past) (length past) (due_of e.what (time past)) e.what (own_frames p past) f refl
        (λ n. known_of s limit p e past o r.0 e.what refl n) h
    go false o h = h

-- where the innermost frame holds a lock, its last acquired one is declared
first_declared : (s : Script) (fs : List Frame) (f : Frame) (a : Held) → Each (Declares s) fs → head_of fs ≡ Some f → head_of f.held ≡ Some a →
    has_lock s a.lock ≡ true
first_declared s [] f a h e q = cc
first_declared s (g ∷ fs) f a h e q = let same : g ≡ f = cc in held f.held (subst (Declares s) same h.0) q
  where
    held : (hs : List Held) → AreDeclared s hs → head_of hs ≡ Some a → has_lock s a.lock ≡ true
    held [] d z = cc
    held (b ∷ hs) d z = let same : b ≡ a = cc in subst (λ (x : Held). has_lock s x.lock ≡ true) same d.0

-- the lock that the innermost frame acquired last is one of the script's
pub last_declared : (s : Script) (limit : ℕ) (p : CpuNo) (past : List Event) (f : Frame) (a : Held) → fits s ≡ true → IsRun s limit past →
    innermost (frames_of s p past) ≡ Some f → head_of f.held ≡ Some a → has_lock s a.lock ≡ true
last_declared s limit p past f a fit r h q = go (own_frames p past) refl
  where
    go : (gs : List Frame) → own_frames p past ≡ gs → has_lock s a.lock ≡ true
    go [] o =
        let null : is_null (own_frames p past) ≡ true = ap (λ (gs : List Frame). is_null gs) o in
        let t = thread_runs (frames_of s p past) f h null in
        let part : thread_part (frames_of s p past) ≡ thread_frames s p t.0 past = part_of_running s p t.0 past (running_here s limit p t.0 past r t.1).0 t.1 in
        first_declared s (thread_frames s p t.0 past) f a (each_frame s p (Declares s) (declares_kept s p fit) limit t.0 past r)
        (ap head_of (sym part) ∙ part_head (frames_of s p past) f h null) q
    go (g ∷ gs) o =
        let first : option_or (head_of (g ∷ gs)) (head_of (thread_part (frames_of s p past)))
        ≡ Some f = subst (λ (gs : List Frame). option_or (head_of gs) (head_of (thread_part (frames_of s p past))) ≡ Some f) o h in
        first_declared s (own_frames p past) f a (own_declared s limit p past fit r) (ap head_of o ∙ first) q
