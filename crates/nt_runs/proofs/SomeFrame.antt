-- The lanes of locks and the frames agree: in a run a processor's frames hold a lock, or spin on it, exactly where its lane says so.
use Rattle.std.proofs.Common.{ap, arith, subst, sym, ◌∙◌}
use Rattle.std.proofs.lemmas.Bool.{both_ways, eqb-true}
use Rattle.std.specs.Prelude.{Bool, List, None, Option, Some, [], false, if◌then◌else◌, is_none, is_some, length, nat_le, nat_lt, refl, true, ℕ, ◌==◌, ◌||◌}
use Rattle.std.specs.Prelude.{◌∷◌, ◌≡◌, ◌≤◌}
use Rattle.nt_event.specs.declared.commands.Command.{Command}
use Rattle.nt_event.specs.declared.commands.Command.TheVariants.{Acquire}
use Rattle.nt_event.specs.declared.commands.Reply.{Reply}
use Rattle.nt_event.specs.declared.commands.Reply.TheVariants.{Done, Spin}
use Rattle.nt_event.specs.declared.events.Begun.TheVariants.{Apc, Dpc, Int, Threaded}
use Rattle.nt_event.specs.declared.events.Event.{Event}
use Rattle.nt_event.specs.declared.events.What.{What}
use Rattle.nt_event.specs.declared.events.What.TheVariants.{Begin, Call, Clean, End, Expire, Fire, Flush, Free, Gone, Look, Normal, Rest, Rewait, Switch}
use Rattle.nt_event.specs.Frame.{Frame}
use Rattle.nt_event.specs.declared.frames.Held.{Held}
use Rattle.nt_event.specs.declared.numbers.CpuNo.{CpuNo}
use Rattle.nt_event.specs.declared.numbers.ThreadNo.{ThreadNo}
use Rattle.nt_event.specs.declared.scripts.Script.{Script}
use Rattle.nt_runs.proofs.Names.{Apart, Named, all_named}
use Rattle.nt_event.specs.declared.numbers.ApcNo.{ApcNo}
use Rattle.nt_runs.proofs.Locked.{Clear, Locked, no_spin, null_of_head}
use Rattle.nt_runs.proofs.ThreadFrames.{Each, head_is}
use Rattle.nt_event.specs.Locks.{Gets, LockMove, NoMove, Spins, call_move, lock_move}
use Rattle.nt_event.specs.Step.{IsLegal, IsRun, thread_field}
use Rattle.nt_runs.proofs.Known.{Known, KnownCall, refusal_in, reply_or}
use Rattle.nt_event.specs.Lanes.{Lanes, lanes_at, lock_at}
use Rattle.nt_event.specs.Own.{Own, own_of, stand_in}
use Rattle.nt_runs.proofs.Engaged.{Parted, known_of, low_all, without_each}
use Rattle.nt_event.specs.declared.commands.Refusal.{Refusal}
use Rattle.nt_event.specs.declared.numbers.RoutineNo.{RoutineNo}
use Rattle.nt_event.specs.Frames.{at_name, called, due_of, end_on_thread, ended_base, flushed, frames_of, held_moved, innermost, is_base_body, level_in}
use Rattle.nt_event.specs.Frames.{normal_of, own_after, own_frames, resumed, rewaited, running, running_after, spin_moved, switched_to, thread_after}
use Rattle.nt_event.specs.Frames.{thread_frames, thread_if, thread_part, time, without}
use Rattle.nt_runs.proofs.Parts.{begins_low, called_clear, clear_named, halts_low, inner_locked, leaving_low_level, named_by_it, rewait_low, switched}
use Rattle.nt_runs.proofs.Declared.{each}
use Rattle.nt_runs.proofs.Running.{frames_when, part_of_running, running_here, running_own}
use Rattle.nt_event.specs.Lists.{head_of}
use Rattle.nt_event.specs.Commands.{holds, reply}
use Rattle.nt_event.specs.Numbers.{is_by, is_of, thread}
use Rattle.nt_runs.proofs.Turns.{is_next}
use Rattle.nt_event.specs.Jobs.{level_at}
use Rattle.nt_runs.proofs.Calm.{level_inner}
use Rattle.nt_runs.specs.Laws.{level_of}
use Rattle.nt_runs.proofs.Facts.{level_on_thread}
use Rattle.std.specs.List.{list_any}
use Rattle.std.proofs.lemmas.Bool.Decides.{nat_tests}
use Rattle.nt_runs.proofs.Shared.{none_part}
use Rattle.std.specs.Option.{option_or}
use Rattle.nt_event.specs.Routines.{rundown_of}
use Rattle.nt_event.specs.Calls.{stops}
use Rattle.nt_runs.specs.SomeFrame.{some_frame, on_frame}

-- where neither of two tests holds, their or fails
or_falses : (a b : Bool) → a ≡ false → b ≡ false → (a || b) ≡ false
or_falses true b h k = cc
or_falses false b h k = k

-- a disjunction with a false second part is its first part
pub or_only : (a b : Bool) → b ≡ false → (a || b) ≡ a
or_only true b h = refl
or_only false b h = h

-- a test that fails on no locks and no spin fails on a clear frame
clear_test : (U : List Held → Option Held → Bool) → U [] None ≡ false → (f : Frame) → Clear f → on_frame U f ≡ false
clear_test U z f h = ap (λ (hs : List Held). U hs f.spin) h.0 ∙ (ap (λ (o : Option Held). U [] o) h.1 ∙ z)

-- where each frame holds no lock and spins on none, no frame passes a test of locks
pub any_clear : (U : List Held → Option Held → Bool) → U [] None ≡ false → (fs : List Frame) → Each Clear fs → list_any (on_frame U) fs ≡ false
any_clear U z [] h = refl
any_clear U z (f ∷ fs) h = or_falses (on_frame U f) (list_any (on_frame U) fs) (clear_test U z f h.0) (any_clear U z fs h.1)

-- ---- an event that moves no lock leaves clear frames clear

-- a frame that comes back from a wait stays without locks and spins
resumed_clear : (st : Option ℕ) (f : Frame) → Clear f → Clear (resumed st f)
resumed_clear None f h = h
resumed_clear (Some x) f h = h

-- the end of a thread's innermost frame leaves all frames without locks and spins
end_clear : (n : ℕ) (fs : List Frame) → Each Clear fs → Each Clear (end_on_thread n fs)
end_clear n [] h = h
end_clear n (f ∷ fs) h = go (f.name == n) (is_base_body f.body)
  where
    go : (b c : Bool) → Each Clear (if b then (if c then (ended_base f ∷ fs) else fs) else (f ∷ fs))
    go true true = ((h.0.0, refl), h.1)
    go true false = h.1
    go false c = h

-- a flushed APC leaves all frames without locks and spins
flushed_clear : (n : ℕ) (a : ApcNo) (o : Option RoutineNo) (fs : List Frame) → Each Clear fs → Each Clear (flushed n a o fs)
flushed_clear n a None fs h = h
flushed_clear n a (Some r) fs h = ((refl, refl), h)

-- a switch to a thread leaves all its frames without locks and spins
switched_clear : (n : ℕ) (t : ThreadNo) (st : Option ℕ) (fs : List Frame) → Each Clear fs → Each Clear (switched_to n t st fs)
switched_clear n t st [] h = ((refl, refl), tt)
switched_clear n t st (f ∷ fs) h = (resumed_clear st f h.0, h.1)

-- an event that moves no lock leaves a thread's frames without locks and spins
clear_after : (s : Script) (n : ℕ) (due : Option ℕ) (w : What) (fs : List Frame) → lock_move w ≡ NoMove → Each Clear fs → Each Clear (thread_after s n due w fs)
clear_after s n due (Switch t st) fs m h = switched_clear n t st fs h
clear_after s n due (Begin (Apc a) from) fs m h = ((refl, refl), h)
clear_after s n due (Flush a from) fs m h = flushed_clear n a (rundown_of s a) fs h
clear_after s n due (Call f c y) fs m h = clear_named f (called due c y) fs (λ i j. called_clear due c y i m j) h
clear_after s n due (Rewait f y) fs m h = clear_named f (rewaited y) fs (λ i j. j) h
clear_after s n due (Normal f) fs m h = clear_named f normal_of fs (λ i j. (j.0, refl)) h
clear_after s n due (End f) fs m h = end_clear f fs h
clear_after s n due (Free f k) fs m h = cc
clear_after s n due (Gone t) fs m h = tt
clear_after s n due w fs m h = h

-- an event that moves no lock leaves the own part without locks and spins
clear_own_after : (n : ℕ) (due : Option ℕ) (w : What) (gs : List Frame) → lock_move w ≡ NoMove → Each Clear gs → Each Clear (own_after n due w gs)
clear_own_after n due (Begin (Int c) from) gs m h = ((refl, refl), h)
clear_own_after n due (Begin (Dpc d) from) gs m h = ((refl, refl), h)
clear_own_after n due (Begin (Threaded d) from) gs m h = ((refl, refl), h)
clear_own_after n due (Begin (Apc a) from) gs m h = h
clear_own_after n due (Call f c y) gs m h = clear_named f (called due c y) gs (λ i j. called_clear due c y i m j) h
clear_own_after n due (End f) gs m h = without_each Clear f gs h
clear_own_after n due (Free f k) gs m h = cc
clear_own_after n due w gs m h = h

-- ---- a change of the innermost frame

-- the head of the list is the innermost frame where it has its name
abbrev Heads : ℕ → Frame → List Frame → Type 0
Heads n i [] = Unit {0}
Heads n i (f ∷ fs) = f.name ≡ n → f ≡ i

-- a change by name that keeps the test of locks on its frame keeps whether some frame passes
any_named : (U : List Held → Option Held → Bool) (n : ℕ) (g : Frame → Frame) (i : Frame) (fs : List Frame) → Heads n i fs → on_frame U (g i) ≡ on_frame U i →
    list_any (on_frame U) (at_name n g fs) ≡ list_any (on_frame U) fs
any_named U n g i [] h e = refl
any_named U n g i (f ∷ fs) h e = go (f.name == n) refl
  where
    go : (b : Bool) → (f.name == n) ≡ b → (on_frame U (if b then g f else f) || list_any (on_frame U) fs) ≡ (on_frame U f || list_any (on_frame U) fs)
    go true q =
        let same : f ≡ i = h (eqb-true f.name n q) in
        ap (λ (b : Bool). b || list_any (on_frame U) fs) (ap (λ (z : Frame). on_frame U (g z)) same ∙ (e ∙ ap (λ (z : Frame). on_frame U z) (sym same)))
    go false q = refl

-- taking out a frame on which the test of locks fails keeps whether some frame passes
any_without : (U : List Held → Option Held → Bool) (n : ℕ) (i : Frame) (fs : List Frame) → Heads n i fs → on_frame U i ≡ false →
    list_any (on_frame U) (without n fs) ≡ list_any (on_frame U) fs
any_without U n i [] h e = refl
any_without U n i (f ∷ fs) h e = go (f.name == n) refl
  where
    go : (b : Bool) → (f.name == n) ≡ b → list_any (on_frame U) (if b then fs else (f ∷ fs)) ≡ (on_frame U f || list_any (on_frame U) fs)
    go true q =
        let same : f ≡ i = h (eqb-true f.name n q) in
        let none : on_frame U f ≡ false = ap (λ (z : Frame). on_frame U z) same ∙ e in
        sym (ap (λ (b : Bool). b || list_any (on_frame U) fs) none)
    go false q = refl

-- the end of a thread's frame on which the test of locks fails keeps whether some frame passes
any_end : (U : List Held → Option Held → Bool) (n : ℕ) (i : Frame) (fs : List Frame) → Heads n i fs → on_frame U i ≡ false → on_frame U (ended_base i) ≡ false →
    list_any (on_frame U) (end_on_thread n fs) ≡ list_any (on_frame U) fs
any_end U n i [] h e e2 = refl
any_end U n i (f ∷ fs) h e e2 = go (f.name == n) (is_base_body f.body) refl
  where
    go : (b c : Bool) → (f.name == n) ≡ b → list_any (on_frame U) (if b then (if c then (ended_base f ∷ fs) else fs) else (f ∷ fs))
        ≡ (on_frame U f || list_any (on_frame U) fs)
    go true true q =
        let same : f ≡ i = h (eqb-true f.name n q) in
        let none : on_frame U f ≡ false = ap (λ (z : Frame). on_frame U z) same ∙ e in
        let ended : on_frame U (ended_base f) ≡ false = ap (λ (z : Frame). on_frame U (ended_base z)) same ∙ e2 in
        ap (λ (b : Bool). b || list_any (on_frame U) fs) (ended ∙ sym none)
    go true false q =
        let same : f ≡ i = h (eqb-true f.name n q) in
        let none : on_frame U f ≡ false = ap (λ (z : Frame). on_frame U z) same ∙ e in
        sym (ap (λ (b : Bool). b || list_any (on_frame U) fs) none)
    go false c q = refl

-- the head of the own part is the innermost frame where it has its name
own_heads : (x : Own) (n : ℕ) (i : Frame) → innermost x.frames ≡ Some i → Heads n i x.frames.own
own_heads x n i h = go x.frames.own refl
  where
    go : (gs : List Frame) → x.frames.own ≡ gs → Heads n i gs
    go [] o = tt
    go (g ∷ gs) o =
        let first : option_or (head_of (g ∷ gs)) (head_of (thread_part x.frames))
        ≡ Some i = subst (λ (gs : List Frame). option_or (head_of gs) (head_of (thread_part x.frames)) ≡ Some i) o h in
        λ q. same first
      where
        same : option_or (head_of (g ∷ gs)) (head_of (thread_part x.frames)) ≡ Some i → g ≡ i
        same e = cc

-- the head of the thread's part is the innermost frame where it has its name
part_heads : (x : Own) (n m : ℕ) (i : Frame) (fs : List Frame) → innermost x.frames ≡ Some i → n ≡ i.name → thread_part x.frames ≡ fs →
    Named m x.frames.own fs → Heads n i fs
part_heads x n m i [] h e k d = tt
part_heads x n m i (f ∷ fs) h e k d = λ q. sym (head_is x n m i f fs h e k d q)

-- ---- calls

-- two commands that are equal as present options are equal
same_some : (a b : Command) → ◌≡◌ {A = Option Command} (Some a) (Some b) → a ≡ b
same_some a b e = cc

-- a frame that spins makes its next call to try again
pub call_no_spin : (s : Script) (p : CpuNo) (x : Own) (l : Lanes) (n : ℕ) (c : Command) (y : Reply) (k : KnownCall s p x l n c y) → Locked s p k.frame →
    call_move c y ≡ NoMove → k.frame.spin ≡ None
call_no_spin s p x l n c y k h e = go k.frame.spin refl
  where
    level : level_at x ≡ k.frame.level
    level = level_inner x k.frame k.goes_on.inner

    tries : (g : Held) → k.frame.spin ≡ Some g → (c ≡ Acquire g.lock) → ⊥
    tries g q same =
        let two : k.frame.level ≡ 2 = h.spun (ap is_some q) in
        let high : nat_lt 2 (level_at x) ≡ false = ap (λ (n : ℕ). nat_lt 2 n) (level ∙ two) in
        let free : holds g.lock k.frame ≡ false = (h.retry g q).1 in
        let none : refusal_in x k.frame (Acquire g.lock) ≡ None = rw (high, free) refl in
        let reply_is : y ≡ reply s (stand_in p x) l (Acquire g.lock) = k.reply
        ∙ (ap (λ (z : Command). reply_or (refusal_in x k.frame z) (reply s (stand_in p x) l z)) same
        ∙ ap (λ (o : Option Refusal). reply_or o (reply s (stand_in p x) l (Acquire g.lock))) none) in
        moves (is_none (lock_at l g.lock).holder) reply_is
      where
        moves : (b : Bool) → y ≡ (if b then Done else Spin) → ⊥
        moves true z = let m : Gets g.lock ≡ NoMove = sym (ap (λ (c : Command). call_move c Done) same) ∙ (ap (λ (r : Reply). call_move c r) (sym z) ∙ e) in cc
        moves false z = let m : Spins g.lock ≡ NoMove = sym (ap (λ (c : Command). call_move c Spin) same) ∙ (ap (λ (r : Reply). call_move c r) (sym z)
            ∙ e) in cc

    go : (o : Option Held) → k.frame.spin ≡ o → k.frame.spin ≡ None
    go None q = q
    go (Some g) q = absurd (tries g q (same_some c (Acquire g.lock) (sym k.command ∙ (h.retry g q).0)))

-- an event that leaves the threads' parts and the running thread
abbrev leaves_threads : What → Bool
leaves_threads (Look x) = true
leaves_threads (Begin (Int c) from) = true
leaves_threads (Begin (Dpc c) from) = true
leaves_threads (Begin (Threaded c) from) = true
leaves_threads (Expire key from) = true
leaves_threads (Fire d y) = true
leaves_threads (Clean c) = true
leaves_threads Rest = true
leaves_threads w = false

-- ---- the step of an event of p

module _ (s : Script) (limit : ℕ) (p : CpuNo) (e : Event) (past : List Event) (o : is_of e p ≡ true) (g : IsLegal s limit e past) (r : IsRun s limit past)
    (h : Parted s p past) (U : List Held → Option Held → Bool) (z : U [] None ≡ false) where
  -- an event of the processor that is a next one is known by the tests of its case
  pub know : (w : What) → e.what ≡ w → is_next w ≡ true → Known s p (own_of s p past) (lanes_at s past) w
  know w k n = known_of s limit p e past o g w k n

  -- the own part after an event of the processor is what the event leaves of it
  pub own_next : own_frames p (e ∷ past) ≡ own_after (length past) (due_of e.what (time past)) e.what (own_frames p past)
  own_next = rw o

  -- the running thread's part, where the thread goes on
  part_if : (F : List Frame → List Frame) → F [] ≡ [] → running_after e.what (running p past) ≡ running p past →
      ((t : ThreadNo) → running p past ≡ Some t → thread_if (is_by e t) s (length past) (due_of e.what (time past)) e.what (thread_frames s p t past)
      ≡ F (thread_frames s p t past)) → thread_part (frames_of s p (e ∷ past)) ≡ F (thread_part (frames_of s p past))
  part_if F none still each = go (running p past) refl
    where
      run : running p (e ∷ past) ≡ running p past
      run = running_own p e past o ∙ still

      go : (q : Option ThreadNo) → running p past ≡ q → thread_part (frames_of s p (e ∷ past)) ≡ F (thread_part (frames_of s p past))
      go None q =
          let a : thread_part (frames_of s p (e ∷ past)) ≡ [] = none_part (frames_of s p (e ∷ past)) (run ∙ q) in
          let b : thread_part (frames_of s p past) ≡ [] = none_part (frames_of s p past) q in
          a ∙ (sym none ∙ ap F (sym b))
      go (Some t) q =
          let here = running_here s limit p t past r q in
          let a : thread_part (frames_of s p (e ∷ past)) ≡ thread_frames s p t (e ∷ past) = part_of_running s p t (e ∷ past) here.0 (run ∙ q) in
          let b : thread_part (frames_of s p past) ≡ thread_frames s p t past = part_of_running s p t past here.0 q in
          let c : thread_frames s p t (e ∷ past) ≡ thread_if (is_by e t) s (length past) (due_of e.what (time past)) e.what
          (thread_frames s p t past) = frames_when s p t e past (is_by e t) o refl in
          a ∙ (c ∙ (each t q ∙ ap F (sym b)))

  -- where the running thread stays, its part after the event is the change that the event makes of it
  pub part_named : (F : List Frame → List Frame) → F [] ≡ [] → running_after e.what (running p past) ≡ running p past →
      thread_field e.what (running p past) ≡ running p past →
      ((fs : List Frame) → thread_after s (length past) (due_of e.what (time past)) e.what fs ≡ F fs) →
      thread_part (frames_of s p (e ∷ past)) ≡ F (thread_part (frames_of s p past))
  part_named F none still field after =
      part_if F none still (λ t q. ap (λ (b : Bool). thread_if b s (length past) (due_of e.what (time past)) e.what (thread_frames s p t past))
      (named_by_it s limit p e past o g r h t e.what refl (field ∙ q)) ∙ after (thread_frames s p t past))

  part_clear : (h2 : List Event) → IsRun s limit h2 → ((t : ThreadNo) → Each Clear (thread_frames s p t h2)) → Each Clear (thread_part (frames_of s p h2))
  part_clear h2 r2 all = go (running p h2) refl
    where
      go : (q : Option ThreadNo) → running p h2 ≡ q → Each Clear (thread_part (frames_of s p h2))
      go None q = subst (Each Clear) (sym (none_part (frames_of s p h2) q)) tt
      go (Some t) q = subst (Each Clear) (sym (part_of_running s p t h2 (running_here s limit p t h2 r2 q).0 q)) (all t)

  none_passes : (h2 : List Event) → IsRun s limit h2 → Each Clear (own_frames p h2) → ((t : ThreadNo) → Each Clear (thread_frames s p t h2)) →
      some_frame U s p h2 ≡ false
  none_passes h2 r2 own all =
      or_falses _ _ (any_clear U z (own_frames p h2) own) (any_clear U z (thread_part (frames_of s p h2)) (part_clear h2 r2 all))

  low_same : level_in (frames_of s p past) ≤ 1 → lock_move e.what ≡ NoMove → some_frame U s p (e ∷ past) ≡ some_frame U s p past
  low_same l m =
      let a = low_all s limit p past r h l in
      none_passes (e ∷ past) (g, r) (subst (Each Clear) (sym own_next) (clear_own_after (length past) (due_of e.what (time past)) e.what
      (own_frames p past) m a.0))
      (λ t. after t (a.1 t)) ∙ sym (none_passes past r a.0 a.1)
    where
      after : (t : ThreadNo) → Each Clear (thread_frames s p t past) → Each Clear (thread_frames s p t (e ∷ past))
      after t c = go (is_by e t) refl
        where
          go : (b : Bool) → is_by e t ≡ b → Each Clear (thread_frames s p t (e ∷ past))
          go false b = subst (Each Clear) (sym (frames_when s p t e past false o b)) c
          go true b =
              subst (Each Clear) (sym (frames_when s p t e past true o b))
              (clear_after s (length past) (due_of e.what (time past)) e.what (thread_frames s p t past) m c)

  both_same : list_any (on_frame U) (own_after (length past) (due_of e.what (time past)) e.what (own_frames p past))
      ≡ list_any (on_frame U) (own_frames p past) →
      list_any (on_frame U) (thread_part (frames_of s p (e ∷ past))) ≡ list_any (on_frame U) (thread_part (frames_of s p past)) →
      some_frame U s p (e ∷ past) ≡ some_frame U s p past
  both_same a b =
      ap (λ (fs : List Frame). list_any (on_frame U) fs || list_any (on_frame U) (thread_part (frames_of s p (e ∷ past)))) own_next
      ∙ (ap (λ (x : Bool). x || list_any (on_frame U) (thread_part (frames_of s p (e ∷ past)))) a
      ∙ ap (λ (x : Bool). list_any (on_frame U) (own_frames p past) || x) b)

  heads_own : (n : ℕ) (i : Frame) → innermost (frames_of s p past) ≡ Some i → Heads n i (own_frames p past)
  heads_own n i k = own_heads (own_of s p past) n i k

  -- the frames of the own part and of the running thread's part have different names, of earlier events
  pub named_in : Named (length past) (own_frames p past) (thread_part (frames_of s p past))
  named_in = go (running p past) refl
    where
      go : (q : Option ThreadNo) → running p past ≡ q → Named (length past) (own_frames p past) (thread_part (frames_of s p past))
      go None q =
          subst (Named (length past) (own_frames p past)) (sym (none_part (frames_of s p past) q))
          (let k = all_named s p (thread 0) past in record { own = k.own; thread = tt; apart = apart_none (own_frames p past) })
        where
          apart_none : (gs : List Frame) → Apart gs []
          apart_none [] = tt
          apart_none (f ∷ gs) = (tt, apart_none gs)
      go (Some t) q =
          subst (Named (length past) (own_frames p past)) (sym (part_of_running s p t past (running_here s limit p t past r q).0 q)) (all_named s p t past)

  heads_part : (n : ℕ) (i : Frame) → innermost (frames_of s p past) ≡ Some i → n ≡ i.name → Heads n i (thread_part (frames_of s p past))
  heads_part n i k q = part_heads (own_of s p past) n (length past) i (thread_part (frames_of s p past)) k q refl named_in

  -- the innermost frame is changed on both parts, and the test doesn't tell
  change_same : (n : ℕ) (f : Frame → Frame) (i : Frame) → innermost (frames_of s p past) ≡ Some i → n ≡ i.name → on_frame U (f i) ≡ on_frame U i →
      own_after (length past) (due_of e.what (time past)) e.what (own_frames p past) ≡ at_name n f (own_frames p past) →
      thread_part (frames_of s p (e ∷ past)) ≡ at_name n f (thread_part (frames_of s p past)) → some_frame U s p (e ∷ past) ≡ some_frame U s p past
  change_same n f i k q same a b =
      both_same (ap (λ (fs : List Frame). list_any (on_frame U) fs) a ∙ any_named U n f i (own_frames p past) (heads_own n i k) same)
      (ap (λ (fs : List Frame). list_any (on_frame U) fs) b ∙ any_named U n f i (thread_part (frames_of s p past)) (heads_part n i k q) same)

  kept_part : (b : Bool) (fs : List Frame) (w : What) → leaves_threads w ≡ true → thread_if b s (length past) (due_of w (time past)) w fs ≡ fs
  kept_part false fs w k = refl
  kept_part true fs (Look x) k = refl
  kept_part true fs (Begin (Int c) from) k = refl
  kept_part true fs (Begin (Dpc c) from) k = refl
  kept_part true fs (Begin (Threaded c) from) k = refl
  kept_part true fs (Expire key from) k = refl
  kept_part true fs (Fire d y) k = refl
  kept_part true fs (Clean c) k = refl
  kept_part true fs Rest k = refl
  kept_part true fs w k = cc

  kept_run : (w : What) (q : Option ThreadNo) → leaves_threads w ≡ true → running_after w q ≡ q
  kept_run (Look x) q k = refl
  kept_run (Begin (Int c) from) q k = refl
  kept_run (Begin (Dpc c) from) q k = refl
  kept_run (Begin (Threaded c) from) q k = refl
  kept_run (Expire key from) q k = refl
  kept_run (Fire d y) q k = refl
  kept_run (Clean c) q k = refl
  kept_run Rest q k = refl
  kept_run w q k = cc

  kept_own : (w : What) (gs : List Frame) → leaves_threads w ≡ true → list_any (on_frame U) (own_after (length past) (due_of w (time past)) w gs)
      ≡ list_any (on_frame U) gs
  kept_own (Look x) gs k = refl
  kept_own (Begin (Int c) from) gs k = ap (λ (b : Bool). b || list_any (on_frame U) gs) z
  kept_own (Begin (Dpc c) from) gs k = ap (λ (b : Bool). b || list_any (on_frame U) gs) z
  kept_own (Begin (Threaded c) from) gs k = ap (λ (b : Bool). b || list_any (on_frame U) gs) z
  kept_own (Expire key from) gs k = refl
  kept_own (Fire d y) gs k = refl
  kept_own (Clean c) gs k = refl
  kept_own Rest gs k = refl
  kept_own w gs k = cc

  inner_is_locked : (i : Frame) → innermost (frames_of s p past) ≡ Some i → Locked s p i
  inner_is_locked i k = inner_locked s limit p past i r k

  high_same : (level_in (frames_of s p past) ≤ 1 → ⊥) → lock_move e.what ≡ NoMove → some_frame U s p (e ∷ past) ≡ some_frame U s p past
  high_same high m = go e.what refl m
    where
      kept : (w : What) → e.what ≡ w → leaves_threads w ≡ true → some_frame U s p (e ∷ past) ≡ some_frame U s p past
      kept w k l =
          let l2 : leaves_threads e.what ≡ true = ap leaves_threads k ∙ l in
          both_same (kept_own e.what (own_frames p past) l2)
          (ap (λ (fs : List Frame). list_any (on_frame U) fs) (part_if (λ fs. fs) refl (kept_run e.what (running p past) l2)
          (λ t q. kept_part (is_by e t) (thread_frames s p t past) e.what l2)))

      quiet : (i : Frame) → (i.held ≡ []) → (i.spin ≡ None) → on_frame U i ≡ false
      quiet i a b = clear_test U z i (a, b)

      go : (w : What) → e.what ≡ w → lock_move w ≡ NoMove → some_frame U s p (e ∷ past) ≡ some_frame U s p past
      go (Call f c y) k m = calls (stops c y) refl
        where
          q : KnownCall s p (own_of s p past) (lanes_at s past) f c y
          q = know (Call f c y) k refl

          lk : Locked s p q.frame
          lk = inner_is_locked q.frame q.goes_on.inner

          same : (due : Option ℕ) → on_frame U (called due c y q.frame) ≡ on_frame U q.frame
          same due =
              ap (λ (v : LockMove). U (held_moved v q.frame) (spin_moved v q.frame)) m
              ∙ ap (λ (x : Option Held). U q.frame.held x) (sym (call_no_spin s p (own_of s p past) (lanes_at s past) f c y q lk m))

          calls : (b : Bool) → stops c y ≡ b → some_frame U s p (e ∷ past) ≡ some_frame U s p past
          calls true b = absurd (high (halts_low s p (own_of s p past) (lanes_at s past) f c y q b))
          calls false b =
              change_same f (called (due_of e.what (time past)) c y) q.frame q.goes_on.inner q.name (same (due_of e.what (time past)))
              (ap (λ (v : What). own_after (length past) (due_of e.what (time past)) v (own_frames p past)) k)
              (part_named (at_name f (called (due_of e.what (time past)) c y)) refl
              (ap (λ (v : What). running_after v (running p past)) k ∙ ap (λ (x : Bool). if x then None else running p past) b)
              (ap (λ (v : What). thread_field v (running p past)) k)
              (λ fs. ap (λ (v : What). thread_after s (length past) (due_of e.what (time past)) v fs) k))
      go (Normal f) k m =
          let q = know (Normal f) k refl in
          let lk = inner_is_locked q.frame q.goes_on.inner in
          let held = null_of_head q.frame.held q.free in
          let spin = no_spin s p q.frame q.command lk in
          both_same (ap (λ (v : What). list_any (on_frame U) (own_after (length past) (due_of e.what (time past)) v (own_frames p past))) k)
          (ap (λ (fs : List Frame). list_any (on_frame U) fs) (part_named (at_name f normal_of) refl (ap (λ (v : What). running_after v (running p past)) k)
          (ap (λ (v : What). thread_field v (running p past)) k) (λ fs. ap (λ (v : What). thread_after s (length past) (due_of e.what (time past)) v fs) k))
          ∙ any_named U f normal_of q.frame (thread_part (frames_of s p past)) (heads_part f q.frame q.goes_on.inner q.name)
          (quiet (normal_of q.frame) held refl ∙ sym (quiet q.frame held spin)))
      go (End f) k m =
          let q = know (End f) k refl in
          let lk = inner_is_locked q.frame q.goes_on.inner in
          let held = null_of_head q.frame.held q.free in
          let spin = no_spin s p q.frame q.command lk in
          both_same (ap (λ (v : What). list_any (on_frame U) (own_after (length past) (due_of e.what (time past)) v (own_frames p past))) k
          ∙ any_without U f q.frame (own_frames p past) (heads_own f q.frame q.goes_on.inner) (quiet q.frame held spin))
          (ap (λ (fs : List Frame). list_any (on_frame U) fs) (part_named (end_on_thread f) refl (ap (λ (v : What). running_after v (running p past)) k)
          (ap (λ (v : What). thread_field v (running p past)) k) (λ fs. ap (λ (v : What). thread_after s (length past) (due_of e.what (time past)) v fs) k))
          ∙ any_end U f q.frame (thread_part (frames_of s p past)) (heads_part f q.frame q.goes_on.inner q.name) (quiet q.frame held spin)
          (quiet (ended_base q.frame) held refl))
      go (Rewait f y) k m = absurd (high (rewait_low s limit p e past o g r h f y k))
      go (Free f c) k m = cc
      go (Gone t) k m =
          let q = know (Gone t) k refl in absurd (high (leaving_low_level s limit p past r q.0.frame q.0.goes_on.inner q.0.leaving))
      go (Flush a from) k m = absurd (high (begins_low s limit p e past o g r h (Flush a from) k refl))
      go (Begin (Apc a) from) k m = absurd (high (begins_low s limit p e past o g r h (Begin (Apc a) from) k refl))
      go (Switch t st) k m =
          let n = switched s limit p e past o g r h t st k in
          let a : level_in (frames_of s p past) ≡ level_of (thread_part (frames_of s p past)) = level_on_thread (frames_of s p past)
          (thread_part (frames_of s p past)) n.1 refl in
          let b : level_of (thread_part (frames_of s p past)) ≡ 0 = ap level_of (none_part (frames_of s p past) n.0) in
          absurd (high (omega (arith, a, b)))
      go w k m = kept w k refl

  -- an event of p that moves no lock leaves what its frames hold and spin on
  pub some_frame_same : lock_move e.what ≡ NoMove → some_frame U s p (e ∷ past) ≡ some_frame U s p past
  some_frame_same m = go (nat_le (level_in (frames_of s p past)) 1) refl
    where
      go : (b : Bool) → nat_le (level_in (frames_of s p past)) 1 ≡ b → some_frame U s p (e ∷ past) ≡ some_frame U s p past
      go true b = let l : level_in (frames_of s p past) ≤ 1 = grind (arith, nat_tests) in low_same l m
      go false b = high_same (λ l. let n : nat_le (level_in (frames_of s p past)) 1 ≡ true = grind (arith, nat_tests) in both_ways _ b n) m
