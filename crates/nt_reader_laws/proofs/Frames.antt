-- In a run the frames of each processor are nested, and its events are calls of them.
use Rattle.nt_reader_laws.proofs.Counts.{crit_called, crit_made, guard_called, guard_made}
use Rattle.nt_reader_laws.proofs.Says.{accepted, known_as, made_here, null_own, size, switch_says, thread_is}
use Rattle.nt_reader_laws.specs.Frames.{FramesAreCalls}
use Rattle.nt_event.proofs.Moves.{frames_move, frames_stay}
use Rattle.nt_event.proofs.Options.{Holds, both, holds_at, when_gives}
use Rattle.nt_event.proofs.Tables.{get_or-table, length-table_from}
use Rattle.nt_event.specs.Apcs.{ApcQueues, deliverable, first_kernel, first_user, lets_through}
use Rattle.nt_event.specs.Calls.{stops}
use Rattle.nt_event.specs.Classes.{interrupt_classes, is_isr_level}
use Rattle.nt_event.specs.Frames.{Frames, again_after, at_head, base_level, base_of, called, done_to, due_of, frames_after, frames_in, frames_of, innermost}
use Rattle.nt_event.specs.Frames.{is_apc_body, is_base_body, own_frames, resumed, rewaited, running, thread_frames, thread_part, time}
use Rattle.nt_event.specs.Jobs.{has_normal, level_at, user_due}
use Rattle.nt_event.specs.Lanes.{facts_of, lanes_at}
use Rattle.nt_event.specs.Lists.{head_of, is_null, when}
use Rattle.nt_event.specs.Numbers.{is_of, thread}
use Rattle.nt_event.specs.Own.{made, own_of}
use Rattle.nt_event.specs.Regions.{crit_of, guard_of, regions_of}
use Rattle.nt_event.specs.Replies.{is_blocked, is_refused}
use Rattle.nt_event.specs.Routines.{kind_of, rundown_of}
use Rattle.nt_event.specs.Step.{IsRun, is_cut, step, thread_field, turn_of}
use Rattle.nt_event.specs.Threads.{ThreadFacts}
use Rattle.nt_event.specs.declared.commands.ApcKind.{ApcKind}
use Rattle.nt_event.specs.declared.commands.ApcKind.TheVariants.{User as UserApc}
use Rattle.nt_event.specs.declared.commands.Command.{Command}
use Rattle.nt_event.specs.declared.commands.Command.TheVariants.{Acquire, Delay, Lower, Raise, StartWait, ToUser, Unlock}
use Rattle.nt_event.specs.declared.commands.Regions.{Regions}
use Rattle.nt_event.specs.declared.commands.Reply.{Reply}
use Rattle.nt_event.specs.declared.commands.Reply.TheVariants.{Done, Spin, Status}
use Rattle.nt_event.specs.declared.events.Begun.{Begun}
use Rattle.nt_event.specs.declared.events.Begun.TheVariants.{Apc, Dpc, Int, Threaded}
use Rattle.nt_event.specs.declared.events.Event.{Event}
use Rattle.nt_event.specs.declared.events.What.{What}
use Rattle.nt_event.specs.declared.events.What.TheVariants.{Begin, Call, Clean, End, Expire, Fire, Flush, Free, Gone, Look, Normal, Rest, Rewait, Switch}
use Rattle.nt_event.specs.declared.frames.Again.{Again}
use Rattle.nt_event.specs.declared.frames.Body.{Body}
use Rattle.nt_event.specs.declared.frames.Body.TheVariants.{Apc as OnApc, Base as OnBase, Dpc as OnDpc, Int as OnInt, Rundown as OnRundown}
use Rattle.nt_event.specs.declared.frames.Body.TheVariants.{Threaded as OnThreaded}
use Rattle.nt_event.specs.Frame.{Frame}
use Rattle.nt_event.specs.declared.inserts.Pick.{Pick}
use Rattle.nt_event.specs.declared.numbers.ApcNo.{ApcNo}
use Rattle.nt_event.specs.declared.numbers.CpuNo.{CpuNo}
use Rattle.nt_event.specs.declared.numbers.RoutineNo.{RoutineNo}
use Rattle.nt_event.specs.declared.numbers.ThreadNo.{ThreadNo}
use Rattle.nt_event.specs.declared.scripts.Script.{Script}
use Rattle.nt_frame.proofs.Accepted.{acquire_accepted, lower_accepted, raise_accepted}
use Rattle.nt_frame.proofs.After.{after_apc, after_call, after_clean, after_dpc, after_end, after_end_base, after_expire, after_fire, after_first_switch}
use Rattle.nt_frame.proofs.After.{after_flush, after_free, after_gone, after_int, after_look, after_normal, after_rest, after_rewait, after_rundown}
use Rattle.nt_frame.proofs.After.{after_switch, after_threaded}
use Rattle.nt_frame.proofs.Begun.{begun_nested}
use Rattle.nt_frame.proofs.Changed.{MayStandFor, at_innermost_nested, at_innermost_same, innermost_frame}
use Rattle.nt_frame.proofs.Ended.{closed_nested, stopped_nested, without_innermost_nested}
use Rattle.nt_frame.proofs.EventLaw.{histories_are_calls}
use Rattle.nt_frame.proofs.Events.{IsOurs}
use Rattle.nt_frame.proofs.Kept.{again_nested, freed_base, freed_nested, keep_tail, kept_base, left_nested, normal_nested}
use Rattle.nt_frame.proofs.Nested.{nested_start}
use Rattle.nt_frame.proofs.Tasks.{apc_may_begin, base_here, base_may_begin, leaving_here, normal_here, refusal_here, threaded_may_begin, user_may_begin}
use Rattle.nt_frame.specs.Changes.{at_innermost, on_part, on_running, taken}
use Rattle.nt_frame.specs.EventCalls.{EachIsMade, IsMade}
use Rattle.nt_frame.specs.HeldLocks.{KeepAtLeast}
use Rattle.nt_frame.specs.Nesting.{AreNamedBelow, AreNested, IsFrame, is_special_body, next_name}
use Rattle.nt_frame.specs.Rules.{is_leaving, may_begin, may_go_on, refusal_in}
use Rattle.nt_runs.proofs.Known.{KnownBegin, KnownCall, KnownEnd, KnownFree, KnownInterrupt, KnownRewait}
use Rattle.nt_runs.proofs.Names.{AllBelow, all_named, called_name}
use Rattle.nt_runs.proofs.Rundown.Run.{KernelPick, deliverable_fits, facts_fit_of, first_user_fits}
use Rattle.nt_runs.proofs.Running.{called_body, same_cpu}
use Rattle.nt_runs.proofs.Steps.{Gives, cpu_at-turn_at, step_uncut}
use Rattle.nt_runs.proofs.Stops.{none_again, rewait_on_thread}
use Rattle.nt_runs.proofs.Untouched.{past_table}
use Rattle.std.proofs.Common.{ap, arith, inl, inr, refl, subst, sym, ◌^◌, ◌∙◌}
use Rattle.std.proofs.lemmas.Bool.{eqb-true, leb-false, lt-ltb, ltb-false, ltb-true}
use Rattle.std.proofs.lemmas.List.Elements.{All-from_get_or}
use Rattle.std.specs.List.{list_all, list_any}
use Rattle.std.specs.Option.{option_map_or, option_or}
use Rattle.std.specs.Prelude.{Bool, IfSome, List, None, Option, Some, [], false, if◌then◌else◌, length, nat_lt, not, option_and_then, true, ℕ, ◌&&◌, ◌+◌, ◌<◌}
use Rattle.std.specs.Prelude.{◌==◌, ◌||◌, ◌∷◌, ◌≡◌, ◌≤◌}

-- ---- names

-- if all frames have names below a number, the next name is at most that number
head_below : (n : ℕ) (fs : List Frame) → AllBelow n fs → next_name fs ≤ n
head_below n [] h = omega arith
head_below n (f ∷ fs) h = let l = h.0 in omega (arith, l)

-- the frames of a processor have names below the number of events so far
named_below : (s : Script) (p : CpuNo) (past : List Event) → AreNamedBelow (length past) (frames_of s p past)
named_below s p past = (
  head_below (length past) (own_frames p past) (all_named s p (thread 0) past).own,
  All-from_get_or (λ fs. next_name fs ≤ length past) (frames_of s p past).threads [] (λ t h.
      let l : t < length s.threads = omega (arith, length-table_from {A = List Frame} 0 (length s.threads) (λ t. thread_frames s p (thread t) past)) in
      rw (get_or-table {A = List Frame} (length s.threads) t (λ t. thread_frames s p (thread t) past) [] l)
      (head_below (length past) (thread_frames s p (thread t) past) (all_named s p (thread t) past).thread)),
)

-- ---- the counts of the running thread

-- a running thread's frames are in no more critical regions than its processor has made events
part_crit : (s : Script) (p : CpuNo) (past : List Event) → crit_of (thread_part (frames_of s p past)) ≤ made p past
part_crit s p past = go (running p past)
  where
    part : (t : ThreadNo) (b : Bool) → nat_lt t.0 (length s.threads) ≡ b → crit_of (frames_in (frames_of s p past).threads t) ≤ made p past
    part t true h =
        rw (get_or-table {A = List Frame} (length s.threads) t.0 (λ t. thread_frames s p (thread t) past) [] (ltb-true t.0 (length s.threads) h))
        (crit_made s p t past)
    part t false h =
        rw (past_table {A = List Frame} 0 (length s.threads) t.0 (λ t. thread_frames s p (thread t) past) [] (ltb-false t.0 (length s.threads) h)) (omega arith)

    go : (r : Option ThreadNo) → crit_of (option_map_or (frames_in (frames_of s p past).threads) r []) ≤ made p past
    go None = omega arith
    go (Some t) = part t (nat_lt t.0 (length s.threads)) refl

-- a running thread's frames are in no more guarded regions than its processor has made events
part_guard : (s : Script) (p : CpuNo) (past : List Event) → guard_of (thread_part (frames_of s p past)) ≤ made p past
part_guard s p past = go (running p past)
  where
    part : (t : ThreadNo) (b : Bool) → nat_lt t.0 (length s.threads) ≡ b → guard_of (frames_in (frames_of s p past).threads t) ≤ made p past
    part t true h =
        rw (get_or-table {A = List Frame} (length s.threads) t.0 (λ t. thread_frames s p (thread t) past) [] (ltb-true t.0 (length s.threads) h))
        (guard_made s p t past)
    part t false h =
        rw (past_table {A = List Frame} 0 (length s.threads) t.0 (λ t. thread_frames s p (thread t) past) [] (ltb-false t.0 (length s.threads) h)) (omega arith)

    go : (r : Option ThreadNo) → guard_of (option_map_or (frames_in (frames_of s p past).threads) r []) ≤ made p past
    go None = omega arith
    go (Some t) = part t (nat_lt t.0 (length s.threads)) refl

-- ---- a call

-- the frame's level, and the levels that it keeps with locks, are not below this base level
abbrev AreAbove : ℕ → Frame → Type 0
AreAbove base f = (base ≤ f.level) × KeepAtLeast base f.held × IfSome f.spin (λ h. base ≤ h.kept)

-- so after a call
called_above : (own : Bool) (x : Frames) (f : Frame) (due : Option ℕ) (c : Command) (y : Reply) → innermost x ≡ Some f → IsFrame own f →
    (is_refused y ≡ false → refusal_in c x ≡ None) → AreAbove (base_of f) (called due c y f)
called_above own x f due (StartWait m a) y i p r = (p.level, p.kept, tt)
called_above own x f due (Delay m a u) y i p r = (p.level, p.kept, tt)
called_above own x f due (Raise level) Done i p r =
    let l = raise_accepted f x level i (r refl) in let b = p.level in (omega (arith, l, b), p.kept, tt)
called_above own x f due (Lower level) Done i p r = (lower_accepted f x level i (r refl), p.kept, tt)
called_above own x f due (Acquire k) Done i p r =
    let l = (acquire_accepted f x k i (r refl)).0 in let b = p.level in (omega (arith, l, b), (kept_base own f p, p.kept), tt)
called_above own x f due (Acquire k) Spin i p r =
    let l = (acquire_accepted f x k i (r refl)).0 in let b = p.level in (omega (arith, l, b), p.kept, kept_base own f p)
called_above own x f due (Unlock k) Done i p r = (freed_base own f p, keep_tail (base_of f) f.held p.kept, tt)
called_above own x f due c Done i p r = (p.level, p.kept, tt)
called_above own x f due c y i p r = (p.level, p.kept, tt)

-- a call leaves whether a frame is in its kernel phase and whether it is leaving
called_frame : (due : Option ℕ) (c : Command) (y : Reply) (f : Frame) → ((called due c y f).kernel_phase ≡ f.kernel_phase) ×
    ((called due c y f).leaving ≡ f.leaving)
called_frame due (StartWait m a) y f = (refl, refl)
called_frame due (Delay m a u) y f = (refl, refl)
called_frame due c Done f = done c
  where
    done : (c : Command) → ((if true then done_to c f else f).kernel_phase ≡ f.kernel_phase) × ((if true then done_to c f else f).leaving ≡ f.leaving)
    done (Raise l) = (refl, refl)
    done c = (refl, refl)
called_frame due c y f = (refl, refl)

-- a call that is legal in nested frames may be made in their innermost one
call_stands : (x : Frames) (f : Frame) (due : Option ℕ) (c : Command) (y : Reply) → AreNested x → innermost x ≡ Some f →
    (is_refused y ≡ false → refusal_in c x ≡ None) → crit_of (thread_part x) + 1 < 2 ^ 32 → guard_of (thread_part x) + 1 < 2 ^ 32 →
    MayStandFor f (called due c y f) x
call_stands x f due c y h k r a b =
    let p = innermost_frame f x h k in
    let q = called_frame due c y f in
    let crit = crit_called due c y f in
    let guard = guard_called due c y f in
    let body : (called due c y f).body ≡ f.body = called_body due c y f in
    let base : base_of (called due c y f) ≡ base_of f = ap (λ (z : Body). base_level z (called due c y f).kernel_phase) body ∙ ap (base_level f.body) q.0 in
    let above = called_above (not (is_null x.own)) x f due c y k p r in
    let level : base_of f ≤ (called due c y f).level = above.0 in
    record {
      name = called_name due c y f;
      body = body;
      level = omega (arith, base, level);
      special = λ z. q.0 ∙ p.special (sym (ap is_special_body body) ∙ z);
      phase = λ z. ap is_apc_body body ∙ p.phase (sym q.0 ∙ z);
      leaving = λ z. ap is_base_body body ∙ p.leaving (sym q.1 ∙ z);
      kept = subst (λ (n : ℕ). KeepAtLeast n (called due c y f).held) (sym base) above.1;
      spun = subst (λ (n : ℕ). IfSome (called due c y f).spin (λ h. n ≤ h.kept)) (sym base) above.2;
      crit = omega (arith, a, crit);
      guard = omega (arith, b, guard);
    }

-- a call that is legal in nested frames leaves them nested
call_nested : (x : Frames) (f : Frame) (due : Option ℕ) (c : Command) (y : Reply) (r : Option ThreadNo) → AreNested x → innermost x ≡ Some f →
    (is_refused y ≡ false → refusal_in c x ≡ None) → crit_of (thread_part x) + 1 < 2 ^ 32 → guard_of (thread_part x) + 1 < 2 ^ 32 →
    AreNested (at_innermost (called due c y) x)
call_nested x f due c y r h k a b d =
    subst AreNested (at_innermost_same (called due c y) f x k) (at_innermost_nested f (called due c y f) x h k (call_stands x f due c y h k a b d))

-- a change of the innermost frame that leaves all of it but the wait to take up
waits_nested : (g : Frame → Frame) (a : Option Again) (f : Frame) (x : Frames) → AreNested x → innermost x ≡ Some f → g f ≡ record f { again = a } →
    AreNested (at_innermost g x)
waits_nested g a f x h i e =
    subst AreNested
    (sym (at_innermost_same (λ y. record y { again = a }) f x i) ∙ ap (λ (z : Frame). at_innermost (λ _. z) x) (sym e) ∙ at_innermost_same g f x i)
    (again_nested f x a h i)

-- the running thread goes on, or stops
runs_or_stops : (x : Frames) (b : Bool) → AreNested x → AreNested (record x { running = if b then None else x.running })
runs_or_stops x true h = stopped_nested x h
runs_or_stops x false h = h

-- taking up a thread that is there leaves nested frames nested
taken_nested : (x : Frames) (t : ThreadNo) → AreNested x → t.0 < length x.threads → AreNested (taken t x)
taken_nested x t h l = record { own = h.own; threads = h.threads; running = l; newer = h.newer }

-- ---- each event

-- a class that is one of the classes of interrupt routines is an interrupt class
isr_class : (ks : List ℕ) (c : ℕ) → list_all is_isr_level ks ≡ true → list_any (λ k. k == c) ks ≡ true → is_isr_level c ≡ true
isr_class [] c h a = cc
isr_class (k ∷ ks) c h a = go (k == c) refl a (λ b. isr_class ks c (both (is_isr_level k) _ h).1 b)
  where
    go : (b : Bool) → (k == c) ≡ b → (b || list_any (λ k. k == c) ks) ≡ true → (list_any (λ k. k == c) ks ≡ true → is_isr_level c ≡ true) →
        is_isr_level c ≡ true
    go true e x ih = let n : k ≡ c = eqb-true k c e in sym (ap is_isr_level n) ∙ (both (is_isr_level k) _ h).0
    go false e x ih = ih x

-- the conjunction of flags that both hold holds
both_hold : (a b : Bool) → a ≡ true → b ≡ true → (a && b) ≡ true
both_hold a b h k = ap (λ (c : Bool). c && b) h ∙ k

module _ (s : Script) (limit : ℕ) (e : Event) (past : List Event) (r : IsRun s limit (e ∷ past)) (small : limit < 2 ^ 32)
    (h : AreNested (frames_of s e.cpu past)) where
  uncut : made e.cpu past < limit
  uncut =
      let turn : Gives (step s limit (turn_of e) past) e = r.0 in
      let u = step_uncut s limit (turn_of e) past e turn in
      let c : is_cut limit (own_of s e.cpu past) ≡ false = subst (λ (p : CpuNo). is_cut limit (own_of s p past) ≡ false) (cpu_at-turn_at e.cpu e.what) u.1 in
      leb-false limit (made e.cpu past) c

  below : AreNamedBelow (length past) (frames_of s e.cpu past)
  below = named_below s e.cpu past

  ours : e.thread ≡ running e.cpu past → IsOurs s e (frames_of s e.cpu past)
  ours t = record { nested = h; threads = size s limit e past r; thread = t }

  named_by_what : (w : What) → e.what ≡ w → e.thread ≡ thread_field w (running e.cpu past)
  named_by_what w k = thread_is s limit e past r w k

  crit_room : crit_of (thread_part (frames_of s e.cpu past)) + 1 < 2 ^ 32
  crit_room = let a = part_crit s e.cpu past in let u = uncut in omega (arith, a, u, small)

  guard_room : guard_of (thread_part (frames_of s e.cpu past)) + 1 < 2 ^ 32
  guard_room = let a = part_guard s e.cpu past in let u = uncut in omega (arith, a, u, small)

  begins_nested : (b : Begun) (from : ℕ) → e.what ≡ Begin b from →
      AreNested (frames_after s (length past) (due_of e.what (time past)) e (frames_of s e.cpu past))
  begins_nested (Int c) from k =
      let known : KnownInterrupt (own_of s e.cpu past) c from = known_as s limit e past r (Begin (Int c) from) k refl in
      let may = both (nat_lt (level_at (own_of s e.cpu past)) c) _ known.may in
      subst AreNested
      (sym (after_int s (length past) (due_of e.what (time past)) e (frames_of s e.cpu past) c from (ours (named_by_what (Begin (Int c) from) k)) k))
      (begun_nested (length past) (OnInt c) (frames_of s e.cpu past) h
      (both_hold (is_isr_level c) _ (isr_class interrupt_classes c refl known.class) may.0) below)
  begins_nested (Dpc d) from k =
      let known = known_as s limit e past r (Begin (Dpc d) from) k refl in
      subst AreNested
      (sym (after_dpc s (length past) (due_of e.what (time past)) e (frames_of s e.cpu past) d from (ours (named_by_what (Begin (Dpc d) from) k)) k))
      (begun_nested (length past) (OnDpc d) (frames_of s e.cpu past) h (lt-ltb (level_at (own_of s e.cpu past)) 2 known.0) below)
  begins_nested (Threaded d) from k =
      let known = known_as s limit e past r (Begin (Threaded d) from) k refl in
      subst AreNested (sym
      (after_threaded s (length past) (due_of e.what (time past)) e (frames_of s e.cpu past) d from (ours (named_by_what (Begin (Threaded d) from) k)) k))
      (begun_nested (length past) (OnThreaded d) (frames_of s e.cpu past) h (threaded_may_begin (own_of s e.cpu past) d known.0) below)
  begins_nested (Apc a) from k =
      subst AreNested
      (sym (after_apc s (length past) (due_of e.what (time past)) e (frames_of s e.cpu past) a from (ours (named_by_what (Begin (Apc a) from) k)) k))
      (begun_nested (length past) (OnApc a (kind_of s a)) (frames_of s e.cpu past) h (may (known_as s limit e past r (Begin (Apc a) from) k refl)) below)
    where
      fits_at : (P : Pick → Type 0) (o : Option Pick) (z : Pick) → Holds P o → o ≡ Some z → P z
      fits_at P o z q w = holds_at P o z q w

      may : KnownBegin s e.cpu (own_of s e.cpu past) (lanes_at s past) (Apc a) from → may_begin (OnApc a (kind_of s a)) (frames_of s e.cpu past) ≡ true
      may (inl known) =
          let q : ApcQueues = (facts_of (lanes_at s past) (running e.cpu past)).apcs in
          let reg : Regions = regions_of (thread_part (frames_of s e.cpu past)) in
          let fit = fits_at (KernelPick s) (deliverable q reg (level_at (own_of s e.cpu past))) known.1.pick
          (deliverable_fits s q reg (level_at (own_of s e.cpu past)) (facts_fit_of s past (running e.cpu past))) known.1.first in
          let kind : kind_of s a ≡ known.1.pick.kind = ap (kind_of s) known.1.apc ∙ sym fit.1 in
          let lets = lets_of q reg (level_at (own_of s e.cpu past)) known.1.pick known.1.first in
          subst (λ (z : ApcKind). may_begin (OnApc a z) (frames_of s e.cpu past) ≡ true) (sym kind)
          (apc_may_begin (own_of s e.cpu past) a known.1.pick.kind known.0 fit.0 lets)
        where
          lets_of : (q : ApcQueues) (reg : Regions) (level : ℕ) (z : Pick) → deliverable q reg level ≡ Some z → lets_through reg z.kind ≡ true
          lets_of q reg level z w = go (first_kernel q) w
            where
              go : (o : Option Pick) → option_and_then (λ x. when ((level == 0) && lets_through reg x.kind) (Some x)) o ≡ Some z →
                  lets_through reg z.kind ≡ true
              go None w = cc
              go (Some y) w =
                  let g = when_gives ((level == 0) && lets_through reg y.kind) (Some y) z w in
                  let same : y ≡ z = let q = g.1 in cc in
                  subst (λ (v : Pick). lets_through reg v.kind ≡ true) same (both (level == 0) _ g.0).1
      may (inr known) =
          let q : ThreadFacts = facts_of (lanes_at s past) (running e.cpu past) in
          let first = user_first q known.1.pick known.1.first in
          let fit = fits_at (λ (z : Pick). (z.kind ≡ UserApc) × (z.kind ≡ kind_of s z.apc)) (first_user q.apcs) known.1.pick
          (first_user_fits s q.apcs (facts_fit_of s past (running e.cpu past))) first in
          let kind : kind_of s a ≡ UserApc = ap (kind_of s) known.1.apc ∙ (sym fit.1 ∙ fit.0) in
          subst (λ (z : ApcKind). may_begin (OnApc a z) (frames_of s e.cpu past) ≡ true) (sym kind)
          (user_may_begin (frames_of s e.cpu past) a (refusal_here ToUser known.0.frame (frames_of s e.cpu past) known.0.goes_on.inner ∙ known.0.accepted))
        where
          user_first : (q : ThreadFacts) (z : Pick) → user_due q ≡ Some z → first_user q.apcs ≡ Some z
          user_first q z w = (when_gives q.user_pending (first_user q.apcs) z w).1

  flush_nested : (a : ApcNo) (from : ℕ) → e.what ≡ Flush a from →
      AreNested (frames_after s (length past) (due_of e.what (time past)) e (frames_of s e.cpu past))
  flush_nested a from k = go (rundown_of s a) refl
    where
      go : (o : Option RoutineNo) → rundown_of s a ≡ o → AreNested (frames_after s (length past) (due_of e.what (time past)) e (frames_of s e.cpu past))
      go None q =
          subst AreNested
          (sym (after_flush s (length past) (due_of e.what (time past)) e (frames_of s e.cpu past) a from (ours (named_by_what (Flush a from) k)) k q)) h
      go (Some m) q =
          let known = known_as s limit e past r (Flush a from) k refl in
          let leaves : is_leaving (frames_of s e.cpu past) ≡ true =
          leaving_here known.1.frame (frames_of s e.cpu past) known.1.goes_on.inner ∙ known.1.leaving in
          subst AreNested
          (sym (after_rundown s (length past) (due_of e.what (time past)) e (frames_of s e.cpu past) a from m (ours (named_by_what (Flush a from) k)) k q))
          (begun_nested (length past) (OnRundown a) (frames_of s e.cpu past) h leaves below)

  called_nested : (name : ℕ) (c : Command) (y : Reply) → e.what ≡ Call name c y →
      AreNested (frames_after s (length past) (due_of e.what (time past)) e (frames_of s e.cpu past))
  called_nested name c y k =
      let known : KnownCall s e.cpu (own_of s e.cpu past) (lanes_at s past) name c y = known_as s limit e past r (Call name c y) k refl in
      let w : e.what ≡ Call known.frame.name c y = k ∙ ap (λ (m : ℕ). Call m c y) known.name in
      subst AreNested (sym (after_call s (length past) (due_of e.what (time past)) e (frames_of s e.cpu past) known.frame c y
      (ours (named_by_what (Call name c y) k)) known.goes_on.inner w))
      (runs_on (stops c y) (at_innermost (called (due_of e.what (time past)) c y) (frames_of s e.cpu past))
      (call_nested (frames_of s e.cpu past) known.frame (due_of e.what (time past)) c y None h known.goes_on.inner
      (accepted s e.cpu (own_of s e.cpu past) (lanes_at s past) name c y known) crit_room guard_room)
      (running_same (called (due_of e.what (time past)) c y) (frames_of s e.cpu past)))
    where
      running_same : (g : Frame → Frame) (x : Frames) → (at_innermost g x).running ≡ x.running
      running_same g x = go (not (is_null x.own)) x.running
        where
          go : (b : Bool) (o : Option ThreadNo) → (on_part b (at_head g) x).running ≡ x.running
          go true o = refl
          go false o = on x.running
            where
              on : (o : Option ThreadNo) → (on_running (at_head g) o x).running ≡ x.running
              on None = refl
              on (Some t) = refl

      runs_on : (b : Bool) (z : Frames) → AreNested z → z.running ≡ running e.cpu past →
          AreNested (record z { running = if b then None else running e.cpu past })
      runs_on true z q w = stopped_nested z q
      runs_on false z q w = subst (λ (o : Option ThreadNo). AreNested (record z { running = o })) w q

  after_nested : (w : What) → e.what ≡ w → AreNested (frames_after s (length past) (due_of e.what (time past)) e (frames_of s e.cpu past))
  after_nested (Begin b from) k = begins_nested b from k
  after_nested (Call name c y) k = called_nested name c y k
  after_nested (Flush a from) k = flush_nested a from k
  after_nested (Free name a) k =
      let known : KnownFree s e.cpu (own_of s e.cpu past) name a = known_as s limit e past r (Free name a) k refl in
      let f = known.frame in
      let w : e.what ≡ Free f.name a = k ∙ ap (λ (m : ℕ). Free m a) known.name in
      subst AreNested (sym (after_free s (length past) (due_of e.what (time past)) e (frames_of s e.cpu past) f a (ours (named_by_what (Free name a) k))
      known.goes_on.inner w)) (freed_nested f (frames_of s e.cpu past) h known.goes_on.inner)
  after_nested (Look rises) k =
      subst AreNested (sym (after_look s (length past) (due_of e.what (time past)) e (frames_of s e.cpu past) rises (size s limit e past r)
      (named_by_what (Look rises) k) k)) h
  after_nested (Expire key from) k =
      subst AreNested
      (sym (after_expire s (length past) (due_of e.what (time past)) e (frames_of s e.cpu past) key from (ours (named_by_what (Expire key from) k)) k)) h
  after_nested (Fire d y) k =
      subst AreNested (sym (after_fire s (length past) (due_of e.what (time past)) e (frames_of s e.cpu past) d y (ours (named_by_what (Fire d y) k)) k)) h
  after_nested (Clean class) k =
      subst AreNested
      (sym (after_clean s (length past) (due_of e.what (time past)) e (frames_of s e.cpu past) class (ours (named_by_what (Clean class) k)) k)) h
  after_nested Rest k =
      subst AreNested (sym (after_rest s (length past) (due_of e.what (time past)) e (frames_of s e.cpu past) (ours (named_by_what Rest k)) k)) h
  after_nested (Gone u) k =
      let known = known_as s limit e past r (Gone u) k refl in
      let leaves : is_leaving (frames_of s e.cpu past) ≡ true = leaving_here known.0.frame (frames_of s e.cpu past) known.0.goes_on.inner ∙ known.0.leaving in
      subst AreNested (sym (after_gone s (length past) (due_of e.what (time past)) e (frames_of s e.cpu past) u (ours (named_by_what (Gone u) k)) k))
      (closed_nested (frames_of s e.cpu past) h leaves)
  after_nested (Normal name) k =
      let known = known_as s limit e past r (Normal name) k refl in
      let f = known.frame in
      let w : e.what ≡ Normal f.name = k ∙ ap (λ (m : ℕ). Normal m) known.name in
      let may : may_go_on (frames_of s e.cpu past) ≡ true = normal_here f (frames_of s e.cpu past) known.goes_on.inner
      ∙ (ap (λ (b : Bool). b && has_normal f.body) known.kernel ∙ known.normal) in
      subst AreNested (sym (after_normal s (length past) (due_of e.what (time past)) e (frames_of s e.cpu past) f (ours (named_by_what (Normal name) k))
      known.goes_on.inner may w))
      (normal_nested f (frames_of s e.cpu past) h known.goes_on.inner may)
  after_nested (End name) k = go (is_base_body known.frame.body) refl
    where
      known : KnownEnd s e.cpu (own_of s e.cpu past) name
      known = known_as s limit e past r (End name) k refl

      w : e.what ≡ End known.frame.name
      w = k ∙ ap (λ (m : ℕ). End m) known.name

      go : (b : Bool) → is_base_body known.frame.body ≡ b → AreNested (frames_after s (length past) (due_of e.what (time past)) e (frames_of s e.cpu past))
      go true q =
          subst AreNested
          (sym (after_end_base s (length past) (due_of e.what (time past)) e (frames_of s e.cpu past) known.frame (ours (named_by_what (End name) k))
          known.goes_on.inner q w))
          (left_nested known.frame (frames_of s e.cpu past) h known.goes_on.inner
          (base_here known.frame (frames_of s e.cpu past) known.goes_on.inner ∙ q))
      go false q =
          subst AreNested (sym (after_end s (length past) (due_of e.what (time past)) e (frames_of s e.cpu past) known.frame (ours (named_by_what (End name) k))
          known.goes_on.inner q w)) (without_innermost_nested (frames_of s e.cpu past) h)
  after_nested (Rewait name y) k =
      let known : KnownRewait e.cpu (own_of s e.cpu past) (lanes_at s past) name y = known_as s limit e past r (Rewait name y) k refl in
      let f = known.frame in
      let w : e.what ≡ Rewait f.name y = k ∙ ap (λ (m : ℕ). Rewait m y) known.name in
      let null : own_frames e.cpu past ≡ [] = null_own (own_frames e.cpu past)
      (rewait_on_thread e.cpu (own_of s e.cpu past) (lanes_at s past) name y known (none_again s limit e.cpu past r.1)) in
      let changed : AreNested (at_innermost (rewaited y) (frames_of s e.cpu past)) =
      waits_nested (rewaited y) (again_after y f.again f.again) f (frames_of s e.cpu past) h known.goes_on.inner refl in
      subst AreNested (sym (after_rewait s (length past) (due_of e.what (time past)) e (frames_of s e.cpu past) f y (ours (named_by_what (Rewait name y) k))
      known.goes_on.inner null w)) (rewait_runs (is_blocked y) (at_innermost (rewaited y) (frames_of s e.cpu past)) changed
      (same_running (rewaited y) (frames_of s e.cpu past) null))
    where
      same_running : (g : Frame → Frame) (x : Frames) → x.own ≡ [] → (at_innermost g x).running ≡ x.running
      same_running g x o = ap (λ (fs : List Frame). (on_part (not (is_null fs)) (at_head g) x).running) o ∙ on x.running
        where
          on : (o : Option ThreadNo) → (on_running (at_head g) o x).running ≡ x.running
          on None = refl
          on (Some t) = refl

      rewait_runs : (b : Bool) (z : Frames) → AreNested z → z.running ≡ running e.cpu past →
          AreNested (record z { running = if b then None else running e.cpu past })
      rewait_runs true z q w = stopped_nested z q
      rewait_runs false z q w = subst (λ (o : Option ThreadNo). AreNested (record z { running = o })) w q
  after_nested (Switch t st) k =
      let says = switch_says s limit e past r t st k in
      go (frames_in (frames_of s e.cpu past).threads t) refl says.0 says.1
    where
      go : (fs : List Frame) → frames_in (frames_of s e.cpu past).threads t ≡ fs → t.0 < length (frames_of s e.cpu past).threads →
          own_frames e.cpu past ≡ [] → AreNested (frames_after s (length past) (due_of e.what (time past)) e (frames_of s e.cpu past))
      go [] q l o =
          subst AreNested (sym (after_first_switch s (length past) (due_of e.what (time past)) e (frames_of s e.cpu past) t st (size s limit e past r) l
          (named_by_what (Switch t st) k) k q))
          (begun_nested (length past) (OnBase t) (taken t (frames_of s e.cpu past)) (taken_nested (frames_of s e.cpu past) t h l)
          (base_may_begin (frames_of s e.cpu past) t o q) below)
      go (f ∷ fs) q l o =
          let head : head_of (frames_in (frames_of s e.cpu past).threads t) ≡ Some f = ap head_of q in
          let inner : innermost (taken t (frames_of s e.cpu past)) ≡ Some f =
          ap (λ (gs : List Frame). option_or (head_of gs) (head_of (frames_in (frames_of s e.cpu past).threads t))) o ∙ head in
          subst AreNested (sym (after_switch s (length past) (due_of e.what (time past)) e (frames_of s e.cpu past) t st f (size s limit e past r) l o
          (named_by_what (Switch t st) k) k head)) (resumed_nested st (taken t (frames_of s e.cpu past)) f (taken_nested (frames_of s e.cpu past) t h l) inner)
        where
          resumed_nested : (st : Option ℕ) (z : Frames) (f : Frame) → AreNested z → innermost z ≡ Some f → AreNested (at_innermost (resumed st) z)
          resumed_nested None z f q i = waits_nested (resumed None) f.again f z q i refl
          resumed_nested (Some k) z f q i = waits_nested (resumed (Some k)) (again_after (Status k) f.again f.again) f z q i refl

-- the frames of each processor in a run are nested, if the limit is below 2 to the 32nd
nested_run : (s : Script) (limit : ℕ) (p : CpuNo) (past : List Event) → IsRun s limit past → limit < 2 ^ 32 → AreNested (frames_of s p past)
nested_run s limit p [] r l = nested_start (length s.threads)
nested_run s limit p (e ∷ past) r l = go (is_of e p) refl (nested_run s limit p past r.1 l)
  where
    go : (b : Bool) → is_of e p ≡ b → AreNested (frames_of s p past) → AreNested (frames_of s p (e ∷ past))
    go false o h = subst AreNested (sym (frames_stay s p e past o)) h
    go true o h =
        let same : e.cpu ≡ p = same_cpu e p o in
        let here : AreNested (frames_of s e.cpu past) = subst (λ (q : CpuNo). AreNested (frames_of s q past)) (sym same) h in
        let left : AreNested (frames_after s (length past) (due_of e.what (time past)) e (frames_of s e.cpu past)) =
        after_nested s limit e past r l here e.what refl in
        subst AreNested (sym (frames_move s p e past o))
        (subst (λ (q : CpuNo). AreNested (frames_after s (length past) (due_of e.what (time past)) e (frames_of s q past))) same left)

-- each event of a run is a call that may be made of the frames, if the limit is below 2 to the 32nd
each_made : (s : Script) (limit : ℕ) (p : CpuNo) (past : List Event) → IsRun s limit past → limit < 2 ^ 32 → EachIsMade s p past
each_made s limit p [] r l = tt
each_made s limit p (e ∷ past) r l = (
  (λ o. subst (λ (q : CpuNo). IsMade s e (frames_of s q past)) (same_cpu e p o) (made_here s limit e past r (nested_run s limit e.cpu past r.1 l))),
  each_made s limit p past r.1 l,
)

-- in a run each processor's frames are nested and are what the calls of its events leave
pub frames_are_calls : FramesAreCalls
frames_are_calls s limit p past r l =
    let made = each_made s limit p past r l in
    record { made = made; nested = nested_run s limit p past r l; left = histories_are_calls s p past made }
