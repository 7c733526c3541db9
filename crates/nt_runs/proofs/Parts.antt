-- In a run at most one frame of a processor holds locks or spins: by induction over its events.
use Rattle.std.proofs.Common.{ap, arith, eq-eqb, inl, inr, not, subst, sym, ◌∙◌}
use Rattle.std.specs.Prelude.{Bool, List, None, Option, Some, [], false, if◌then◌else◌, length, refl, true, ℕ, ◌==◌, ◌∷◌, ◌≡◌, ◌≤◌, ◌⊎◌}
use Rattle.nt_event.specs.declared.commands.Command.{Command}
use Rattle.nt_event.specs.declared.commands.Command.TheVariants.{Yield}
use Rattle.nt_event.specs.declared.commands.Refusal.TheVariants.{NotThread}
use Rattle.nt_event.specs.declared.commands.Reply.{Reply}
use Rattle.nt_event.specs.declared.commands.Reply.TheVariants.{Blocked, Done}
use Rattle.nt_event.specs.declared.events.Begun.TheVariants.{Apc, Dpc, Int, Threaded}
use Rattle.nt_event.specs.declared.events.Event.{Event}
use Rattle.nt_event.specs.declared.events.What.{What}
use Rattle.nt_event.specs.declared.events.What.TheVariants.{Begin, Call, End, Flush, Free, Gone, Look, Normal, Rewait, Switch}
use Rattle.nt_event.specs.Frame.{Frame}
use Rattle.nt_event.specs.declared.numbers.CpuNo.{CpuNo}
use Rattle.nt_event.specs.declared.numbers.ThreadNo.{ThreadNo}
use Rattle.nt_event.specs.declared.scripts.Script.{Script}
use Rattle.nt_event.specs.declared.frames.Again.{Again}
use Rattle.nt_runs.proofs.Calm.{AllCalm, again_low, all_calm, leaving_low, next_test, not_above_gives, wait_low}
use Rattle.nt_runs.proofs.Locked.{Clear, Locked, called_base}
use Rattle.nt_runs.proofs.ThreadFrames.{Each}
use Rattle.nt_runs.proofs.Steps.{Gives, switch_gives}
use Rattle.nt_event.specs.Step.{IsLegal, IsRun, step, thread_field, turn_at}
use Rattle.nt_runs.proofs.Known.{Known, KnownCall, KnownRewait}
use Rattle.nt_event.specs.Lanes.{Lanes, lanes_at}
use Rattle.nt_event.specs.Locks.{LockMove, NoMove, call_move}
use Rattle.nt_runs.proofs.Engaged.{Over, Parted, Under, begins_thread, interrupt_high, known_of, low_all, over_both, over_end, over_null, over_thread}
use Rattle.nt_runs.proofs.Engaged.{own_locked, tail_after, thread_locked, threaded_low, under_after}
use Rattle.nt_event.specs.Own.{Own, own_of}
use Rattle.nt_event.specs.declared.events.Turn.TheVariants.{Switch as SwitchTurn}
use Rattle.nt_runs.proofs.Names.{all_named}
use Rattle.nt_event.specs.Frames.{at_name, called, due_of, frames_of, freed, held_moved, innermost, level_in, normal_of, own_after, own_frames, rewaited}
use Rattle.nt_event.specs.Frames.{running, running_after, spin_moved, thread_after, thread_frames, thread_part, time}
use Rattle.nt_runs.proofs.UserApcs.{begin_low}
use Rattle.nt_runs.proofs.Stops.{blocked_call, call_accepted, none_again, rewait_on_thread}
use Rattle.std.proofs.lemmas.Bool.{both_ways}
use Rattle.nt_event.specs.Numbers.{is_by, is_of, is_thread}
use Rattle.nt_runs.proofs.Running.{frames_when, kept, part_of_running, running_here, running_own, same_cpu, same_thread, thread_named}
use Rattle.nt_runs.proofs.Shared.{halts_move, leaving_null, part_head, thread_runs}
use Rattle.nt_event.specs.Replies.{is_blocked}
use Rattle.nt_runs.proofs.Turns.{is_next}
use Rattle.nt_event.specs.Lists.{head_of, is_null, tail_of}
use Rattle.std.specs.Option.{is_some, option_or}
use Rattle.nt_event.specs.Jobs.{level_at, may_switch, must}
use Rattle.nt_runs.specs.Laws.{level_of}
use Rattle.nt_runs.proofs.Facts.{level_on_thread}
use Rattle.nt_event.specs.Calls.{stops}
use Rattle.nt_runs.proofs.Chosen.{switch_parts}
use Rattle.nt_event.specs.Commands.{not_above}
use Rattle.nt_event.specs.Regions.{regions_of}

-- a call by which its thread stops is made at APC_LEVEL or below
pub halts_low : (s : Script) (p : CpuNo) (x : Own) (l : Lanes) (n : ℕ) (c : Command) (y : Reply) → KnownCall s p x l n c y → stops c y ≡ true → level_at x ≤ 1
halts_low s p x l n Yield Done k h =
    not_above_gives 1 (level_at x) (next_test (not (is_null x.frames.own)) NotThread (not_above 1 (level_at x) None)
    (call_accepted s p x l n Yield Done k refl).0)
halts_low s p x l n c Blocked k h =
    wait_low (level_at x) (not (is_null x.frames.own)) (regions_of (thread_part x.frames)) k.frame c (blocked_call s p x l n c k).0
    (call_accepted s p x l n c Blocked k refl).0
halts_low s p x l n c y k h = cc

-- where no frame has a lock or spin, a change of a named frame that adds none leaves none
pub clear_named : (n : ℕ) (g : Frame → Frame) (fs : List Frame) → ((f : Frame) → Clear f → Clear (g f)) → Each Clear fs → Each Clear (at_name n g fs)
clear_named n g [] k h = h
clear_named n g (f ∷ fs) k h = (go (f.name == n), h.1)
  where
    go : (b : Bool) → Clear (if b then g f else f)
    go true = k f h.0
    go false = h.0

-- a call that moves no lock keeps a frame that holds no lock and spins on none so
pub called_clear : (due : Option ℕ) (c : Command) (y : Reply) (f : Frame) → call_move c y ≡ NoMove → Clear f → Clear (called due c y f)
called_clear due c y f e h = (ap (λ (m : LockMove). held_moved m f) e ∙ h.0, ap (λ (m : LockMove). spin_moved m f) e)

module _ (s : Script) (limit : ℕ) (p : CpuNo) (e : Event) (past : List Event) (o : is_of e p ≡ true) (g : IsLegal s limit e past) (r : IsRun s limit past)
    (h : Parted s p past) where
  x : Own
  x = own_of s p past

  known : (w : What) → e.what ≡ w → is_next w ≡ true → Known s p (own_of s p past) (lanes_at s past) w
  known w k n = known_of s limit p e past o g w k n

  -- a Switch is made with no frame on the own part and no running thread
  pub switched : (t : ThreadNo) (st : Option ℕ) → e.what ≡ Switch t st → (running p past ≡ None) × (is_null (own_frames p past) ≡ true)
  switched t st k =
      let turn : Gives (step s limit (SwitchTurn e.cpu t) past) e = subst (λ (w : What). Gives (step s limit (turn_at e.cpu w) past) e) k g in
      let may = (switch_gives s limit e.cpu t past e turn).0 in
      let here : may_switch (own_of s p past) ≡ true = subst (λ (q : CpuNo). may_switch (own_of s q past) ≡ true) (same_cpu e p o) may in
      let z = switch_parts (running p past) (is_null (own_frames p past)) (must (own_of s p past)) here in
      (z.0, z.1)

  low : level_in (frames_of s p past) ≤ 1 → Each Clear (own_frames p past) × ((t : ThreadNo) → Each Clear (thread_frames s p t past))
  low l = low_all s limit p past r h l

  -- the thread that the event names, by its kind
  field : (t : ThreadNo) (w : What) → e.what ≡ w → is_by e t ≡ true → thread_field w (running p past) ≡ Some t
  field t w k b =
      ap (λ (v : What). thread_field v (running p past)) (sym k)
      ∙ (ap (λ (q : CpuNo). thread_field e.what (running q past)) (sym (same_cpu e p o)) ∙ (sym (thread_named s limit e past g) ∙ same_thread e.thread t b))

  -- an event of the processor whose thread is this one is made by this thread
  pub named_by_it : (t : ThreadNo) (w : What) → e.what ≡ w → thread_field w (running p past) ≡ Some t → is_by e t ≡ true
  named_by_it t w k f =
      let named : e.thread ≡ Some t = thread_named s limit e past g
      ∙ (ap (λ (q : CpuNo). thread_field e.what (running q past)) (same_cpu e p o) ∙ (ap (λ (v : What). thread_field v (running p past)) k ∙ f)) in
      ap (λ (o : Option ThreadNo). is_thread o t) named ∙ eq-eqb t.0 t.0 refl

  own_after_run : own_frames p (e ∷ past) ≡ own_after (length past) (due_of e.what (time past)) e.what (own_frames p past)
  own_after_run = rw o

  under : Under (own_frames p (e ∷ past))
  under =
      subst Under (sym own_after_run)
      (under_after s p (own_of s p past) (lanes_at s past) (length past) (due_of e.what (time past)) e.what (own_frames p past) (known e.what refl)
      (λ l. (low l).0) h.own)

  -- a thread's part under its innermost frame
  pub begins_low : (w : What) → e.what ≡ w → begins_thread w ≡ true → level_in (frames_of s p past) ≤ 1
  begins_low (Begin (Apc a) from) k b =
      let z = (begin_low s p (own_of s p past) (lanes_at s past) a from (known (Begin (Apc a) from) k refl)).0 in omega (arith, z)
  begins_low (Flush a from) k b =
      let q = (known (Flush a from) k refl).1 in
      let null = leaving_null s p past q.frame q.goes_on.inner q.leaving in
      let here = running_here s limit p (known (Flush a from) k refl).0 past r q.thread in
      let part : thread_part (frames_of s p past) ≡ thread_frames s p (known (Flush a from) k refl).0 past = part_of_running s p
      (known (Flush a from) k refl).0 past here.0 q.thread in
      let z : level_of (thread_part (frames_of s p past)) ≡ 0 = leaving_low q.frame (thread_part (frames_of s p past))
      (part_head (frames_of s p past) q.frame q.goes_on.inner null) q.leaving
      (subst AllCalm (sym part) (all_calm s limit p (known (Flush a from) k refl).0 past r)) in
      let same : level_in (frames_of s p past) ≡ level_of (thread_part (frames_of s p past)) = level_on_thread (frames_of s p past)
      (thread_part (frames_of s p past)) null refl in
      omega (arith, z, same)
  begins_low w k b = cc

  tail : (t : ThreadNo) → Each Clear (tail_of (thread_frames s p t (e ∷ past)))
  tail t = go (is_by e t) refl
    where
      go : (b : Bool) → is_by e t ≡ b → Each Clear (tail_of (thread_frames s p t (e ∷ past)))
      go false b =
          let moved : thread_frames s p t (e ∷ past) ≡ thread_frames s p t past = frames_when s p t e past false o b in
          subst (λ (fs : List Frame). Each Clear (tail_of fs)) (sym moved) (h.tail t)
      go true b =
          let moved : thread_frames s p t (e ∷ past) ≡ thread_after s (length past) (due_of e.what (time past)) e.what
          (thread_frames s p t past) = frames_when s p t e past true o b in
          subst (λ (fs : List Frame). Each Clear (tail_of fs)) (sym moved) (tail_after s (length past) (due_of e.what (time past)) e.what
          (thread_frames s p t past) (λ z. (low (begins_low e.what refl z)).1 t) (h.tail t))

  -- a thread that stops running
  stop_clear : (t : ThreadNo) (n : ℕ) (due : Option ℕ) (w : What) → e.what ≡ w → is_by e t ≡ true → (running_after w (running p past) ≡ Some t → ⊥) →
      Each Clear (thread_after s n due w (thread_frames s p t past))
  stop_clear t n due (Switch u st) k b not = absurd (not (field t (Switch u st) k b))
  stop_clear t n due (Look rises) k b not = let f = field t (Look rises) k b in cc
  stop_clear t n due (Gone u) k b not = tt
  stop_clear t n due (Call f c y) k b not = go (stops c y) refl
    where
      q : KnownCall s p (own_of s p past) (lanes_at s past) f c y
      q = known (Call f c y) k refl

      go : (b : Bool) → stops c y ≡ b → Each Clear (at_name f (called due c y) (thread_frames s p t past))
      go true z =
          clear_named f (called due c y) (thread_frames s p t past) (λ i j. called_clear due c y i (halts_move c y z) j)
          ((low (halts_low s p (own_of s p past) (lanes_at s past) f c y q z)).1 t)
      go false z =
          absurd (not (ap (λ (b : Bool). if b then None else running p past) z ∙ field t (Call f c y) k b))
  stop_clear t n due (Rewait f y) k b not = go (is_blocked y) refl
    where
      q : KnownRewait p (own_of s p past) (lanes_at s past) f y
      q = known (Rewait f y) k refl

      null : is_null (own_frames p past) ≡ true
      null = rewait_on_thread p (own_of s p past) (lanes_at s past) f y q (none_again s limit p past r)

      below : level_in (frames_of s p past) ≤ 1
      below =
          let run = field t (Rewait f y) k b in
          let here = running_here s limit p t past r run in
          let part : thread_part (frames_of s p past) ≡ thread_frames s p t past = part_of_running s p t past here.0 run in
          let some : is_some q.frame.again ≡ true = ap (λ (o : Option Again). is_some o) q.again in
          let z : level_of (thread_part (frames_of s p past)) ≤ 1 = again_low q.frame (thread_part (frames_of s p past))
          (part_head (frames_of s p past) q.frame q.goes_on.inner null) some (subst AllCalm (sym part) (all_calm s limit p t past r)) in
          let same : level_in (frames_of s p past) ≡ level_of (thread_part (frames_of s p past)) = level_on_thread (frames_of s p past)
          (thread_part (frames_of s p past)) null refl in
          omega (arith, z, same)

      go : (b : Bool) → is_blocked y ≡ b → Each Clear (at_name f (rewaited y) (thread_frames s p t past))
      go true z = clear_named f (rewaited y) (thread_frames s p t past) (λ i j. j) ((low below).1 t)
      go false z =
          absurd (not (ap (λ (b : Bool). if b then None else running p past) z ∙ field t (Rewait f y) k b))
  stop_clear t n due w k b not = absurd (not (field t w k b))

  not_ran : (t : ThreadNo) (w : What) → e.what ≡ w → is_by e t ≡ false → (running_after w (running p past) ≡ Some t → ⊥) → running p past ≡ Some t → ⊥
  not_ran t (Switch u st) k b not run = let z = (switched u st k).0 in clash (running p past) z run
    where
      clash : (q : Option ThreadNo) → q ≡ None → q ≡ Some t → ⊥
      clash None a c = cc
      clash (Some v) a c = cc
  not_ran t (Look rises) k b not run = not run
  not_ran t w k b not run = both_ways (is_by e t) b (named_by_it t w k run)

  stopped : (t : ThreadNo) → (running p (e ∷ past) ≡ Some t → ⊥) → Each Clear (thread_frames s p t (e ∷ past))
  stopped t not = go (is_by e t) refl
    where
      after : running_after e.what (running p past) ≡ Some t → ⊥
      after q = not (running_own p e past o ∙ q)

      go : (b : Bool) → is_by e t ≡ b → Each Clear (thread_frames s p t (e ∷ past))
      go false b =
          let moved : thread_frames s p t (e ∷ past) ≡ thread_frames s p t past = frames_when s p t e past false o b in
          subst (Each Clear) (sym moved) (h.stopped t (not_ran t e.what refl b after))
      go true b =
          let moved : thread_frames s p t (e ∷ past) ≡ thread_after s (length past) (due_of e.what (time past)) e.what
          (thread_frames s p t past) = frames_when s p t e past true o b in
          subst (Each Clear) (sym moved) (stop_clear t (length past) (due_of e.what (time past)) e.what refl b after)

  -- the own part over the running thread's
  over_by : (t : ThreadNo) (n : ℕ) (due : Option ℕ) (w : What) → e.what ≡ w → running p past ≡ Some t → Over (own_frames p past) (thread_frames s p t past) →
      running_after w (running p past) ≡ Some t → Over (own_after n due w (own_frames p past)) (thread_after s n due w (thread_frames s p t past))
  over_by t n due (Begin (Int c) from) k run v q =
      let z = interrupt_high c (known (Begin (Int c) from) k refl).class in (λ b. absurd (omega (arith, z, b)), v)
  over_by t n due (Begin (Dpc d) from) k run v q =
      let z = (known (Begin (Dpc d) from) k refl).0 in (λ b. (low (omega (arith, z))).1 t, v)
  over_by t n due (Begin (Threaded d) from) k run v q =
      let z = threaded_low (own_of s p past) (known (Begin (Threaded d) from) k refl).0 in (λ b. (low z).1 t, v)
  over_by t n due (Begin (Apc a) from) k run v q =
      over_null (own_frames p past) (thread_after s n due (Begin (Apc a) from) (thread_frames s p t past)) (begin_low s p (own_of s p past)
      (lanes_at s past) a from (known (Begin (Apc a) from) k refl)).1
  over_by t n due (Call f c y) k run v q =
      let z = known (Call f c y) k refl in
      over_both (own_of s p past) f (length past) (called due c y) (called due c y) z.frame (own_frames p past) (thread_frames s p t past) refl z.goes_on.inner
      z.name (all_named s p t past) (λ i. called_base due c y i) v
  over_by t n due (Free f c) k run v q =
      let z = known (Free f c) k refl in
      over_both (own_of s p past) f (length past) freed freed z.frame (own_frames p past) (thread_frames s p t past) refl z.goes_on.inner z.name
      (all_named s p t past) (λ i. refl) v
  over_by t n due (End f) k run v q =
      let z = known (End f) k refl in
      over_end (own_of s p past) f (length past) z.frame (own_frames p past) (thread_frames s p t past) refl z.goes_on.inner z.name (all_named s p t past) v
  over_by t n due (Normal f) k run v q =
      let z = known (Normal f) k refl in
      over_thread (own_of s p past) f (length past) normal_of z.frame (own_frames p past) (thread_frames s p t past) refl z.goes_on.inner z.name
      (all_named s p t past) v
  over_by t n due (Rewait f y) k run v q =
      let z = known (Rewait f y) k refl in
      over_thread (own_of s p past) f (length past) (rewaited y) z.frame (own_frames p past) (thread_frames s p t past) refl z.goes_on.inner z.name
      (all_named s p t past) v
  over_by t n due (Flush a from) k run v q =
      let z = (known (Flush a from) k refl).1 in over_null (own_frames p past) _ (leaving_null s p past z.frame z.goes_on.inner z.leaving)
  over_by t n due (Gone u) k run v q = cc
  over_by t n due (Switch u st) k run v q = over_null (own_frames p past) _ (switched u st k).1
  over_by t n due w k run v q = v

  over : (t : ThreadNo) → running p (e ∷ past) ≡ Some t → Over (own_frames p (e ∷ past)) (thread_frames s p t (e ∷ past))
  over t run = subst (λ (gs : List Frame). Over gs (thread_frames s p t (e ∷ past))) (sym own_after_run) (go (is_by e t) refl)
    where
      after : running_after e.what (running p past) ≡ Some t
      after = sym (running_own p e past o) ∙ run

      was : (w : What) → e.what ≡ w → running_after w (running p past) ≡ Some t → (running p past ≡ Some t) ⊎ (is_null (own_frames p past) ≡ true)
      was (Switch u st) k q = inr (switched u st k).1
      was w k q = inl (kept w (running p past) t refl q)

      unnamed : (w : What) → e.what ≡ w → is_by e t ≡ false → running p past ≡ Some t → Over (own_frames p past) (thread_frames s p t past) →
          Over (own_after (length past) (due_of w (time past)) w (own_frames p past)) (thread_frames s p t past)
      unnamed (Look rises) k b q v = v
      unnamed (Switch u st) k b q v = v
      unnamed w k b q v = absurd (both_ways (is_by e t) b (named_by_it t w k q))

      null_after : (w : What) → e.what ≡ w → is_null (own_frames p past) ≡ true → running_after w (running p past) ≡ Some t →
          (fs : List Frame) → (running p past ≡ Some t → Over (own_after (length past) (due_of w (time past)) w (own_frames p past)) fs) →
          Over (own_after (length past) (due_of w (time past)) w (own_frames p past)) fs
      null_after (Switch u st) k z q fs v = over_null (own_frames p past) fs z
      null_after w k z q fs v = v (kept w (running p past) t refl q)

      go : (b : Bool) → is_by e t ≡ b → Over (own_after (length past) (due_of e.what (time past)) e.what (own_frames p past)) (thread_frames s p t (e ∷ past))
      go false b =
          let moved : thread_frames s p t (e ∷ past) ≡ thread_frames s p t past = frames_when s p t e past false o b in
          subst (Over (own_after (length past) (due_of e.what (time past)) e.what (own_frames p past))) (sym moved)
          (pick (was e.what refl after))
        where
          pick : (running p past ≡ Some t) ⊎ (is_null (own_frames p past) ≡ true) →
              Over (own_after (length past) (due_of e.what (time past)) e.what (own_frames p past)) (thread_frames s p t past)
          pick (inl q) = unnamed e.what refl b q (h.over t q)
          pick (inr z) = null_after e.what refl z after (thread_frames s p t past) (λ q. unnamed e.what refl b q (h.over t q))
      go true b =
          let moved : thread_frames s p t (e ∷ past) ≡ thread_after s (length past) (due_of e.what (time past)) e.what
          (thread_frames s p t past) = frames_when s p t e past true o b in
          subst (Over (own_after (length past) (due_of e.what (time past)) e.what (own_frames p past))) (sym moved) (pick (was e.what refl after))
        where
          pick : (running p past ≡ Some t) ⊎ (is_null (own_frames p past) ≡ true) →
              Over (own_after (length past) (due_of e.what (time past)) e.what (own_frames p past))
              (thread_after s (length past) (due_of e.what (time past)) e.what (thread_frames s p t past))
          pick (inl q) = over_by t (length past) (due_of e.what (time past)) e.what refl q (h.over t q) after
          pick (inr z) =
              null_after e.what refl z after (thread_after s (length past) (due_of e.what (time past)) e.what (thread_frames s p t past))
              (λ q. over_by t (length past) (due_of e.what (time past)) e.what refl q (h.over t q) after)

  -- an event of the processor keeps the parting of its frames: at most one of them holds locks or spins
  pub parted_step : Parted s p (e ∷ past)
  parted_step = record { own = under; stopped = stopped; tail = tail; over = over }

-- a wait is taken up again at APC_LEVEL or below
pub rewait_low : (s : Script) (limit : ℕ) (p : CpuNo) (e : Event) (past : List Event) → is_of e p ≡ true → IsLegal s limit e past → IsRun s limit past →
    Parted s p past → (f : ℕ) (y : Reply) → e.what ≡ Rewait f y → level_in (frames_of s p past) ≤ 1
rewait_low s limit p e past o g r h f y k =
    let q = known_of s limit p e past o g (Rewait f y) k refl in
    let null = rewait_on_thread p (own_of s p past) (lanes_at s past) f y q (none_again s limit p past r) in
    let t = thread_runs (frames_of s p past) q.frame q.goes_on.inner null in
    let here = running_here s limit p t.0 past r t.1 in
    let part : thread_part (frames_of s p past) ≡ thread_frames s p t.0 past = part_of_running s p t.0 past here.0 t.1 in
    let some : is_some q.frame.again ≡ true = ap (λ (o : Option Again). is_some o) q.again in
    let z : level_of (thread_part (frames_of s p past)) ≤ 1 = again_low q.frame (thread_part (frames_of s p past))
    (part_head (frames_of s p past) q.frame q.goes_on.inner null) some (subst AllCalm (sym part) (all_calm s limit p t.0 past r)) in
    let same : level_in (frames_of s p past) ≡ level_of (thread_part (frames_of s p past)) = level_on_thread (frames_of s p past)
    (thread_part (frames_of s p past)) null refl in
    omega (arith, z, same)

-- a leaving thread's base stands at PASSIVE_LEVEL
pub leaving_low_level : (s : Script) (limit : ℕ) (p : CpuNo) (past : List Event) → IsRun s limit past → (f : Frame) → innermost (frames_of s p past) ≡ Some f →
    f.leaving ≡ true → level_in (frames_of s p past) ≤ 1
leaving_low_level s limit p past r f i l =
    let null = leaving_null s p past f i l in
    let t = thread_runs (frames_of s p past) f i null in
    let here = running_here s limit p t.0 past r t.1 in
    let part : thread_part (frames_of s p past) ≡ thread_frames s p t.0 past = part_of_running s p t.0 past here.0 t.1 in
    let z : level_of (thread_part (frames_of s p past)) ≡ 0 = leaving_low f (thread_part (frames_of s p past)) (part_head (frames_of s p past) f i null) l
    (subst AllCalm (sym part) (all_calm s limit p t.0 past r)) in
    let same : level_in (frames_of s p past) ≡ level_of (thread_part (frames_of s p past)) = level_on_thread (frames_of s p past)
    (thread_part (frames_of s p past)) null refl in
    omega (arith, z, same)

-- the first of frames that all keep the rules of locks keeps them
first_locked : (s : Script) (p : CpuNo) (fs : List Frame) (f : Frame) → Each (Locked s p) fs → head_of fs ≡ Some f → Locked s p f
first_locked s p [] f h e = cc
first_locked s p (g ∷ fs) f h e = let same : g ≡ f = cc in subst (Locked s p) same h.0

-- the innermost frame is locked as any
pub inner_locked : (s : Script) (limit : ℕ) (p : CpuNo) (past : List Event) (f : Frame) → IsRun s limit past → innermost (frames_of s p past) ≡ Some f →
    Locked s p f
inner_locked s limit p past f r h = go (own_frames p past) refl
  where
    go : (gs : List Frame) → own_frames p past ≡ gs → Locked s p f
    go [] o =
        let null : is_null (own_frames p past) ≡ true = ap (λ (gs : List Frame). is_null gs) o in
        let t = thread_runs (frames_of s p past) f h null in
        let here = running_here s limit p t.0 past r t.1 in
        let part : thread_part (frames_of s p past) ≡ thread_frames s p t.0 past = part_of_running s p t.0 past here.0 t.1 in
        first_locked s p (thread_frames s p t.0 past) f (thread_locked s limit p t.0 past r) (ap head_of (sym part) ∙ part_head (frames_of s p past) f h null)
    go (g ∷ gs) o =
        let first : option_or (head_of (g ∷ gs)) (head_of (thread_part (frames_of s p past)))
        ≡ Some f = subst (λ (gs : List Frame). option_or (head_of gs) (head_of (thread_part (frames_of s p past))) ≡ Some f) o h in
        first_locked s p (own_frames p past) f (own_locked s limit p past r) (ap head_of o ∙ first)

-- at most one frame of a processor holds locks or spins
pub parted : (s : Script) (limit : ℕ) (p : CpuNo) (past : List Event) → IsRun s limit past → Parted s p past
parted s limit p [] r = record { own = tt; stopped = λ t e. tt; tail = λ t. tt; over = λ t e. tt }
parted s limit p (e ∷ past) r = go (is_of e p) refl (parted s limit p past r.1)
  where
    go : (b : Bool) → is_of e p ≡ b → Parted s p past → Parted s p (e ∷ past)
    go true o h = parted_step s limit p e past o r.0 r.1 h
    go false o h =
        let own : own_frames p (e ∷ past) ≡ own_frames p past = rw o in
        let run : running p (e ∷ past) ≡ running p past = rw o in
        record {
          own = subst Under (sym own) h.own;
          stopped = λ t q. subst (Each Clear) (sym (same t)) (h.stopped t (λ z. q (run ∙ z)));
          tail = λ t. subst (λ (fs : List Frame). Each Clear (tail_of fs)) (sym (same t)) (h.tail t);
          over = λ t q. subst (λ (gs : List Frame). Over gs (thread_frames s p t (e ∷ past))) (sym own)
              (subst (Over (own_frames p past)) (sym (same t)) (h.over t (sym run ∙ q)));
        }
      where
        same : (t : ThreadNo) → thread_frames s p t (e ∷ past) ≡ thread_frames s p t past
        same t = rw o
