-- At the close nothing is eligible on a processor that spins still.
use Rattle.std.proofs.Common.{ap, arith, subst, sym, ◌∙◌}
use Rattle.std.proofs.lemmas.Bool.{both_ways, ltb-true}
use Rattle.std.specs.Prelude.{Bool, List, None, Option, Some, [], false, is_none, is_some, length, nat_lt, not, option_and_then, refl, true, ℕ, ◌&&◌, ◌==◌, ◌∷◌}
use Rattle.std.specs.Prelude.{◌≡◌}
use Rattle.nt_event.specs.declared.commands.Command.{Command}
use Rattle.nt_event.specs.declared.commands.Command.TheVariants.{ToUser}
use Rattle.nt_event.specs.declared.commands.Refusal.{Refusal}
use Rattle.nt_event.specs.declared.commands.Refusal.TheVariants.{NotBase, NotThread, RegionsOpen, TooHigh}
use Rattle.nt_event.specs.declared.events.Event.{Event}
use Rattle.nt_event.specs.Frame.{Frame}
use Rattle.nt_event.specs.declared.numbers.CpuNo.{CpuNo}
use Rattle.nt_event.specs.declared.numbers.ThreadNo.{ThreadNo}
use Rattle.nt_event.specs.declared.scripts.Script.{Script}
use Rattle.nt_runs.proofs.Calm.{AllCalm, all_calm}
use Rattle.nt_event.specs.Apcs.{ApcQueues, deliverable, first_kernel, lets_through}
use Rattle.nt_event.specs.Eligible.{DpcRequest, ExpiryRequest, FlushRequest, IntRequest, KernelApcRequest, Request, ThreadedRequest, UserApcRequest, eligible}
use Rattle.nt_event.specs.Eligible.{goes_to_user, is_apc_pick, is_at_base, is_at_touser}
use Rattle.nt_runs.proofs.ThreadFrames.{Each}
use Rattle.nt_runs.specs.Laws.{HasBase}
use Rattle.nt_event.specs.Step.{IsRun}
use Rattle.nt_close.proofs.AtRest.{IsStuck}
use Rattle.nt_runs.proofs.Locked.{Locked}
use Rattle.nt_event.specs.declared.inserts.Pick.{Pick}
use Rattle.nt_event.specs.declared.commands.Regions.{Regions}
use Rattle.nt_event.specs.Threads.{ThreadFacts, start_facts}
use Rattle.nt_runs.proofs.Leaving.{base_leaving, leaves_as}
use Rattle.nt_runs.proofs.Shared.{base_not_own, not_own, part_head, thread_runs}
use Rattle.nt_event.proofs.Options.{both}
use Rattle.nt_event.specs.Routines.{cpu_of, next_command}
use Rattle.nt_event.specs.Waits.{facts}
use Rattle.nt_event.specs.Lanes.{facts_at, facts_of, lanes_at}
use Rattle.nt_event.specs.Frames.{frames_of, innermost, is_base_body, is_on_thread, own_frames, running, thread_frames, thread_part}
use Rattle.nt_event.proofs.Tables.{get_or-table}
use Rattle.nt_event.specs.Lists.{head_of, is_null, when}
use Rattle.nt_event.specs.Jobs.{is_due, level_at, waits_for_lock}
use Rattle.nt_event.specs.Classes.{is_interrupt_level}
use Rattle.nt_event.specs.Regions.{is_open, owes_sweep, regions_of}
use Rattle.std.specs.Option.{option_map_or, option_or}
use Rattle.nt_runs.proofs.Engaged.{own_locked, thread_locked}
use Rattle.nt_event.specs.Own.{own_of}
use Rattle.nt_runs.proofs.Running.{part_of_running, running_has_base, running_here}
use Rattle.nt_event.specs.Commands.{refuse}
use Rattle.nt_event.specs.Numbers.{thread}

-- if each frame of a list is locked to a processor, so is its first frame
first_locked : (s : Script) (p : CpuNo) (fs : List Frame) (f : Frame) → Each (Locked s p) fs → head_of fs ≡ Some f → Locked s p f
first_locked s p [] f h e = cc
first_locked s p (g ∷ fs) f h e = let same : g ≡ f = cc in subst (Locked s p) same h.0

-- the innermost frame is locked as any
pub inner_locked : (s : Script) (limit : ℕ) (p : CpuNo) (past : List Event) (f : Frame) → IsRun s limit past → innermost (frames_of s p past) ≡ Some f →
    Locked s p f
inner_locked s limit p past f r h = go (own_frames p past) refl
  where
    go : (gs : List Frame) → own_frames p past ≡ gs → Locked s p f
    go [] o =
        let null : is_null (own_frames p past) ≡ true = ap (λ (gs : List Frame). is_null gs) o in
        let t = thread_runs (frames_of s p past) f h null in
        let here = running_here s limit p t.0 past r t.1 in
        let part : thread_part (frames_of s p past) ≡ thread_frames s p t.0 past = part_of_running s p t.0 past here.0 t.1 in
        first_locked s p (thread_frames s p t.0 past) f (thread_locked s limit p t.0 past r) (ap head_of (sym part) ∙ part_head (frames_of s p past) f h null)
    go (g ∷ gs) o =
        let first : option_or (head_of (g ∷ gs)) (head_of (thread_part (frames_of s p past)))
        ≡ Some f = subst (λ (gs : List Frame). option_or (head_of gs) (head_of (thread_part (frames_of s p past))) ≡ Some f) o h in
        first_locked s p (own_frames p past) f (own_locked s limit p past r) (ap head_of o ∙ first)

-- the innermost frame of a processor that waits for a lock
pub record IsSpinning (s : Script) (p : CpuNo) (past : List Event) : Type 0 where
  pub frame : Frame
  pub inner : innermost (frames_of s p past) ≡ Some frame
  pub locked : Locked s p frame
  pub spins : is_some frame.spin ≡ true
  pub level : level_at (own_of s p past) ≡ 2

-- in a run a processor that waits for a lock stands at level 2, with an innermost frame that spins
pub spinning : (s : Script) (limit : ℕ) (p : CpuNo) (past : List Event) → IsRun s limit past → waits_for_lock (own_of s p past) ≡ true → IsSpinning s p past
spinning s limit p past r w = go (innermost (frames_of s p past)) refl (both _ _ w).0
  where
    go : (o : Option Frame) → innermost (frames_of s p past) ≡ o → option_map_or (λ f. is_some f.spin) o false ≡ true → IsSpinning s p past
    go None e h = cc
    go (Some f) e h =
        let k = inner_locked s limit p past f r e in
        record {
          frame = f;
          inner = e;
          locked = k;
          spins = h;
          level = ap (λ (o : Option Frame). option_map_or (λ f. f.level) o 0) e ∙ k.spun h;
        }

-- an "and" whose second side is false is false
fails_second : (a b : Bool) → b ≡ false → (a && b) ≡ false
fails_second true b h = h
fails_second false b h = refl

-- an "and" whose first side is false is false
fails_first : (a b : Bool) → a ≡ false → (a && b) ≡ false
fails_first true b h = cc
fails_first false b h = refl

-- an "and" is false if its second side fails wherever its first holds
tested_then : (a b : Bool) → (a ≡ true → b ≡ false) → (a && b) ≡ false
tested_then true b h = h refl
tested_then false b h = refl

-- an "and" that is false stays false with its sides swapped
turned : (a b : Bool) → (a && b) ≡ false → (b && a) ≡ false
turned true true h = cc
turned true false h = refl
turned false true h = refl
turned false false h = refl

-- at a level above 0 no APC is deliverable
none_deliverable : (q : ApcQueues) (r : Regions) (level : ℕ) → (level == 0) ≡ false → deliverable q r level ≡ None
none_deliverable q r level h = go (first_kernel q)
  where
    go : (o : Option Pick) → option_and_then (λ x. when ((level == 0) && lets_through r x.kind) (Some x)) o ≡ None
    go None = refl
    go (Some x) = rw h refl

-- a command that is refused doesn't go to user mode
no_touser : (o : Option Command) (r : Option Refusal) → is_none r ≡ false → goes_to_user o r ≡ false
no_touser (Some ToUser) r h = h
no_touser (Some c) r h = refl
no_touser None r h = refl

-- a command that is too high is refused, whatever the tests before it say
refused_above : (a b c : Bool) (o : Option Refusal) → c ≡ true → is_none (refuse a NotThread (refuse b NotBase (refuse c TooHigh o))) ≡ false
refused_above true b c o h = refl
refused_above false true c o h = refl
refused_above false false true o h = refl
refused_above false false false o h = cc

-- if the base frame is leaving and is the innermost frame, it stands at level 0
leaving_zero : (t : ThreadNo) (f : Frame) (fs : List Frame) → head_of fs ≡ Some f → is_base_body f.body ≡ true → HasBase t fs → AllCalm fs →
    base_leaving fs ≡ true → f.level ≡ 0
leaving_zero t f [] e b h c l = absurd h
leaving_zero t f (g ∷ []) e b h c l = let same : g ≡ f = cc in ap (λ (x : Frame). x.level) (sym same) ∙ c.0.0 l
leaving_zero t f (g ∷ (x ∷ fs)) e b h c l =
    let same : g ≡ f = cc in
    let base : is_base_body g.body ≡ true = ap (λ (x : Frame). is_base_body x.body) same ∙ b in
    absurd (both_ways (is_base_body g.body) h.0.0 base)

module _ (s : Script) (limit : ℕ) (p : CpuNo) (past : List Event) (r : IsRun s limit past) (k : IsStuck s p past) where
  sp : IsSpinning s p past
  sp = spinning s limit p past r k.waits

  not_below : nat_lt (level_at (own_of s p past)) 2 ≡ false
  not_below = ap (λ (n : ℕ). nat_lt n 2) sp.level

  not_zero : (level_at (own_of s p past) == 0) ≡ false
  not_zero = ap (λ (n : ℕ). n == 0) sp.level

  above_zero : nat_lt 0 (level_at (own_of s p past)) ≡ true
  above_zero = ap (λ (n : ℕ). nat_lt 0 n) sp.level

  no_base : (facts_of (lanes_at s past) (running p past)).leaving ≡ true → is_at_base (own_of s p past) ≡ false
  no_base l = go (is_base_body sp.frame.body) refl
    where
      at : is_at_base (own_of s p past) ≡ is_base_body sp.frame.body
      at = ap (λ (o : Option Frame). option_map_or (λ f. is_base_body f.body) o false) sp.inner

      bad : is_base_body sp.frame.body ≡ true → ⊥
      bad b =
          let null : is_null (own_frames p past) ≡ true = not_own s p past sp.frame sp.inner (base_not_own sp.frame.body b) in
          let t = thread_runs (frames_of s p past) sp.frame sp.inner null in
          let base = running_has_base s limit p t.0 past r t.1 in
          let own : cpu_of s t.0 ≡ p = ap (λ (n : ℕ). record { 0 = n }) base.0 in
          let part : thread_part (frames_of s p past) ≡ thread_frames s p t.0 past = part_of_running s p t.0 past base.1 t.1 in
          let known : facts_at (lanes_at s past) t.0 ≡ facts s t.0 past = get_or-table (length s.threads) t.0.0 (λ k. facts s (thread k) past) start_facts
          (ltb-true t.0.0 (length s.threads) base.1) in
          let lv : (facts s t.0 past).leaving ≡ true = ap (λ (x : ThreadFacts). x.leaving) (sym known)
          ∙ subst (λ (o : Option ThreadNo). (facts_of (lanes_at s past) o).leaving ≡ true) t.1 l in
          let bl : base_leaving (thread_frames s p t.0 past) ≡ true = ap (λ (q : CpuNo). base_leaving (thread_frames s q t.0 past)) (sym own)
          ∙ (sym (leaves_as s limit t.0 past r) ∙ lv) in
          let zero : sp.frame.level ≡ 0 = leaving_zero t.0 sp.frame (thread_frames s p t.0 past)
          (ap head_of (sym part) ∙ part_head (frames_of s p past) sp.frame sp.inner null) b (subst (HasBase t.0) part base.2)
          (all_calm s limit p t.0 past r) bl in
          let two : sp.frame.level ≡ 2 = sp.locked.spun sp.spins in
          omega (arith, zero, two)

      go : (b : Bool) → is_base_body sp.frame.body ≡ b → is_at_base (own_of s p past) ≡ false
      go true e = absurd (bad e)
      go false e = at ∙ e

  -- no request is eligible on a processor that spins still and has seen every ask
  pub none_at_spin : (q : Request) → eligible s p q past ≡ false
  none_at_spin (IntRequest level) =
      tested_then (is_interrupt_level level) _ (λ i. turned (nat_lt (level_at (own_of s p past)) level) (is_due (own_of s p past) level)
      (k.idle.interrupts level i))
  none_at_spin (ExpiryRequest key) =
      fails_second (owes_sweep p past) _ (fails_second _ (nat_lt (level_at (own_of s p past)) 2) not_below)
  none_at_spin (DpcRequest d) = fails_second _ (nat_lt (level_at (own_of s p past)) 2) not_below
  none_at_spin (ThreadedRequest d) =
      fails_second _ ((level_at (own_of s p past) == 0) && is_null (own_frames p past)) (fails_first (level_at (own_of s p past) == 0) _ not_zero)
  none_at_spin (KernelApcRequest a) =
      fails_second (is_on_thread (frames_of s p past)) _ (ap (λ (o : Option Pick). is_apc_pick a o)
      (none_deliverable (facts_of (lanes_at s past) (running p past)).apcs (regions_of (thread_part (frames_of s p past))) (level_at (own_of s p past))
      not_zero))
  none_at_spin (UserApcRequest a) =
      fails_second _ _ (fails_second _ _ (fails_first _ (facts_of (lanes_at s past) (running p past)).user_pending
      (ap (λ (o : Option Frame). option_map_or (is_at_touser s p (own_of s p past)) o false) sp.inner
      ∙ no_touser (next_command s p sp.frame) _ (refused_above (not (is_null (own_frames p past))) (not (is_base_body sp.frame.body))
      (nat_lt 0 (level_at (own_of s p past))) (refuse (is_open (regions_of (thread_part (frames_of s p past)))) RegionsOpen None) above_zero))))
  none_at_spin (FlushRequest a) =
      fails_second _ _ (tested_then (facts_of (lanes_at s past) (running p past)).leaving _
      (λ l. fails_first (is_at_base (own_of s p past)) _ (no_base l)))
