-- In a run, what a thread waits in, with which status its wait ended, and that it is gone, by positions.
use Rattle.nt_event.proofs.Options.{both, when_gives}
use Rattle.nt_event.specs.Frames.{running, thread_frames}
use Rattle.nt_event.specs.Lanes.{facts_at, lanes_at}
use Rattle.nt_event.specs.Lists.{when}
use Rattle.nt_event.specs.Numbers.{is_by, is_of, is_thread}
use Rattle.nt_event.specs.Own.{own_of}
use Rattle.nt_event.specs.Regions.{stand_at}
use Rattle.nt_event.specs.Routines.{cpu_of}
use Rattle.nt_event.specs.Script.{has_thread}
use Rattle.nt_event.specs.Step.{IsRun, step, thread_field, turn_at}
use Rattle.nt_event.specs.Threads.{ThreadFacts, ended_status, gone_doing, is_gone, is_ready, ready_doing, status_of, waiting, waiting_of}
use Rattle.nt_event.specs.Waits.{facts, is_of_thread, made_facts, named_facts}
use Rattle.nt_event.specs.declared.commands.Command.TheVariants.{Alert, Delay, InsertApc, Release, RemoveApc, StartWait, Yield}
use Rattle.nt_event.specs.declared.commands.Reply.TheVariants.{Blocked, Done}
use Rattle.nt_event.specs.declared.events.Event.{Event}
use Rattle.nt_event.specs.declared.events.Turn.TheVariants.{Switch as SwitchTurn}
use Rattle.nt_event.specs.declared.events.What.{What}
use Rattle.nt_event.specs.declared.events.What.TheVariants.{Call, Expire, Gone, Look, Rewait, Switch}
use Rattle.nt_event.specs.declared.frames.Again.{Again}
use Rattle.nt_event.specs.Frame.{Frame}
use Rattle.nt_event.specs.declared.jobs.Stand.{Stand}
use Rattle.nt_event.specs.declared.numbers.CpuNo.{CpuNo}
use Rattle.nt_event.specs.declared.numbers.ThreadNo.{ThreadNo}
use Rattle.nt_event.specs.declared.scripts.Script.{Script}
use Rattle.nt_event.specs.declared.threads.Doing.{Doing}
use Rattle.nt_event.specs.declared.threads.Doing.TheVariants.{Blocked as IsBlocked, Gone as IsGone, Ready as IsReady, Running as IsRunning}
use Rattle.nt_event.specs.declared.threads.Waiting.{Waiting}
use Rattle.nt_readings.proofs.Served.{none_after}
use Rattle.nt_readings.specs.Frames.{ends_thread, is_switch_event}
use Rattle.nt_readings.specs.Positions.{At, EachAfter}
use Rattle.nt_runs.proofs.Calm.{ran}
use Rattle.nt_runs.proofs.Facts.{agree, facts_made, named_here}
use Rattle.nt_runs.proofs.Known.{Known, legal_known}
use Rattle.nt_runs.proofs.Rundown.Run.{before}
use Rattle.nt_runs.proofs.Rundown.Steps.{facts_there}
use Rattle.nt_runs.proofs.Running.{same_thread, thread_named}
use Rattle.nt_runs.proofs.Steps.{Gives, switch_gives}
use Rattle.nt_runs.proofs.Turns.{is_next}
use Rattle.nt_runs.specs.Laws.{Says}
use Rattle.nt_reader_laws.proofs.Doing.{blocked_named, doing_in, doing_of, made_doing, made_to, other_named}
use Rattle.nt_reader_laws.proofs.SetAndKept.{at_below}
use Rattle.nt_reader_laws.specs.Flags.{is_gone_event}
use Rattle.nt_reader_laws.specs.Waits.{HasGone, IsEnded, IsWaiting, SwitchesCarryTheStatus, WaitsAreRead, blocked_in, blocks_in, ends_it, takes_up, waiting_as}
use Rattle.std.proofs.Common.{ap, arith, inl, inr, refl, subst, sym, ◌∙◌}
use Rattle.std.proofs.lemmas.Bool.{eq-eqb, eqb-true}
use Rattle.std.specs.Prelude.{Bool, List, None, Option, Some, [], false, if◌then◌else◌, length, option_map, true, ℕ, ◌&&◌, ◌==◌, ◌↔◌, ◌∷◌, ◌≡◌, ◌⊎◌}

-- ---- what is known of a thread that makes an event

-- a thread that makes an event is taken up by it, and was ready, or runs
abbrev pub Maker : Script → ThreadNo → Event → List Event → Type 0
Maker s t e past = ((is_switch_event e.what ≡ true) × (is_ready (facts s t past) ≡ true)) ⊎
    ((is_switch_event e.what ≡ false) × ((facts s t past).doing ≡ IsRunning))

-- if a thread runs on a processor, what is said of it makes it a running one
runs_doing : (d : Doing) (fs : List Frame) (p : CpuNo) (t : ThreadNo) (past : List Event) → Says d fs (running p past ≡ Some t) → running p past ≡ Some t →
    d ≡ IsRunning
runs_doing IsRunning fs p t past h r = refl
runs_doing (IsReady level st) fs p t past h r = absurd (h.0 r)
runs_doing (IsBlocked w) fs p t past h r = absurd (h.0 r)
runs_doing IsGone fs p t past h r = absurd (h.0 r)

module _ (s : Script) (limit : ℕ) (t : ThreadNo) (e : Event) (past : List Event) (r : IsRun s limit (e ∷ past)) where
  -- a thread that makes an event was ready and is taken up by it, or was running
  pub maker : is_of_thread s t e ≡ true → Maker s t e past
  maker b = go e.what refl
    where
      parts : (is_of e (cpu_of s t) ≡ true) × (is_by e t ≡ true)
      parts = both (is_of e (cpu_of s t)) (is_by e t) b

      runs : running (cpu_of s t) past ≡ Some t → (facts s t past).doing ≡ IsRunning
      runs h = runs_doing (facts s t past).doing (thread_frames s (cpu_of s t) t past) (cpu_of s t) t past (agree s limit t past r.1) h

      go : (w : What) → e.what ≡ w → Maker s t e past
      go (Switch u st) k =
          let turn : Gives (step s limit (SwitchTurn e.cpu u) past) e = subst (λ (w : What). Gives (step s limit (turn_at e.cpu w) past) e) k r.0 in
          let g = switch_gives s limit e.cpu u past e turn in
          let has = both (has_thread s u) _ g.1 in
          let ready = both ((cpu_of s u).0 == e.cpu.0) (is_ready (facts_at (lanes_at s past) u)) has.1 in
          let named : e.thread ≡ Some u = thread_named s limit e past r.0 ∙ ap (λ (w : What). thread_field w (running e.cpu past)) k in
          let thread : e.thread ≡ Some t = same_thread e.thread t parts.1 in
          let same : u ≡ t = cc in
          inl (
            ap is_switch_event k,
            subst (λ (v : ThreadNo). is_ready (facts s v past) ≡ true) same
                (sym (ap is_ready (facts_there s limit u past has.0)) ∙ ready.1),
          )
      go (Look rises) k =
          let named : e.thread ≡ None = thread_named s limit e past r.0 ∙ ap (λ (w : What). thread_field w (running e.cpu past)) k in
          let thread : e.thread ≡ Some t = same_thread e.thread t parts.1 in
          cc
      go w k = inr (ap is_switch_event k, runs (ran s limit (cpu_of s t) t e past parts.0 parts.1 r.0 (ap is_next k)))

  -- so a blocked thread, or one that is gone, makes no event
  idle_makes_none : is_ready (facts s t past) ≡ false → ((facts s t past).doing ≡ IsRunning → ⊥) → is_of_thread s t e ≡ false
  idle_makes_none h k = go (is_of_thread s t e) refl
    where
      no : Maker s t e past → ⊥
      no (inl m) = let z = m.1 in cc
      no (inr m) = k m.1

      go : (b : Bool) → is_of_thread s t e ≡ b → b ≡ false
      go false q = refl
      go true q = absurd (no (maker q))

  -- ---- what it does after the event

  doing_stays : is_of_thread s t e ≡ false → (facts s t (e ∷ past)).doing ≡ (named_facts s t (length past) e.what (facts s t past)).doing
  doing_stays b = ap (λ (x : ThreadFacts). x.doing) (facts_made s t e past false b)

  -- a blocked thread is ready after an event that ends its wait, and blocked as before after any other
  pub block_after : (w : Waiting) → (facts s t past).doing ≡ IsBlocked w → (facts s t (e ∷ past)).doing ≡ doing_of (ends_it s t w e past) w
  block_after w h =
      let none : is_of_thread s t e ≡ false = idle_makes_none (ap ready_doing h) (λ k. let z = h in cc) in
      doing_stays none ∙ blocked_named s t (length past) e.what w (facts s t past) h

  -- if a thread isn't blocked, only an event of its own changes what it does
  pub other_after : waiting (facts s t past) ≡ None → (facts s t (e ∷ past)).doing
      ≡ (if is_of_thread s t e then made_to (length past) (stand_at s e.cpu past) e.what (facts s t past).doing else (facts s t past).doing)
  other_after h = go (is_of_thread s t e) refl
    where
      -- an event that the thread makes and that blocks it names no thread
      made : (w : What) → (named_facts s t (length past) w (made_facts s (length past) (stand_at s e.cpu past) w (facts s t past))).doing
          ≡ made_to (length past) (stand_at s e.cpu past) w (facts s t past).doing
      made (Call f (Release u) y) = other_named s t (length past) (Call f (Release u) y) (facts s t past) h
      made (Call f (Alert u m) y) = other_named s t (length past) (Call f (Alert u m) y) (facts s t past) h
      made (Call f (InsertApc a) y) = other_named s t (length past) (Call f (InsertApc a) y) (facts s t past) h
      made (Call f (RemoveApc a) y) = other_named s t (length past) (Call f (RemoveApc a) y) (facts s t past) h
      made (Expire key from) = other_named s t (length past) (Expire key from) (facts s t past) h
      made (Call f c y) = made_doing s (length past) (stand_at s e.cpu past) (Call f c y) (facts s t past)
      made w = made_doing s (length past) (stand_at s e.cpu past) w (facts s t past)

      go : (b : Bool) → is_of_thread s t e ≡ b → (facts s t (e ∷ past)).doing
          ≡ (if b then made_to (length past) (stand_at s e.cpu past) e.what (facts s t past).doing else (facts s t past).doing)
      go true q = ap (λ (x : ThreadFacts). x.doing) (facts_made s t e past true q) ∙ made e.what
      go false q = doing_stays q ∙ other_named s t (length past) e.what (facts s t past) h

-- ---- waiting

-- a wait that begins in an event has that event's number
block_event : (n : ℕ) (st : Stand) (what : What) (w : Waiting) → blocked_in n st what ≡ Some w → w.event ≡ n
block_event n st (Call f (StartWait m a) Blocked) w h =
    let same : waiting_as n st (record { mode = m; alertable = a; due = None }) ≡ w = cc in ap (λ (x : Waiting). x.event) (sym same)
block_event n st (Call f (Delay m a u) Blocked) w h =
    let same : waiting_as n st (record { mode = m; alertable = a; due = Some u }) ≡ w = cc in ap (λ (x : Waiting). x.event) (sym same)
block_event n st (Rewait f Blocked) w h = go st.again h
  where
    go : (o : Option Again) → option_map (waiting_as n st) o ≡ Some w → w.event ≡ n
    go None k = cc
    go (Some v) k = let same : waiting_as n st v ≡ w = cc in ap (λ (x : Waiting). x.event) (sym same)
block_event n st what w h = cc

-- what waits after an event that the thread makes while it doesn't wait
made_waiting : (n : ℕ) (st : Stand) (what : What) (d : Doing) → waiting_of d ≡ None → waiting_of (made_to n st what d) ≡ blocked_in n st what
made_waiting n st (Switch u status) d h = refl
made_waiting n st (Gone u) d h = refl
made_waiting n st (Call f Yield Done) d h = refl
made_waiting n st (Call f (StartWait m a) Blocked) d h = refl
made_waiting n st (Call f (Delay m a u) Blocked) d h = refl
made_waiting n st (Rewait f Blocked) d h = go st.again
  where
    go : (o : Option Again) → waiting_of (doing_in (option_map (waiting_as n st) o) d) ≡ option_map (waiting_as n st) o
    go None = h
    go (Some w) = refl
made_waiting n st what d h = h

-- a thread that has a wait is blocked in it
pub waits_of : (d : Doing) (w : Waiting) → waiting_of d ≡ Some w → d ≡ IsBlocked w
waits_of (IsBlocked v) w h = let same : v ≡ w = cc in ap IsBlocked same
waits_of d w h = cc

-- if a thread that was blocked still waits, its wait did not end and is the same
doing_waits : (o : Option ℕ) (v w : Waiting) → waiting_of (doing_of o v) ≡ Some w → (o ≡ None) × (v ≡ w)
doing_waits None v w h = (refl, cc)
doing_waits (Some st) v w h = cc

-- what waits after an event, where the thread waited before it or didn't
module _ (s : Script) (limit : ℕ) (t : ThreadNo) (e : Event) (past : List Event) (r : IsRun s limit (e ∷ past)) where
  waits_still : (v : Waiting) → waiting (facts s t past) ≡ Some v → waiting (facts s t (e ∷ past)) ≡ waiting_of (doing_of (ends_it s t v e past) v)
  waits_still v h = ap waiting_of (block_after s limit t e past r v (waits_of (facts s t past).doing v h))

  waits_anew : waiting (facts s t past) ≡ None → waiting (facts s t (e ∷ past)) ≡ blocks_in s t e past
  waits_anew h =
      ap waiting_of (other_after s limit t e past r h) ∙ go (is_of_thread s t e)
    where
      go : (b : Bool) → waiting_of (if b then made_to (length past) (stand_at s e.cpu past) e.what (facts s t past).doing else (facts s t past).doing)
          ≡ when b (blocked_in (length past) (stand_at s e.cpu past) e.what)
      go true = made_waiting (length past) (stand_at s e.cpu past) e.what (facts s t past).doing h
      go false = h

  blocker_waits_not : (w : Waiting) → blocks_in s t e past ≡ Some w → waiting (facts s t past) ≡ None
  blocker_waits_not w h = go (waiting (facts s t past)) refl
    where
      go : (o : Option Waiting) → waiting (facts s t past) ≡ o → o ≡ None
      go None k = refl
      go (Some v) k =
          let d = waits_of (facts s t past).doing v k in
          let none : is_of_thread s t e ≡ false = idle_makes_none s limit t e past r (ap ready_doing d) (λ m. cc) in
          let z : when false (blocked_in (length past) (stand_at s e.cpu past) e.what) ≡ Some w =
          subst (λ (b : Bool). when b (blocked_in (length past) (stand_at s e.cpu past) e.what) ≡ Some w) none h in
          cc

abbrev Blocks : Script → ThreadNo → Waiting → Event → List Event → Type 0
Blocks s t w e before = blocks_in s t e before ≡ Some w

abbrev Stays : Script → ThreadNo → Waiting → Event → List Event → Type 0
Stays s t w e before = ends_it s t w e before ≡ None

-- in a run a thread that waits has an event that blocks it and none since that ends it
waits_forth : (s : Script) (limit : ℕ) (t : ThreadNo) (w : Waiting) (past : List Event) → IsRun s limit past → waiting (facts s t past) ≡ Some w →
    IsWaiting s t w past
waits_forth s limit t w [] r h = cc
waits_forth s limit t w (e ∷ past) r h = go (waiting (facts s t past)) refl (λ k. waits_forth s limit t w past r.1 k)
  where
    go : (o : Option Waiting) → waiting (facts s t past) ≡ o → (waiting (facts s t past) ≡ Some w → IsWaiting s t w past) → IsWaiting s t w (e ∷ past)
    go None k ih =
        let b : blocks_in s t e past ≡ Some w = sym (waits_anew s limit t e past r k) ∙ h in
        let n : w.event ≡ length past = block_event (length past) (stand_at s e.cpu past) e.what w
        (when_gives (is_of_thread s t e) (blocked_in (length past) (stand_at s e.cpu past) e.what) w b).1 in
        (inl (n, b), ((λ l. absurd (omega (arith, l, n))), none_after (Stays s t w) w.event past (omega (arith, n))))
    go (Some v) k ih =
        let q = doing_waits (ends_it s t v e past) v w (sym (waits_still s limit t e past r v k) ∙ h) in
        let old : waiting (facts s t past) ≡ Some w = k ∙ ap (λ (x : Waiting). Some x) q.1 in
        let stays : ends_it s t w e past ≡ None = subst (λ (x : Waiting). ends_it s t x e past ≡ None) q.1 q.0 in
        let before = ih old in
        (inr before.0, ((λ l. stays), before.1))

-- in a run a thread that an event blocks, and that none since ends, waits in that wait
waits_back : (s : Script) (limit : ℕ) (t : ThreadNo) (w : Waiting) (past : List Event) → IsRun s limit past → At (Blocks s t w) w.event past →
    EachAfter (Stays s t w) w.event past → waiting (facts s t past) ≡ Some w
waits_back s limit t w [] r h k = absurd h
waits_back s limit t w (e ∷ past) r (inl h) k = waits_anew s limit t e past r (blocker_waits_not s limit t e past r w h.1) ∙ h.1
waits_back s limit t w (e ∷ past) r (inr h) k =
    let old : waiting (facts s t past) ≡ Some w = waits_back s limit t w past r.1 h k.1 in
    let stays : ends_it s t w e past ≡ None = k.0 (at_below (Blocks s t w) w.event past h) in
    waits_still s limit t e past r w old ∙ ap (λ (o : Option ℕ). waiting_of (doing_of o w)) stays

-- in a run a thread waits exactly where an event blocked it and no later one ended the wait
pub waits_read : (s : Script) (limit : ℕ) (t : ThreadNo) (w : Waiting) (past : List Event) → IsRun s limit past →
    (waiting (facts s t past) ≡ Some w) ↔ IsWaiting s t w past
waits_read s limit t w past r = ((λ h. waits_forth s limit t w past r h), (λ h. waits_back s limit t w past r h.0 h.1))

-- ---- ended

-- a thread with the status of an ended wait neither waits nor runs
status_doing : (d : Doing) (st : ℕ) → status_of d ≡ Some st → (waiting_of d ≡ None) × ((d ≡ IsRunning → ⊥))
status_doing (IsReady level o) st h = (refl, λ k. cc)
status_doing d st h = cc

-- the status of a thread whose wait may have ended is the one with which it ended
doing_ended : (o : Option ℕ) (v : Waiting) (st : ℕ) → status_of (doing_of o v) ≡ Some st → o ≡ Some st
doing_ended None v st h = cc
doing_ended (Some k) v st h = h

-- a thread that was running has no status of an ended wait after its own event
made_status : (n : ℕ) (st : Stand) (what : What) → status_of (made_to n st what IsRunning) ≡ None
made_status n st (Switch u status) = refl
made_status n st (Gone u) = refl
made_status n st (Call f Yield Done) = refl
made_status n st (Call f (StartWait m a) Blocked) = refl
made_status n st (Call f (Delay m a u) Blocked) = refl
made_status n st (Rewait f Blocked) = go st.again
  where
    go : (o : Option Again) → status_of (doing_in (option_map (waiting_as n st) o) IsRunning) ≡ None
    go None = refl
    go (Some w) = refl
made_status n st what = refl

module _ (s : Script) (limit : ℕ) (t : ThreadNo) (e : Event) (past : List Event) (r : IsRun s limit (e ∷ past)) where
  -- an event of the thread leaves no status
  maker_status : waiting (facts s t past) ≡ None → is_of_thread s t e ≡ true → ended_status (facts s t (e ∷ past)) ≡ None
  maker_status h b =
      ap status_of (other_after s limit t e past r h ∙ ap (λ (c : Bool). if c then made_to (length past) (stand_at s e.cpu past) e.what (facts s t past).doing
      else (facts s t past).doing) b) ∙ go e.what refl (maker s limit t e past r b)
    where
      go : (w : What) → e.what ≡ w → Maker s t e past → status_of (made_to (length past) (stand_at s e.cpu past) e.what (facts s t past).doing) ≡ None
      go (Switch u st) k m = ap (λ (v : What). status_of (made_to (length past) (stand_at s e.cpu past) v (facts s t past).doing)) k
      go w k (inr m) =
          ap (λ (d : Doing). status_of (made_to (length past) (stand_at s e.cpu past) e.what d)) m.1 ∙ made_status (length past) (stand_at s e.cpu past) e.what
      go w k (inl m) = let z : is_switch_event w ≡ true = sym (ap is_switch_event k) ∙ m.0 in cc

  other_status : waiting (facts s t past) ≡ None → is_of_thread s t e ≡ false → ended_status (facts s t (e ∷ past)) ≡ ended_status (facts s t past)
  other_status h b =
      ap status_of (other_after s limit t e past r h ∙ ap (λ (c : Bool). if c then made_to (length past) (stand_at s e.cpu past) e.what (facts s t past).doing
      else (facts s t past).doing) b)

  end_status : (v : Waiting) → waiting (facts s t past) ≡ Some v → ended_status (facts s t (e ∷ past)) ≡ status_of (doing_of (ends_it s t v e past) v)
  end_status v h = ap status_of (block_after s limit t e past r v (waits_of (facts s t past).doing v h))

  -- a thread with a status makes no event but the Switch that takes it up
  status_makes_none : (st : ℕ) → ended_status (facts s t past) ≡ Some st → takes_up s t e ≡ false → is_of_thread s t e ≡ false
  status_makes_none st h k = go (is_of_thread s t e) refl
    where
      no : is_of_thread s t e ≡ true → Maker s t e past → ⊥
      no b (inl m) =
          let z : takes_up s t e ≡ true = ap (λ (c : Bool). c && is_switch_event e.what) b ∙ m.0 in cc
      no b (inr m) = (status_doing (facts s t past).doing st h).1 m.1

      go : (b : Bool) → is_of_thread s t e ≡ b → b ≡ false
      go false q = refl
      go true q = absurd (no q (maker s limit t e past r q))

abbrev Ends : Script → ThreadNo → Waiting → ℕ → Event → List Event → Type 0
Ends s t w st e before = IsWaiting s t w before × (ends_it s t w e before ≡ Some st)

abbrev NotTaken : Script → ThreadNo → Event → List Event → Type 0
NotTaken s t e before = takes_up s t e ≡ false

-- in a run a thread with the status of an ended wait has an event that ended it, and was not taken up since
ended_forth : (s : Script) (limit : ℕ) (t : ThreadNo) (st : ℕ) (past : List Event) → IsRun s limit past → ended_status (facts s t past) ≡ Some st →
    IsEnded s t st past
ended_forth s limit t st [] r h = cc
ended_forth s limit t st (e ∷ past) r h = go (waiting (facts s t past)) refl (λ k. ended_forth s limit t st past r.1 k)
  where
    still : waiting (facts s t past) ≡ None → (ended_status (facts s t past) ≡ Some st → IsEnded s t st past) → (b : Bool) → is_of_thread s t e ≡ b →
        IsEnded s t st (e ∷ past)
    still k more true b = let z = maker_status s limit t e past r k b in cc
    still k more false b =
        let ih = more (sym (other_status s limit t e past r k b) ∙ h) in
        (ih.0, ih.1, inr ih.2, ((λ l. ap (λ (c : Bool). c && is_switch_event e.what) b), ih.3))

    go : (o : Option Waiting) → waiting (facts s t past) ≡ o → (ended_status (facts s t past) ≡ Some st → IsEnded s t st past) → IsEnded s t st (e ∷ past)
    go (Some v) k more =
        let q : ends_it s t v e past ≡ Some st = doing_ended (ends_it s t v e past) v st (sym (end_status s limit t e past r v k) ∙ h) in (
          v,
          length past,
          inl (refl, (waits_forth s limit t v past r.1 k, q)),
          ((λ l. absurd (omega (arith, l))), none_after (NotTaken s t) (length past) past (omega arith)),
        )
    go None k more = still k more (is_of_thread s t e) refl

-- in a run a thread whose wait an event ended, and that was not taken up since, has that status
ended_back : (s : Script) (limit : ℕ) (t : ThreadNo) (st : ℕ) (w : Waiting) (m : ℕ) (past : List Event) → IsRun s limit past → At (Ends s t w st) m past →
    EachAfter (NotTaken s t) m past → ended_status (facts s t past) ≡ Some st
ended_back s limit t st w m [] r h k = absurd h
ended_back s limit t st w m (e ∷ past) r (inl h) k =
    let waits : waiting (facts s t past) ≡ Some w = waits_back s limit t w past r.1 h.1.0.0 h.1.0.1 in
    end_status s limit t e past r w waits ∙ ap (λ (o : Option ℕ). status_of (doing_of o w)) h.1.1
ended_back s limit t st w m (e ∷ past) r (inr h) k =
    let old : ended_status (facts s t past) ≡ Some st = ended_back s limit t st w m past r.1 h k.1 in
    let none : is_of_thread s t e ≡ false = status_makes_none s limit t e past r st old (k.0 (at_below (Ends s t w st) m past h)) in
    other_status s limit t e past r (status_doing (facts s t past).doing st old).0 none ∙ old

-- in a run a thread has a status exactly where a wait of it ended so and it wasn't taken up since
pub ended_read : (s : Script) (limit : ℕ) (t : ThreadNo) (st : ℕ) (past : List Event) → IsRun s limit past →
    (ended_status (facts s t past) ≡ Some st) ↔ IsEnded s t st past
ended_read s limit t st past r = ((λ h. ended_forth s limit t st past r h), (λ h. ended_back s limit t st h.0 h.1 past r h.2 h.3))

-- ---- gone

-- a thread that the test finds gone is gone
gone_doing_is : (d : Doing) → gone_doing d ≡ true → d ≡ IsGone
gone_doing_is IsGone h = refl
gone_doing_is d h = cc

-- an event that ends a thread is the one that says that this thread is gone
gone_event_is : (t : ThreadNo) (w : What) → ends_thread t w ≡ true → w ≡ Gone t
gone_event_is t (Gone u) h = ap (λ (n : ℕ). Gone (record { 0 = n })) (eqb-true u.0 t.0 h)
gone_event_is t w h = cc

-- a thread that is gone after its own event was gone, or the event is one of going
made_gone : (n : ℕ) (st : Stand) (what : What) (d : Doing) → gone_doing (made_to n st what d) ≡ true → (is_gone_event what ≡ true) ⊎ (d ≡ IsGone)
made_gone n st (Switch u status) d h = cc
made_gone n st (Gone u) d h = inl refl
made_gone n st (Call f Yield Done) d h = cc
made_gone n st (Call f (StartWait m a) Blocked) d h = cc
made_gone n st (Call f (Delay m a u) Blocked) d h = cc
made_gone n st (Rewait f Blocked) d h = go st.again h
  where
    go : (o : Option Again) → gone_doing (doing_in (option_map (waiting_as n st) o) d) ≡ true → (false ≡ true) ⊎ (d ≡ IsGone)
    go None k = inr (gone_doing_is d k)
    go (Some w) k = cc
made_gone n st what d h = inr (gone_doing_is d h)

-- a thread that is gone neither waits nor is ready
gone_waits_not : (d : Doing) → gone_doing d ≡ true → (waiting_of d ≡ None) × (ready_doing d ≡ false)
gone_waits_not IsGone h = (refl, refl)
gone_waits_not d h = cc

module _ (s : Script) (limit : ℕ) (t : ThreadNo) (e : Event) (past : List Event) (r : IsRun s limit (e ∷ past)) where
  -- the Gone of a thread is its own event
  gone_by : e.what ≡ Gone t → is_of_thread s t e ≡ true
  gone_by k =
      let known : Known s e.cpu (own_of s e.cpu past) (lanes_at s past) (Gone t) =
      subst (Known s e.cpu (own_of s e.cpu past) (lanes_at s past)) k (legal_known s limit e past r.0 (ap is_next k)) in
      let run : running e.cpu past ≡ Some t = known.0.thread in
      let named : e.thread ≡ running e.cpu past = thread_named s limit e past r.0 ∙ ap (λ (w : What). thread_field w (running e.cpu past)) k in
      let by : is_by e t ≡ true = ap (λ (o : Option ThreadNo). is_thread o t) (named ∙ run) ∙ eq-eqb t.0 t.0 refl in
      let here : e.cpu.0 ≡ (cpu_of s t).0 = named_here s limit t e past r.0 r.1 by in
      both_true (is_of e (cpu_of s t)) (is_by e t) (eq-eqb e.cpu.0 (cpu_of s t).0 here) by
    where
      both_true : (a b : Bool) → a ≡ true → b ≡ true → (a && b) ≡ true
      both_true a b h k = ap (λ (c : Bool). c && b) h ∙ k

  -- and a Gone that it makes is its own
  gone_own : is_of_thread s t e ≡ true → is_gone_event e.what ≡ true → ends_thread t e.what ≡ true
  gone_own b g = go e.what refl g
    where
      go : (w : What) → e.what ≡ w → is_gone_event w ≡ true → ends_thread t w ≡ true
      go (Gone u) k h =
          let known : Known s e.cpu (own_of s e.cpu past) (lanes_at s past) (Gone u) =
          subst (Known s e.cpu (own_of s e.cpu past) (lanes_at s past)) k (legal_known s limit e past r.0 (ap is_next k)) in
          let run : running e.cpu past ≡ Some u = known.0.thread in
          let named : e.thread ≡ running e.cpu past = thread_named s limit e past r.0 ∙ ap (λ (w : What). thread_field w (running e.cpu past)) k in
          let by : is_by e t ≡ true = (both (is_of e (cpu_of s t)) (is_by e t) b).1 in
          let thread : e.thread ≡ Some t = same_thread e.thread t by in
          let same : u ≡ t = cc in
          eq-eqb u.0 t.0 (ap (λ (v : ThreadNo). v.0) same)
      go w k h = cc

  gone_stays : is_gone (facts s t past) ≡ true → is_gone (facts s t (e ∷ past)) ≡ true
  gone_stays h =
      let quiet = gone_waits_not (facts s t past).doing h in
      let d = gone_doing_is (facts s t past).doing h in
      let none : is_of_thread s t e ≡ false = idle_makes_none s limit t e past r quiet.1 (λ m. cc) in
      ap gone_doing
      (other_after s limit t e past r quiet.0 ∙ ap (λ (b : Bool). if b then made_to (length past) (stand_at s e.cpu past) e.what (facts s t past).doing
      else (facts s t past).doing) none) ∙ h

  gone_anew : is_gone (facts s t past) ≡ false → is_gone (facts s t (e ∷ past)) ≡ true → ends_thread t e.what ≡ true
  gone_anew h k = go (waiting (facts s t past)) refl
    where
      ended_so : (o : Option ℕ) (v : Waiting) → gone_doing (doing_of o v) ≡ true → ⊥
      ended_so None v q = cc
      ended_so (Some st) v q = cc

      went : is_of_thread s t e ≡ true → (is_gone_event e.what ≡ true) ⊎ ((facts s t past).doing ≡ IsGone) → ends_thread t e.what ≡ true
      went b (inl g) = gone_own b g
      went b (inr d) = let z : is_gone (facts s t past) ≡ true = ap gone_doing d in cc

      made : (b : Bool) → is_of_thread s t e ≡ b → gone_doing (if b then made_to (length past) (stand_at s e.cpu past) e.what (facts s t past).doing
          else (facts s t past).doing) ≡ true → ends_thread t e.what ≡ true
      made true b q = went b (made_gone (length past) (stand_at s e.cpu past) e.what (facts s t past).doing q)
      made false b q = cc

      go : (o : Option Waiting) → waiting (facts s t past) ≡ o → ends_thread t e.what ≡ true
      go (Some v) q =
          absurd (ended_so (ends_it s t v e past) v (sym (ap gone_doing (block_after s limit t e past r v (waits_of (facts s t past).doing v q))) ∙ k))
      go None q =
          made (is_of_thread s t e) refl (sym (ap gone_doing (other_after s limit t e past r q)) ∙ k)

  gone_now : ends_thread t e.what ≡ true → is_gone (facts s t (e ∷ past)) ≡ true
  gone_now h =
      let w : e.what ≡ Gone t = gone_event_is t e.what h in
      let b : is_of_thread s t e ≡ true = gone_by w in
      ap (λ (x : ThreadFacts). is_gone x) (facts_made s t e past true b)
      ∙ ap (λ (v : What). is_gone (named_facts s t (length past) v (made_facts s (length past) (stand_at s e.cpu past) v (facts s t past)))) w

-- in a run a thread that is gone has an event by which it went
gone_forth : (s : Script) (limit : ℕ) (t : ThreadNo) (past : List Event) → IsRun s limit past → is_gone (facts s t past) ≡ true → HasGone t past
gone_forth s limit t [] r h = cc
gone_forth s limit t (e ∷ past) r h = go (is_gone (facts s t past)) refl (λ k. gone_forth s limit t past r.1 k)
  where
    go : (b : Bool) → is_gone (facts s t past) ≡ b → (is_gone (facts s t past) ≡ true → HasGone t past) → HasGone t (e ∷ past)
    go true k ih = inr (ih k)
    go false k ih = inl (gone_anew s limit t e past r k h)

-- in a run a thread that an event says is gone is gone
gone_back : (s : Script) (limit : ℕ) (t : ThreadNo) (past : List Event) → IsRun s limit past → HasGone t past → is_gone (facts s t past) ≡ true
gone_back s limit t [] r h = absurd h
gone_back s limit t (e ∷ past) r (inl h) = gone_now s limit t e past r h
gone_back s limit t (e ∷ past) r (inr h) = gone_stays s limit t e past r (gone_back s limit t past r.1 h)

-- in a run a thread's wait, the status of its ended wait and that it is gone are read off the events
pub waits_are_read : WaitsAreRead
waits_are_read s limit t past r = record {
  waits = λ w. waits_read s limit t w past r;
  ended = λ st. ended_read s limit t st past r;
  gone = ((λ h. gone_forth s limit t past r h), (λ h. gone_back s limit t past r h));
}

-- a Switch carries the status of the thread's ended wait
pub switch_tells : (s : Script) (limit : ℕ) (t : ThreadNo) (e : Event) (past : List Event) (carried : Option ℕ) → IsRun s limit (e ∷ past) → e.what
    ≡ Switch t carried → carried ≡ ended_status (facts s t past)
switch_tells s limit t e past carried r w =
    let turn : Gives (step s limit (SwitchTurn e.cpu t) past) e = subst (λ (w : What). Gives (step s limit (turn_at e.cpu w) past) e) w r.0 in
    let g = switch_gives s limit e.cpu t past e turn in
    let has = both (has_thread s t) _ g.1 in
    let what : Switch t (ended_status (facts_at (lanes_at s past) t)) ≡ Switch t carried = ap (λ (x : Event). x.what) g.2 ∙ w in
    let same : ended_status (facts_at (lanes_at s past) t) ≡ carried = cc in
    sym same ∙ ap ended_status (facts_there s limit t past has.0)

-- in a run a Switch carries a status exactly where the thread's wait ended so and it wasn't taken up since
pub switches_carry : SwitchesCarryTheStatus
switches_carry s limit t e past carried r w st =
    let told : carried ≡ ended_status (facts s t past) = switch_tells s limit t e past carried r w in
    ((λ h. (ended_read s limit t st past r.1).0 (sym told ∙ h)), (λ h. told ∙ (ended_read s limit t st past r.1).1 h))
