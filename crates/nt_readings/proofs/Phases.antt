-- In a run each open frame has the level, place, phase and wait that the events of its present phase tell.
use Rattle.std.proofs.Common.{ap, arith, inl, inr, subst, sym, ◌∙◌}
use Rattle.std.proofs.lemmas.Bool.{both_ways, eq-eqb, lt-ltb}
use Rattle.std.specs.Option.{option_map_or}
use Rattle.std.specs.Prelude.{Bool, List, None, Option, Some, false, if◌then◌else◌, length, nat_lt, not, refl, suc, true, ℕ, ◌&&◌, ◌+◌, ◌<◌, ◌==◌, ◌∷◌, ◌≡◌}
use Rattle.std.specs.Prelude.{◌≤◌, ◌⊎◌}
use Rattle.nt_event.specs.declared.commands.Command.{Command}
use Rattle.nt_event.specs.declared.commands.Command.TheVariants.{Acquire, Delay, Lower, Raise, StartWait, Unlock}
use Rattle.nt_event.specs.declared.commands.Refusal.TheVariants.{NotLast, TooHigh}
use Rattle.nt_event.specs.declared.commands.Reply.{Reply}
use Rattle.nt_event.specs.declared.commands.Reply.TheVariants.{Blocked, Done, Spin, Status}
use Rattle.nt_event.specs.declared.events.Event.{Event}
use Rattle.nt_event.specs.declared.events.What.{What}
use Rattle.nt_event.specs.declared.events.What.TheVariants.{Call, Free, Normal, End, Rewait, Switch}
use Rattle.nt_event.specs.declared.frames.Again.{Again}
use Rattle.nt_event.specs.declared.frames.Body.{Body}
use Rattle.nt_event.specs.declared.frames.Body.TheVariants.{Apc as OnApc, Base as OnBase}
use Rattle.nt_event.specs.declared.frames.Held.{Held}
use Rattle.nt_event.specs.Frame.{Frame}
use Rattle.nt_event.specs.declared.numbers.CpuNo.{CpuNo}
use Rattle.nt_event.specs.declared.numbers.LockNo.{LockNo}
use Rattle.nt_event.specs.declared.numbers.ThreadNo.{ThreadNo}
use Rattle.nt_event.specs.declared.scripts.Script.{Script}
use Rattle.nt_event.specs.Frames.{again_after, base_level, base_of, called, due_of, freed, freed_level, is_apc_body, is_base_body, ended_base, new_frame}
use Rattle.nt_event.specs.Frames.{normal_of, place_after, resumed, rewaited, time}
use Rattle.nt_event.proofs.Options.{not_false}
use Rattle.nt_event.specs.Commands.{is_last}
use Rattle.nt_event.specs.Jobs.{has_normal, level_at}
use Rattle.nt_event.specs.Lanes.{Lanes, lanes_at}
use Rattle.nt_event.specs.Lists.{head_of}
use Rattle.nt_event.specs.Locks.{Frees, Gets, NoMove, Spins, lock_move}
use Rattle.nt_event.specs.Own.{Own, own_of}
use Rattle.nt_event.specs.Regions.{stand_at}
use Rattle.nt_event.specs.Step.{IsRun}
use Rattle.nt_event.specs.Replies.{is_spin, kernel_apc}
use Rattle.nt_runs.proofs.Calm.{next_test}
use Rattle.nt_runs.proofs.Known.{Known, KnownCall, KnownFree, KnownRewait, again_known, legal_known}
use Rattle.nt_runs.proofs.Stops.{call_accepted, refuse_none}
use Rattle.nt_runs.proofs.Turns.{is_next}
use Rattle.nt_readings.specs.Positions.{At, EachAfter}
use Rattle.nt_readings.specs.Locks.{IsKeptWith, LocksToldOf}
use Rattle.nt_readings.specs.Phases.{FramesTold, IsLastWait, IsLevelCall, IsLevelEvent, IsLeveled, IsPhased, IsTold, IsWaited, LeavesLevel, is_call_of}
use Rattle.nt_readings.specs.Phases.{is_normal_of, is_wait_reply, wait_called}
use Rattle.nt_readings.specs.Regions.{count_after, phase_of, renews}
use Rattle.nt_readings.proofs.Follow.{Follows, IsAside, each_own, each_part, inner_has, names, not_equal}
use Rattle.nt_readings.proofs.Frames.{keep_called}
use Rattle.nt_readings.proofs.Locks.{inner_told, last_kept}
use Rattle.nt_readings.proofs.Regions.{count_none, count_silent, end_anew, normal_anew, phase_anew, phase_below, phase_new, phase_silent, silent}
use Rattle.nt_readings.proofs.Served.{none_yet}

-- ---- levels

-- with a level, of a frame of this name and base level
abbrev Leveled : Script → List Event → ℕ → ℕ → ℕ → Type 0
Leveled s past n level base = ((level ≡ base) × EachAfter (λ e before. IsLevelEvent n e.what → ⊥) (phase_of n past) past) ⊎
    ((m : ℕ) × (phase_of n past < m) × At (LeavesLevel s n level) m past × EachAfter (λ e before. IsLevelEvent n e.what → ⊥) m past)

-- an event that changes the level names its frame
level_names : (n : ℕ) (w : What) → IsLevelEvent n w → names w ≡ Some n
level_names n w (inl (v, inl q)) = ap names q
level_names n w (inl (v, inr q)) = ap names q
level_names n w (inr (inl (k, inl q))) = ap names q
level_names n w (inr (inl (k, inr q))) = ap names q
level_names n w (inr (inr (k, inl q))) = ap names q
level_names n w (inr (inr (k, inr q))) = ap names q

-- an event that leaves a frame aside doesn't change its level
level_aside : (n : ℕ) (w : What) → IsAside n w → IsLevelEvent n w → ⊥
level_aside n w a h = a n (level_names n w h) refl

-- a frame's level is still told by its events after an event that changes no level and begins no phase
leveled_on : (s : Script) (n level base : ℕ) (e : Event) (past : List Event) → renews n e.what ≡ false → (IsLevelEvent n e.what → ⊥) →
    Leveled s past n level base → Leveled s (e ∷ past) n level base
leveled_on s n level base e past a b (inl h) =
    let p = phase_silent n e past a in
    inl (h.0, subst (λ (m : ℕ). EachAfter (λ e before. IsLevelEvent n e.what → ⊥) m (e ∷ past)) (sym p) ((λ l. b), h.1))
leveled_on s n level base e past a b (inr h) =
    let p = phase_silent n e past a in
    inr (h.0, subst (λ (m : ℕ). m < h.0) (sym p) h.1, inr h.2, ((λ l. b), h.3))

-- at the start of a phase a frame's level is its base level
leveled_anew : (s : Script) (n level base : ℕ) (e : Event) (past : List Event) → level ≡ base → phase_of n (e ∷ past) ≡ length past →
    Leveled s (e ∷ past) n level base
leveled_anew s n level base e past h p =
    inl (
      h,
      subst (λ (m : ℕ). EachAfter (λ e before. IsLevelEvent n e.what → ⊥) m (e ∷ past)) (sym p)
          (none_yet (λ e before. IsLevelEvent n e.what → ⊥) (length past) e past (omega arith)),
    )

-- an event that sets the frame's level is the last that changed it, so the level is that one
leveled_set : (s : Script) (n level base : ℕ) (e : Event) (past : List Event) → n < length past → renews n e.what ≡ false → LeavesLevel s n level e past →
    Leveled s (e ∷ past) n level base
leveled_set s n level base e past l a b =
    let p = phase_silent n e past a in
    let q = phase_below n past l in
    inr (length past, omega (arith, p, q), inl (refl, b), none_yet (λ e before. IsLevelEvent n e.what → ⊥) (length past) e past (omega arith))

-- a call with this move of a lock is no accepted raise or lower, try or unlock
level_moves : (n : ℕ) (w : What) → lock_move w ≡ NoMove → ((v : ℕ) → IsLevelCall n v w → ⊥) → IsLevelEvent n w → ⊥
level_moves n w m c (inl (v, q)) = c v q
level_moves n w m c (inr (inl (k, inl q))) = let z : Gets k ≡ NoMove = sym (ap lock_move q) ∙ m in cc
level_moves n w m c (inr (inl (k, inr q))) = let z : Spins k ≡ NoMove = sym (ap lock_move q) ∙ m in cc
level_moves n w m c (inr (inr (k, inl q))) = let z : Frees k ≡ NoMove = sym (ap lock_move q) ∙ m in cc
level_moves n w m c (inr (inr (k, inr q))) = let z : Frees k ≡ NoMove = sym (ap lock_move q) ∙ m in cc

-- what a call does to the level of its frame, whose locks are told
abbrev CallLevel : Script → Command → Reply → Frame → ℕ → Event → List Event → Type 0
CallLevel s c y f level e past = LeavesLevel s f.name level e past ⊎ ((IsLevelEvent f.name e.what → ⊥) × (level ≡ f.level))

-- the level that a call leaves its frame is the one that the call sets, or what it was
call_level : (s : Script) (p : CpuNo) (x : Own) (l : Lanes) (m : ℕ) (due : Option ℕ) (c : Command) (y : Reply) (k : KnownCall s p x l m c y) (e : Event)
    (past : List Event) → e.what ≡ Call k.frame.name c y → LocksToldOf s past k.frame →
    CallLevel s c y k.frame (called due c y k.frame).level e past
call_level s p x l m due (Raise v) Done k e past q h = inl (inl (inl q))
call_level s p x l m due (Lower v) Done k e past q h = inl (inl (inr q))
call_level s p x l m due (Acquire a) Done k e past q h = inl (inr (inl (refl, (a, inl q))))
call_level s p x l m due (Acquire a) Spin k e past q h = inl (inr (inl (refl, (a, inr q))))
call_level s p x l m due (Unlock a) Done k e past q h =
    inl (inr (inr (a, inl q, last_kept s past k.frame.name k.frame.held k.frame.spin a k.frame.level h last)))
  where
    last : is_last a k.frame ≡ true
    last =
        not_false (is_last a k.frame) (refuse_none (not (is_last a k.frame)) NotLast None (next_test (nat_lt 2 (level_at x)) TooHigh _
        (call_accepted s p x l m (Unlock a) Done k refl).0))
call_level s p x l m due (StartWait w a) y k e past q h =
    inr (level_moves k.frame.name e.what (ap lock_move q) (λ v z. other v z q), refl)
  where
    other : (v : ℕ) → IsLevelCall k.frame.name v e.what → e.what ≡ Call k.frame.name (StartWait w a) y → ⊥
    other v (inl i) j = cc
    other v (inr i) j = cc
call_level s p x l m due (Delay w a u) y k e past q h =
    inr (level_moves k.frame.name e.what (ap lock_move q) (λ v z. other v z q), refl)
  where
    other : (v : ℕ) → IsLevelCall k.frame.name v e.what → e.what ≡ Call k.frame.name (Delay w a u) y → ⊥
    other v (inl i) j = cc
    other v (inr i) j = cc
call_level s p x l m due c Done k e past q h =
    inr (level_moves k.frame.name e.what (ap lock_move q) (λ v z. other v z q), refl)
  where
    other : (v : ℕ) → IsLevelCall k.frame.name v e.what → e.what ≡ Call k.frame.name c Done → ⊥
    other v (inl i) j = cc
    other v (inr i) j = cc
call_level s p x l m due c y k e past q h =
    inr (level_moves k.frame.name e.what (ap lock_move q) (λ v z. other v z q), refl)
  where
    other : (v : ℕ) → IsLevelCall k.frame.name v e.what → e.what ≡ Call k.frame.name c y → ⊥
    other v (inl i) j = cc
    other v (inr i) j = cc

-- a call keeps whether its frame is in its kernel routine
called_phase : (due : Option ℕ) (c : Command) (y : Reply) (f : Frame) → (called due c y f).kernel_phase ≡ f.kernel_phase
called_phase due (StartWait m a) y f = refl
called_phase due (Delay m a u) y f = refl
called_phase due (Raise l) Done f = refl
called_phase due c Done f = refl
called_phase due c y f = refl

-- a call keeps the base level of its frame
called_base : (due : Option ℕ) (c : Command) (y : Reply) (f : Frame) → base_of (called due c y f) ≡ base_of f
called_base due c y f =
    ap (λ (b : Body). base_level b (called due c y f).kernel_phase) ((keep_called due c y).body f) ∙ ap (base_level f.body) (called_phase due c y f)

-- after a call the level of its frame is as its events tell
call_leveled : (s : Script) (c : Command) (y : Reply) (f : Frame) (level : ℕ) (e : Event) (past : List Event) → f.name < length past →
    e.what ≡ Call f.name c y → CallLevel s c y f level e past → IsLeveled s past f → Leveled s (e ∷ past) f.name level (base_of f)
call_leveled s c y f level e past l k a h = go a
  where
    same : renews f.name e.what ≡ false
    same = ap (renews f.name) k

    go : CallLevel s c y f level e past → Leveled s (e ∷ past) f.name level (base_of f)
    go (inl a) = leveled_set s f.name level (base_of f) e past l same a
    go (inr a) =
        subst (λ (v : ℕ). Leveled s (e ∷ past) f.name v (base_of f)) (sym a.1) (leveled_on s f.name f.level (base_of f) e past same a.0 h)

-- the base level of an APC in its normal routine, and of a base frame
normal_base : (f : Frame) → has_normal f.body ≡ true → 0 ≡ base_of (normal_of f)
normal_base f h = go f.body h
  where
    go : (b : Body) → has_normal b ≡ true → 0 ≡ base_level b false
    go (OnApc a kind) h = refl
    go b h = cc

-- the base level of a base frame that ended is 0
left_base : (f : Frame) → is_base_body f.body ≡ true → 0 ≡ base_of (ended_base f)
left_base f h = go f.body h
  where
    go : (b : Body) → is_base_body b ≡ true → 0 ≡ base_level b f.kernel_phase
    go (OnBase t) h = refl
    go b h = cc

-- ---- places

-- an event that leaves a frame aside is no call of it to count
call_aside : (n : ℕ) (w : What) → IsAside n w → is_call_of n w ≡ false
call_aside n (Call f c y) h = ap (λ (b : Bool). b && not (is_spin y)) (not_equal f n (h f refl))
call_aside n w h = refl

-- a frame's place is still the count of its calls after an event that is no call of it and begins no phase
placed_on : (n place : ℕ) (e : Event) (past : List Event) → renews n e.what ≡ false → is_call_of n e.what ≡ false → place
    ≡ count_after (is_call_of n) (phase_of n past) past → place ≡ count_after (is_call_of n) (phase_of n (e ∷ past)) (e ∷ past)
placed_on n place e past a b h =
    let p = ap (λ (m : ℕ). count_after (is_call_of n) m (e ∷ past)) (phase_silent n e past a) in
    let q = count_silent (is_call_of n) (phase_of n past) e past b in
    h ∙ sym (p ∙ q)

-- after a call the frame's place is the count of its calls in the phase
placed_called : (n place : ℕ) (c : Command) (y : Reply) (e : Event) (past : List Event) → n < length past → e.what ≡ Call n c y → place
    ≡ count_after (is_call_of n) (phase_of n past) past → place_after y place ≡ count_after (is_call_of n) (phase_of n (e ∷ past)) (e ∷ past)
placed_called n place c y e past l k h = go (is_spin y) refl
  where
    here : is_call_of n e.what ≡ not (is_spin y)
    here = ap (is_call_of n) k ∙ ap (λ (b : Bool). b && not (is_spin y)) (eq-eqb n n refl)

    go : (b : Bool) → is_spin y ≡ b → (if b then place else place + 1) ≡ count_after (is_call_of n) (phase_of n (e ∷ past)) (e ∷ past)
    go true q = placed_on n place e past (ap (renews n) k) (here ∙ ap not q) h
    go false q =
        let p = ap (λ (m : ℕ). count_after (is_call_of n) m (e ∷ past)) (phase_silent n e past (ap (renews n) k)) in
        let now : is_call_of n e.what ≡ true = here ∙ ap not q in
        let z : count_after (is_call_of n) (phase_of n past) (e ∷ past)
        ≡ suc (count_after (is_call_of n) (phase_of n past) past) = rw (lt-ltb (phase_of n past) (length past) (phase_below n past l), now) refl in
        omega (arith, p, z, h)

-- at the start of a phase a frame's place is 0, as it has no calls yet
placed_anew : (n m : ℕ) (past : List Event) → phase_of n past ≡ m → length past ≤ suc m → 0 ≡ count_after (is_call_of n) (phase_of n past) past
placed_anew n m past p l = sym (ap (λ (m : ℕ). count_after (is_call_of n) m past) p ∙ count_none (is_call_of n) m past l)

-- ---- phases of APCs

abbrev NoNormal : ℕ → List Event → Type 0
NoNormal n past = EachAfter (λ e before. is_normal_of n e.what ≡ false) n past

-- an event that leaves a frame aside isn't its Normal
normal_aside : (n : ℕ) (w : What) → IsAside n w → is_normal_of n w ≡ false
normal_aside n (Normal f) h = not_equal f n (h f refl)
normal_aside n w h = refl

-- a frame's phase is still told by its events after an event that isn't its Normal
phased_on : (e : Event) (past : List Event) (f : Frame) → is_normal_of f.name e.what ≡ false → IsPhased past f → IsPhased (e ∷ past) f
phased_on e past f a h = (λ q. let z = h.0 q in (z.0, ((λ l. a), z.1)), λ b n. h.1 b n.1)

-- ---- waits

abbrev Waited : List Event → ℕ → Option Again → Type 0
Waited past n o = (w : Again) → o ≡ Some w → (k : ℕ) × (phase_of n past < k) × At (λ e before. wait_called n (time before) e.what ≡ Some w) k past ×
    EachAfter (λ e before. wait_called n (time before) e.what ≡ None) k past

-- an event that leaves a frame aside calls no wait of it
wait_aside : (n now : ℕ) (w : What) → IsAside n w → wait_called n now w ≡ None
wait_aside n now (Call f (StartWait m a) y) h =
    ap (λ (b : Bool). if b then (if is_wait_reply y then Some (record { mode = m; alertable = a; due = None }) else None) else None) (not_equal f n (h f refl))
wait_aside n now (Call f (Delay m a u) y) h =
    ap (λ (b : Bool). if b then (if is_wait_reply y then Some (record { mode = m; alertable = a; due = Some (now + u) }) else None) else None)
    (not_equal f n (h f refl))
wait_aside n now w h = refl

-- a frame's wait is still its last called one after an event that calls no wait and begins no phase
waited_on : (n : ℕ) (o : Option Again) (e : Event) (past : List Event) → renews n e.what ≡ false → wait_called n (time past) e.what ≡ None → Waited past n o →
    Waited (e ∷ past) n o
waited_on n o e past a b h w q =
    let z = h w q in
    let p = phase_silent n e past a in
    (z.0, subst (λ (m : ℕ). m < z.0) (sym p) z.1, inr z.2, ((λ l. b), z.3))

-- no wait to take up is told by any events
waited_none : (n : ℕ) (past : List Event) → Waited past n None
waited_none n past w q = cc

-- a wait that the frame calls is its last called one after the event
waited_new : (n : ℕ) (o : Option Again) (e : Event) (past : List Event) → n < length past → renews n e.what ≡ false → wait_called n (time past) e.what ≡ o →
    Waited (e ∷ past) n o
waited_new n o e past l a b w q =
    let p = phase_silent n e past a in
    let r = phase_below n past l in
    (length past, omega (arith, p, r), inl (refl, b ∙ q), none_yet (λ e before. wait_called n (time before) e.what ≡ None) (length past) e past (omega arith))

-- what a call leaves: the wait that it names, none, or what was there
abbrev LeavesWait : ℕ → Command → Reply → ℕ → Option Again → Option Again → Type 0
LeavesWait n c y now old new = (wait_called n now (Call n c y) ≡ new) ⊎ ((new ≡ None) ⊎ ((wait_called n now (Call n c y) ≡ None) × (new ≡ old)))

-- a wait that ends with a status is left to take up or is none
ended_wait : (st : ℕ) (w : Option Again) (old : Option Again) → (again_after (Status st) w old ≡ w) ⊎ (again_after (Status st) w old ≡ None)
ended_wait st w old = go (st == kernel_apc)
  where
    go : (b : Bool) → ((if b then w else None) ≡ w) ⊎ ((if b then w else None) ≡ None)
    go true = inl refl
    go false = inr refl

-- a call leaves its frame the wait that it names, none, or the one that was there
call_wait : (n now : ℕ) (c : Command) (y : Reply) (f : Frame) → LeavesWait n c y now f.again (called (due_of (Call n c y) now) c y f).again
call_wait n now (StartWait m a) Blocked f =
    inl (ap (λ (b : Bool). if b then Some (record { mode = m; alertable = a; due = None }) else None) (eq-eqb n n refl))
call_wait n now (StartWait m a) (Status st) f = go (ended_wait st (Some (record { mode = m; alertable = a; due = None })) f.again)
  where
    go : (again_after (Status st) (Some (record { mode = m; alertable = a; due = None })) f.again ≡ Some (record { mode = m; alertable = a; due = None })) ⊎
        (again_after (Status st) (Some (record { mode = m; alertable = a; due = None })) f.again ≡ None) →
        LeavesWait n (StartWait m a) (Status st) now f.again (again_after (Status st) (Some (record { mode = m; alertable = a; due = None })) f.again)
    go (inl h) =
        inl (ap (λ (b : Bool). if b then Some (record { mode = m; alertable = a; due = None }) else None) (eq-eqb n n refl) ∙ sym h)
    go (inr h) = inr (inl h)
call_wait n now (StartWait m a) y f =
    inr (inr (ap (λ (b : Bool). if b then None else None) (eq-eqb n n refl), refl))
call_wait n now (Delay m a u) Blocked f =
    inl (ap (λ (b : Bool). if b then Some (record { mode = m; alertable = a; due = Some (now + u) }) else None) (eq-eqb n n refl))
call_wait n now (Delay m a u) (Status st) f = go (ended_wait st (Some (record { mode = m; alertable = a; due = Some (now + u) })) f.again)
  where
    go : (again_after (Status st) (Some (record { mode = m; alertable = a; due = Some (now + u) })) f.again
        ≡ Some (record { mode = m; alertable = a; due = Some (now + u) })) ⊎
        (again_after (Status st) (Some (record { mode = m; alertable = a; due = Some (now + u) })) f.again ≡ None) →
        LeavesWait n (Delay m a u) (Status st) now f.again (again_after (Status st) (Some (record { mode = m; alertable = a; due = Some (now + u) })) f.again)
    go (inl h) =
        inl (ap (λ (b : Bool). if b then Some (record { mode = m; alertable = a; due = Some (now + u) }) else None) (eq-eqb n n refl) ∙ sym h)
    go (inr h) = inr (inl h)
call_wait n now (Delay m a u) y f =
    inr (inr (ap (λ (b : Bool). if b then None else None) (eq-eqb n n refl), refl))
call_wait n now (Raise l) Done f = inr (inr (refl, refl))
call_wait n now c Done f = inr (inr (refl, refl))
call_wait n now c y f = inr (inr (refl, refl))

-- after a call the wait of its frame is its last called one
call_waited : (c : Command) (y : Reply) (f : Frame) (e : Event) (past : List Event) → f.name < length past → e.what ≡ Call f.name c y → IsWaited past f →
    Waited (e ∷ past) f.name (called (due_of e.what (time past)) c y f).again
call_waited c y f e past l k h =
    subst (λ (w : What). Waited (e ∷ past) f.name (called (due_of w (time past)) c y f).again) (sym k)
    (go (called (due_of (Call f.name c y) (time past)) c y f).again (call_wait f.name (time past) c y f))
  where
    same : renews f.name e.what ≡ false
    same = ap (renews f.name) k

    go : (o : Option Again) → LeavesWait f.name c y (time past) f.again o → Waited (e ∷ past) f.name o
    go o (inl a) = waited_new f.name o e past l same (ap (wait_called f.name (time past)) k ∙ a)
    go o (inr (inl a)) = subst (Waited (e ∷ past) f.name) (sym a) (waited_none f.name (e ∷ past))
    go o (inr (inr a)) =
        subst (Waited (e ∷ past) f.name) (sym a.1) (waited_on f.name f.again e past same (ap (wait_called f.name (time past)) k ∙ a.0) h)

-- a wait that is taken up, or ended, is the same one or none
again_same : (y : Reply) (o : Option Again) → (again_after y o o ≡ o) ⊎ (again_after y o o ≡ None)
again_same (Status st) o = ended_wait st o o
again_same Blocked o = inl refl
again_same y o = inl refl

-- a wait that is taken up again and answered is the last called one or none
waited_same : (y : Reply) (n : ℕ) (past : List Event) (o : Option Again) → Waited past n o → Waited past n (again_after y o o)
waited_same y n past o h = go (again_same y o)
  where
    go : (again_after y o o ≡ o) ⊎ (again_after y o o ≡ None) → Waited past n (again_after y o o)
    go (inl q) = subst (Waited past n) (sym q) h
    go (inr q) = subst (Waited past n) (sym q) (waited_none n past)

-- ---- events that change no level

-- an event equal to one that changes no level of a frame changes none
level_quiet : (n : ℕ) (w v : What) → w ≡ v → (IsLevelEvent n v → ⊥) → IsLevelEvent n w → ⊥
level_quiet n w v q a h = a (subst (IsLevelEvent n) q h)

-- a Rewait changes no level of its frame
no_rewait : (n : ℕ) (y : Reply) → IsLevelEvent n (Rewait n y) → ⊥
no_rewait n y (inl (v, inl q)) = cc
no_rewait n y (inl (v, inr q)) = cc
no_rewait n y (inr (inl (k, inl q))) = cc
no_rewait n y (inr (inl (k, inr q))) = cc
no_rewait n y (inr (inr (k, inl q))) = cc
no_rewait n y (inr (inr (k, inr q))) = cc

-- a Switch changes no level of a frame
no_switch : (n : ℕ) (t : ThreadNo) (st : Option ℕ) → IsLevelEvent n (Switch t st) → ⊥
no_switch n t st (inl (v, inl q)) = cc
no_switch n t st (inl (v, inr q)) = cc
no_switch n t st (inr (inl (k, inl q))) = cc
no_switch n t st (inr (inl (k, inr q))) = cc
no_switch n t st (inr (inr (k, inl q))) = cc
no_switch n t st (inr (inr (k, inr q))) = cc

-- ---- each open frame

-- case: the event changes nothing of the frame; its level, place, phase and wait are still as told
told_on : (s : Script) (e : Event) (past : List Event) (f : Frame) → renews f.name e.what ≡ false → (IsLevelEvent f.name e.what → ⊥) →
    is_call_of f.name e.what ≡ false → is_normal_of f.name e.what ≡ false → wait_called f.name (time past) e.what ≡ None → IsTold s past f →
    IsTold s (e ∷ past) f
told_on s e past f a b c d i h =
    record {
      level = leveled_on s f.name f.level (base_of f) e past a b h.level;
      place = placed_on f.name f.place e past a c h.place;
      phase = phased_on e past f d h.phase;
      wait = waited_on f.name f.again e past a i h.wait;
    }

-- case: the frame is new; its level, place, phase and wait are as its events tell
told_new : (s : Script) (e : Event) (past : List Event) (b : Body) → IsTold s (e ∷ past) (new_frame (length past) b)
told_new s e past b =
    let p = phase_new (length past) (e ∷ past) (omega arith) in
    record {
      level = leveled_anew s (length past) (base_level b (is_apc_body b)) (base_level b (is_apc_body b)) e past refl p;
      place = placed_anew (length past) (length past) (e ∷ past) p (omega arith);
      phase = (λ q. (q, none_yet (λ e before. is_normal_of (length past) e.what ≡ false) (length past) e past (omega arith)), λ q n. q);
      wait = waited_none (length past) (e ∷ past);
    }

-- case: the frame calls; its level, place, phase and wait are as its events tell
told_called : (s : Script) (c : Command) (y : Reply) (f : Frame) (e : Event) (past : List Event) → f.name < length past → e.what ≡ Call f.name c y →
    CallLevel s c y f (called (due_of e.what (time past)) c y f).level e past → IsTold s past f →
    IsTold s (e ∷ past) (called (due_of e.what (time past)) c y f)
told_called s c y f e past l k a h =
    let due = due_of e.what (time past) in
    let name = (keep_called due c y).name f in
    let body = (keep_called due c y).body f in
    let kernel = called_phase due c y f in
    let level = subst (λ (n : ℕ). Leveled s (e ∷ past) n (called due c y f).level (base_of (called due c y f))) (sym name)
    (subst (Leveled s (e ∷ past) f.name (called due c y f).level) (sym (called_base due c y f))
    (call_leveled s c y f (called due c y f).level e past l k a h.level)) in
    let place = subst (λ (n : ℕ). place_after y f.place ≡ count_after (is_call_of n) (phase_of n (e ∷ past)) (e ∷ past)) (sym name)
    (placed_called f.name f.place c y e past l k h.place) in
    let on = phased_on e past f (ap (is_normal_of f.name) k) h.phase in
    let wait = subst (λ (n : ℕ). Waited (e ∷ past) n (called due c y f).again) (sym name) (call_waited c y f e past l k h.wait) in
    record { level = level; place = place; phase = phase_same name body kernel on; wait = wait }
  where
    phase_same : (called (due_of e.what (time past)) c y f).name ≡ f.name → (called (due_of e.what (time past)) c y f).body ≡ f.body →
        (called (due_of e.what (time past)) c y f).kernel_phase ≡ f.kernel_phase → IsPhased (e ∷ past) f →
        IsPhased (e ∷ past) (called (due_of e.what (time past)) c y f)
    phase_same name body kernel on = (
      λ q. let z = on.0 (sym kernel ∙ q) in (ap is_apc_body body ∙ z.0, subst (λ (n : ℕ). NoNormal n (e ∷ past)) (sym name) z.1),
      λ q m. kernel
          ∙ on.1 (ap is_apc_body (sym body) ∙ q) (subst (λ (n : ℕ). NoNormal n (e ∷ past)) name m),
    )

-- case: the frame goes on to its normal routine; what it tells begins anew
told_normal : (s : Script) (f : Frame) (e : Event) (past : List Event) → f.name < length past → e.what ≡ Normal f.name → has_normal f.body ≡ true →
    IsTold s (e ∷ past) (normal_of f)
told_normal s f e past l k n =
    let p = phase_anew f.name e past l (normal_anew f.name e.what k) in
    record {
      level = leveled_anew s f.name 0 (base_of (normal_of f)) e past (normal_base f n) p;
      place = placed_anew f.name (length past) (e ∷ past) p (omega arith);
      phase = (λ q. no_bool q, λ q m. absurd (both_ways (is_normal_of f.name e.what) (m.0 l) (ap (is_normal_of f.name) k ∙ eq-eqb f.name f.name refl)));
      wait = waited_none f.name (e ∷ past);
    }
  where
    no_bool : {A : Type 0} → false ≡ true → A
    no_bool q = cc

-- case: a base frame ends and stays; what it tells begins anew
told_left : (s : Script) (f : Frame) (e : Event) (past : List Event) → f.name < length past → e.what ≡ End f.name → is_base_body f.body ≡ true →
    IsTold s past f → IsTold s (e ∷ past) (ended_base f)
told_left s f e past l k b h =
    let p = phase_anew f.name e past l (end_anew f.name e.what k) in
    let on = phased_on e past f (ap (is_normal_of f.name) k) h.phase in
    record {
      level = leveled_anew s f.name 0 (base_of (ended_base f)) e past (left_base f b) p;
      place = placed_anew f.name (length past) (e ∷ past) p (omega arith);
      phase = (on.0, on.1);
      wait = waited_none f.name (e ∷ past);
    }

-- case: the frame takes up its wait again; what it tells stays
told_rewaited : (s : Script) (y : Reply) (f : Frame) (e : Event) (past : List Event) → e.what ≡ Rewait f.name y → IsTold s past f →
    IsTold s (e ∷ past) (rewaited y f)
told_rewaited s y f e past k h =
    let on = told_on s e past f (ap (renews f.name) k) (level_quiet f.name e.what (Rewait f.name y) k (no_rewait f.name y)) (ap (is_call_of f.name) k)
    (ap (is_normal_of f.name) k) (ap (wait_called f.name (time past)) k) h in
    record { level = on.level; place = on.place; phase = (on.phase.0, on.phase.1); wait = waited_same y f.name (e ∷ past) f.again on.wait }

-- case: the frame is resumed by a Switch; what it tells stays
told_resumed : (s : Script) (st : Option ℕ) (t : ThreadNo) (f : Frame) (e : Event) (past : List Event) → e.what ≡ Switch t st → IsTold s past f →
    IsTold s (e ∷ past) (resumed st f)
told_resumed s st t f e past k h = go st (told_on s e past f (ap (renews f.name) k) (level_quiet f.name e.what (Switch t st) k (no_switch f.name t st))
    (ap (is_call_of f.name) k) (ap (is_normal_of f.name) k) (ap (wait_called f.name (time past)) k) h)
  where
    go : (st : Option ℕ) → IsTold s (e ∷ past) f → IsTold s (e ∷ past) (resumed st f)
    go None on = on
    go (Some x) on =
        record { level = on.level; place = on.place; phase = (on.phase.0, on.phase.1); wait = waited_same (Status x) f.name (e ∷ past) f.again on.wait }

-- a Free leaves the level that is kept with the lock
told_freed : (s : Script) (limit : ℕ) (e : Event) (past : List Event) (n : ℕ) (k : LockNo) → IsRun s limit (e ∷ past) →
    (x : KnownFree s e.cpu (own_of s e.cpu past) n k) → e.what ≡ Free x.frame.name k → x.frame.name < length past → IsTold s past x.frame →
    IsTold s (e ∷ past) (freed x.frame)
told_freed s limit e past n k r x q l h =
    let f = x.frame in
    let on = phased_on e past x.frame (ap (is_normal_of x.frame.name) q) h.phase in
    record {
      level = leveled_set s x.frame.name (freed_level x.frame) (base_of x.frame) e past l (ap (renews x.frame.name) q) (inr (inr (k, inr q, kept)));
      place = placed_on x.frame.name x.frame.place e past (ap (renews x.frame.name) q) (ap (is_call_of x.frame.name) q) h.place;
      phase = (on.0, on.1);
      wait = waited_on x.frame.name x.frame.again e past (ap (renews x.frame.name) q) (ap (wait_called x.frame.name (time past)) q) h.wait;
    }
  where
    first : option_map_or (λ a. a.lock.0 == k.0) (head_of x.frame.held) false ≡ true
    first =
        ap (λ (o : Option Held). option_map_or (λ a. a.lock.0 == k.0) o false) x.last ∙ eq-eqb x.held.lock.0 k.0 (ap (λ (j : LockNo). j.0) (sym x.lock))

    kept : IsKeptWith s x.frame.name k (freed_level x.frame) past
    kept =
        last_kept s past x.frame.name x.frame.held x.frame.spin k x.frame.level (inner_told s limit e.cpu past x.frame r.1 x.goes_on.inner) first

-- each event of a run keeps the level, place, phase and wait of its frame as the events tell
frames_follow : (s : Script) (limit : ℕ) → Follows s limit (IsTold s)
frames_follow s limit =
    record {
      begun = λ e past b n. told_new s e past b;
      aside = λ e past f l a h. told_on s e past f (silent f.name e.what a).0 (level_aside f.name e.what a)
          (call_aside f.name e.what a) (normal_aside f.name e.what a) (wait_aside f.name (time past) e.what a) h;
      called = λ e past n c y r x q l h. let w : e.what ≡ Call x.frame.name c y = q ∙ ap (λ (n : ℕ). Call n c y) x.name in
          told_called s c y x.frame e past l w (call_level s e.cpu (own_of s e.cpu past) (lanes_at s past) n (due_of e.what (time past)) c y x e past w
          (inner_told s limit e.cpu past x.frame r.1 x.goes_on.inner)) h;
      freed = λ e past n c r x q l h. told_freed s limit e past n c r x (q ∙ ap (λ (n : ℕ). Free n c) x.name) l h;
      rewaited = λ e past y f q l h. told_rewaited s y f e past q h;
      normal = λ e past f q n l h. told_normal s f e past l q n;
      left = λ e past f q b l h. told_left s f e past l q b h;
      resumed = λ e past t st f q l h. told_resumed s st t f e past q h;
    }

-- in a run each open frame has the level, place, phase and wait that the events of its present phase tell
pub frames_told : (s : Script) (limit : ℕ) (past : List Event) → IsRun s limit past → FramesTold s past
frames_told s limit past r =
    record {
      own = λ p. each_own s limit (IsTold s) (frames_follow s limit) p past r;
      threads = λ t. each_part s limit (IsTold s) (frames_follow s limit) t past r;
    }

-- ---- waits that are taken up

-- in a run a Rewait takes up the last wait that its frame called in its present phase
pub taken_up : (s : Script) (limit : ℕ) (e : Event) (past : List Event) (n : ℕ) (y : Reply) → IsRun s limit (e ∷ past) → e.what ≡ Rewait n y → (w : Again) ×
    ((stand_at s e.cpu past).again ≡ Some w) × IsLastWait n w past
taken_up s limit e past n y r k = (
  known.wait,
  again_known e.cpu (own_of s e.cpu past) known.frame known.goes_on ∙ known.again,
  subst (λ (n : ℕ). IsLastWait n known.wait past) (sym known.name) (told.wait known.wait known.again),
)
  where
    known : KnownRewait e.cpu (own_of s e.cpu past) (lanes_at s past) n y
    known = subst (Known s e.cpu (own_of s e.cpu past) (lanes_at s past)) k (legal_known s limit e past r.0 (ap is_next k))

    told : IsTold s past known.frame
    told =
        let all = frames_told s limit past r.1 in
        inner_has s limit e.cpu past (IsTold s past) known.frame r.1 (λ p. all.own p) (λ t. all.threads t) known.goes_on.inner
