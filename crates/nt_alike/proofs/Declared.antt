-- In a run of a script that fits nothing happens on what it does not declare.
use Rattle.std.proofs.Common.{arith, subst, sym}
use Rattle.std.proofs.lemmas.Bool.{eqb-true, leb-true, lt-ltb, ltb-false, ltb-true}
use Rattle.std.proofs.lemmas.List.{get_or_past}
use Rattle.std.specs.List.{list_all, list_any}
use Rattle.std.specs.Option.{option_map_or}
use Rattle.std.specs.Prelude.{Bool, IfSome, List, None, Option, Some, [], false, get_or, if◌then◌else◌, is_some, length, nat_le, nat_lt, option_and_then, refl}
use Rattle.std.specs.Prelude.{slice_get, suc, true, ℕ, ◌&&◌, ◌++◌, ◌+◌, ◌==◌, ◌||◌, ◌∷◌, ◌≡◌, ◌≤◌}
use Rattle.nt_event.specs.declared.commands.ApcKind.TheVariants.{Normal as NormalApc, User as UserApc}
use Rattle.nt_event.specs.declared.commands.Command.{Command}
use Rattle.nt_event.specs.declared.commands.Command.TheVariants as cmd
use Rattle.nt_event.specs.declared.commands.Reply.{Reply}
use Rattle.nt_event.specs.declared.commands.Reply.TheVariants.{Done, No, Yes}
use Rattle.nt_event.specs.declared.commands.TimerKey.TheVariants as keys
use Rattle.nt_event.specs.declared.events.Begun.TheVariants as begun
use Rattle.nt_event.specs.declared.events.Event.{Event}
use Rattle.nt_event.specs.declared.events.What.{What}
use Rattle.nt_event.specs.declared.events.What.TheVariants as what
use Rattle.nt_event.specs.declared.frames.Body.{Body}
use Rattle.nt_event.specs.declared.frames.Body.TheVariants as on
use Rattle.nt_event.specs.declared.inserts.Part.{Part}
use Rattle.nt_event.specs.declared.inserts.Part.TheVariants.{Ordinary as OrdinaryPart, Threaded as ThreadedPart}
use Rattle.nt_event.specs.declared.inserts.Standing.{Standing}
use Rattle.nt_event.specs.declared.jobs.Lane.{Lane}
use Rattle.nt_event.specs.declared.jobs.Lane.TheVariants as lane
use Rattle.nt_event.specs.declared.jobs.Stand.{Stand}
use Rattle.nt_event.specs.declared.numbers.CpuNo.{CpuNo}
use Rattle.nt_event.specs.declared.numbers.DpcNo.{DpcNo}
use Rattle.nt_event.specs.declared.numbers.LockNo.{LockNo}
use Rattle.nt_event.specs.declared.numbers.ThreadNo.{ThreadNo}
use Rattle.nt_event.specs.declared.scripts.Script.{Script}
use Rattle.nt_event.specs.declared.scripts.ThreadDecl.{ThreadDecl}
use Rattle.nt_event.specs.Apcs.{has_kernel}
use Rattle.nt_event.specs.Classes.{is_requested_level, is_used_class}
use Rattle.nt_event.specs.Fitting.{what_fits}
use Rattle.nt_event.specs.Lanes.{Lanes, command_lanes, end_lanes, facts_at, facts_of, insert_lanes, lane_if, lanes_at, lock_at, object_at, queue_at, same_lane}
use Rattle.nt_event.specs.Lanes.{standing_lanes, what_lanes}
use Rattle.nt_event.specs.Lists.{table}
use Rattle.nt_event.specs.Locks.{Frees, Gets, LockMove, LockState, NoMove, Spins, lock_move, lock_moved, lock_of, spinners_with, start_lock}
use Rattle.nt_event.specs.Numbers.{cpu, dpc, lock}
use Rattle.nt_event.specs.Objects.{ObjectState, inserted_dpc, is_dpc, object_of, queue_for, standing, start_object, target_after, target_of, used_up_dpc}
use Rattle.nt_event.specs.Queues.{QueueState, depth_of, insert_asks}
use Rattle.nt_event.specs.Regions.{some_came_to_0, stand_at}
use Rattle.nt_event.specs.Replies.{is_refused, is_yes}
use Rattle.nt_event.specs.Requests.{Ask, ask, ask_if, command_asks, dpc_asks, end_asks, is_ask, queue_asks, release_asks, spinner_asks, what_asks}
use Rattle.nt_event.specs.Routines.{cpu_of, depth_limit, is_kernel_kind, kind_of, owner_of, part_of}
use Rattle.nt_event.specs.Script.{command_fits, fits, has_cpu, has_dpc, thread_fits, where_given}
use Rattle.nt_event.specs.Step.{IsRun}
use Rattle.nt_event.specs.Threads.{ends_by_apc, ends_by_expiry}
use Rattle.nt_event.specs.Waits.{new_pick}
use Rattle.nt_event.proofs.Options.{both}
use Rattle.nt_event.proofs.Tables.{get_or-table, length-table_from}
use Rattle.nt_runs.proofs.Declared.{each}
use Rattle.nt_runs.proofs.Robin.{or_yes}
use Rattle.nt_laws.specs.Named.{AllFit}
use Rattle.nt_laws.proofs.Named.EventsFit.{events_of_a_run_fit}
use Rattle.nt_alike.specs.Declared.{AllStayWithin, has_lane}

-- ---- what a script that fits says of processors

-- a conjunction of ten parts has a true first part if it is true
first_of_ten : (a b c d e f g h i j : Bool) → (a && b && c && d && e && f && g && h && i && j) ≡ true → a ≡ true
first_of_ten true b c d e f g h i j k = refl
first_of_ten false b c d e f g h i j k = cc

-- the class of a requested level is used
used : (a b c d e : Bool) → ((a && b) || c) ≡ true → (b || (e || (d || c))) ≡ true
used true true c d e h = refl
used true false c d e h = or_yes e (d || c) (or_yes d c h)
used false true c d e h = refl
used false false c d e h = or_yes e (d || c) (or_yes d c h)

module _ (s : Script) (fit : fits s ≡ true) where
  abbrev IsCpu : CpuNo → Type 0
  IsCpu p = has_cpu s p ≡ true

  first_cpu : IsCpu (cpu 0)
  first_cpu =
      let a = both _ _ fit in let b = both _ _ a.0 in let c = both _ _ b.0 in let d = both _ _ c.0 in let e = both _ _ d.0 in let f = both _ _ e.0 in
      let some : nat_le 1 s.cpus ≡ true = first_of_ten _ _ _ _ _ _ _ _ _ _ (both _ _ f.0).0 in
      lt-ltb 0 s.cpus (let l = leb-true 1 s.cpus some in omega (arith, l))

  threads_fit : list_all (thread_fits s) s.threads ≡ true
  threads_fit = let a = both _ _ fit in let b = both _ _ a.0 in (both _ _ b.0).1

  -- the processor of a thread; that of a thread that the script does not declare is the first
  cpu_fits : (t : ThreadNo) → IsCpu (cpu_of s t)
  cpu_fits t = go (slice_get s.threads t.0) refl
    where
      go : (o : Option ThreadDecl) → slice_get s.threads t.0 ≡ o → has_cpu s (option_map_or (λ x. x.cpu) o (cpu 0)) ≡ true
      go None e = first_cpu
      go (Some x) e = (both (has_cpu s x.cpu) _ (each (thread_fits s) s.threads t.0 x threads_fit e)).0

  -- ---- objects: their targets and the queues where they stand

  target_step : (d : DpcNo) (w : What) (old : Option CpuNo) → what_fits s w ≡ true → IfSome old IsCpu → IfSome (target_after d w old) IsCpu
  target_step d (what.Call f (cmd.SetTarget x t) Done) old h k = go (x.0 == d.0) t (both (has_dpc s x) _ h).1
    where
      go : (b : Bool) (t : Option CpuNo) → where_given (has_cpu s) t ≡ true → IfSome (if b then t else old) IsCpu
      go true None e = tt
      go true (Some q) e = e
      go false t e = k
  target_step d w old h k = k

  target_fits : (d : DpcNo) (past : List Event) → AllFit s past → IfSome (target_of d past) IsCpu
  target_fits d [] all = tt
  target_fits d (e ∷ past) all = target_step d e.what (target_of d past) all.0.what (target_fits d past all.1)

  queue_fits : (target : Option CpuNo) (by : CpuNo) → IfSome target IsCpu → IsCpu by → IsCpu (queue_for target by)
  queue_fits None by h k = k
  queue_fits (Some q) by h k = h

  abbrev StandsWithin : Option Standing → Type 0
  StandsWithin o = IfSome o (λ x. IsCpu x.queue)

  standing_fits : (d : DpcNo) (past : List Event) → AllFit s past → StandsWithin (standing d past)
  standing_fits d [] all = tt
  standing_fits d (e ∷ past) all =
      go (is_dpc (inserted_dpc e.what) d) (is_dpc (used_up_dpc e.what) d) (queue_fits (target_of d past) e.cpu (target_fits d past all.1) all.0.cpu)
      (standing_fits d past all.1)
    where
      go : (a b : Bool) → IsCpu (queue_for (target_of d past) e.cpu) → StandsWithin (standing d past) →
          StandsWithin (if a then Some (record { queue = queue_for (target_of d past) e.cpu; number = length past }) else (if b then None else standing d past))
      go true b h k = h
      go false true h k = tt
      go false false h k = k

  record ObjectFits (o : ObjectState) : Type 0 where
    target : IfSome o.target IsCpu
    standing : StandsWithin o.standing

  object_fits : (d : DpcNo) (past : List Event) → AllFit s past → ObjectFits (object_at (lanes_at s past) d)
  object_fits d past all = go (nat_lt d.0 (length s.dpcs)) refl
    where
      go : (b : Bool) → nat_lt d.0 (length s.dpcs) ≡ b → ObjectFits (object_at (lanes_at s past) d)
      go true l =
          let e = get_or-table {A = ObjectState} (length s.dpcs) d.0 (λ d. object_of (dpc d) past) start_object (ltb-true d.0 (length s.dpcs) l) in
          subst ObjectFits (sym e)
          (record { target = target_fits d past all; standing = standing_fits d past all })
      go false l =
          let n = length-table_from {A = ObjectState} 0 (length s.dpcs) (λ d. object_of (dpc d) past) in
          let g = ltb-false d.0 (length s.dpcs) l in
          subst ObjectFits (sym (get_or_past (table {A = ObjectState} (length s.dpcs) (λ d. object_of (dpc d) past)) d.0 start_object (omega (arith, n, g))))
          (record { target = tt; standing = tt })

  -- ---- locks: as many flags of spinners as processors

  abbrev FlagsFit : LockState → Type 0
  FlagsFit x = length x.spinners ≤ s.cpus

  flags_with : (p : CpuNo) (b : Bool) (xs : List Bool) → length (spinners_with s p b xs) ≤ s.cpus
  flags_with p b xs = let n = length-table_from {A = Bool} 0 s.cpus (λ q. if q == p.0 then b else get_or xs q false) in omega (arith, n)

  flags_left : (k : LockNo) (p : CpuNo) (m : LockMove) (old : LockState) → FlagsFit old → FlagsFit (lock_moved s k p m old)
  flags_left k p (Gets x) old h = go (x.0 == k.0)
    where
      go : (b : Bool) → FlagsFit (if b then record { holder = Some p; spinners = spinners_with s p false old.spinners } else old)
      go true = flags_with p false old.spinners
      go false = h
  flags_left k p (Spins x) old h = go (x.0 == k.0)
    where
      go : (b : Bool) → FlagsFit (if b then record old { spinners = spinners_with s p true old.spinners } else old)
      go true = flags_with p true old.spinners
      go false = h
  flags_left k p (Frees x) old h = go (x.0 == k.0)
    where
      go : (b : Bool) → FlagsFit (if b then record old { holder = None } else old)
      go true = h
      go false = h
  flags_left k p NoMove old h = h

  lock_fits : (k : LockNo) (past : List Event) → FlagsFit (lock_of s k past)
  lock_fits k [] = let n = length-table_from {A = Bool} 0 s.cpus (λ q. false) in omega (arith, n)
  lock_fits k (e ∷ past) = flags_left k e.cpu (lock_move e.what) (lock_of s k past) (lock_fits k past)

  flags_fit : (k : LockNo) (past : List Event) → FlagsFit (lock_at (lanes_at s past) k)
  flags_fit k past = go (nat_lt k.0 s.locks) refl
    where
      go : (b : Bool) → nat_lt k.0 s.locks ≡ b → FlagsFit (lock_at (lanes_at s past) k)
      go true l =
          let e = get_or-table {A = LockState} s.locks k.0 (λ k. lock_of s (lock k) past) start_lock (ltb-true k.0 s.locks l) in
          subst FlagsFit (sym e) (lock_fits k past)
      go false l =
          let n = length-table_from {A = LockState} 0 s.locks (λ k. lock_of s (lock k) past) in
          let g = ltb-false k.0 s.locks l in
          subst FlagsFit (sym (get_or_past (table {A = LockState} s.locks (λ k. lock_of s (lock k) past)) k.0 start_lock (omega (arith, n, g)))) (omega arith)

  -- ---- what an event asks for

  AsksWithin : List Ask → Type 0
  AsksWithin [] = Unit {0}
  AsksWithin (a ∷ xs) = IsCpu a.cpu × (is_used_class a.class ≡ true) × AsksWithin xs

  one_within : (p : CpuNo) (c : ℕ) → IsCpu p → is_used_class c ≡ true → AsksWithin (ask p c)
  unfolding AsksWithin
  one_within p c h k = (h, k, tt)

  if_within : (b : Bool) (p : CpuNo) (c : ℕ) → IsCpu p → is_used_class c ≡ true → AsksWithin (ask_if b p c)
  unfolding AsksWithin
  if_within true p c h k = (h, k, tt)
  if_within false p c h k = tt

  both_within : (xs ys : List Ask) → AsksWithin xs → AsksWithin ys → AsksWithin (xs ++ ys)
  unfolding AsksWithin
  both_within [] ys h k = k
  both_within (x ∷ xs) ys h k = (h.0, h.1, both_within xs ys h.2 k)

  dpc_within : (part : Part) (o : ObjectState) (by q : CpuNo) (x : QueueState) → IsCpu q → AsksWithin (dpc_asks s part o by q x)
  dpc_within ThreadedPart o by q x h = one_within q 0 h refl
  dpc_within OrdinaryPart o by q x h =
      if_within (insert_asks o.importance (q.0 == by.0) (nat_lt (depth_limit s) (depth_of x.pending + 1)) x.idle) q 2 h refl

  insert_within : (d : DpcNo) (by : CpuNo) (l : Lanes) → ObjectFits (object_at l d) → IsCpu by → AsksWithin (queue_asks s d by l)
  insert_within d by l o h =
      let q : CpuNo = queue_for (object_at l d).target by in
      dpc_within (part_of s d) (object_at l d) by q (queue_at l q) (queue_fits (object_at l d).target by o.target h)

  -- those that spin, from this processor on
  spinners_within : (n : ℕ) (flags : List Bool) → n + length flags ≤ s.cpus → AsksWithin (spinner_asks n flags)
  unfolding AsksWithin
  spinners_within n [] h = tt
  spinners_within n (b ∷ flags) h =
      both_within (ask_if b (cpu n) 12) (spinner_asks (suc n) flags) (if_within b (cpu n) 12 (lt-ltb n s.cpus (omega (arith, h))) refl)
      (spinners_within (suc n) flags (omega (arith, h)))

  record LanesFit (l : Lanes) : Type 0 where
    object : (d : DpcNo) → ObjectFits (object_at l d)
    flags : (k : LockNo) → FlagsFit (lock_at l k)

  released_within : (k : LockNo) (l : Lanes) → LanesFit l → AsksWithin (release_asks k l)
  released_within k l o = let h = o.flags k in spinners_within 0 (lock_at l k).spinners (omega (arith, h))

  command_within : (st : Stand) (c : Command) (y : Reply) (l : Lanes) → IsCpu st.cpu → LanesFit l → command_fits s c ≡ true →
      AsksWithin (command_asks s st c y l)
  unfolding AsksWithin
  command_within st (cmd.Queue d) Yes l p o h = insert_within d st.cpu l (o.object d) p
  command_within st (cmd.InsertApc a) Yes l p o h =
      let t : ThreadNo = owner_of s a in
      both_within (ask_if (is_kernel_kind (kind_of s a)) (cpu_of s t) 1) (ask_if (ends_by_apc (new_pick s a 0) (facts_at l t)) (cpu_of s t) 2)
      (if_within (is_kernel_kind (kind_of s a)) (cpu_of s t) 1 (cpu_fits t) refl)
      (if_within (ends_by_apc (new_pick s a 0) (facts_at l t)) (cpu_of s t) 2 (cpu_fits t) refl)
  command_within st cmd.LeaveCrit Done l p o h = if_within (st.regions.crit == 1) st.cpu 1 p refl
  command_within st cmd.LeaveGuard Done l p o h = if_within (st.regions.guard == 1) st.cpu 1 p refl
  command_within st (cmd.Release t) Yes l p o h = one_within (cpu_of s t) 2 (cpu_fits t) refl
  command_within st (cmd.Alert t m) No l p o h = if_within _ (cpu_of s t) 2 (cpu_fits t) refl
  command_within st (cmd.Interrupt q level) Done l p o h =
      let k = both (has_cpu s q) (is_requested_level level) h in
      one_within q level k.0 (used (nat_le 3 level) (nat_le level 11) (level == 14) (level == 13) (level == 12) k.1)
  command_within st (cmd.Clock units) Done l p o h = one_within st.cpu 13 p refl
  command_within st (cmd.Unlock k) Done l p o h = released_within k l o
  command_within st c y l p o h = tt

  end_within : (st : Stand) (b : Option Body) (l : Lanes) → IsCpu st.cpu → AsksWithin (end_asks st b l)
  unfolding AsksWithin
  end_within st (Some (on.Apc a NormalApc)) l p = one_within st.cpu 1 p refl
  end_within st (Some (on.Base t)) l p =
      if_within (some_came_to_0 st.regions st.below || has_kernel (facts_of l st.thread).apcs) st.cpu 1 p refl
  end_within st b l p = if_within (some_came_to_0 st.regions st.below) st.cpu 1 p refl

  asks_within : (st : Stand) (w : What) (l : Lanes) → IsCpu st.cpu → LanesFit l → what_fits s w ≡ true → AsksWithin (what_asks s st w l)
  unfolding AsksWithin
  asks_within st (what.Call f c y) l p o h = command_within st c y l p o h
  asks_within st (what.Fire d Yes) l p o h = insert_within d st.cpu l (o.object d) p
  asks_within st (what.Expire (keys.Delay t) from) l p o h = if_within (ends_by_expiry from (facts_at l t)) (cpu_of s t) 2 (cpu_fits t) refl
  asks_within st (what.Switch t status) l p o h = if_within (has_kernel (facts_at l t).apcs) st.cpu 1 p refl
  asks_within st (what.Normal f) l p o h = if_within (some_came_to_0 st.regions st.below) st.cpu 1 p refl
  asks_within st (what.End f) l p o h = end_within st st.body l p
  asks_within st (what.Free f k) l p o h = released_within k l o
  asks_within st w l p o h = tt

  among_asks : (p : CpuNo) (c : ℕ) (xs : List Ask) → AsksWithin xs → list_any (is_ask p c) xs ≡ true → IsCpu p × (is_used_class c ≡ true)
  unfolding AsksWithin
  among_asks p c [] h k = cc
  among_asks p c (a ∷ xs) h k = go (a.cpu.0 == p.0) refl (a.class == c) refl k (among_asks p c xs h.2)
    where
      go : (x : Bool) → (a.cpu.0 == p.0) ≡ x → (y : Bool) → (a.class == c) ≡ y → ((x && y) || list_any (is_ask p c) xs) ≡ true →
          (list_any (is_ask p c) xs ≡ true → IsCpu p × (is_used_class c ≡ true)) → IsCpu p × (is_used_class c ≡ true)
      go true d true e q rest = (
        subst (λ (n : ℕ). nat_lt n s.cpus ≡ true) (eqb-true a.cpu.0 p.0 d) h.0,
        subst (λ (n : ℕ). is_used_class n ≡ true) (eqb-true a.class c e) h.1,
      )
      go true d false e q rest = rest q
      go false d y e q rest = rest q

  -- ---- which lanes it touches

  LanesWithin : List Lane → Type 0
  LanesWithin [] = Unit {0}
  LanesWithin (x ∷ xs) = (has_lane s x ≡ true) × LanesWithin xs

  lane_within : (b : Bool) (x : Lane) → has_lane s x ≡ true → LanesWithin (lane_if b x)
  unfolding LanesWithin
  lane_within true x h = (h, tt)
  lane_within false x h = tt

  inserted_within : (p : CpuNo) (d : DpcNo) (y : Reply) (l : Lanes) → IsCpu p → ObjectFits (object_at l d) → has_dpc s d ≡ true →
      LanesWithin (insert_lanes p d y l)
  unfolding LanesWithin
  inserted_within p d y l h o k =
      (k, lane_within (is_yes y) (lane.Queue (queue_for (object_at l d).target p)) (queue_fits (object_at l d).target p o.target h))

  stood_within : (o : Option Standing) → StandsWithin o → LanesWithin (standing_lanes o)
  unfolding LanesWithin
  stood_within None h = tt
  stood_within (Some x) h = (h, tt)

  command_lanes_within : (p : CpuNo) (c : Command) (y : Reply) (l : Lanes) → IsCpu p → LanesFit l → command_fits s c ≡ true →
      LanesWithin (command_lanes s p c y l)
  unfolding LanesWithin
  command_lanes_within p (cmd.Queue d) y l h o k = inserted_within p d y l h (o.object d) k
  command_lanes_within p (cmd.Unqueue d) y l h o k = (k, stood_within (object_at l d).standing (o.object d).standing)
  command_lanes_within p (cmd.SetImportance d i) y l h o k = (k, tt)
  command_lanes_within p (cmd.SetTarget d t) y l h o k = ((both (has_dpc s d) _ k).0, tt)
  command_lanes_within p (cmd.SetTimer t due period) y l h o k = (refl, tt)
  command_lanes_within p (cmd.CancelTimer t) y l h o k = (refl, tt)
  command_lanes_within p (cmd.InsertApc a) y l h o k = (cpu_fits (owner_of s a), tt)
  command_lanes_within p (cmd.RemoveApc a) y l h o k = (cpu_fits (owner_of s a), tt)
  command_lanes_within p (cmd.StartWait m a) y l h o k = (h, tt)
  command_lanes_within p (cmd.Delay m a units) y l h o k = (h, (refl, tt))
  command_lanes_within p (cmd.Release t) y l h o k = (cpu_fits t, tt)
  command_lanes_within p (cmd.Alert t m) y l h o k = (cpu_fits t, tt)
  command_lanes_within p (cmd.TestAlert m) y l h o k = (h, tt)
  command_lanes_within p (cmd.Clock units) y l h o k = (refl, tt)
  command_lanes_within p cmd.ToUser y l h o k = (h, tt)
  command_lanes_within p cmd.Yield y l h o k = (h, tt)
  command_lanes_within p (cmd.Acquire x) y l h o k = (k, tt)
  command_lanes_within p (cmd.Unlock x) y l h o k = (k, tt)
  command_lanes_within p c y l h o k = tt

  end_lanes_within : (p : CpuNo) (b : Option Body) → IsCpu p → LanesWithin (end_lanes p b)
  unfolding LanesWithin
  end_lanes_within p (Some (on.Base t)) h = (h, tt)
  end_lanes_within p (Some (on.Apc a UserApc)) h = (h, tt)
  end_lanes_within p b h = tt

  clean_within : (st : Stand) (b c : Bool) → IsCpu st.cpu →
      LanesWithin (if b then (lane.Threads st.cpu ∷ []) else (lane.Queue st.cpu ∷ lane_if c lane.Timers))
  unfolding LanesWithin
  clean_within st true c h = (h, tt)
  clean_within st false c h = (h, lane_within c lane.Timers refl)

  lanes_within : (st : Stand) (w : What) (l : Lanes) → IsCpu st.cpu → LanesFit l → what_fits s w ≡ true → LanesWithin (what_lanes s st w l)
  unfolding LanesWithin
  lanes_within st (what.Call f c y) l p o h = go (is_refused y)
    where
      go : (b : Bool) → LanesWithin (if b then [] else command_lanes s st.cpu c y l)
      go true = tt
      go false = command_lanes_within st.cpu c y l p o h
  lanes_within st (what.Begin (begun.Int level) from) l p o h = tt
  lanes_within st (what.Begin (begun.Dpc d) from) l p o h = (h, (p, lane_within st.sweep lane.Timers refl))
  lanes_within st (what.Begin (begun.Threaded d) from) l p o h = (h, (p, tt))
  lanes_within st (what.Begin (begun.Apc a) from) l p o h = (p, tt)
  lanes_within st (what.Clean class) l p o h = clean_within st (class == 1) (st.sweep && (class == 2)) p
  lanes_within st (what.Expire (keys.Timer t) from) l p o h = (refl, tt)
  lanes_within st (what.Expire (keys.Delay t) from) l p o h = (cpu_fits t, (refl, tt))
  lanes_within st (what.Fire d y) l p o h = inserted_within st.cpu d y l p (o.object d) h
  lanes_within st (what.Switch t status) l p o h = (p, (p, tt))
  lanes_within st (what.Rewait f y) l p o h = (p, lane_within (is_some (option_and_then (λ w. w.due) st.again)) lane.Timers refl)
  lanes_within st what.Rest l p o h = (p, (p, tt))
  lanes_within st (what.End f) l p o h = end_lanes_within st.cpu st.body p
  lanes_within st (what.Flush a from) l p o h = (p, tt)
  lanes_within st (what.Gone t) l p o h = (p, tt)
  lanes_within st (what.Free f k) l p o h = (h, tt)
  lanes_within st (what.Look r) l p o h = tt
  lanes_within st (what.Normal f) l p o h = tt

  -- a lane that is the same as one of the script's is one of them
  same_has : (x y : Lane) → same_lane x y ≡ true → has_lane s y ≡ true → has_lane s x ≡ true
  same_has (lane.Object d) (lane.Object e) k h = subst (λ (n : ℕ). nat_lt n (length s.dpcs) ≡ true) (eqb-true e.0 d.0 k) h
  same_has (lane.Queue p) (lane.Queue q) k h = subst (λ (n : ℕ). nat_lt n s.cpus ≡ true) (eqb-true q.0 p.0 k) h
  same_has (lane.Threads p) (lane.Threads q) k h = subst (λ (n : ℕ). nat_lt n s.cpus ≡ true) (eqb-true q.0 p.0 k) h
  same_has lane.Timers lane.Timers k h = refl
  same_has (lane.Lock x) (lane.Lock y) k h = subst (λ (n : ℕ). nat_lt n s.locks ≡ true) (eqb-true y.0 x.0 k) h
  same_has x y k h = cc

  among_lanes : (x : Lane) (ys : List Lane) → LanesWithin ys → list_any (same_lane x) ys ≡ true → has_lane s x ≡ true
  unfolding LanesWithin
  among_lanes x [] h k = cc
  among_lanes x (y ∷ ys) h k = go (same_lane x y) refl k (among_lanes x ys h.1)
    where
      go : (b : Bool) → same_lane x y ≡ b → (b || list_any (same_lane x) ys) ≡ true → (list_any (same_lane x) ys ≡ true → has_lane s x ≡ true) →
          has_lane s x ≡ true
      go true e q rest = same_has x y e h.0
      go false e q rest = rest q

  -- ---- runs

  all_within : (past : List Event) → AllFit s past → AllStayWithin s past
  all_within [] all = tt
  all_within (e ∷ past) all =
      let fits_there : LanesFit (lanes_at s past) = record { object = λ d. object_fits d past all.1; flags = λ k. flags_fit k past } in (
        record {
          cpu = all.0.cpu;
          asks = λ p c. among_asks p c (what_asks s (stand_at s e.cpu past) e.what (lanes_at s past))
              (asks_within (stand_at s e.cpu past) e.what (lanes_at s past) all.0.cpu fits_there all.0.what);
          lanes = λ x. among_lanes x (what_lanes s (stand_at s e.cpu past) e.what (lanes_at s past))
              (lanes_within (stand_at s e.cpu past) e.what (lanes_at s past) all.0.cpu fits_there all.0.what);
        },
        all_within past all.1,
      )

-- each event of a run of a script that fits asks for and touches only what the script declares
pub nothing_beyond : (s : Script) (limit : ℕ) (h : List Event) → fits s ≡ true → IsRun s limit h → AllStayWithin s h
nothing_beyond s limit h fit r = all_within s fit h (events_of_a_run_fit s limit h fit r)
