-- The held lanes that a planned event touches may leave it.
use Rattle.std.proofs.Common.{ap, arith, refl, subst, sym, ◌∙◌}
use Rattle.std.proofs.lemmas.Bool.{eq-eqb, eqb-true, ltb-true}
use Rattle.std.proofs.lemmas.List.{get_or-replicate}
use Rattle.std.proofs.lemmas.List.Elements.{Contains-append_left, Contains-append_right}
use Rattle.std.specs.List.{list_any}
use Rattle.std.specs.Prelude.{Bool, Contains, IfSome, IsTrue, List, None, Option, Some, [], false, length, map, true, ℕ, ◌||◌, ◌∷◌, ◌≡◌, ◌≤◌}
use Rattle.nt_event.specs.declared.events.Event.{Event}
use Rattle.nt_event.specs.declared.jobs.Job.{Job}
use Rattle.nt_event.specs.declared.jobs.Job.TheVariants as job
use Rattle.nt_event.specs.declared.jobs.Lane.{Lane}
use Rattle.nt_event.specs.declared.jobs.Lane.TheVariants.{Lock as LockLane, Object as ObjectLane, Queue as QueueLane, Threads as ThreadsLane}
use Rattle.nt_event.specs.declared.jobs.Lane.TheVariants.{Timers as TimersLane}
use Rattle.nt_event.specs.declared.jobs.Stand.{Stand}
use Rattle.nt_event.specs.declared.numbers.CpuNo.{CpuNo}
use Rattle.nt_event.specs.declared.numbers.DpcNo.{DpcNo}
use Rattle.nt_event.specs.declared.scripts.Script.{Script}
use Rattle.nt_event.specs.Lanes.{Lanes, lane_number, object_at, queue_at, same_lane}
use Rattle.nt_event.specs.Objects.{start_object}
use Rattle.nt_dpc.specs.Objects.{ObjectFacts}
use Rattle.nt_dpc.specs.Queues.{QueueFacts}
use Rattle.nt_dpc_lanes.specs.Changes.{change_of}
use Rattle.nt_dpc_lanes.specs.declared.changes.Change.{Change}
use Rattle.nt_event.specs.Acts.{is_among}
use Rattle.nt_mark.specs.declared.view.View.{View}
use Rattle.nt_mark.specs.Views.{reach, step_word}
use Rattle.nt_event.specs.LaneStates.{OfLock, OfObject, OfQueue, OfTimers}
use Rattle.nt_event.specs.Script.{fits}
use Rattle.nt_event.specs.Timers.{Timers}
use Rattle.nt_event.specs.Acts.{StandFits, job_fits}
use Rattle.nt_states.specs.AllStates.{AllStates, threads_of}
use Rattle.nt_states.specs.Sound.{IsSound}
use Rattle.nt_states.specs.Timed.{MayTime}
use Rattle.nt_states.proofs.ForDpcs as may_dpcs
use Rattle.nt_states.proofs.ForThreads as may_threads
use Rattle.nt_states.proofs.ForTimers as may_timers
use Rattle.nt_states.proofs.Knowns.{Knows, knows_job}
use Rattle.nt_states.specs.ThreadFits.{RunsHere, WhatFits, named_thread}
use Rattle.nt_states.specs.ThreadLanes.{ThreadLanes}
use Rattle.nt_timer.specs.Laws.{IsSized}
use Rattle.nt_lane.specs.declared.planning.Plan.{Plan}
use Rattle.nt_lane.specs.Answers.{BothAgree, HeldStates, IsHeld, held_lanes, threads_told, timers_told}
use Rattle.nt_lane_record.specs.Held.{GroupState, IsGroupThere, IsObjectThere, IsQueueThere, IsSpinThere, SpinFacts, group_content}
use Rattle.nt_lane.specs.Leaving.{Leaves}
use Rattle.nt_lane.specs.Locks.{AreKnownBy, AreLanes, AreRoomy, HeldLanes, IsKnownBy, IsLane, Kept, in_each, states_of}
use Rattle.nt_lane.specs.Plans.{IsPlan}
use Rattle.nt_lane_record.specs.Records.{LaneRecord}
use Rattle.nt_lane.specs.Steps.{AreReadyFor, DpcsReady, IsReady, MayLeaveGroup, MayLeaveObject, MayLeaveQueue, MayLeaveSpin, MayLeaveTimers, is_touched}
use Rattle.nt_lane.specs.Steps.{object_name, queue_name}
use Rattle.nt_lane.proofs.Entering.{both_may, object_may, queue_may}
use Rattle.nt_lane.proofs.Founding.{one_held}
use Rattle.nt_lane.proofs.HeldTold.{object_is_told, queue_is_told}
use Rattle.nt_lane.proofs.Shapes.{Alone, Both, Moves, Neither, Own, Sets, Shape, shape}
use Rattle.nt_lane.proofs.Jobs as jobs
use Rattle.nt_lane_record.proofs.Tying.{here}

-- ---- the lane's record

-- lanes that test as the same have the same number
same_number : (s : Script) (x y : Lane) → same_lane x y ≡ true → lane_number s y ≡ lane_number s x
same_number s (ObjectLane d) (ObjectLane x) h = eqb-true x.0 d.0 h
same_number s (QueueLane p) (QueueLane x) h = let e : x.0 ≡ p.0 = eqb-true x.0 p.0 h in omega (arith, e)
same_number s (ThreadsLane p) (ThreadsLane x) h = let e : x.0 ≡ p.0 = eqb-true x.0 p.0 h in omega (arith, e)
same_number s TimersLane TimersLane h = refl
same_number s (LockLane k) (LockLane x) h = let e : x.0 ≡ k.0 = eqb-true x.0 k.0 h in omega (arith, e)
same_number s x y h = cc

-- the number of a lane that is among these is among their numbers
pub number_among : (s : Script) (x : Lane) (xs : List Lane) → is_among x xs ≡ true → Contains (map (lane_number s) xs) (lane_number s x)
number_among s x [] h = cc
number_among s x (y ∷ ys) h = go (number_among s x ys) (same_lane x y) refl
  where
    go : (is_among x ys ≡ true → Contains (map (lane_number s) ys) (lane_number s x)) → (b : Bool) → same_lane x y ≡ b →
        Contains (map (lane_number s) (y ∷ ys)) (lane_number s x)
    go next true e = subst (λ (n : ℕ). Contains (map (lane_number s) (y ∷ ys)) n) (same_number s x y e)
        (Contains-append_left (lane_number s y ∷ []) (map (lane_number s) ys) (lane_number s y) (here (lane_number s y)))
    go next false e =
        let rest : is_among x ys ≡ true = subst (λ (b : Bool). (b || list_any (same_lane x) ys) ≡ true) e h in
        Contains-append_right (lane_number s y ∷ []) (map (lane_number s) ys) (lane_number s x) (next rest)

-- a lane that an event touches and that has room and is known to the pass is ready for the event
pub is_ready : (s : Script) (n : ℕ) (x : Lane) (lanes : List Lane) (numbers : List ℕ) (r : LaneRecord) (v : View) → reach step_word v ≤ n →
    numbers ≡ map (lane_number s) lanes → r.lane ≡ lane_number s x → IsKnownBy r v → 1 ≤ r.room → is_among x lanes ≡ true → IsReady n numbers r
is_ready s n x lanes numbers r v least is lane known room among = record {
  known = (let a = known.known in omega (arith, a, least));
  above = (let a = known.above in omega (arith, a, least));
  room = room;
  touched = subst (λ (k : ℕ). Contains numbers k) (sym lane) (subst (λ (ks : List ℕ). Contains ks (lane_number s x)) (sym is) (number_among s x lanes among));
}

-- what holds of one that is held
of_held : {A : Type 0} (P : A → Type 0) (o : Option A) (x : A) → o ≡ Some x → IfSome o P → P x
of_held {A} P o x e h = let z : IfSome (Some x) P = subst (λ (y : Option A). IfSome y P) e h in z

-- ---- the job is allowed

-- the thread of a rundown leaves in the states of all lanes if it leaves in the threads among them
pub leaves : (l : Lanes) (st : Stand) (j : Job) → Leaves l.threads st j → jobs.Leaves l st j
leaves l st job.Rundown h = h
leaves l st j h = tt

-- ---- what is known of a planned event

module _ (s : Script) (h : HeldLanes) (st : Stand) (j : Job) (p : Plan) (plan : IsPlan (states_of s h) st j p) (there : AreLanes s h) (fit : IsTrue (fits s))
    (stand : StandFits s st) (named : IsTrue (job_fits s j)) where
  abbrev states : HeldStates
  states = states_of s h

  abbrev all : AllStates
  all = record { script = s; lanes = held_lanes states }

  -- what is to be known of a planned event in the states of all lanes is known
  pub known : Knows all st p.event.what
  known =
      knows_job all st p.event.what j named (jobs.is_allowed (held_lanes states) st j plan.decided.can.stands (leaves (held_lanes states) st j plan.leaves))
      plan.decided.gives

  -- the processor is the event's
  pub by_cpu : p.event.cpu ≡ st.cpu
  by_cpu = ap (λ (e : Event). e.cpu) plan.event

  -- the held group of threads may leave the planned event
  pub group_may : (k : Kept GroupState) → h.group ≡ Some k → MayLeaveGroup s st p.event k.state
  group_may k is =
      let at : in_each h.group (λ k. k.state) ≡ Some k.state = ap (λ (y : Option (Kept GroupState)). in_each y (λ k. k.state)) is in
      let lane =
      of_held (λ (k : Kept GroupState). IsLane s (ThreadsLane k.state.cpu) (group_content k.state) 0 (IsGroupThere s k.state) k.log) h.group k
      is there.group in
      let same : threads_of all ≡ k.state.threads = λ i. record { script = sym lane.fits.script i; facts = threads_told s (at i) } in
      record {
        script = lane.fits.script;
        cpu = by_cpu;
        thread = ap (λ (e : Event). e.thread) plan.event;
        what = subst (λ (t : ThreadLanes). WhatFits t st p.event.what) same (may_threads.fits all st p.event.what known plan.decided.given.named);
        runs =
            of_held (λ (g : GroupState). named_thread s p.event.what ≡ None → IfSome st.thread (RunsHere g.threads st)) (in_each h.group (λ k. k.state)) k.state
            at plan.runs;
      }

  -- the held timers may leave the planned event
  pub timers_may : (k : Kept Timers) → h.timers ≡ Some k → MayLeaveTimers s p.event k.state
  timers_may k is =
      let at : in_each h.timers (λ k. k.state) ≡ Some k.state = ap (λ (y : Option (Kept Timers)). in_each y (λ k. k.state)) is in
      let lane = of_held (λ (k : Kept Timers). IsLane s TimersLane (OfTimers k.state) k.state.now (IsSized s k.state) k.log) h.timers k is there.timers in
      let told : (held_lanes states).timers ≡ k.state = ap (λ (o : Option Timers). timers_told s o) at in
      let sound : IsSound all = record { script = fit; timers = subst (λ (t : Timers). IsSized s t) (sym told) lane.fits } in
      record {
        may =
            subst (λ (t : Timers). MayTime s t p.event p.event.what) told
            (subst (λ (e : Event). MayTime s (held_lanes states).timers e p.event.what) (sym plan.event)
            (may_timers.of_what all st sound p.event.what stand plan.decided.can.own known));
      }

-- ---- the object and the queue

-- an optional held lane is not touched if no state that it may have is named among the touched lanes
none_touched : {A : Type 0} (name : A → Lane) (o : Option A) (lanes : List Lane) → ((k : A) → is_among (name k) lanes ≡ false) →
    is_touched (in_each o name) lanes ≡ false
none_touched name None lanes h = refl
none_touched name (Some k) lanes h = h k

-- a held lane is touched if its name is among the touched lanes
one_touched : {A : Type 0} (name : A → Lane) (o : Option A) (k : A) (lanes : List Lane) → o ≡ Some k → is_among (name k) lanes ≡ true →
    is_touched (in_each o name) lanes ≡ true
one_touched name o k lanes e h = ap (λ y. is_touched (in_each y name) lanes) e ∙ h

module _ (s : Script) (h : HeldLanes) (st : Stand) (j : Job) (p : Plan) (plan : IsPlan (states_of s h) st j p) (there : AreLanes s h) (fit : IsTrue (fits s))
    (stand : StandFits s st) (named : IsTrue (job_fits s j)) (n : ℕ) (numbers : List ℕ) (v : View) (least : reach step_word v ≤ n)
    (is : numbers ≡ map (lane_number s) p.lanes) (met : AreKnownBy h v) (room : AreRoomy h) where
  abbrev c : Change
  c = change_of p.event.what

  abbrev l : Lanes
  l = held_lanes (states_of s h)

  abbrev object_lane : Kept ObjectFacts → Type 0
  object_lane k = IsLane s (ObjectLane k.state.dpc) (OfObject k.state.state) 0 (IsObjectThere s k.state) k.log

  abbrev queue_lane : Kept QueueFacts → Type 0
  queue_lane k = IsLane s (QueueLane k.state.cpu) (OfQueue k.state.state) 0 (IsQueueThere s k.state) k.log

  object_ready : (k : Kept ObjectFacts) → h.object ≡ Some k → is_among (object_name k) p.lanes ≡ true → IsReady n numbers k.log
  object_ready k e among =
      is_ready s n (object_name k) p.lanes numbers k.log v least is (of_held object_lane h.object k e there.object).noted.number
      (of_held (λ (k : Kept ObjectFacts). IsKnownBy k.log v) h.object k e met.object)
      (of_held (λ (k : Kept ObjectFacts). 1 ≤ k.log.room) h.object k e room.object) among

  queue_ready : (k : Kept QueueFacts) → h.queue ≡ Some k → is_among (queue_name k) p.lanes ≡ true → IsReady n numbers k.log
  queue_ready k e among =
      is_ready s n (queue_name k) p.lanes numbers k.log v least is (of_held queue_lane h.queue k e there.queue).noted.number
      (of_held (λ (k : Kept QueueFacts). IsKnownBy k.log v) h.queue k e met.queue) (of_held (λ (k : Kept QueueFacts). 1 ≤ k.log.room) h.queue k e room.queue)
      among

  abbrev Ready : Bool → Bool → Type 0
  Ready a b = DpcsReady s n p.event numbers a b h.object h.queue

  with_both : (a b : Bool) → is_touched (in_each h.object object_name) p.lanes ≡ a → is_touched (in_each h.queue queue_name) p.lanes ≡ b → Ready a b →
      Ready (is_touched (in_each h.object object_name) p.lanes) (is_touched (in_each h.queue queue_name) p.lanes)
  with_both a b x y r = subst (λ (z : Bool). Ready z (is_touched (in_each h.queue queue_name) p.lanes)) (sym x) (subst (λ (z : Bool). Ready a z) (sym y) r)

  dpcs_ready : Shape s l st.cpu p.lanes c → Ready (is_touched (in_each h.object object_name) p.lanes) (is_touched (in_each h.queue queue_name) p.lanes)
  dpcs_ready (Neither a b) =
      with_both false false (none_touched object_name h.object p.lanes (λ k. a k.state.dpc)) (none_touched queue_name h.queue p.lanes (λ k. b k.state.cpu)) tt
  dpcs_ready (Alone d ob nq sets) =
      let o = one_held (λ (k : Kept ObjectFacts). k.state) (λ (y : ObjectFacts). y.dpc) d h.object (ob.held (IsHeld (states_of s h)) plan.held) in
      let k : Kept ObjectFacts = o.0 in
      let among : is_among (object_name k) p.lanes ≡ true = ob.among k.state.dpc ∙ eq-eqb d.0 k.state.dpc.0 (ap (λ (x : DpcNo). x.0) (sym o.2)) in
      with_both true false (one_touched object_name h.object k p.lanes o.1 among) (none_touched queue_name h.queue p.lanes (λ k. nq k.state.cpu))
      (subst (λ (y : Option (Kept ObjectFacts)). IfSome y (λ x. IsReady n numbers x.log × MayLeaveObject s n p.event x.state)) (sym o.1) (
        object_ready k o.1 among,
        object_may s n p.event k.state (subst (λ (x : DpcNo). Sets s x c) (sym o.2) sets) (of_held object_lane h.object k o.1 there.object).fits,
      ))
  dpcs_ready (Own without qb may) =
      let o = one_held (λ (k : Kept QueueFacts). k.state) (λ (y : QueueFacts). y.cpu) st.cpu h.queue (qb.held (IsHeld (states_of s h)) plan.held) in
      let k : Kept QueueFacts = o.0 in
      let among : is_among (queue_name k) p.lanes ≡ true = qb.among k.state.cpu ∙ eq-eqb st.cpu.0 k.state.cpu.0 (ap (λ (x : CpuNo). x.0) (sym o.2)) in
      let own : k.state.cpu ≡ p.event.cpu = o.2 ∙ sym (by_cpu s h st j p plan there fit stand named) in
      with_both false true (none_touched object_name h.object p.lanes (λ k. without k.state.dpc)) (one_touched queue_name h.queue k p.lanes o.1 among)
      (subst (λ (y : Option (Kept QueueFacts)). IfSome y (λ x. IsReady n numbers x.log × MayLeaveQueue s n p.event x.state)) (sym o.1)
      (queue_ready k o.1 among, queue_may s n p.event k.state may own (of_held queue_lane h.queue k o.1 there.queue).fits))
  dpcs_ready (Both d q ob qb moves) =
      let o = one_held (λ (k : Kept ObjectFacts). k.state) (λ (y : ObjectFacts). y.dpc) d h.object (ob.held (IsHeld (states_of s h)) plan.held) in
      let u = one_held (λ (k : Kept QueueFacts). k.state) (λ (y : QueueFacts). y.cpu) q h.queue (qb.held (IsHeld (states_of s h)) plan.held) in
      let k : Kept ObjectFacts = o.0 in
      let m : Kept QueueFacts = u.0 in
      let object_among : is_among (object_name k) p.lanes ≡ true = ob.among k.state.dpc ∙ eq-eqb d.0 k.state.dpc.0 (ap (λ (x : DpcNo). x.0) (sym o.2)) in
      let queue_among : is_among (queue_name m) p.lanes ≡ true = qb.among m.state.cpu ∙ eq-eqb q.0 m.state.cpu.0 (ap (λ (x : CpuNo). x.0) (sym u.2)) in
      let ot = (of_held object_lane h.object k o.1 there.object).fits in
      let qt = (of_held queue_lane h.queue m u.1 there.queue).fits in
      let at : in_each h.object (λ k. k.state) ≡ Some k.state = ap (λ (y : Option (Kept ObjectFacts)). in_each y (λ k. k.state)) o.1 in
      let in_queue : in_each h.queue (λ k. k.state) ≡ Some m.state = ap (λ (y : Option (Kept QueueFacts)). in_each y (λ k. k.state)) u.1 in
      let os : object_at l k.state.dpc ≡ k.state.state = sym (object_is_told (states_of s h) k.state.dpc k.state ot.named at) in
      let qs : queue_at l m.state.cpu ≡ m.state.state = sym (queue_is_told (states_of s h) m.state.cpu m.state qt.named in_queue) in
      let agree : BothAgree (Some k.state) (Some m.state) = subst (λ (y : Option QueueFacts). BothAgree (Some k.state) y) in_queue
      (subst (λ (y : Option ObjectFacts). BothAgree y (in_each h.queue (λ k. k.state))) at plan.agree) in
      let here : Moves l st.cpu k.state.dpc m.state.cpu c = subst (λ (x : DpcNo). Moves l st.cpu x m.state.cpu c) (sym o.2)
      (subst (λ (x : CpuNo). Moves l st.cpu d x c) (sym u.2) moves) in
      with_both true true (one_touched object_name h.object k p.lanes o.1 object_among) (one_touched queue_name h.queue m p.lanes u.1 queue_among)
      (subst (λ (y : Option (Kept ObjectFacts)). DpcsReady s n p.event numbers true true y h.queue) (sym o.1)
      (subst (λ (y : Option (Kept QueueFacts)). DpcsReady s n p.event numbers true true (Some k) y) (sym u.1) (
        (object_ready k o.1 object_among, queue_ready m u.1 queue_among),
        (
          record {
            state = get_or-replicate (length s.dpcs) k.state.dpc.0 k.state.state start_object (ltb-true k.state.dpc.0 (length s.dpcs) ot.named);
            part = sym ot.part;
          },
          both_may s l st.cpu k.state m.state os qs agree ot qt n p.event (sym (by_cpu s h st j p plan there fit stand named)) here,
        ),
      )))

  group_ready : (o : Option (Kept GroupState)) → h.group ≡ o →
      IfSome o (λ k. IsTrue (is_among (ThreadsLane k.state.cpu) p.lanes) → IsReady n numbers k.log × MayLeaveGroup s st p.event k.state)
  group_ready None e = tt
  group_ready (Some k) e =
      λ among. (
        is_ready s n (ThreadsLane k.state.cpu) p.lanes numbers k.log v least is
            (of_held (λ (k : Kept GroupState). IsLane s (ThreadsLane k.state.cpu) (group_content k.state) 0 (IsGroupThere s k.state) k.log) h.group k
            e there.group).noted.number
            (of_held (λ (k : Kept GroupState). IsKnownBy k.log v) h.group k e met.group)
            (of_held (λ (k : Kept GroupState). 1 ≤ k.log.room) h.group k e room.group) among,
        group_may s h st j p plan there fit stand named k e,
      )

  timers_ready : (o : Option (Kept Timers)) → h.timers ≡ o →
      IfSome o (λ k. IsTrue (is_among TimersLane p.lanes) → IsReady n numbers k.log × MayLeaveTimers s p.event k.state)
  timers_ready None e = tt
  timers_ready (Some k) e =
      λ among. (
        is_ready s n TimersLane p.lanes numbers k.log v least is
            (of_held (λ (k : Kept Timers). IsLane s TimersLane (OfTimers k.state) k.state.now (IsSized s k.state) k.log) h.timers k e there.timers).noted.number
            (of_held (λ (k : Kept Timers). IsKnownBy k.log v) h.timers k e met.timers) (of_held (λ (k : Kept Timers). 1 ≤ k.log.room) h.timers k e room.timers)
            among,
        timers_may s h st j p plan there fit stand named k e,
      )

  spin_ready : (o : Option (Kept SpinFacts)) → h.spin_lock ≡ o →
      IfSome o (λ k. IsTrue (is_among (LockLane k.state.lock) p.lanes) → IsReady n numbers k.log × MayLeaveSpin s st p.event)
  spin_ready None e = tt
  spin_ready (Some k) e =
      λ among. (
        is_ready s n (LockLane k.state.lock) p.lanes numbers k.log v least is
            (of_held (λ (k : Kept SpinFacts). IsLane s (LockLane k.state.lock) (OfLock k.state.state) 0 (IsSpinThere s k.state) k.log) h.spin_lock k e
            there.spin_lock).noted.number
            (of_held (λ (k : Kept SpinFacts). IsKnownBy k.log v) h.spin_lock k e met.spin_lock)
            (of_held (λ (k : Kept SpinFacts). 1 ≤ k.log.room) h.spin_lock k e room.spin_lock) among,
        record { cpu = stand.cpu; own = by_cpu s h st j p plan there fit stand named },
      )

  -- each held lane that the event touches may leave it
  pub all_ready : AreReadyFor s n st p.event p.lanes numbers h
  all_ready =
      let made = may_dpcs.may_dpcs (record { script = s; lanes = l }) st p.event.what (known s h st j p plan there fit stand named) in
      record {
        dpcs = dpcs_ready (subst (λ (xs : List Lane). Shape s l st.cpu xs c) (sym plan.lanes) (shape s st l p.event.what made));
        group = group_ready h.group refl;
        timers = timers_ready h.timers refl;
        spin_lock = spin_ready h.spin_lock refl;
      }
