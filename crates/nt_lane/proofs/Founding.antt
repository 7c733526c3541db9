-- An event that each of its held lanes took in was made in their states, as the pass knows.
use Rattle.std.proofs.Common.{ap, refl, subst, sym, ◌∙◌}
use Rattle.std.proofs.lemmas.Bool.{eq-eqb, false≢true}
use Rattle.std.proofs.lemmas.List.{append_assoc}
use Rattle.std.proofs.lemmas.List.Folds.{list_any-append}
use Rattle.std.specs.List.{list_any}
use Rattle.std.specs.Prelude.{Bool, IfSome, IsSome, IsTrue, List, None, Option, Some, [], false, true, ℕ, ◌++◌, ◌||◌, ◌∷◌, ◌≡◌}
use Rattle.nt_event.specs.declared.events.Event.{Event}
use Rattle.nt_event.specs.declared.jobs.Lane.{Lane}
use Rattle.nt_event.specs.declared.jobs.Lane.TheVariants.{Lock as LockLane, Object as ObjectLane, Queue as QueueLane, Threads as ThreadsLane}
use Rattle.nt_event.specs.declared.jobs.Lane.TheVariants.{Timers as TimersLane}
use Rattle.nt_event.specs.declared.jobs.Stand.{Stand}
use Rattle.nt_event.specs.declared.numbers.CpuNo.{CpuNo}
use Rattle.nt_event.specs.declared.numbers.DpcNo.{DpcNo}
use Rattle.nt_event.specs.declared.numbers.LockNo.{LockNo}
use Rattle.nt_event.specs.declared.scripts.Script.{Script}
use Rattle.nt_event.specs.LaneStates.{Content, LaneState, OfLock, OfObject, OfQueue, OfTimers, content, told_at}
use Rattle.nt_event.specs.Lanes.{lanes_after, same_lane}
use Rattle.nt_event.specs.Lists.{table}
use Rattle.nt_event.specs.Numbers.{cpu}
use Rattle.nt_event.specs.Requests.{Ask, is_ask, raised, what_asks}
use Rattle.nt_event.specs.Timers.{Timers, timers_after}
use Rattle.nt_dpc.specs.Objects.{ObjectFacts}
use Rattle.nt_dpc.specs.Queues.{QueueFacts}
use Rattle.nt_event.specs.Acts.{is_among}
use Rattle.nt_mark.specs.declared.view.View.{View}
use Rattle.nt_mark.specs.Rule.{IsLongest}
use Rattle.nt_mark.specs.Views.{note_of}
use Rattle.nt_states.specs.Reads.{AreHeld}
use Rattle.nt_lane.specs.Answers.{HeldStates, IsHeld, held_lanes}
use Rattle.nt_lane_record.specs.Held.{GroupState, IsLastNoted, SpinFacts, group_content}
use Rattle.nt_lane.specs.Locks.{AreKnownBy, AreLanes, AreLongest, HeldLanes, IsKnownBy, IsLane, Kept, found_in, in_each, states_of, told_in, told_of}
use Rattle.nt_lane_record.specs.Records.{LaneRecord, told_then}
use Rattle.nt_lane.specs.Seats.{AreFoundOn, AreShownOn, IsFoundOn, IsShown, IsShownOn}
use Rattle.nt_lane.specs.Steps.{AreLeftBy, DpcsLeft, KnowsLeft, LeavesGroup, LeavesObject, LeavesQueue, LeavesSpin, LeavesTimers, is_touched, object_left}
use Rattle.nt_lane.specs.Steps.{object_name, objects_told, queue_left, queue_name, spin_left}
use Rattle.nt_lane.proofs.Contents.{group_before, group_then, object_before, object_then, queue_before, queue_then, spin_before, spin_then, timers_before}
use Rattle.nt_lane.proofs.Contents.{timers_then}

-- ---- one lane

module _ (s : Script) (h : HeldLanes) (x : Lane) (r : LaneRecord) (told : (q : CpuNo) (c : ℕ) → told_in h x q c ≡ told_at r.told q c) where
  -- the states found are the ones noted last
  pub shown : (now : Content) → IsLastNoted s x now r → content s (held_lanes (states_of s h)) x ≡ now → IsShown s (found_in s h) x r.notes
  shown now last before = record {
    content = before ∙ sym (ap (λ (l : LaneState). l.content) last.last);
    told = λ q c a b. told q c ∙ sym (ap (λ (l : LaneState). told_at l.told q c) last.last);
  }

  -- a lane whose list the pass knows, and no longer one, shows the pass the state that the held lanes tell of it
  pub shown_on : (now : Content) (v : View) → IsLastNoted s x now r → content s (held_lanes (states_of s h)) x ≡ now → IsKnownBy r v →
      IsLongest r.lane r.notes v → IsShownOn s v (found_in s h) x
  shown_on now v last before known longest =
      let k = known.knows in (
        r.notes,
        shown now last before,
        (k.0, k.1, k.2 ∙ last.number, k.3),
        subst (λ (n : ℕ). IsLongest n r.notes v) last.number longest,
      )

  -- the note shows what the event leaves
  pub found_on : (n : ℕ) (st : Stand) (e : Event) (asks : List Ask) (now next : Content) (v : View) → IsLastNoted s x now r →
      content s (held_lanes (states_of s h)) x ≡ now → content s (lanes_after s n st e (held_lanes (states_of s h))) x ≡ next →
      asks ≡ what_asks s st e.what (held_lanes (states_of s h)) → KnowsLeft s n asks next r v → IsFoundOn s v n e st (found_in s h) x
  found_on n st e asks now next v last before then same k =
      let state : record { content = next; told = told_then s.cpus n asks r.told }
      ≡ record {
        content = content s (lanes_after s n st e (held_lanes (states_of s h))) x;
        told = table s.cpus
            (λ q. table 16 (λ c. raised (list_any (is_ask (cpu q) c) (what_asks s st e.what (held_lanes (states_of s h)))) n (told_in h x (cpu q) c)));
      } = λ i. record {
        content = sym then i;
        told = table s.cpus (λ q. table 16 (λ c. raised (list_any (is_ask (cpu q) c) (same i)) n (sym (told (cpu q) c) i)));
      } in (
        r.notes,
        shown now last before,
        (k.0, k.1, k.2 ∙ last.number, k.3 ∙ ap (λ (z : LaneState). r.notes ++ note_of n (z ∷ []) ∷ []) state),
      )

-- ---- an object and a queue

module _ (s : Script) (n : ℕ) (e : Event) (asks : List Ask) (v : View) (lanes : List Lane) where
  -- if the dpc lanes left an event that touches the held object, the pass knows the object's list with its note
  pub left_object : (k : Kept ObjectFacts) (q : Option (Kept QueueFacts)) → is_among (object_name k) lanes ≡ true →
      DpcsLeft s n e asks v (is_among (object_name k) lanes) (is_touched (in_each q queue_name) lanes) (Some k) q → LeavesObject s n e asks k v
  left_object k None t l = subst (λ (b : Bool). DpcsLeft s n e asks v b false (Some k) None) t l
  left_object k (Some y) t l =
      go (is_among (queue_name y) lanes) (subst (λ (b : Bool). DpcsLeft s n e asks v b (is_among (queue_name y) lanes) (Some k) (Some y)) t l)
    where
      go : (b : Bool) → DpcsLeft s n e asks v true b (Some k) (Some y) → LeavesObject s n e asks k v
      go true z = z.0
      go false z = z

  -- if the dpc lanes left an event that touches the held queue, the pass knows the queue's list with its note
  pub left_queue : (o : Option (Kept ObjectFacts)) (k : Kept QueueFacts) → is_among (queue_name k) lanes ≡ true →
      DpcsLeft s n e asks v (is_touched (in_each o object_name) lanes) (is_among (queue_name k) lanes) o (Some k) →
      LeavesQueue s n e (objects_told s o) asks k v
  left_queue None k t l = subst (λ (b : Bool). DpcsLeft s n e asks v false b None (Some k)) t l
  left_queue (Some x) k t l =
      go (is_among (object_name x) lanes) (subst (λ (b : Bool). DpcsLeft s n e asks v (is_among (object_name x) lanes) b (Some x) (Some k)) t l)
    where
      go : (b : Bool) → DpcsLeft s n e asks v b true (Some x) (Some k) → LeavesQueue s n e (objects_told s (Some x)) asks k v
      go true z = z.1
      go false z = z

-- ---- every lane that is held

-- a lane is the same as itself
same_refl : (x : Lane) → same_lane x x ≡ true
same_refl (ObjectLane d) = eq-eqb d.0 d.0 refl
same_refl (QueueLane p) = eq-eqb p.0 p.0 refl
same_refl (ThreadsLane p) = eq-eqb p.0 p.0 refl
same_refl TimersLane = refl
same_refl (LockLane k) = eq-eqb k.0 k.0 refl

-- a disjunction of three is true if its middle part is
or_true : (b c d : Bool) → c ≡ true → (b || (c || d)) ≡ true
or_true true c d h = refl
or_true false c d h = rw h refl

-- a lane is one of those that it stands among
among_them : (x : Lane) (past xs : List Lane) → is_among x (past ++ x ∷ xs) ≡ true
among_them x past xs =
    list_any-append (same_lane x) past (x ∷ xs) ∙ or_true (list_any (same_lane x) past) (same_lane x x) (list_any (same_lane x) xs) (same_refl x)

-- what holds of an option if it is there holds of the value that it has
of_some : {A : Type 0} (P : A → Type 0) (o : Option A) (k : A) → o ≡ Some k → IfSome o P → P k
of_some {A} P o k e h = let z : IfSome (Some k) P = subst (λ (y : Option A). IfSome y P) e h in z

-- one that is held is some one, of that name
pub one_held : {A B C : Type 0} (f : A → B) (name : B → C) (c : C) (o : Option A) → IsSome (in_each o f) × IfSome (in_each o f) (λ y. name y ≡ c) →
    (k : A) × (o ≡ Some k) × (name (f k) ≡ c)
one_held f name c None h = absurd (false≢true h.0)
one_held f name c (Some k) h = (k, refl, h.1)

-- if mapping an option gives a value, the option holds one
pub any_held : {A B : Type 0} (f : A → B) (o : Option A) → IsSome (in_each o f) → (k : A) × (o ≡ Some k)
any_held f None h = absurd (false≢true h)
any_held f (Some k) h = (k, refl)

module _ (s : Script) (h : HeldLanes) (there : AreLanes s h) where
  abbrev states : HeldStates
  states = states_of s h

  -- the states of the lanes that are held are shown
  pub each_shown : (v : View) → AreKnownBy h v → AreLongest h v → (x : Lane) → IsHeld states x → IsShownOn s v (found_in s h) x
  each_shown v known longest (ObjectLane d) held =
      let o = one_held (λ (k : Kept ObjectFacts). k.state) (λ (y : ObjectFacts). y.dpc) d h.object held in
      let k : Kept ObjectFacts = o.0 in
      let lane = of_some (λ (k : Kept ObjectFacts). IsLane s (ObjectLane k.state.dpc) (OfObject k.state.state) 0 _ k.log) h.object k o.1 there.object in
      let at : in_each h.object (λ k. k.state) ≡ Some k.state = ap (λ (y : Option (Kept ObjectFacts)). in_each y (λ k. k.state)) o.1 in
      subst (λ (y : DpcNo). IsShownOn s v (found_in s h) (ObjectLane y)) o.2
      (shown_on s h (ObjectLane k.state.dpc) k.log (λ q c. ap (λ (y : Option (Kept ObjectFacts)). told_at (told_of y) q c) o.1) (OfObject k.state.state) v
      lane.noted (object_before states k.state.dpc k.state lane.fits.named at)
      (of_some (λ (k : Kept ObjectFacts). IsKnownBy k.log v) h.object k o.1 known.object)
      (of_some (λ (k : Kept ObjectFacts). IsLongest k.log.lane k.log.notes v) h.object k o.1 longest.object))
  each_shown v known longest (QueueLane p) held =
      let o = one_held (λ (k : Kept QueueFacts). k.state) (λ (y : QueueFacts). y.cpu) p h.queue held in
      let k : Kept QueueFacts = o.0 in
      let lane = of_some (λ (k : Kept QueueFacts). IsLane s (QueueLane k.state.cpu) (OfQueue k.state.state) 0 _ k.log) h.queue k o.1 there.queue in
      let at : in_each h.queue (λ k. k.state) ≡ Some k.state = ap (λ (y : Option (Kept QueueFacts)). in_each y (λ k. k.state)) o.1 in
      subst (λ (y : CpuNo). IsShownOn s v (found_in s h) (QueueLane y)) o.2
      (shown_on s h (QueueLane k.state.cpu) k.log (λ q c. ap (λ (y : Option (Kept QueueFacts)). told_at (told_of y) q c) o.1) (OfQueue k.state.state) v
      lane.noted (queue_before states k.state.cpu k.state lane.fits.named at) (of_some (λ (k : Kept QueueFacts). IsKnownBy k.log v) h.queue k o.1 known.queue)
      (of_some (λ (k : Kept QueueFacts). IsLongest k.log.lane k.log.notes v) h.queue k o.1 longest.queue))
  each_shown v known longest (ThreadsLane p) held =
      let o = one_held (λ (k : Kept GroupState). k.state) (λ (y : GroupState). y.cpu) p h.group held in
      let k : Kept GroupState = o.0 in
      let lane = of_some (λ (k : Kept GroupState). IsLane s (ThreadsLane k.state.cpu) (group_content k.state) 0 _ k.log) h.group k o.1 there.group in
      let at : in_each h.group (λ k. k.state) ≡ Some k.state = ap (λ (y : Option (Kept GroupState)). in_each y (λ k. k.state)) o.1 in
      subst (λ (y : CpuNo). IsShownOn s v (found_in s h) (ThreadsLane y)) o.2
      (shown_on s h (ThreadsLane k.state.cpu) k.log (λ q c. ap (λ (y : Option (Kept GroupState)). told_at (told_of y) q c) o.1) (group_content k.state) v
      lane.noted (group_before states k.state.cpu k.state at refl lane.fits.script)
      (of_some (λ (k : Kept GroupState). IsKnownBy k.log v) h.group k o.1 known.group)
      (of_some (λ (k : Kept GroupState). IsLongest k.log.lane k.log.notes v) h.group k o.1 longest.group))
  each_shown v known longest TimersLane held =
      let o = any_held (λ (k : Kept Timers). k.state) h.timers held in
      let k : Kept Timers = o.0 in
      let lane = of_some (λ (k : Kept Timers). IsLane s TimersLane (OfTimers k.state) k.state.now _ k.log) h.timers k o.1 there.timers in
      let at : in_each h.timers (λ k. k.state) ≡ Some k.state = ap (λ (y : Option (Kept Timers)). in_each y (λ k. k.state)) o.1 in
      shown_on s h TimersLane k.log (λ q c. ap (λ (y : Option (Kept Timers)). told_at (told_of y) q c) o.1) (OfTimers k.state) v
      lane.noted (timers_before states k.state at) (of_some (λ (k : Kept Timers). IsKnownBy k.log v) h.timers k o.1 known.timers)
      (of_some (λ (k : Kept Timers). IsLongest k.log.lane k.log.notes v) h.timers k o.1 longest.timers)
  each_shown v known longest (LockLane x) held =
      let o = one_held (λ (k : Kept SpinFacts). k.state) (λ (y : SpinFacts). y.lock) x h.spin_lock held in
      let k : Kept SpinFacts = o.0 in
      let lane = of_some (λ (k : Kept SpinFacts). IsLane s (LockLane k.state.lock) (OfLock k.state.state) 0 _ k.log) h.spin_lock k o.1 there.spin_lock in
      let at : in_each h.spin_lock (λ k. k.state) ≡ Some k.state = ap (λ (y : Option (Kept SpinFacts)). in_each y (λ k. k.state)) o.1 in
      subst (λ (y : LockNo). IsShownOn s v (found_in s h) (LockLane y)) o.2
      (shown_on s h (LockLane k.state.lock) k.log (λ q c. ap (λ (y : Option (Kept SpinFacts)). told_at (told_of y) q c) o.1) (OfLock k.state.state) v
      lane.noted (spin_before states k.state.lock k.state lane.fits.named at)
      (of_some (λ (k : Kept SpinFacts). IsKnownBy k.log v) h.spin_lock k o.1 known.spin_lock)
      (of_some (λ (k : Kept SpinFacts). IsLongest k.log.lane k.log.notes v) h.spin_lock k o.1 longest.spin_lock))

  -- if the pass knows all held lanes and no longer list of any, each held lane of a list shows it the found state
  pub all_shown : (v : View) → AreKnownBy h v → AreLongest h v → (xs : List Lane) → AreHeld (IsHeld states) xs → AreShownOn s v (found_in s h) xs
  all_shown v known longest [] held = tt
  all_shown v known longest (x ∷ xs) held = (each_shown v known longest x held.0, all_shown v known longest xs held.1)

  module _ (n : ℕ) (st : Stand) (e : Event) (lanes : List Lane) (asks : List Ask) (v : View)
      (same : asks ≡ what_asks s st e.what (held_lanes states)) (left : AreLeftBy s n st e lanes asks h v) where
    -- each lane that is held and touched was found so
    pub each_found : (x : Lane) → IsHeld states x → is_among x lanes ≡ true → IsFoundOn s v n e st (found_in s h) x
    each_found (ObjectLane d) held among =
        let o = one_held (λ (k : Kept ObjectFacts). k.state) (λ (y : ObjectFacts). y.dpc) d h.object held in
        let k : Kept ObjectFacts = o.0 in
        let lane = of_some (λ (k : Kept ObjectFacts). IsLane s (ObjectLane k.state.dpc) (OfObject k.state.state) 0 _ k.log) h.object k o.1 there.object in
        let at : in_each h.object (λ k. k.state) ≡ Some k.state = ap (λ (y : Option (Kept ObjectFacts)). in_each y (λ k. k.state)) o.1 in
        let here : is_among (object_name k) lanes ≡ true = subst (λ (y : DpcNo). is_among (ObjectLane y) lanes ≡ true) (sym o.2) among in
        let knows : LeavesObject s n e asks k v = left_object s n e asks v lanes k h.queue here (subst (λ (y : Option (Kept ObjectFacts)).
        DpcsLeft s n e asks v (is_touched (in_each y object_name) lanes) (is_touched (in_each h.queue queue_name) lanes) y h.queue) o.1 left.dpcs) in
        subst (λ (y : DpcNo). IsFoundOn s v n e st (found_in s h) (ObjectLane y)) o.2
        (found_on s h (ObjectLane k.state.dpc) k.log (λ q c. ap (λ (y : Option (Kept ObjectFacts)). told_at (told_of y) q c) o.1) n st e asks
        (OfObject k.state.state) (OfObject (object_left n e k.state).state) v lane.noted (object_before states k.state.dpc k.state lane.fits.named at)
        (object_then states n st e k.state.dpc k.state lane.fits.named at refl) same knows)
    each_found (QueueLane p) held among =
        let o = one_held (λ (k : Kept QueueFacts). k.state) (λ (y : QueueFacts). y.cpu) p h.queue held in
        let k : Kept QueueFacts = o.0 in
        let lane = of_some (λ (k : Kept QueueFacts). IsLane s (QueueLane k.state.cpu) (OfQueue k.state.state) 0 _ k.log) h.queue k o.1 there.queue in
        let at : in_each h.queue (λ k. k.state) ≡ Some k.state = ap (λ (y : Option (Kept QueueFacts)). in_each y (λ k. k.state)) o.1 in
        let here : is_among (queue_name k) lanes ≡ true = subst (λ (y : CpuNo). is_among (QueueLane y) lanes ≡ true) (sym o.2) among in
        let knows : LeavesQueue s n e (objects_told s h.object) asks k v =
        left_queue s n e asks v lanes h.object k here (subst (λ (y : Option (Kept QueueFacts)).
        DpcsLeft s n e asks v (is_touched (in_each h.object object_name) lanes) (is_touched (in_each y queue_name) lanes) h.object y) o.1 left.dpcs) in
        subst (λ (y : CpuNo). IsFoundOn s v n e st (found_in s h) (QueueLane y)) o.2
        (found_on s h (QueueLane k.state.cpu) k.log (λ q c. ap (λ (y : Option (Kept QueueFacts)). told_at (told_of y) q c) o.1) n st e asks
        (OfQueue k.state.state) (OfQueue (queue_left s n e (objects_told s h.object) k.state).state) v lane.noted
        (queue_before states k.state.cpu k.state lane.fits.named at) (queue_then states n st e k.state.cpu k.state lane.fits.named at refl) same knows)
    each_found (ThreadsLane p) held among =
        let o = one_held (λ (k : Kept GroupState). k.state) (λ (y : GroupState). y.cpu) p h.group held in
        let k : Kept GroupState = o.0 in
        let lane = of_some (λ (k : Kept GroupState). IsLane s (ThreadsLane k.state.cpu) (group_content k.state) 0 _ k.log) h.group k o.1 there.group in
        let at : in_each h.group (λ k. k.state) ≡ Some k.state = ap (λ (y : Option (Kept GroupState)). in_each y (λ k. k.state)) o.1 in
        let here : is_among (ThreadsLane k.state.cpu) lanes ≡ true = subst (λ (y : CpuNo). is_among (ThreadsLane y) lanes ≡ true) (sym o.2) among in
        let knows =
        of_some (λ (k : Kept GroupState). IsTrue (is_among (ThreadsLane k.state.cpu) lanes) → LeavesGroup s n st e asks k v) h.group k o.1
        left.group here in
        subst (λ (y : CpuNo). IsFoundOn s v n e st (found_in s h) (ThreadsLane y)) o.2
        (found_on s h (ThreadsLane k.state.cpu) k.log (λ q c. ap (λ (y : Option (Kept GroupState)). told_at (told_of y) q c) o.1) n st e asks
        (group_content k.state) _ v lane.noted (group_before states k.state.cpu k.state at refl lane.fits.script)
        (group_then states n st e k.state.cpu k.state at refl lane.fits.script) same knows)
    each_found TimersLane held among =
        let o = any_held (λ (k : Kept Timers). k.state) h.timers held in
        let k : Kept Timers = o.0 in
        let lane = of_some (λ (k : Kept Timers). IsLane s TimersLane (OfTimers k.state) k.state.now _ k.log) h.timers k o.1 there.timers in
        let at : in_each h.timers (λ k. k.state) ≡ Some k.state = ap (λ (y : Option (Kept Timers)). in_each y (λ k. k.state)) o.1 in
        let knows = of_some (λ (k : Kept Timers). IsTrue (is_among TimersLane lanes) → LeavesTimers s n st e asks k v) h.timers k o.1 left.timers among in
        found_on s h TimersLane k.log (λ q c. ap (λ (y : Option (Kept Timers)). told_at (told_of y) q c) o.1) n st e asks
        (OfTimers k.state) (OfTimers (timers_after s n st e k.state)) v lane.noted (timers_before states k.state at)
        (timers_then states n st e k.state at) same knows
    each_found (LockLane x) held among =
        let o = one_held (λ (k : Kept SpinFacts). k.state) (λ (y : SpinFacts). y.lock) x h.spin_lock held in
        let k : Kept SpinFacts = o.0 in
        let lane = of_some (λ (k : Kept SpinFacts). IsLane s (LockLane k.state.lock) (OfLock k.state.state) 0 _ k.log) h.spin_lock k o.1 there.spin_lock in
        let at : in_each h.spin_lock (λ k. k.state) ≡ Some k.state = ap (λ (y : Option (Kept SpinFacts)). in_each y (λ k. k.state)) o.1 in
        let here : is_among (LockLane k.state.lock) lanes ≡ true = subst (λ (y : LockNo). is_among (LockLane y) lanes ≡ true) (sym o.2) among in
        let knows =
        of_some (λ (k : Kept SpinFacts). IsTrue (is_among (LockLane k.state.lock) lanes) → LeavesSpin s n e asks k v) h.spin_lock k o.1
        left.spin_lock here in
        subst (λ (y : LockNo). IsFoundOn s v n e st (found_in s h) (LockLane y)) o.2
        (found_on s h (LockLane k.state.lock) k.log (λ q c. ap (λ (y : Option (Kept SpinFacts)). told_at (told_of y) q c) o.1) n st e asks
        (OfLock k.state.state) (OfLock (spin_left s e k.state).state) v lane.noted (spin_before states k.state.lock k.state lane.fits.named at)
        (spin_then states n st e k.state.lock k.state lane.fits.named at refl) same knows)

    rest_found : (past xs : List Lane) → lanes ≡ past ++ xs → AreHeld (IsHeld states) xs → AreFoundOn s v n e st (found_in s h) xs
    rest_found past [] is held = tt
    rest_found past (x ∷ xs) is held = (
      each_found x held.0 (ap (λ (ys : List Lane). is_among x ys) is ∙ among_them x past xs),
      rest_found (past ++ x ∷ []) xs (is ∙ sym (append_assoc past (x ∷ []) xs)) held.1,
    )

    pub all_found : AreHeld (IsHeld states) lanes → AreFoundOn s v n e st (found_in s h) lanes
    all_found held = rest_found [] lanes refl held
