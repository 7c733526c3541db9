-- What contracts see of the objects and queues that are kept, before and after each change.
use Rattle.std.proofs.Common.{inl, inr, Bool, List, None, Option, Some, ap, arith, eq-eqb, false, get_or, length, option_map, refl, set, subst, sym, true, ℕ}
use Rattle.std.proofs.Common.{◌<◌, ◌∙◌, ◌≡◌}
use Rattle.std.specs.Prelude.{IfSome, IsTrue}
use Rattle.std.proofs.lemmas.Bool.{cases_lt, false≢true, lt-ltb, ltb-true}
use Rattle.std.proofs.lemmas.List.{get_or_default, get_or_past, length-map}
use Rattle.nt_event.specs.declared.commands.Importance.{Importance}
use Rattle.nt_event.specs.declared.inserts.Insert.{Insert}
use Rattle.nt_event.specs.declared.inserts.Part.{Part}
use Rattle.nt_event.specs.declared.inserts.Standing.{Standing}
use Rattle.nt_event.specs.declared.numbers.CpuNo.{CpuNo}
use Rattle.nt_event.specs.declared.numbers.DpcNo.{DpcNo}
use Rattle.nt_event.specs.declared.scripts.Script.{Script}
use Rattle.nt_event.specs.Lanes.{Lanes}
use Rattle.nt_event.specs.Objects.{ObjectState, is_queued, object_in, queue_for}
use Rattle.nt_event.specs.Queues.{QueueState, first_dpc, is_queue, start_queue}
use Rattle.nt_event.specs.Requests.{queue_asks}
use Rattle.nt_event.specs.Script.{has_cpu, has_dpc}
use Rattle.nt_event.specs.Numbers.{cpu, dpc}
use Rattle.nt_dpc.proofs.Events.{ask_is_the_events}
use Rattle.nt_dpc.specs.Laws.{IsObject, asks_on}
use Rattle.nt_dpc.specs.Objects.{ObjectFacts, new_object, unqueued}
use Rattle.nt_dpc.specs.Queues.{MayInsert, QueueFacts, StandsHereOrNowhere, StandsHere, asked_class, holds_dpc, new_queue, with_idle}
use Rattle.nt_dpc_lanes.proofs.Agreeing.{stand_of, unqueued_nowhere}
use Rattle.nt_dpc_lanes.proofs.Holding.{first_holds}
use Rattle.nt_dpc_lanes.proofs.Keeping.{ArePlaces, idle_kept, idle_seen, important, important_kept, important_seen, inserted_kept, inserted_object}
use Rattle.nt_dpc_lanes.proofs.Keeping.{inserted_queue, inserted_seen, object_state, queue_state, removed_kept, removed_queue, removed_seen, targeted}
use Rattle.nt_dpc_lanes.proofs.Keeping.{targeted_kept, targeted_seen}
use Rattle.nt_dpc_lanes.proofs.Leaving.{first_in_script}
use Rattle.nt_dpc_lanes.specs.Agree.{Agrees, AreKept, IsObjectOf, IsQueueOf, lanes_of, object_facts, queue_facts}
use Rattle.nt_dpc_lanes.specs.Changes.{inserted_at, removed_at, removed_from, with_object, with_queue}
use Rattle.nt_states.specs.DpcLanes.{DpcLanes, queue_in}
use Rattle.nt_dpc.specs.Objects.{with_importance, with_target}
use Rattle.nt_dpc.specs.Queues.{set_idle}

-- these objects and queues are kept, and contracts see this of them
pub record AreSeen (s : Script) (os : List ObjectFacts) (qs : List QueueFacts) (x : DpcLanes) : Type 0 where
  pub kept : AreKept s os qs
  pub seen : lanes_of s os qs ≡ x

-- objects and queues that contracts see agree
pub seen_agree : (s : Script) (os : List ObjectFacts) (qs : List QueueFacts) (x : DpcLanes) → AreSeen s os qs x → Agrees x
seen_agree s os qs x h = subst Agrees h.seen h.kept.agree

-- the state of an object that is kept is the state that contracts see
pub seen_object : (s : Script) (os : List ObjectFacts) (qs : List QueueFacts) (x : DpcLanes) (d : DpcNo) → AreSeen s os qs x →
    (object_facts os d).state ≡ object_in x.objects d
seen_object s os qs x d h =
    sym (object_state s os qs d) ∙ ap (λ (y : DpcLanes). object_in y.objects d) h.seen

-- the state of a queue that is kept is the state that contracts see
pub seen_queue : (s : Script) (os : List ObjectFacts) (qs : List QueueFacts) (x : DpcLanes) (p : CpuNo) → AreSeen s os qs x →
    (queue_facts qs p).state ≡ queue_in x.queues p
seen_queue s os qs x p h = sym (queue_state s os qs p) ∙ ap (λ (y : DpcLanes). queue_in y.queues p) h.seen

-- an object of the script has its place, and so has a queue
pub object_place : (s : Script) (os : List ObjectFacts) (qs : List QueueFacts) (x : DpcLanes) (d : DpcNo) → AreSeen s os qs x → IsTrue (has_dpc x.script d) →
    d.0 < length os
object_place s os qs x d h t =
    let u : IsTrue (has_dpc s d) = subst (λ (y : DpcLanes). IsTrue (has_dpc y.script d)) (sym h.seen) t in
    omega (arith, ltb-true d.0 (length s.dpcs) u, h.kept.agree.objects, length-map os (λ (o : ObjectFacts). o.state))

-- a processor of the script has a place in the list of queues
pub queue_place : (s : Script) (os : List ObjectFacts) (qs : List QueueFacts) (x : DpcLanes) (p : CpuNo) → AreSeen s os qs x → IsTrue (has_cpu x.script p) →
    p.0 < length qs
queue_place s os qs x p h t =
    let u : IsTrue (has_cpu s p) = subst (λ (y : DpcLanes). IsTrue (has_cpu y.script p)) (sym h.seen) t in
    omega (arith, ltb-true p.0 s.cpus u, h.kept.agree.queues, length-map qs (λ (q : QueueFacts). q.state))

-- ---- what is read

-- an object read at its place in the list is the object of its number, whatever the default
pub read_object : (s : Script) (os : List ObjectFacts) (qs : List QueueFacts) (x : DpcLanes) (d : DpcNo) (o : ObjectFacts) → AreSeen s os qs x →
    IsTrue (has_dpc x.script d) → o ≡ get_or os d.0 o → o ≡ object_facts os d
read_object s os qs x d o h t e = e ∙ get_or_default os d.0 o (new_object (dpc 0) false) (object_place s os qs x d h t)

-- a queue read at its place in the list is the queue of its processor, whatever the default
pub read_queue : (s : Script) (os : List ObjectFacts) (qs : List QueueFacts) (x : DpcLanes) (p : CpuNo) (q : QueueFacts) → AreSeen s os qs x →
    IsTrue (has_cpu x.script p) → q ≡ get_or qs p.0 q → q ≡ queue_facts qs p
read_queue s os qs x p q h t e = e ∙ get_or_default qs p.0 q (new_queue (cpu 0) 0 0) (queue_place s os qs x p h t)

-- the object kept at the number of a DPC object of the script is that object
pub object_of_script : (s : Script) (os : List ObjectFacts) (qs : List QueueFacts) (x : DpcLanes) (d : DpcNo) → AreSeen s os qs x →
    IsTrue (has_dpc x.script d) → IsObjectOf x.script d (object_facts os d)
object_of_script s os qs x d h t =
    subst (λ (y : DpcLanes). IsObjectOf y.script d (object_facts os d)) h.seen (h.kept.object d (object_place s os qs x d h t))

-- the queue kept at the number of a processor of the script is that processor's queue
pub queue_of_script : (s : Script) (os : List ObjectFacts) (qs : List QueueFacts) (x : DpcLanes) (p : CpuNo) → AreSeen s os qs x →
    IsTrue (has_cpu x.script p) → IsQueueOf x.script p (queue_facts qs p)
queue_of_script s os qs x p h t =
    subst (λ (y : DpcLanes). IsQueueOf y.script p (queue_facts qs p)) h.seen (h.kept.queue p (queue_place s os qs x p h t))

-- ---- what contracts see of one object and one queue

-- the queue in which a processor of the script inserts an object is one of the script's processors'
pub queue_for_in : (x : DpcLanes) (d : DpcNo) (by : CpuNo) → Agrees x → IsTrue (has_cpu x.script by) →
    (queue_for (object_in x.objects d).target by).0 < x.script.cpus
queue_for_in x d by a t = go (object_in x.objects d).target (a.target d)
  where
    go : (o : Option CpuNo) → IfSome o (λ p. p.0 < x.script.cpus) → (queue_for o by).0 < x.script.cpus
    go None h = ltb-true by.0 x.script.cpus t
    go (Some p) h = h

-- a queue that has an entry is that of a processor of the script
queue_in_script : (xs : List QueueState) (d : DpcNo) (p : CpuNo) → holds_dpc d (queue_in xs p).pending ≡ true → p.0 < length xs
queue_in_script xs d p h =
    elim (cases_lt p.0 (length xs)) [
      | inl l ↦ l
      | inr l ↦ absurd (let bad : holds_dpc d start_queue.pending ≡ true = rw (get_or_past xs p.0 start_queue l) at h in false≢true bad)
    ]

-- an object stands in the queue of a processor of the script only
stand_in : (x : DpcLanes) (d : DpcNo) (p : CpuNo) → Agrees x → is_queue (stand_of (object_in x.objects d)) p ≡ true → p.0 < x.script.cpus
stand_in x d p a h =
    let l : p.0 < length x.queues = queue_in_script x.queues d p (a.stands d p ∙ h) in omega (arith, a.queues)

-- an object stands in the queue of a processor of the script
pub queued_in : (x : DpcLanes) (d : DpcNo) → Agrees x → IfSome (stand_of (object_in x.objects d)) (λ p. p.0 < x.script.cpus)
queued_in x d a = go (object_in x.objects d).standing (λ p. stand_in x d p a)
  where
    go : (o : Option Standing) → ((p : CpuNo) → is_queue (option_map (λ at. at.queue) o) p ≡ true → p.0 < x.script.cpus) →
        IfSome (option_map (λ at. at.queue) o) (λ p. p.0 < x.script.cpus)
    go None h = tt
    go (Some at) h = h at.queue (eq-eqb at.queue.0 at.queue.0 refl)

-- an object that isn't queued may be inserted into the queue that it goes to
pub may_insert : (x : DpcLanes) (d : DpcNo) (by p : CpuNo) (o : ObjectFacts) (q : QueueFacts) → Agrees x → is_queued (object_in x.objects d) ≡ false →
    p ≡ queue_for (object_in x.objects d).target by → o.state ≡ object_in x.objects d → o.dpc ≡ d → q.state ≡ queue_in x.queues p → q.cpu ≡ p → MayInsert q o by
may_insert x d by p o q a free to os od qs qc =
    λ k. (rw (os, qc) (sym to), rw (od, qs) (a.stands d p ∙ unqueued_nowhere (object_in x.objects d) p free))

-- the first of a part, by its object and number, is one of the script's
pub first_named : (x : DpcLanes) (p : CpuNo) (part : Part) (r : Option (DpcNo × ℕ)) → Agrees x →
    r ≡ option_map (λ i. (i.dpc, i.number)) (first_dpc part (queue_in x.queues p).pending) → IfSome r (λ y. IsTrue (has_dpc x.script y.0))
first_named x p part r a e = rw e (go (first_dpc part (queue_in x.queues p).pending) refl)
  where
    go : (o : Option Insert) → first_dpc part (queue_in x.queues p).pending ≡ o →
        IfSome (option_map (λ i. let y : DpcNo × ℕ = (i.dpc, i.number) in y) o) (λ y. IsTrue (has_dpc x.script y.0))
    go None k = tt
    go (Some i) k = first_in_script x p part i a k

-- what an insert asks for in the machine
pub asked_is : (x : DpcLanes) (d : DpcNo) (by p : CpuNo) (o : ObjectFacts) (q : QueueFacts) (class : Option ℕ) → is_queued (object_in x.objects d) ≡ false →
    p ≡ queue_for (object_in x.objects d).target by → o.state ≡ object_in x.objects d → IsObjectOf x.script d o → q.state ≡ queue_in x.queues p →
    IsQueueOf x.script p q → class ≡ asked_class q o by → (l : Lanes) → l.objects ≡ x.objects → l.queues ≡ x.queues →
    queue_asks x.script d by l ≡ asks_on (queue_for (object_in x.objects d).target by) class
asked_is x d by p o q class free to os io qs iq e l eo eq =
    let object : IsObject x.script l.objects o = record { state = rw (eo, io.dpc) (sym os); part = rw io.dpc (sym io.part) } in
    let at : get_or l.queues q.cpu.0 start_queue ≡ q.state = rw (eq, iq.cpu) (sym qs) in
    let goes : queue_for o.state.target by ≡ q.cpu = rw (os, iq.cpu) (sym to) in
    let f : is_queued o.state ≡ false = rw os free in
    let main : queue_asks x.script o.dpc by l ≡ asks_on q.cpu (asked_class q o by) = ask_is_the_events x.script l o q by object at iq.limit goes f in
    rw (e, ← to, ← iq.cpu, ← io.dpc) main

-- ---- what contracts see after a change

-- contracts see the insert of an object that was not queued, once both lists are written
pub insert_seen : (s : Script) (os : List ObjectFacts) (qs : List QueueFacts) (x : DpcLanes) (n : ℕ) (p : CpuNo) (d : DpcNo) (os2 : List ObjectFacts)
    (qs2 : List QueueFacts) → AreSeen s os qs x → ArePlaces os qs d p → is_queued (object_in x.objects d) ≡ false →
    os2 ≡ set os d.0 (inserted_object n p d os qs) → qs2 ≡ set qs p.0 (inserted_queue n p d os qs) → AreSeen s os2 qs2 (inserted_at n p d x)
insert_seen s os qs x n p d os2 qs2 h at free eo eq =
    record {
      kept = rw (eo, eq) (inserted_kept s os qs n p d h.kept at (ap is_queued (seen_object s os qs x d h) ∙ free));
      seen = rw (eo, eq) (inserted_seen s os qs n p d h.kept at ∙ ap (inserted_at n p d) h.seen);
    }

-- contracts see the removal of an object from the queue in which it stands, once both lists are written
pub removed_is_seen : (s : Script) (os : List ObjectFacts) (qs : List QueueFacts) (x : DpcLanes) (p : CpuNo) (d : DpcNo) (os2 : List ObjectFacts)
    (qs2 : List QueueFacts) → AreSeen s os qs x → ArePlaces os qs d p → is_queue (stand_of (object_in x.objects d)) p ≡ true →
    os2 ≡ set os d.0 (unqueued (object_facts os d)) → qs2 ≡ set qs p.0 (removed_queue p d os qs) → AreSeen s os2 qs2 (removed_at p d x)
removed_is_seen s os qs x p d os2 qs2 h at here eo eq =
    record {
      kept = rw (eo, eq) (removed_kept s os qs p d h.kept at (ap (λ (o : ObjectState). is_queue (stand_of o) p) (seen_object s os qs x d h) ∙ here));
      seen = rw (eo, eq) (removed_seen s os qs p d h.kept at ∙ ap (removed_at p d) h.seen);
    }

-- contracts see an object's new importance, once the list of objects is written
pub importance_seen : (s : Script) (os : List ObjectFacts) (qs : List QueueFacts) (x : DpcLanes) (d : DpcNo) (i : Importance) (os2 : List ObjectFacts) →
    AreSeen s os qs x → d.0 < length os → os2 ≡ set os d.0 (important i d os) → AreSeen s os2 qs (with_object d (with_importance i (object_in x.objects d)) x)
importance_seen s os qs x d i os2 h l e =
    record {
      kept = rw e (important_kept s os qs d i h.kept l);
      seen = rw e (important_seen s os qs d i ∙ ap (λ (y : DpcLanes). with_object d (with_importance i (object_in y.objects d)) y) h.seen);
    }

-- contracts see an object's new target, none or a processor of the script, once the list is written
pub target_seen : (s : Script) (os : List ObjectFacts) (qs : List QueueFacts) (x : DpcLanes) (d : DpcNo) (t : Option CpuNo) (os2 : List ObjectFacts) →
    AreSeen s os qs x → d.0 < length os → IfSome t (λ p. IsTrue (has_cpu x.script p)) → os2 ≡ set os d.0 (targeted t d os) →
    AreSeen s os2 qs (with_object d (with_target t (object_in x.objects d)) x)
target_seen s os qs x d t os2 h l fits e =
    record {
      kept = rw e (targeted_kept s os qs d t h.kept l (below t fits));
      seen = rw e (targeted_seen s os qs d t ∙ ap (λ (y : DpcLanes). with_object d (with_target t (object_in y.objects d)) y) h.seen);
    }
  where
    below : (t : Option CpuNo) → IfSome t (λ p. IsTrue (has_cpu x.script p)) → IfSome t (λ p. p.0 < s.cpus)
    below None f = tt
    below (Some p) f = subst (λ (y : DpcLanes). p.0 < y.script.cpus) (sym h.seen) (ltb-true p.0 x.script.cpus f)

-- contracts see a queue's new idle flag, once the list of queues is written
pub rest_seen : (s : Script) (os : List ObjectFacts) (qs : List QueueFacts) (x : DpcLanes) (p : CpuNo) (idle : Bool) (qs2 : List QueueFacts) →
    AreSeen s os qs x → p.0 < length qs → qs2 ≡ set qs p.0 (with_idle idle (queue_facts qs p)) →
    AreSeen s os qs2 (with_queue p (set_idle idle (queue_in x.queues p)) x)
rest_seen s os qs x p idle qs2 h l e =
    record {
      kept = rw e (idle_kept s os qs p idle h.kept l);
      seen = rw e (idle_seen s os qs p idle ∙ ap (λ (y : DpcLanes). with_queue p (set_idle idle (queue_in y.queues p)) y) h.seen);
    }

-- ---- where a removed object stands

-- the object that is the first of a part of a queue stands there
pub first_stands_here : (x : DpcLanes) (p : CpuNo) (part : Part) (d : DpcNo) → Agrees x →
    option_map (λ i. i.dpc) (first_dpc part (queue_in x.queues p).pending) ≡ Some d → is_queue (stand_of (object_in x.objects d)) p ≡ true
first_stands_here x p part d a h = go (first_dpc part (queue_in x.queues p).pending) refl h
  where
    go : (o : Option Insert) → first_dpc part (queue_in x.queues p).pending ≡ o → option_map (λ i. i.dpc) o ≡ Some d →
        is_queue (stand_of (object_in x.objects d)) p ≡ true
    go None e k = absurd (cc)
    go (Some i) e k =
        let is : i.dpc ≡ d = cc in
        sym (a.stands d p) ∙ rw is at (first_holds part (queue_in x.queues p).pending i e)

-- an object that stands in a processor's queue is found in that queue
pub stands_there : (o : Option CpuNo) (p : CpuNo) → Some p ≡ o → is_queue o p ≡ true
stands_there None p h = cc
stands_there (Some q) p h = let is : p ≡ q = cc in rw is (eq-eqb q.0 q.0 refl)

-- an object that stands in a processor's queue is in it as the queue's entries say
pub stands_here : (x : DpcLanes) (d : DpcNo) (p : CpuNo) (o : ObjectFacts) (q : QueueFacts) → Agrees x → Some p ≡ stand_of (object_in x.objects d) →
    o.state ≡ object_in x.objects d → o.dpc ≡ d → q.state ≡ queue_in x.queues p → q.cpu ≡ p → StandsHereOrNowhere q o
stands_here x d p o q a at os od qs qc =
    let held : holds_dpc o.dpc q.state.pending ≡ true = rw (od, qs) (a.stands d p ∙ stands_there (stand_of (object_in x.objects d)) p at) in
    go o.state.standing (at ∙ ap stand_of (sym os)) held
  where
    go : (st : Option Standing) → Some p ≡ option_map (λ y. y.queue) st → holds_dpc o.dpc q.state.pending ≡ true → StandsHere q o.dpc st
    go None e held = cc
    go (Some y) e held = let is : p ≡ y.queue = cc in (sym is ∙ sym qc, held)

-- removing an object from the processor's queue in which it stands is removing it from where it stands
pub removed_from_is : (st : Option Standing) (p : CpuNo) (d : DpcNo) (x : DpcLanes) → Some p ≡ option_map (λ y. y.queue) st →
    removed_at p d x ≡ removed_from st d x
removed_from_is None p d x h = cc
removed_from_is (Some y) p d x h =
    let is : p ≡ y.queue = cc in ap (λ (r : CpuNo). removed_at r d x) is

-- ---- the calls

-- an object of the script and one of its processors have places in the two lists
pub places : (s : Script) (os : List ObjectFacts) (qs : List QueueFacts) (x : DpcLanes) (d : DpcNo) (p : CpuNo) → AreSeen s os qs x →
    IsTrue (has_dpc x.script d) → p.0 < x.script.cpus → ArePlaces os qs d p
places s os qs x d p h t l =
    record { object = object_place s os qs x d h t; queue = queue_place s os qs x p h (lt-ltb p.0 x.script.cpus l) }

-- what an insert of one object into one queue requires
pub insert_place : (s : Script) (os : List ObjectFacts) (qs : List QueueFacts) (x : DpcLanes) (d : DpcNo) (by p : CpuNo) → AreSeen s os qs x →
    IsTrue (has_dpc x.script d) → p.0 < x.script.cpus → is_queued (object_in x.objects d) ≡ false → p ≡ queue_for (object_in x.objects d).target by →
    MayInsert (queue_facts qs p) (object_facts os d) by
insert_place s os qs x d by p h t l free to =
    let r : IsTrue (has_cpu x.script p) = lt-ltb p.0 x.script.cpus l in
    may_insert x d by p (object_facts os d) (queue_facts qs p) (seen_agree s os qs x h) free to (seen_object s os qs x d h)
    (object_of_script s os qs x d h t).dpc (seen_queue s os qs x p h) (queue_of_script s os qs x p h r).cpu

-- what a removal of one object from one queue requires
pub remove_place : (s : Script) (os : List ObjectFacts) (qs : List QueueFacts) (x : DpcLanes) (d : DpcNo) (p : CpuNo) → AreSeen s os qs x →
    IsTrue (has_dpc x.script d) → p.0 < x.script.cpus → Some p ≡ stand_of (object_in x.objects d) → StandsHereOrNowhere (queue_facts qs p) (object_facts os d)
remove_place s os qs x d p h t l at =
    let r : IsTrue (has_cpu x.script p) = lt-ltb p.0 x.script.cpus l in
    stands_here x d p (object_facts os d) (queue_facts qs p) (seen_agree s os qs x h) at (seen_object s os qs x d h) (object_of_script s os qs x d h t).dpc
    (seen_queue s os qs x p h) (queue_of_script s os qs x p h r).cpu
