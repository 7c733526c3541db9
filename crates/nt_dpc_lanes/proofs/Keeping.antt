-- The objects and queues of a script are kept by each change of a pair, and contracts see the change.
use Rattle.std.proofs.Common.{Bool, List, Option, Some, None, ap, arith, eqb, false, length, map, option_map, refl, set, subst, sym, true, ℕ, ◌<◌, ◌∙◌, ◌∷◌}
use Rattle.std.proofs.Common.{◌≡◌}
use Rattle.std.specs.Prelude.{IfSome}
use Rattle.std.proofs.lemmas.Bool.{eqb-true}
use Rattle.std.proofs.lemmas.List.{length-map, length-set, map-set}
use Rattle.nt_event.specs.declared.commands.Importance.{Importance}
use Rattle.nt_event.specs.declared.numbers.CpuNo.{CpuNo}
use Rattle.nt_event.specs.declared.numbers.DpcNo.{DpcNo}
use Rattle.nt_event.specs.declared.scripts.Script.{Script}
use Rattle.nt_event.specs.Objects.{ObjectState, is_queued, object_in}
use Rattle.nt_event.specs.Queues.{QueueState, is_high, is_queue, new_insert, without_dpc}
use Rattle.nt_event.specs.Numbers.{cpu, dpc}
use Rattle.nt_dpc.specs.Objects.{ObjectFacts, entry_of, new_object, queued_at, standing_cpu, unqueued}
use Rattle.nt_dpc.specs.Queues.{QueueFacts, new_queue, with_entry, with_idle, without_entry}
use Rattle.nt_dpc_lanes.proofs.Agreeing.{agree_inserted, agree_object, agree_queue, agree_removed}
use Rattle.nt_event.proofs.Written.{read_map, read_other, read_same}
use Rattle.nt_dpc_lanes.specs.Agree.{Agrees, AreKept, IsObjectOf, IsQueueOf, lanes_of, object_facts, queue_facts}
use Rattle.nt_dpc_lanes.specs.Changes.{inserted_at, removed_at, with_object, with_queue}
use Rattle.nt_states.specs.DpcLanes.{DpcLanes, queue_in}
use Rattle.nt_dpc.specs.Objects.{with_importance, with_target}
use Rattle.nt_dpc.specs.Queues.{set_idle}

-- ---- what contracts see

-- the state of an object that contracts see is that of the object that is kept
pub object_state : (s : Script) (os : List ObjectFacts) (qs : List QueueFacts) (d : DpcNo) → object_in (lanes_of s os qs).objects d ≡ (object_facts os d).state
object_state s os qs d = read_map (λ (o : ObjectFacts). o.state) os d.0 (new_object (dpc 0) false)

-- the state of a queue that contracts see is that of the queue that is kept
pub queue_state : (s : Script) (os : List ObjectFacts) (qs : List QueueFacts) (p : CpuNo) → queue_in (lanes_of s os qs).queues p ≡ (queue_facts qs p).state
queue_state s os qs p = read_map (λ (q : QueueFacts). q.state) qs p.0 (new_queue (cpu 0) 0 0)

-- setting the facts of one object sets its state in the list of states
objects_set : (os : List ObjectFacts) (i : ℕ) (o : ObjectFacts) → map (λ (x : ObjectFacts). x.state) (set os i o) ≡ set
    (map (λ (x : ObjectFacts). x.state) os) i o.state
objects_set os i o = map-set (λ (x : ObjectFacts). x.state) os i o

-- setting the facts of one queue sets its state in the list of states
queues_set : (qs : List QueueFacts) (i : ℕ) (q : QueueFacts) → map (λ (x : QueueFacts). x.state) (set qs i q) ≡ set
    (map (λ (x : QueueFacts). x.state) qs) i q.state
queues_set qs i q = map-set (λ (x : QueueFacts). x.state) qs i q

-- an object and a queue are written
both_set : (s : Script) (os : List ObjectFacts) (qs : List QueueFacts) (d : DpcNo) (p : CpuNo) (o : ObjectFacts) (q : QueueFacts) →
    lanes_of s (set os d.0 o) (set qs p.0 q) ≡ with_object d o.state (with_queue p q.state (lanes_of s os qs))
both_set s os qs d p o q = λ i. record { script = s; objects = objects_set os d.0 o i; queues = queues_set qs p.0 q i }

-- the lanes of objects of which one is set are the lanes with that object's state changed
object_set : (s : Script) (os : List ObjectFacts) (qs : List QueueFacts) (d : DpcNo) (o : ObjectFacts) →
    lanes_of s (set os d.0 o) qs ≡ with_object d o.state (lanes_of s os qs)
object_set s os qs d o = λ i. record { script = s; objects = objects_set os d.0 o i; queues = map (λ q. q.state) qs }

-- the lanes of queues of which one is set are the lanes with that queue's state changed
queue_set : (s : Script) (os : List ObjectFacts) (qs : List QueueFacts) (p : CpuNo) (q : QueueFacts) →
    lanes_of s os (set qs p.0 q) ≡ with_queue p q.state (lanes_of s os qs)
queue_set s os qs p q = λ i. record { script = s; objects = map (λ o. o.state) os; queues = queues_set qs p.0 q i }

-- ---- what stays of an object and a queue

-- after an object is set with its number and part kept, each object is still the script's object of its number
still_object : (s : Script) (os : List ObjectFacts) (d : DpcNo) (o : ObjectFacts) → ((e : DpcNo) → e.0 < length os → IsObjectOf s e (object_facts os e)) →
    d.0 < length os → o.dpc ≡ (object_facts os d).dpc → o.part ≡ (object_facts os d).part → (e : DpcNo) → e.0 < length os → (b : Bool) → eqb d.0 e.0 ≡ b →
    IsObjectOf s e (object_facts (set os d.0 o) e)
still_object s os d o h l n p e m true k =
    let at : d ≡ e = ap dpc (eqb-true d.0 e.0 k) in
    rw (read_same os d.0 e.0 o (new_object (dpc 0) false) k l, ← at)
    (record { dpc = n ∙ (h d l).dpc; part = p ∙ (h d l).part })
still_object s os d o h l n p e m false k = rw (read_other os d.0 e.0 o (new_object (dpc 0) false) k) (h e m)

-- after a queue is set with its processor, count and limit kept, each queue is still the script's of its processor
still_queue : (s : Script) (qs : List QueueFacts) (p : CpuNo) (q : QueueFacts) → ((r : CpuNo) → r.0 < length qs → IsQueueOf s r (queue_facts qs r)) →
    p.0 < length qs → q.cpu ≡ (queue_facts qs p).cpu → q.count ≡ (queue_facts qs p).count → q.limit ≡ (queue_facts qs p).limit → (r : CpuNo) →
    r.0 < length qs → (b : Bool) → eqb p.0 r.0 ≡ b → IsQueueOf s r (queue_facts (set qs p.0 q) r)
still_queue s qs p q h l c n m r k true e =
    let at : p ≡ r = ap cpu (eqb-true p.0 r.0 e) in
    rw (read_same qs p.0 r.0 q (new_queue (cpu 0) 0 0) e l, ← at)
    (record { cpu = c ∙ (h p l).cpu; count = n ∙ (h p l).count; limit = m ∙ (h p l).limit })
still_queue s qs p q h l c n m r k false e = rw (read_other qs p.0 r.0 q (new_queue (cpu 0) 0 0) e) (h r k)

-- ---- what is written keeps its number and part, its processor, count and limit

record KeepsObject (os : List ObjectFacts) (d : DpcNo) (o : ObjectFacts) : Type 0 where
  pub place : d.0 < length os
  pub dpc : o.dpc ≡ (object_facts os d).dpc
  pub part : o.part ≡ (object_facts os d).part

record KeepsQueue (qs : List QueueFacts) (p : CpuNo) (q : QueueFacts) : Type 0 where
  pub place : p.0 < length qs
  pub cpu : q.cpu ≡ (queue_facts qs p).cpu
  pub count : q.count ≡ (queue_facts qs p).count
  pub limit : q.limit ≡ (queue_facts qs p).limit

-- after a change that keeps an object, each object of the list is the script's of its number
objects_kept : (s : Script) (os : List ObjectFacts) (qs : List QueueFacts) (d : DpcNo) (o : ObjectFacts) → AreKept s os qs → KeepsObject os d o → (e : DpcNo) →
    e.0 < length (set os d.0 o) → IsObjectOf s e (object_facts (set os d.0 o) e)
objects_kept s os qs d o a k e l =
    let m : e.0 < length os = omega (arith, length-set os d.0 o) in
    still_object s os d o a.object k.place k.dpc k.part e m (eqb d.0 e.0) refl

-- after a change that keeps a queue, each queue of the list is the script's of its processor
queues_kept : (s : Script) (os : List ObjectFacts) (qs : List QueueFacts) (p : CpuNo) (q : QueueFacts) → AreKept s os qs → KeepsQueue qs p q → (r : CpuNo) →
    r.0 < length (set qs p.0 q) → IsQueueOf s r (queue_facts (set qs p.0 q) r)
queues_kept s os qs p q a k r l =
    let m : r.0 < length qs = omega (arith, length-set qs p.0 q) in
    still_queue s qs p q a.queue k.place k.cpu k.count k.limit r m (eqb p.0 r.0) refl

-- objects and queues are kept after a change of one object and one queue whose lanes agree
kept_both : (s : Script) (os : List ObjectFacts) (qs : List QueueFacts) (d : DpcNo) (p : CpuNo) (o : ObjectFacts) (q : QueueFacts) (x : DpcLanes) →
    AreKept s os qs → KeepsObject os d o → KeepsQueue qs p q → lanes_of s (set os d.0 o) (set qs p.0 q) ≡ x → Agrees x → AreKept s (set os d.0 o) (set qs p.0 q)
kept_both s os qs d p o q x a k m e g =
    record { agree = subst Agrees (sym e) g; object = objects_kept s os qs d o a k; queue = queues_kept s os qs p q a m }

-- objects and queues are kept after a change of one object alone whose lanes agree
kept_object : (s : Script) (os : List ObjectFacts) (qs : List QueueFacts) (d : DpcNo) (o : ObjectFacts) (x : DpcLanes) → AreKept s os qs → KeepsObject os d o →
    lanes_of s (set os d.0 o) qs ≡ x → Agrees x → AreKept s (set os d.0 o) qs
kept_object s os qs d o x a k e g =
    record { agree = subst Agrees (sym e) g; object = objects_kept s os qs d o a k; queue = a.queue }

-- objects and queues are kept after a change of one queue alone whose lanes agree
kept_queue : (s : Script) (os : List ObjectFacts) (qs : List QueueFacts) (p : CpuNo) (q : QueueFacts) (x : DpcLanes) → AreKept s os qs → KeepsQueue qs p q →
    lanes_of s os (set qs p.0 q) ≡ x → Agrees x → AreKept s os (set qs p.0 q)
kept_queue s os qs p q x a m e g =
    record { agree = subst Agrees (sym e) g; object = a.object; queue = queues_kept s os qs p q a m }

-- a number below the number of objects is below the number of their states
in_objects : (os : List ObjectFacts) (d : DpcNo) → d.0 < length os → d.0 < length (map (λ (o : ObjectFacts). o.state) os)
in_objects os d l = omega (arith, length-map os (λ (o : ObjectFacts). o.state))

-- a number below the number of queues is below the number of their states
in_queues : (qs : List QueueFacts) (p : CpuNo) → p.0 < length qs → p.0 < length (map (λ (q : QueueFacts). q.state) qs)
in_queues qs p l = omega (arith, length-map qs (λ (q : QueueFacts). q.state))

-- the places of an object and a queue
pub record ArePlaces (os : List ObjectFacts) (qs : List QueueFacts) (d : DpcNo) (p : CpuNo) : Type 0 where
  pub object : d.0 < length os
  pub queue : p.0 < length qs

-- ---- an insert

abbrev pub inserted_object : ℕ → CpuNo → DpcNo → List ObjectFacts → List QueueFacts → ObjectFacts
inserted_object n p d os qs = queued_at (record { queue = (queue_facts qs p).cpu; number = n }) (object_facts os d)

abbrev pub inserted_queue : ℕ → CpuNo → DpcNo → List ObjectFacts → List QueueFacts → QueueFacts
inserted_queue n p d os qs = with_entry (entry_of n (object_facts os d)) (queue_facts qs p)

-- the entry made from an object's kept facts is the new insert that the script gives for it
entry_is : (s : Script) (os : List ObjectFacts) (qs : List QueueFacts) (n : ℕ) (d : DpcNo) → AreKept s os qs → d.0 < length os →
    entry_of n (object_facts os d) ≡ new_insert s d n (object_in (lanes_of s os qs).objects d)
entry_is s os qs n d a l =
    rw (object_state s os qs d) (λ i. record {
      dpc = (a.object d l).dpc i;
      number = n;
      part = (a.object d l).part i;
      high = is_high (object_facts os d).state.importance;
    })

-- writing an inserted object and its queue is seen as the insert
pub inserted_seen : (s : Script) (os : List ObjectFacts) (qs : List QueueFacts) (n : ℕ) (p : CpuNo) (d : DpcNo) → AreKept s os qs → ArePlaces os qs d p →
    lanes_of s (set os d.0 (inserted_object n p d os qs)) (set qs p.0 (inserted_queue n p d os qs)) ≡ inserted_at n p d (lanes_of s os qs)
inserted_seen s os qs n p d a at =
    both_set s os qs d p (inserted_object n p d os qs) (inserted_queue n p d os qs)
    ∙ (λ i. with_object d (object i) (with_queue p (queue i) (lanes_of s os qs)))
  where
    object : (inserted_object n p d os qs).state ≡ record (object_in (lanes_of s os qs).objects d) { standing = Some (record { queue = p; number = n }) }
    object = rw (object_state s os qs d, (a.queue p at.queue).cpu)

    queue : (inserted_queue n p d os qs).state ≡ record (queue_in (lanes_of s os qs).queues p) {
      pending = new_insert s d n
          (object_in (lanes_of s os qs).objects d) ∷ (queue_in (lanes_of s os qs).queues p).pending;
    }
    queue = rw (queue_state s os qs p, entry_is s os qs n d a at.object)

-- objects and queues are kept after an insert of an object that was not queued
pub inserted_kept : (s : Script) (os : List ObjectFacts) (qs : List QueueFacts) (n : ℕ) (p : CpuNo) (d : DpcNo) → AreKept s os qs → ArePlaces os qs d p →
    is_queued (object_facts os d).state ≡ false → AreKept s (set os d.0 (inserted_object n p d os qs)) (set qs p.0 (inserted_queue n p d os qs))
inserted_kept s os qs n p d a at free =
    let f : is_queued (object_in (lanes_of s os qs).objects d) ≡ false = rw (object_state s os qs d) free in
    kept_both s os qs d p (inserted_object n p d os qs) (inserted_queue n p d os qs) (inserted_at n p d (lanes_of s os qs)) a
    (record { place = at.object; dpc = refl; part = refl }) (record { place = at.queue; cpu = refl; count = refl; limit = refl })
    (inserted_seen s os qs n p d a at) (agree_inserted (lanes_of s os qs) n p d a.agree (in_objects os d at.object) (in_queues qs p at.queue) f)

-- ---- a removal, or a take

abbrev pub removed_queue : CpuNo → DpcNo → List ObjectFacts → List QueueFacts → QueueFacts
removed_queue p d os qs = without_entry (object_facts os d).dpc (queue_facts qs p)

-- writing a removed object and its queue is seen as the removal
pub removed_seen : (s : Script) (os : List ObjectFacts) (qs : List QueueFacts) (p : CpuNo) (d : DpcNo) → AreKept s os qs → ArePlaces os qs d p →
    lanes_of s (set os d.0 (unqueued (object_facts os d))) (set qs p.0 (removed_queue p d os qs)) ≡ removed_at p d (lanes_of s os qs)
removed_seen s os qs p d a at =
    both_set s os qs d p (unqueued (object_facts os d)) (removed_queue p d os qs) ∙ (λ i. with_object d (object i) (with_queue p (queue i) (lanes_of s os qs)))
  where
    object : (unqueued (object_facts os d)).state ≡ record (object_in (lanes_of s os qs).objects d) { standing = None }
    object = rw (object_state s os qs d)

    queue : (removed_queue p d os qs).state ≡ record (queue_in (lanes_of s os qs).queues p) {
      pending = without_dpc d
          (queue_in (lanes_of s os qs).queues p).pending;
    }
    queue = rw (queue_state s os qs p, (a.object d at.object).dpc)

-- objects and queues are kept after an object is removed from the queue in which it stands
pub removed_kept : (s : Script) (os : List ObjectFacts) (qs : List QueueFacts) (p : CpuNo) (d : DpcNo) → AreKept s os qs → ArePlaces os qs d p →
    is_queue (standing_cpu (object_facts os d)) p ≡ true → AreKept s (set os d.0 (unqueued (object_facts os d))) (set qs p.0 (removed_queue p d os qs))
removed_kept s os qs p d a at here =
    let h : is_queue (option_map (λ x. x.queue) (object_in (lanes_of s os qs).objects d).standing) p ≡ true = rw (object_state s os qs d) here in
    kept_both s os qs d p (unqueued (object_facts os d)) (removed_queue p d os qs) (removed_at p d (lanes_of s os qs)) a
    (record { place = at.object; dpc = refl; part = refl }) (record { place = at.queue; cpu = refl; count = refl; limit = refl })
    (removed_seen s os qs p d a at) (agree_removed (lanes_of s os qs) p d a.agree (in_objects os d at.object) (in_queues qs p at.queue) h)

-- ---- the importance or the target of an object

abbrev pub important : Importance → DpcNo → List ObjectFacts → ObjectFacts
important i d os = record (object_facts os d) { state = record (object_facts os d).state { importance = i } }

-- writing an object with a new importance is seen as the change of its importance
pub important_seen : (s : Script) (os : List ObjectFacts) (qs : List QueueFacts) (d : DpcNo) (i : Importance) →
    lanes_of s (set os d.0 (important i d os)) qs ≡ with_object d (with_importance i (object_in (lanes_of s os qs).objects d)) (lanes_of s os qs)
important_seen s os qs d i =
    object_set s os qs d (important i d os) ∙ ap (λ (o : ObjectState). with_object d (with_importance i o) (lanes_of s os qs)) (sym (object_state s os qs d))

-- objects and queues are kept after an object's importance changes
pub important_kept : (s : Script) (os : List ObjectFacts) (qs : List QueueFacts) (d : DpcNo) (i : Importance) → AreKept s os qs → d.0 < length os →
    AreKept s (set os d.0 (important i d os)) qs
important_kept s os qs d i a l =
    kept_object s os qs d (important i d os) (with_object d (with_importance i (object_in (lanes_of s os qs).objects d)) (lanes_of s os qs)) a
    (record { place = l; dpc = refl; part = refl }) (important_seen s os qs d i)
    (agree_object (lanes_of s os qs) d (with_importance i (object_in (lanes_of s os qs).objects d)) a.agree (in_objects os d l) (a.agree.target d) refl)

abbrev pub targeted : Option CpuNo → DpcNo → List ObjectFacts → ObjectFacts
targeted t d os = record (object_facts os d) { state = record (object_facts os d).state { target = t } }

-- writing an object with a new target is seen as the change of its target
pub targeted_seen : (s : Script) (os : List ObjectFacts) (qs : List QueueFacts) (d : DpcNo) (t : Option CpuNo) →
    lanes_of s (set os d.0 (targeted t d os)) qs ≡ with_object d (with_target t (object_in (lanes_of s os qs).objects d)) (lanes_of s os qs)
targeted_seen s os qs d t =
    object_set s os qs d (targeted t d os) ∙ ap (λ (o : ObjectState). with_object d (with_target t o) (lanes_of s os qs)) (sym (object_state s os qs d))

-- objects and queues are kept after an object's target changes to none or to a processor of the script
pub targeted_kept : (s : Script) (os : List ObjectFacts) (qs : List QueueFacts) (d : DpcNo) (t : Option CpuNo) → AreKept s os qs → d.0 < length os →
    IfSome t (λ p. p.0 < s.cpus) → AreKept s (set os d.0 (targeted t d os)) qs
targeted_kept s os qs d t a l h =
    kept_object s os qs d (targeted t d os) (with_object d (with_target t (object_in (lanes_of s os qs).objects d)) (lanes_of s os qs)) a
    (record { place = l; dpc = refl; part = refl }) (targeted_seen s os qs d t)
    (agree_object (lanes_of s os qs) d (with_target t (object_in (lanes_of s os qs).objects d)) a.agree (in_objects os d l) h refl)

-- ---- the idle mark of a queue

-- writing a queue with a new idle flag is seen as the change of that flag
pub idle_seen : (s : Script) (os : List ObjectFacts) (qs : List QueueFacts) (p : CpuNo) (idle : Bool) →
    lanes_of s os (set qs p.0 (with_idle idle (queue_facts qs p))) ≡ with_queue p (set_idle idle (queue_in (lanes_of s os qs).queues p)) (lanes_of s os qs)
idle_seen s os qs p idle =
    queue_set s os qs p (with_idle idle (queue_facts qs p)) ∙ ap (λ (q : QueueState). with_queue p (set_idle idle q) (lanes_of s os qs))
    (sym (queue_state s os qs p))

-- objects and queues are kept after a queue's idle flag changes
pub idle_kept : (s : Script) (os : List ObjectFacts) (qs : List QueueFacts) (p : CpuNo) (idle : Bool) → AreKept s os qs → p.0 < length qs →
    AreKept s os (set qs p.0 (with_idle idle (queue_facts qs p)))
idle_kept s os qs p idle a l =
    kept_queue s os qs p (with_idle idle (queue_facts qs p)) (with_queue p (set_idle idle (queue_in (lanes_of s os qs).queues p)) (lanes_of s os qs)) a
    (record { place = l; cpu = refl; count = refl; limit = refl }) (idle_seen s os qs p idle)
    (agree_queue (lanes_of s os qs) p (set_idle idle (queue_in (lanes_of s os qs).queues p)) a.agree (in_queues qs p l) refl)
