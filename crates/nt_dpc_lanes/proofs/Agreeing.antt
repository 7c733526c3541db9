-- Objects and queues agree after each change.
use Rattle.std.proofs.Common.{Bool, Option, Some, None, ap, eqb, eq-eqb, false, length, option_map, refl, set, true, ℕ, ◌<◌, ◌∙◌, ◌∷◌, ◌≡◌}
use Rattle.std.specs.Option.{is_some}
use Rattle.std.specs.Prelude.{IfSome}
use Rattle.std.proofs.lemmas.Bool.{eqb-true}
use Rattle.std.proofs.lemmas.List.{length-set}
use Rattle.nt_event.specs.declared.inserts.Standing.{Standing}
use Rattle.nt_event.specs.declared.numbers.CpuNo.{CpuNo}
use Rattle.nt_event.specs.declared.numbers.DpcNo.{DpcNo}
use Rattle.nt_event.specs.Objects.{ObjectState, is_queued, object_in, start_object}
use Rattle.nt_event.specs.Queues.{QueueState, is_queue, new_insert, start_queue, without_dpc}
use Rattle.nt_event.specs.Numbers.{cpu, dpc}
use Rattle.nt_dpc.proofs.Once.{holds-without_same}
use Rattle.nt_dpc.specs.Queues.{holds_dpc}
use Rattle.nt_dpc_lanes.proofs.Holding.{holds_without_other}
use Rattle.nt_event.proofs.Written.{read_other, read_same}
use Rattle.nt_dpc_lanes.specs.Agree.{Agrees}
use Rattle.nt_dpc_lanes.specs.Changes.{inserted_at, removed_at, with_object, with_queue}
use Rattle.nt_states.specs.DpcLanes.{DpcLanes, queue_in}
use Rattle.nt_dpc.specs.Objects.{standing_nowhere}

-- the processor in whose queue an object stands
abbrev pub stand_of : ObjectState → Option CpuNo
stand_of o = option_map (λ at. at.queue) o.standing

-- DPC objects whose numbers test equal are the same
same_dpc : (d e : DpcNo) → eqb d.0 e.0 ≡ true → d ≡ e
same_dpc d e h = ap dpc (eqb-true d.0 e.0 h)

-- processors whose numbers test equal are the same
same_cpu : (p q : CpuNo) → eqb p.0 q.0 ≡ true → p ≡ q
same_cpu p q h = ap cpu (eqb-true p.0 q.0 h)

-- ---- targets

-- after one object is set to a target of the script, each object's target is still a processor of the script
target_set : (x : DpcLanes) (d : DpcNo) (o : ObjectState) → Agrees x → d.0 < length x.objects → IfSome o.target (λ p. p.0 < x.script.cpus) →
    (e : DpcNo) (b : Bool) → eqb d.0 e.0 ≡ b → IfSome (object_in (set x.objects d.0 o) e).target (λ p. p.0 < x.script.cpus)
target_set x d o a l t e true k = rw (read_same x.objects d.0 e.0 o start_object k l) t
target_set x d o a l t e false k = rw (read_other x.objects d.0 e.0 o start_object k) (a.target e)

-- ---- an object and a queue are written

-- what has to hold of the two that are written
record Fits (x : DpcLanes) (d : DpcNo) (p : CpuNo) (o : ObjectState) (q : QueueState) : Type 0 where
  pub object : d.0 < length x.objects
  pub queue : p.0 < length x.queues
  pub target : IfSome o.target (λ r. r.0 < x.script.cpus)
  pub here : holds_dpc d q.pending ≡ is_queue (stand_of o) p
  pub elsewhere : (r : CpuNo) → eqb p.0 r.0 ≡ false → holds_dpc d (queue_in x.queues r).pending ≡ is_queue (stand_of o) r
  pub others : (e : DpcNo) → eqb d.0 e.0 ≡ false → holds_dpc e q.pending ≡ holds_dpc e (queue_in x.queues p).pending

-- after a fitting change of an object and its queue, a queue holds an object exactly if it stands in that queue
stands_set : (x : DpcLanes) (d : DpcNo) (p : CpuNo) (o : ObjectState) (q : QueueState) → Agrees x → Fits x d p o q → (e : DpcNo) (r : CpuNo) (b c : Bool) →
    eqb d.0 e.0 ≡ b → eqb p.0 r.0 ≡ c → holds_dpc e (queue_in (set x.queues p.0 q) r).pending ≡ is_queue (stand_of (object_in (set x.objects d.0 o) e)) r
stands_set x d p o q a f e r true true k m =
    rw (read_same x.objects d.0 e.0 o start_object k f.object, read_same x.queues p.0 r.0 q start_queue m f.queue)
    (rw (← same_dpc d e k, ← same_cpu p r m) f.here)
stands_set x d p o q a f e r true false k m =
    rw (read_same x.objects d.0 e.0 o start_object k f.object, read_other x.queues p.0 r.0 q start_queue m)
    (rw (← same_dpc d e k) (f.elsewhere r m))
stands_set x d p o q a f e r false true k m =
    rw (read_other x.objects d.0 e.0 o start_object k, read_same x.queues p.0 r.0 q start_queue m f.queue)
    (rw (← same_cpu p r m) (f.others e k ∙ a.stands e p))
stands_set x d p o q a f e r false false k m =
    rw (read_other x.objects d.0 e.0 o start_object k, read_other x.queues p.0 r.0 q start_queue m) (a.stands e r)

-- objects and queues agree after a fitting change of one object and one queue
agree_pair : (x : DpcLanes) (d : DpcNo) (p : CpuNo) (o : ObjectState) (q : QueueState) → Agrees x → Fits x d p o q → Agrees (with_object d o (with_queue p q x))
agree_pair x d p o q a f =
    record {
      objects = length-set x.objects d.0 o ∙ a.objects;
      queues = length-set x.queues p.0 q ∙ a.queues;
      target = λ e. target_set x d o a f.object f.target e (eqb d.0 e.0) refl;
      stands = λ e r. stands_set x d p o q a f e r (eqb d.0 e.0) (eqb p.0 r.0) refl refl;
    }

-- an object that is not queued stands in no processor's queue
pub unqueued_nowhere : (o : ObjectState) (r : CpuNo) → is_queued o ≡ false → is_queue (stand_of o) r ≡ false
unqueued_nowhere o r h = go o.standing h
  where
    go : (s : Option Standing) → is_some s ≡ false → is_queue (option_map (λ at. at.queue) s) r ≡ false
    go None h = refl
    go (Some x) h = cc

-- objects and queues still agree after an object that was not queued is inserted
pub agree_inserted : (x : DpcLanes) (n : ℕ) (p : CpuNo) (d : DpcNo) → Agrees x → d.0 < length x.objects → p.0 < length x.queues →
    is_queued (object_in x.objects d) ≡ false → Agrees (inserted_at n p d x)
agree_inserted x n p d a l m free =
    agree_pair x d p (record (object_in x.objects d) { standing = Some (record { queue = p; number = n }) })
    (record (queue_in x.queues p) { pending = new_insert x.script d n (object_in x.objects d) ∷ (queue_in x.queues p).pending }) a
    (record {
      object = l;
      queue = m;
      target = a.target d;
      here = rw (eq-eqb d.0 d.0 refl, eq-eqb p.0 p.0 refl);
      elsewhere = λ r h. rw h (a.stands d r ∙ unqueued_nowhere (object_in x.objects d) r free);
      others = λ e h. rw h;
    })

-- an object that stands in the queue of p stands in no other one
stands_once : (s : Option Standing) (p r : CpuNo) → is_queue (option_map (λ at. at.queue) s) p ≡ true → eqb p.0 r.0 ≡ false →
    is_queue (option_map (λ at. at.queue) s) r ≡ false
stands_once None p r h k = refl
stands_once (Some x) p r h k = rw (eqb-true x.queue.0 p.0 h) k

-- objects and queues still agree after an object is removed from the queue in which it stands
pub agree_removed : (x : DpcLanes) (p : CpuNo) (d : DpcNo) → Agrees x → d.0 < length x.objects → p.0 < length x.queues →
    is_queue (stand_of (object_in x.objects d)) p ≡ true → Agrees (removed_at p d x)
agree_removed x p d a l m at =
    agree_pair x d p (standing_nowhere (object_in x.objects d)) (record (queue_in x.queues p) { pending = without_dpc d (queue_in x.queues p).pending }) a
    (record {
      object = l;
      queue = m;
      target = a.target d;
      here = holds-without_same d (queue_in x.queues p).pending;
      elsewhere = λ r h. a.stands d r
          ∙ stands_once (object_in x.objects d).standing p r at h;
      others = λ e h. holds_without_other d e (queue_in x.queues p).pending h;
    })

-- ---- an object alone is written

-- an object that is set with its standing kept still stands exactly in the queues that hold it
stands_object : (x : DpcLanes) (d : DpcNo) (o : ObjectState) → Agrees x → d.0 < length x.objects → o.standing ≡ (object_in x.objects d).standing →
    (e : DpcNo) (r : CpuNo) (b : Bool) → eqb d.0 e.0 ≡ b → holds_dpc e (queue_in x.queues r).pending ≡ is_queue (stand_of (object_in (set x.objects d.0 o) e)) r
stands_object x d o a l s e r true k =
    rw (read_same x.objects d.0 e.0 o start_object k l, s) (rw (← same_dpc d e k) (a.stands d r))
stands_object x d o a l s e r false k = rw (read_other x.objects d.0 e.0 o start_object k) (a.stands e r)

-- objects and queues still agree after an object changes, if it stands as before and its target is of the script
pub agree_object : (x : DpcLanes) (d : DpcNo) (o : ObjectState) → Agrees x → d.0 < length x.objects → IfSome o.target (λ p. p.0 < x.script.cpus) →
    o.standing ≡ (object_in x.objects d).standing → Agrees (with_object d o x)
agree_object x d o a l t s =
    record {
      objects = length-set x.objects d.0 o ∙ a.objects;
      queues = a.queues;
      target = λ e. target_set x d o a l t e (eqb d.0 e.0) refl;
      stands = λ e r. stands_object x d o a l s e r (eqb d.0 e.0) refl;
    }

-- ---- a queue alone is written

-- a queue that is set with its pending entries kept still holds exactly the objects that stand in it
stands_queue : (x : DpcLanes) (p : CpuNo) (q : QueueState) → Agrees x → p.0 < length x.queues → q.pending ≡ (queue_in x.queues p).pending →
    (e : DpcNo) (r : CpuNo) (b : Bool) → eqb p.0 r.0 ≡ b → holds_dpc e (queue_in (set x.queues p.0 q) r).pending ≡ is_queue (stand_of (object_in x.objects e)) r
stands_queue x p q a l s e r true k =
    rw (read_same x.queues p.0 r.0 q start_queue k l, s) (rw (← same_cpu p r k) (a.stands e p))
stands_queue x p q a l s e r false k = rw (read_other x.queues p.0 r.0 q start_queue k) (a.stands e r)

-- objects and queues still agree after a queue changes, if its pending inserts are as before
pub agree_queue : (x : DpcLanes) (p : CpuNo) (q : QueueState) → Agrees x → p.0 < length x.queues → q.pending ≡ (queue_in x.queues p).pending →
    Agrees (with_queue p q x)
agree_queue x p q a l s =
    record {
      objects = a.objects;
      queues = length-set x.queues p.0 q ∙ a.queues;
      target = a.target;
      stands = λ e r. stands_queue x p q a l s e r (eqb p.0 r.0) refl;
    }

-- ---- at the start

-- before any event no queue holds an object, and no object stands in a queue
nothing_stands : (e : DpcNo) (r : CpuNo) → holds_dpc e start_queue.pending ≡ is_queue (stand_of start_object) r
nothing_stands e r = refl
