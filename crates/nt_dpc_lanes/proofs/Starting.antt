-- The objects and queues of a script before any event.
use Rattle.std.proofs.Common.{inl, inr, false, List, ap, arith, length, map, refl, subst, suc, sym, zero, get_or, ℕ, ◌<◌, ◌∙◌, ◌∷◌, ◌≡◌}
use Rattle.std.proofs.Common.{◌&&◌, []}
use Rattle.std.specs.Prelude.{IfSome, slice_get}
use Rattle.std.proofs.lemmas.Bool.{cases_lt}
use Rattle.std.proofs.lemmas.List.{get_or_past}
use Rattle.nt_event.proofs.Tables.{get_or-table, length-table_from}
use Rattle.nt_event.specs.declared.numbers.CpuNo.{CpuNo}
use Rattle.nt_event.specs.declared.numbers.DpcNo.{DpcNo}
use Rattle.nt_event.specs.declared.scripts.Script.{Script}
use Rattle.nt_event.specs.Objects.{ObjectState, object_in, object_of, start_object}
use Rattle.nt_event.specs.Queues.{QueueState, is_queue, queue_of, start_queue}
use Rattle.nt_event.specs.Routines.{depth_limit, is_declared_threaded, threaded_on}
use Rattle.nt_event.specs.Numbers.{cpu, dpc}
use Rattle.nt_event.specs.Lists.{table, table_from}
use Rattle.nt_dpc.specs.Objects.{ObjectFacts, new_object}
use Rattle.nt_dpc.specs.Queues.{QueueFacts, holds_dpc, new_queue}
use Rattle.nt_dpc_lanes.proofs.Agreeing.{stand_of}
use Rattle.nt_dpc_lanes.specs.Agree.{Agrees, AreKept, IsObjectOf, IsQueueOf, lanes_of, new_objects, new_queues, object_facts, queue_facts}
use Rattle.nt_states.specs.DpcLanes.{queue_in, start}

-- ---- tables

-- mapping a table gives the table of the mapped function
map_table_from : {A B : Type 0} (g : A → B) (k n : ℕ) (f : ℕ → A) → map g (table_from k n f) ≡ table_from k n (λ i. g (f i))
unfolding table_from
map_table_from g k zero f = refl
map_table_from {A} {B} g k (suc n) f = ap (λ (ys : List B). g (f k) ∷ ys) (map_table_from g (suc k) n f)

-- a table of one value has it everywhere
constant : {A : Type 0} (n i : ℕ) (x : A) → get_or (table n (λ _. x)) i x ≡ x
constant n i x =
    elim (cases_lt i n) [
      | inl l ↦ get_or-table n i (λ _. x) x l
      | inr l ↦ get_or_past (table n (λ _. x)) i x (let e = length-table_from 0 n (λ _. x) in omega arith)
    ]

-- ---- the start

-- new objects and queues are those of the script before any event
pub new_is_start : (s : Script) → lanes_of s (new_objects s (length s.dpcs)) (new_queues s s.cpus) ≡ start s
new_is_start s = λ i. record { script = s; objects = objects i; queues = queues i }
  where
    objects : map (λ (o : ObjectFacts). o.state) (new_objects s (length s.dpcs)) ≡ table (length s.dpcs) (λ d. object_of (dpc d) [])
    objects = map_table_from (λ (o : ObjectFacts). o.state) 0 (length s.dpcs)
        (λ d. new_object (dpc d) (threaded_on s && is_declared_threaded (slice_get s.dpcs d)))

    queues : map (λ (q : QueueFacts). q.state) (new_queues s s.cpus) ≡ table s.cpus (λ p. queue_of s (cpu p) [])
    queues = map_table_from (λ (q : QueueFacts). q.state) 0 s.cpus (λ p. new_queue (cpu p) (length s.dpcs) (depth_limit s))

-- before any event each object is in the start state
start_objects : (s : Script) (d : DpcNo) → object_in (start s).objects d ≡ start_object
start_objects s d = constant (length s.dpcs) d.0 start_object

-- before any event each queue is in the start state
start_queues : (s : Script) (p : CpuNo) → queue_in (start s).queues p ≡ start_queue
start_queues s p = constant s.cpus p.0 start_queue

-- before any event objects and queues agree
agree_start : (s : Script) → Agrees (start s)
agree_start s =
    record {
      objects = length-table_from 0 (length s.dpcs) (λ d. object_of (dpc d) []);
      queues = length-table_from 0 s.cpus (λ p. queue_of s (cpu p) []);
      target = λ d. subst (λ (o : ObjectState). IfSome o.target (λ p. p.0 < s.cpus)) (sym (start_objects s d)) tt;
      stands = λ d p. ap (λ (q : QueueState). holds_dpc d q.pending) (start_queues s p)
          ∙ ap (λ (o : ObjectState). is_queue (stand_of o) p) (sym (start_objects s d));
    }

-- the new objects and queues of a script are kept
pub kept_start : (s : Script) → AreKept s (new_objects s (length s.dpcs)) (new_queues s s.cpus)
kept_start s = record { agree = subst Agrees (sym (new_is_start s)) (agree_start s); object = object; queue = queue }
  where
    object : (d : DpcNo) → d.0 < length (new_objects s (length s.dpcs)) → IsObjectOf s d (object_facts (new_objects s (length s.dpcs)) d)
    object d l =
        let n : ℕ = length s.dpcs in
        let f : ℕ → ObjectFacts = λ d. new_object (dpc d) (threaded_on s && is_declared_threaded (slice_get s.dpcs d)) in
        let m : d.0 < n = let e : length (table n f) ≡ n = length-table_from 0 n f in omega arith in
        subst (IsObjectOf s d) (sym (get_or-table n d.0 f (new_object (dpc 0) false) m)) (record { dpc = refl; part = refl })

    queue : (p : CpuNo) → p.0 < length (new_queues s s.cpus) → IsQueueOf s p (queue_facts (new_queues s s.cpus) p)
    queue p l =
        let n : ℕ = s.cpus in
        let f : ℕ → QueueFacts = λ p. new_queue (cpu p) (length s.dpcs) (depth_limit s) in
        let m : p.0 < n = let e : length (table n f) ≡ n = length-table_from 0 n f in omega arith in
        subst (IsQueueOf s p) (sym (get_or-table n p.0 f (new_queue (cpu 0) 0 0) m)) (record { cpu = refl; count = refl; limit = refl })
