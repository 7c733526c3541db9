-- What holds of the objects and queues of a script at any time.
use Rattle.std.specs.Prelude.{IfSome, List, false, get_or, length, map, option_map, slice_get, ℕ, ◌&&◌, ◌<◌, ◌≡◌}
use Rattle.nt_event.specs.declared.numbers.CpuNo.{CpuNo}
use Rattle.nt_event.specs.declared.numbers.DpcNo.{DpcNo}
use Rattle.nt_event.specs.declared.scripts.Script.{Script}
use Rattle.nt_event.specs.Objects.{object_in}
use Rattle.nt_event.specs.Queues.{is_queue}
use Rattle.nt_event.specs.Routines.{depth_limit, is_declared_threaded, part_of, threaded_on}
use Rattle.nt_event.specs.Numbers.{cpu, dpc}
use Rattle.nt_event.specs.Lists.{table}
use Rattle.nt_dpc.specs.Objects.{ObjectFacts, new_object}
use Rattle.nt_dpc.specs.Queues.{QueueFacts, holds_dpc, new_queue}
use Rattle.nt_states.specs.DpcLanes.{DpcLanes, queue_in}

-- each object and each processor of the script has its state, each target is a processor of the script, and a queue has
-- an entry of an object exactly where the object stands in it
pub record Agrees (x : DpcLanes) : Type 0 where
  pub objects : length x.objects ≡ length x.script.dpcs
  pub queues : length x.queues ≡ x.script.cpus
  pub target : (d : DpcNo) → IfSome (object_in x.objects d).target (λ p. p.0 < x.script.cpus)
  pub stands : (d : DpcNo) (p : CpuNo) → holds_dpc d (queue_in x.queues p).pending ≡ is_queue
      (option_map (λ at. at.queue) (object_in x.objects d).standing) p

abbrev pub object_facts : List ObjectFacts → DpcNo → ObjectFacts
object_facts os d = get_or os d.0 (new_object (dpc 0) false)

abbrev pub queue_facts : List QueueFacts → CpuNo → QueueFacts
queue_facts qs p = get_or qs p.0 (new_queue (cpu 0) 0 0)

-- the object of this number
pub record IsObjectOf (s : Script) (d : DpcNo) (o : ObjectFacts) : Type 0 where
  pub dpc : o.dpc ≡ d
  pub part : o.part ≡ part_of s d

-- the queue of this processor
pub record IsQueueOf (s : Script) (p : CpuNo) (q : QueueFacts) : Type 0 where
  pub cpu : q.cpu ≡ p
  pub count : q.count ≡ length s.dpcs
  pub limit : q.limit ≡ depth_limit s

-- the first n objects of the script before any event
abbrev pub new_objects : Script → ℕ → List ObjectFacts
new_objects s n =
    table n (λ d. new_object (dpc d) (threaded_on s && is_declared_threaded (slice_get s.dpcs d)))

-- the queues of its first n processors
abbrev pub new_queues : Script → ℕ → List QueueFacts
new_queues s n = table n (λ p. new_queue (cpu p) (length s.dpcs) (depth_limit s))

abbrev pub lanes_of : Script → List ObjectFacts → List QueueFacts → DpcLanes
lanes_of s os qs = record { script = s; objects = map (λ o. o.state) os; queues = map (λ q. q.state) qs }

-- these are the objects and queues of the script, and they agree
pub record AreKept (s : Script) (os : List ObjectFacts) (qs : List QueueFacts) : Type 0 where
  pub agree : Agrees (lanes_of s os qs)
  pub object : (d : DpcNo) → d.0 < length os → IsObjectOf s d (object_facts os d)
  pub queue : (p : CpuNo) → p.0 < length qs → IsQueueOf s p (queue_facts qs p)
