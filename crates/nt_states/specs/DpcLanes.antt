-- The objects and queues of a script as contracts see them, what an event leaves of them, and when it may be made.
use Rattle.std.specs.Prelude.{IfSome, IsTrue, List, Some, [], get_or, length, not, ℕ, ◌≡◌}
use Rattle.nt_event.specs.declared.commands.Command.{Command}
use Rattle.nt_event.specs.declared.commands.Reply.{Reply}
use Rattle.nt_event.specs.declared.commands.Reply.TheVariants.{Done}
use Rattle.nt_event.specs.declared.events.Begun.{Begun}
use Rattle.nt_event.specs.declared.events.Begun.TheVariants.{Apc, Dpc, Int, Threaded}
use Rattle.nt_event.specs.declared.events.What.{What}
use Rattle.nt_event.specs.declared.events.What.TheVariants.{Begin}
use Rattle.nt_event.specs.declared.inserts.Part.TheVariants.{Ordinary as OrdinaryPart, Threaded as ThreadedPart}
use Rattle.nt_event.specs.declared.numbers.CpuNo.{CpuNo}
use Rattle.nt_event.specs.declared.numbers.DpcNo.{DpcNo}
use Rattle.nt_event.specs.declared.scripts.Script.{Script}
use Rattle.nt_event.specs.Jobs.{begin_first}
use Rattle.nt_event.specs.Objects.{ObjectState, is_queued, object_after, object_in, objects_at}
use Rattle.nt_event.specs.Queues.{QueueState, queue_after, queue_of, start_queue}
use Rattle.nt_event.specs.Script.{has_cpu, has_dpc}
use Rattle.nt_event.specs.Numbers.{cpu, dpc}
use Rattle.nt_event.specs.Lists.{table}
use Rattle.nt_event.specs.Replies.{yes_if}
use Rattle.nt_event.specs.Families.{DpcCall, GiveImportance, GiveTarget, InsertDpc, RemoveDpc, by_dpc_call, in_begin}
use Rattle.nt_event.specs.Families.{in_call, in_fire}

-- the script, the state of each of its objects, and that of the queue of each of its processors
pub record DpcLanes : Type 0 where
  pub script : Script
  pub objects : List ObjectState
  pub queues : List QueueState

abbrev pub queue_in : List QueueState → CpuNo → QueueState
queue_in xs p = get_or xs p.0 start_queue

-- before any event
abbrev pub start : Script → DpcLanes
start s =
    record { script = s; objects = objects_at s []; queues = table s.cpus (λ p. queue_of s (cpu p) []) }

-- what the event of this number, made by this processor, leaves
abbrev pub left : ℕ → CpuNo → What → DpcLanes → DpcLanes
left n by w x =
    record x {
      objects = table (length x.script.dpcs) (λ d. object_after (dpc d) n by w (object_in x.objects (dpc d)));
      queues = table x.script.cpus (λ p. queue_after x.script (cpu p) n by w x.objects (queue_in x.queues (cpu p)));
    }

-- ---- when an event may be made

-- an insert of the object answers so
pub record AnswersInsert (x : DpcLanes) (d : DpcNo) (y : Reply) : Type 0 where
  pub object : IsTrue (has_dpc x.script d)
  pub reply : y ≡ yes_if (not (is_queued (object_in x.objects d)))

-- a removal of the object answers so
pub record AnswersRemoval (x : DpcLanes) (d : DpcNo) (y : Reply) : Type 0 where
  pub object : IsTrue (has_dpc x.script d)
  pub reply : y ≡ yes_if (is_queued (object_in x.objects d))

-- a setting of the object is done
pub record IsDoneTo (x : DpcLanes) (d : DpcNo) (y : Reply) : Type 0 where
  pub object : IsTrue (has_dpc x.script d)
  pub reply : y ≡ Done

abbrev pub DpcSays : DpcLanes → DpcCall → Reply → Type 0
DpcSays x (InsertDpc d) y = AnswersInsert x d y
DpcSays x (RemoveDpc d) y = AnswersRemoval x d y
DpcSays x (GiveImportance d i) y = IsDoneTo x d y
DpcSays x (GiveTarget d t) y = IsDoneTo x d y × IfSome t (λ p. IsTrue (has_cpu x.script p))

-- what a called command that replies so says of objects
abbrev pub CommandSays : DpcLanes → Command → Reply → Type 0
CommandSays x c y = by_dpc_call (λ k. DpcSays x k y) (Unit {0}) c

-- what a Begin says of the processor's own queue: a DPC that begins is the first of its part, and that insert is named
abbrev pub BeginSays : DpcLanes → CpuNo → Begun → ℕ → Type 0
BeginSays x by (Dpc d) from = begin_first OrdinaryPart (queue_in x.queues by) ≡ Some (Begin (Dpc d) from)
BeginSays x by (Threaded d) from = begin_first ThreadedPart (queue_in x.queues by) ≡ Some (Begin (Threaded d) from)
BeginSays x by (Int l) from = Unit {0}
BeginSays x by (Apc a) from = Unit {0}

-- the event may be made by this processor in these states: what it says of objects and queues is so
abbrev pub MayLeave : DpcLanes → CpuNo → What → Type 0
MayLeave x by w =
    in_call (λ f c y. CommandSays x c y)
    (in_begin (λ b from. BeginSays x by b from) (in_fire (λ d y. AnswersInsert x d y) (Unit {0}) w) w) w
