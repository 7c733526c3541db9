-- What an event leaves of an object and of a queue is what its change leaves.
use Rattle.std.proofs.Common.{ap, refl, sym, ◌∙◌}
use Rattle.std.specs.Prelude.{Bool, List, None, Option, Some, cond, eqb, is_some, true, ℕ, ◌≡◌}
use Rattle.nt_event.specs.declared.commands.Command.TheVariants.{Queue, SetImportance as SetImportanceCall, SetTarget as SetTargetCall, Unqueue}
use Rattle.nt_event.specs.declared.commands.Reply.TheVariants.{Done, Yes}
use Rattle.nt_event.specs.declared.events.Begun.TheVariants.{Dpc, Threaded}
use Rattle.nt_event.specs.declared.events.What.{What}
use Rattle.nt_event.specs.declared.events.What.TheVariants.{Begin, Call, Fire, Rest as RestEvent, Switch}
use Rattle.nt_event.specs.declared.inserts.Standing.{Standing}
use Rattle.nt_event.specs.declared.numbers.CpuNo.{CpuNo}
use Rattle.nt_event.specs.declared.numbers.DpcNo.{DpcNo}
use Rattle.nt_event.specs.declared.scripts.Script.{Script}
use Rattle.nt_event.specs.Objects.{ObjectState, object_after}
use Rattle.nt_event.specs.Queues.{QueueState, queue_after}
use Rattle.nt_event.proofs.Booleans.{either_way}
use Rattle.nt_dpc.proofs.Events.{object_calls_are_events, queue_calls_are_events}
use Rattle.nt_dpc.specs.Laws.{IsObject}
use Rattle.nt_dpc.specs.Objects.{ObjectFacts}
use Rattle.nt_dpc.specs.Queues.{QueueFacts, StandsHere, without_entry}
use Rattle.nt_dpc_lanes.specs.Changes.{change_of}
use Rattle.nt_lane_record.specs.Changed.{MayChangeBoth, MayChangeObject, MayChangeQueue, object_moved, object_set, queue_idle, queue_moved}

abbrev object_with : ObjectFacts → ObjectState → ObjectFacts
object_with o x = record o { state = x }

abbrev queue_with : QueueFacts → QueueState → QueueFacts
queue_with q x = record q { state = x }

-- the object, and the queue, with the state that the event leaves
abbrev pub object_left : ℕ → CpuNo → What → ObjectFacts → ObjectFacts
object_left n by w o = object_with o (object_after o.dpc n by w o.state)

abbrev pub queue_left : Script → ℕ → CpuNo → What → List ObjectState → QueueFacts → QueueFacts
queue_left s n by w objects q = queue_with q (queue_after s q.cpu n by w objects q.state)

-- ---- of both; an event that names this object is one that names its number

module _ (n : ℕ) (by : CpuNo) (o : ObjectFacts) (q : QueueFacts) where
  -- an event that may change a held object and queue together leaves the object as its change moves it
  pub both_object : (w : What) → MayChangeBoth o q by (change_of w) → object_left n by w o ≡ object_moved n q.cpu (change_of w) o
  both_object (Call f (Queue d) Yes) m =
      ap (λ (x : DpcNo). object_left n by (Call f (Queue x) Yes) o) m.0 ∙ ap (object_with o) (object_calls_are_events.queue o n f by q.cpu m.1.to)
  both_object (Fire d Yes) m =
      ap (λ (x : DpcNo). object_left n by (Fire x Yes) o) m.0 ∙ ap (object_with o) (object_calls_are_events.fire o n by q.cpu m.1.to)
  both_object (Call f (Unqueue d) Yes) m =
      ap (λ (x : DpcNo). object_left n by (Call f (Unqueue x) Yes) o) m.0 ∙ ap (object_with o) (object_calls_are_events.unqueue o n f by)
  both_object (Begin (Dpc d) from) m =
      ap (λ (x : DpcNo). object_left n by (Begin (Dpc x) from) o) m.0 ∙ ap (object_with o) (object_calls_are_events.begin_dpc o n from by)
  both_object (Begin (Threaded d) from) m =
      ap (λ (x : DpcNo). object_left n by (Begin (Threaded x) from) o) m.0 ∙ ap (object_with o) (object_calls_are_events.begin_threaded o n from by)
  both_object (Call f (SetImportanceCall d i) Done) m = absurd m
  both_object (Call f (SetTargetCall d t) Done) m = absurd m
  both_object w m = absurd m

  module _ (s : Script) (objects : List ObjectState) (is : IsObject s objects o) where
    -- it stands here
    removed : (x : Option Standing) (f : ℕ) → o.state.standing ≡ x → is_some x ≡ true → StandsHere q o.dpc x →
        queue_left s n by (Call f (Unqueue o.dpc) Yes) objects q ≡ without_entry o.dpc q
    removed None f e h k = cc
    removed (Some x) f e h k =
        let here : CpuNo → Standing = λ p. record { queue = p; number = x.number } in
        let stands : o.state.standing ≡ Some (here q.cpu) = e ∙ ap (λ (p : CpuNo). Some (here p)) k.0 in
        ap (queue_with q) (queue_calls_are_events.unqueue s objects o q n f x.number by is stands)

    pub both_queue : (w : What) → MayChangeBoth o q by (change_of w) → queue_left s n by w objects q ≡ queue_moved n (change_of w) o q
    both_queue (Call f (Queue d) Yes) m =
        ap (λ (x : DpcNo). queue_left s n by (Call f (Queue x) Yes) objects q) m.0
        ∙ ap (queue_with q) (queue_calls_are_events.queue s objects o q n f by is m.1.to)
    both_queue (Fire d Yes) m =
        ap (λ (x : DpcNo). queue_left s n by (Fire x Yes) objects q) m.0
        ∙ ap (queue_with q) (queue_calls_are_events.fire s objects o q n by is m.1.to)
    both_queue (Call f (Unqueue d) Yes) m =
        ap (λ (x : DpcNo). queue_left s n by (Call f (Unqueue x) Yes) objects q) m.0 ∙ removed o.state.standing f refl m.1 m.2
    both_queue (Begin (Dpc d) from) m =
        ap (λ (x : DpcNo). queue_left s n by (Begin (Dpc x) from) objects q) m.0
        ∙ (ap (λ (p : CpuNo). queue_left s n p (Begin (Dpc o.dpc) from) objects q) (sym m.1)
        ∙ ap (queue_with q) (queue_calls_are_events.begin_dpc s objects o.dpc q n from))
    both_queue (Begin (Threaded d) from) m =
        ap (λ (x : DpcNo). queue_left s n by (Begin (Threaded x) from) objects q) m.0
        ∙ (ap (λ (p : CpuNo). queue_left s n p (Begin (Threaded o.dpc) from) objects q) (sym m.1)
        ∙ ap (queue_with q) (queue_calls_are_events.begin_threaded s objects o.dpc q n from))
    both_queue (Call f (SetImportanceCall d i) Done) m = absurd m
    both_queue (Call f (SetTargetCall d t) Done) m = absurd m
    both_queue w m = absurd m

-- ---- of an object alone

-- an event that may change an object alone leaves it as its change sets it
pub alone_object : (n : ℕ) (by : CpuNo) (o : ObjectFacts) (w : What) → MayChangeObject o (change_of w) → object_left n by w o ≡ object_set (change_of w) o
alone_object n by o (Call f (SetImportanceCall d i) Done) m =
    ap (λ (x : DpcNo). object_left n by (Call f (SetImportanceCall x i) Done) o) m ∙ ap (object_with o) (object_calls_are_events.importance o n f by i)
alone_object n by o (Call f (SetTargetCall d t) Done) m =
    ap (λ (x : DpcNo). object_left n by (Call f (SetTargetCall x t) Done) o) m ∙ ap (object_with o) (object_calls_are_events.target o n f by t)
alone_object n by o (Call f (Queue d) Yes) m = absurd m
alone_object n by o (Fire d Yes) m = absurd m
alone_object n by o (Call f (Unqueue d) Yes) m = absurd m
alone_object n by o (Begin (Dpc d) from) m = absurd m
alone_object n by o (Begin (Threaded d) from) m = absurd m
alone_object n by o (Switch t status) m = absurd m
alone_object n by o RestEvent m = absurd m
alone_object n by o w m = refl

-- ---- of a queue alone

-- the idle mark, where the event isn't one that changes it
same_idle : (b : Bool) (q : QueueFacts) → record q { state = record q.state { idle = cond b q.state.idle q.state.idle } } ≡ q
same_idle b q = λ i. record q { state = record q.state { idle = either_way b q.state.idle i } }

-- an event that may change a queue alone changes at most whether its processor is idle, as its change says
pub alone_queue : (s : Script) (objects : List ObjectState) (n : ℕ) (q : QueueFacts) (w : What) → MayChangeQueue (change_of w) →
    queue_left s n q.cpu w objects q ≡ queue_idle (change_of w) q
alone_queue s objects n q RestEvent m = ap (queue_with q) (queue_calls_are_events.rest s objects q n)
alone_queue s objects n q (Switch t status) m = ap (queue_with q) (queue_calls_are_events.switch s objects q n t status)
alone_queue s objects n q (Call f (Queue d) Yes) m = absurd m
alone_queue s objects n q (Fire d Yes) m = absurd m
alone_queue s objects n q (Call f (Unqueue d) Yes) m = absurd m
alone_queue s objects n q (Begin (Dpc d) from) m = absurd m
alone_queue s objects n q (Begin (Threaded d) from) m = absurd m
alone_queue s objects n q (Call f (SetImportanceCall d i) Done) m = absurd m
alone_queue s objects n q (Call f (SetTargetCall d t) Done) m = absurd m
alone_queue s objects n q w m = same_idle (eqb q.cpu.0 q.cpu.0) q
