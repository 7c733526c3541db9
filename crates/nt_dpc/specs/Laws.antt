-- Laws of DPC queues: over every list of accepted calls, and over the events of the machine.
use Rattle.std.specs.Prelude.{List, MatchOption, None, Option, Some, [], false, true, ℕ, ◌≡◌, ◌∷◌}
use Rattle.nt_event.specs.declared.commands.Command.TheVariants.{Queue, SetImportance, SetTarget, Unqueue}
use Rattle.nt_event.specs.declared.commands.Importance.{Importance}
use Rattle.nt_event.specs.declared.commands.Reply.TheVariants.{Done, Yes}
use Rattle.nt_event.specs.declared.events.Begun.TheVariants.{Dpc, Threaded}
use Rattle.nt_event.specs.declared.events.What.TheVariants.{Begin, Call, Fire, Rest, Switch}
use Rattle.nt_event.specs.declared.inserts.Insert.{Insert}
use Rattle.nt_event.specs.declared.inserts.Part.{Part}
use Rattle.nt_event.specs.declared.numbers.CpuNo.{CpuNo}
use Rattle.nt_event.specs.declared.numbers.DpcNo.{DpcNo}
use Rattle.nt_event.specs.declared.numbers.ThreadNo.{ThreadNo}
use Rattle.nt_event.specs.declared.scripts.Script.{Script}
use Rattle.nt_event.specs.Lanes.{Lanes, queue_at}
use Rattle.nt_event.specs.Objects.{ObjectState, is_queued, object_after, object_in, queue_for}
use Rattle.nt_event.specs.Queues.{first_dpc, is_in, is_of_dpc, queue_after}
use Rattle.nt_event.specs.Requests.{Ask, ask, queue_asks}
use Rattle.nt_event.specs.Routines.{depth_limit, part_of}
use Rattle.nt_dpc.specs.Changes.{AllAccepted, IsFirst, IsPending, NumbersRise, QueueChange, Removed, Taken}
use Rattle.nt_dpc.specs.Changes.{after_changes}
use Rattle.nt_dpc.specs.Objects.{ObjectFacts, entry_of, standing_at, standing_nowhere, with_importance, with_target}
use Rattle.nt_dpc.specs.Queues.{QueueFacts, add_entry, asked_class, drop_entry, new_queue, set_idle}

-- ---- over every list of accepted calls

-- where each insert has a number above those before it, the first of a part is the pending High one of greatest number,
-- else the pending one of least number; and there is none exactly where nothing of the part is pending
abbrev pub FirstByNumber : Type 0
FirstByNumber =
    (p : CpuNo) (count limit : ℕ) (past : List QueueChange) → NumbersRise past → (part : Part) →
    MatchOption (first_dpc part (after_changes (new_queue p count limit) past).state.pending)
    ((y : Insert) → IsPending y past → is_in part y ≡ false) (λ x. IsFirst part x past)

-- an object has at most one pending insert
abbrev pub OneEntryEach : Type 0
OneEntryEach =
    (p : CpuNo) (count limit : ℕ) (past : List QueueChange) → AllAccepted (new_queue p count limit) past →
    (x y : Insert) → IsPending x past → IsPending y past → x.dpc.0 ≡ y.dpc.0 → x ≡ y

-- the object's insert isn't the first of the part
abbrev pub IsNotFirst : DpcNo → Part → QueueFacts → Type 0
IsNotFirst d part q = (x : Insert) → first_dpc part q.state.pending ≡ Some x → is_of_dpc d x ≡ false

-- what was removed or taken is not the first of a part
abbrev pub RemovedIsGone : Type 0
RemovedIsGone =
    (q : QueueFacts) (past : List QueueChange) (d : DpcNo) (part : Part) →
    IsNotFirst d part (after_changes q (Removed d ∷ past)) × IsNotFirst d part (after_changes q (Taken d ∷ past))

-- ---- over the events of the machine

-- the object that contracts see is the one of this number in the lanes
pub record IsObject (s : Script) (objects : List ObjectState) (o : ObjectFacts) : Type 0 where
  pub state : object_in objects o.dpc ≡ o.state
  pub part : part_of s o.dpc ≡ o.part

-- what an event that touches an object leaves of it is what the call leaves
pub record ObjectCallsAreEvents : Type 0 where
  pub importance : (o : ObjectFacts) (n f : ℕ) (by : CpuNo) (i : Importance) →
      object_after o.dpc n by (Call f (SetImportance o.dpc i) Done) o.state ≡ with_importance i o.state
  pub target : (o : ObjectFacts) (n f : ℕ) (by : CpuNo) (t : Option CpuNo) →
      object_after o.dpc n by (Call f (SetTarget o.dpc t) Done) o.state ≡ with_target t o.state
  pub queue : (o : ObjectFacts) (n f : ℕ) (by q : CpuNo) → queue_for o.state.target by ≡ q →
      object_after o.dpc n by (Call f (Queue o.dpc) Yes) o.state ≡ standing_at
      (record { queue = q; number = n }) o.state
  pub fire : (o : ObjectFacts) (n : ℕ) (by q : CpuNo) → queue_for o.state.target by ≡ q →
      object_after o.dpc n by (Fire o.dpc Yes) o.state ≡ standing_at (record { queue = q; number = n }) o.state
  pub unqueue : (o : ObjectFacts) (n f : ℕ) (by : CpuNo) →
      object_after o.dpc n by (Call f (Unqueue o.dpc) Yes) o.state ≡ standing_nowhere o.state
  pub begin_dpc : (o : ObjectFacts) (n from : ℕ) (by : CpuNo) →
      object_after o.dpc n by (Begin (Dpc o.dpc) from) o.state ≡ standing_nowhere o.state
  pub begin_threaded : (o : ObjectFacts) (n from : ℕ) (by : CpuNo) →
      object_after o.dpc n by (Begin (Threaded o.dpc) from) o.state ≡ standing_nowhere o.state

-- what an event that touches a queue leaves of it is what the call leaves
pub record QueueCallsAreEvents : Type 0 where
  pub queue : (s : Script) (objects : List ObjectState) (o : ObjectFacts) (q : QueueFacts) (n f : ℕ) (by : CpuNo) →
      IsObject s objects o → queue_for o.state.target by ≡ q.cpu →
      queue_after s q.cpu n by (Call f (Queue o.dpc) Yes) objects q.state ≡ add_entry (entry_of n o) q.state
  pub fire : (s : Script) (objects : List ObjectState) (o : ObjectFacts) (q : QueueFacts) (n : ℕ) (by : CpuNo) →
      IsObject s objects o → queue_for o.state.target by ≡ q.cpu →
      queue_after s q.cpu n by (Fire o.dpc Yes) objects q.state ≡ add_entry (entry_of n o) q.state
  pub unqueue : (s : Script) (objects : List ObjectState) (o : ObjectFacts) (q : QueueFacts) (n f m : ℕ) (by : CpuNo) →
      IsObject s objects o → o.state.standing ≡ Some (record { queue = q.cpu; number = m }) →
      queue_after s q.cpu n by (Call f (Unqueue o.dpc) Yes) objects q.state ≡ drop_entry o.dpc q.state
  pub begin_dpc : (s : Script) (objects : List ObjectState) (d : DpcNo) (q : QueueFacts) (n from : ℕ) →
      queue_after s q.cpu n q.cpu (Begin (Dpc d) from) objects q.state ≡ drop_entry d q.state
  pub begin_threaded : (s : Script) (objects : List ObjectState) (d : DpcNo) (q : QueueFacts) (n from : ℕ) →
      queue_after s q.cpu n q.cpu (Begin (Threaded d) from) objects q.state ≡ drop_entry d q.state
  pub rest : (s : Script) (objects : List ObjectState) (q : QueueFacts) (n : ℕ) →
      queue_after s q.cpu n q.cpu Rest objects q.state ≡ set_idle true q.state
  pub switch : (s : Script) (objects : List ObjectState) (q : QueueFacts) (n : ℕ) (t : ThreadNo) (status : Option ℕ) →
      queue_after s q.cpu n q.cpu (Switch t status) objects q.state ≡ set_idle false q.state

abbrev pub asks_on : CpuNo → Option ℕ → List Ask
asks_on p None = []
asks_on p (Some class) = ask p class

-- an insert of an object that isn't queued asks for the class that the call answers
abbrev pub AskIsTheEvents : Type 0
AskIsTheEvents =
    (s : Script) (l : Lanes) (o : ObjectFacts) (q : QueueFacts) (by : CpuNo) → IsObject s l.objects o →
    queue_at l q.cpu ≡ q.state → q.limit ≡ depth_limit s → queue_for o.state.target by ≡ q.cpu →
    is_queued o.state ≡ false → queue_asks s o.dpc by l ≡ asks_on q.cpu (asked_class q o by)
