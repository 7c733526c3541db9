-- The held object and queue that a planned event touches may leave it.
use Rattle.std.proofs.Common.{ap, refl, subst, sym, ◌∙◌}
use Rattle.std.proofs.lemmas.Bool.{eq-eqb, ltb-true}
use Rattle.std.proofs.lemmas.List.Elements.{All-cons, All-nil}
use Rattle.std.specs.Prelude.{All, Bool, IsTrue, List, None, Option, Some, [], false, filter, is_some, length, not, option_map, true, unwrap_or, ℕ, ◌<◌, ◌∷◌}
use Rattle.std.specs.Prelude.{◌≡◌}
use Rattle.nt_event.specs.declared.events.Event.{Event}
use Rattle.nt_event.specs.declared.inserts.Insert.{Insert as InsertEntry}
use Rattle.nt_event.specs.declared.inserts.Standing.{Standing}
use Rattle.nt_event.specs.declared.numbers.CpuNo.{CpuNo}
use Rattle.nt_event.specs.declared.numbers.DpcNo.{DpcNo}
use Rattle.nt_event.specs.declared.scripts.Script.{Script}
use Rattle.nt_event.specs.Lanes.{Lanes, object_at, queue_at}
use Rattle.nt_event.specs.Objects.{ObjectState, is_queued, queue_for}
use Rattle.nt_event.specs.Queues.{QueueState, first_dpc, is_of_dpc, is_queue, queue_after}
use Rattle.nt_event.specs.Script.{has_dpc}
use Rattle.nt_dpc.specs.Objects.{ObjectFacts, entry_of}
use Rattle.nt_dpc.specs.Queues.{QueueFacts, StandsHere, holds_dpc}
use Rattle.nt_dpc_lanes.specs.Changes.{change_of}
use Rattle.nt_dpc_lanes.specs.declared.changes.Change.{Change}
use Rattle.nt_dpc_lanes.specs.declared.changes.Change.TheVariants.{Insert, Nothing, Remove, Rest, Run, SetImportance, SetTarget, Take}
use Rattle.nt_lane.specs.Answers.{BothAgree}
use Rattle.nt_lane_record.specs.Changed.{MayChangeBoth, MayChangeObject, MayChangeQueue, object_moved, object_set, queue_idle, queue_moved}
use Rattle.nt_lane_record.specs.Held.{IsObjectThere, IsQueueThere}
use Rattle.nt_lane.specs.Steps.{MayLeaveBoth, MayLeaveObject, MayLeaveQueue}
use Rattle.nt_lane_record.proofs.Changing.{alone_object, alone_queue, both_object, both_queue}
use Rattle.nt_lane.proofs.Shapes.{Moves, Sets}
use Rattle.nt_states.proofs.Requests.{all_head, all_tail}

-- ---- an object alone

-- a change that only sets a DPC object may be made with that object alone
sets : (s : Script) (o : ObjectFacts) (c : Change) → Sets s o.dpc c → MayChangeObject o c
sets s o (SetImportance d i) h = h
sets s o (SetTarget d t) h = h.0
sets s o Nothing h = tt
sets s o (Insert d) h = absurd h
sets s o (Remove d) h = absurd h
sets s o (Take part d) h = absurd h
sets s o Rest h = absurd h
sets s o Run h = absurd h

-- a DPC object of the script is one still after a change that sets it
set_there : (s : Script) (o : ObjectFacts) (c : Change) → Sets s o.dpc c → IsObjectThere s o → IsObjectThere s (object_set c o)
set_there s o (SetImportance d i) h t = record { named = t.named; part = t.part; target = t.target; standing = t.standing }
set_there s o (SetTarget d q) h t = record { named = t.named; part = t.part; target = h.1; standing = t.standing }
set_there s o Nothing h t = t
set_there s o (Insert d) h t = absurd h
set_there s o (Remove d) h t = absurd h
set_there s o (Take part d) h t = absurd h
set_there s o Rest h t = absurd h
set_there s o Run h t = absurd h

-- if the event's change sets just the held object, the object may leave the event
pub object_may : (s : Script) (n : ℕ) (e : Event) (o : ObjectFacts) → Sets s o.dpc (change_of e.what) → IsObjectThere s o → MayLeaveObject s n e o
object_may s n e o h t =
    let may = sets s o (change_of e.what) h in
    record {
      may = may;
      there = subst (λ (x : ObjectFacts). IsObjectThere s x) (sym (alone_object n e.cpu o e.what may)) (set_there s o (change_of e.what) h t);
    }

-- ---- a queue alone

-- a queue of the script is one still after its processor rests or runs
rest_there : (s : Script) (q : QueueFacts) (c : Change) → MayChangeQueue c → IsQueueThere s q → IsQueueThere s (queue_idle c q)
rest_there s q Rest h t = record { named = t.named; count = t.count; limit = t.limit; entries = t.entries }
rest_there s q Run h t = record { named = t.named; count = t.count; limit = t.limit; entries = t.entries }
rest_there s q Nothing h t = t
rest_there s q (Insert d) h t = absurd h
rest_there s q (Remove d) h t = absurd h
rest_there s q (Take part d) h t = absurd h
rest_there s q (SetImportance d i) h t = absurd h
rest_there s q (SetTarget d x) h t = absurd h

-- if the event may change the queue alone, the queue of the event's own processor may leave it
pub queue_may : (s : Script) (n : ℕ) (e : Event) (q : QueueFacts) → MayChangeQueue (change_of e.what) → q.cpu ≡ e.cpu → IsQueueThere s q →
    MayLeaveQueue s n e q
queue_may s n e q h own t = record {
  may = h;
  own = own;
  there = λ objects. subst (λ (p : CpuNo). IsQueueThere s (record q { state = queue_after s q.cpu n p e.what objects q.state })) own
      (subst (λ (x : QueueFacts). IsQueueThere s x) (sym (alone_queue s objects n q e.what h)) (rest_there s q (change_of e.what) h t));
}

-- ---- both

-- what holds of all of a list holds of all that a test keeps of it
all_filter : {A : Type 0} (P : A → Type 0) (f : A → Bool) (xs : List A) → All P xs → All P (filter f xs)
all_filter P f [] h = All-nil P
all_filter {A} P f (x ∷ xs) h = go (all_filter P f xs (all_tail P x xs h)) (f x) refl
  where
    go : All P (filter f xs) → (b : Bool) → f x ≡ b → All P (filter f (x ∷ xs))
    go rest true e = rw e (All-cons P x (filter f xs) (all_head P x xs h) rest)
    go rest false e = rw e rest

-- a DPC object that stands nowhere stands in no queue that may be changed
nowhere : (x : Option Standing) (p : CpuNo) → is_some x ≡ false → is_queue (option_map (λ at. at.queue) x) p ≡ false
nowhere None p h = refl
nowhere (Some y) p h = cc

-- an object whose standing names a queue stands in it, if the queue holds an entry of it exactly then
stands_here : (q : QueueFacts) (d : DpcNo) (x : Option Standing) (z : Standing) → x ≡ Some z → z.queue ≡ q.cpu →
    holds_dpc d q.state.pending ≡ is_queue (option_map (λ at. at.queue) x) q.cpu → StandsHere q d x
stands_here q d None z e h k = cc
stands_here q d (Some y) z e h k =
    let same : y.queue ≡ q.cpu = ap (λ (o : Option Standing). unwrap_or (option_map (λ (at : Standing). at.queue) o) q.cpu) e ∙ h in
    (same, k ∙ eq-eqb y.queue.0 q.cpu.0 (ap (λ (p : CpuNo). p.0) same))

-- the DPC of an optional entry is the first part of its DPC and number
first_of : (o : Option InsertEntry) (d : DpcNo) → option_map (λ (i : InsertEntry). i.dpc) o ≡ Some d →
    option_map (λ (x : DpcNo × ℕ). x.0) (option_map (λ (i : InsertEntry). (i.dpc, i.number)) o) ≡ Some d
first_of None d h = h
first_of (Some i) d h = h

module _ (s : Script) (l : Lanes) (by : CpuNo) (o : ObjectFacts) (q : QueueFacts) (os : object_at l o.dpc ≡ o.state) (qs : queue_at l q.cpu ≡ q.state)
    (agree : BothAgree (Some o) (Some q)) (ot : IsObjectThere s o) (qt : IsQueueThere s q) where
  moves : (c : Change) → Moves l by o.dpc q.cpu c → MayChangeBoth o q by c
  moves (Insert d) h =
      let free : is_queued o.state ≡ false = subst (λ (x : ObjectState). is_queued x ≡ false) os h.1 in (
        h.0,
        record {
          free = free;
          to = subst (λ (x : ObjectState). queue_for x.target by ≡ q.cpu) os h.2;
          new = agree ∙ nowhere o.state.standing q.cpu free;
          room = subst (λ (n : ℕ). o.dpc.0 < n) (sym qt.count) (ltb-true o.dpc.0 (length s.dpcs) ot.named);
        },
      )
  moves (Remove d) h =
      let at : o.state.standing ≡ Some h.1 = subst (λ (x : ObjectState). x.standing ≡ Some h.1) os h.2 in
      (h.0, ap (λ (x : Option Standing). is_some x) at, stands_here q o.dpc o.state.standing h.1 at h.3 agree)
  moves (Take part d) h = (
    h.0,
    h.1,
    first_of (first_dpc part q.state.pending) o.dpc
        (subst (λ (x : QueueState). option_map (λ (i : InsertEntry). i.dpc) (first_dpc part x.pending) ≡ Some o.dpc) qs h.2),
  )
  moves (SetImportance d i) h = absurd h
  moves (SetTarget d t) h = absurd h
  moves Nothing h = absurd h
  moves Rest h = absurd h
  moves Run h = absurd h

  moved_object : (n : ℕ) (c : Change) → Moves l by o.dpc q.cpu c → IsObjectThere s (object_moved n q.cpu c o)
  moved_object n (Insert d) h = record { named = ot.named; part = ot.part; target = ot.target; standing = qt.named }
  moved_object n (Remove d) h = record { named = ot.named; part = ot.part; target = ot.target; standing = tt }
  moved_object n (Take part d) h = record { named = ot.named; part = ot.part; target = ot.target; standing = tt }
  moved_object n (SetImportance d i) h = absurd h
  moved_object n (SetTarget d t) h = absurd h
  moved_object n Nothing h = absurd h
  moved_object n Rest h = absurd h
  moved_object n Run h = absurd h

  abbrev Named : InsertEntry → Type 0
  Named x = IsTrue (has_dpc s x.dpc)

  moved_queue : (n : ℕ) (c : Change) → Moves l by o.dpc q.cpu c → IsQueueThere s (queue_moved n c o q)
  moved_queue n (Insert d) h =
      record { named = qt.named; count = qt.count; limit = qt.limit; entries = All-cons Named (entry_of n o) q.state.pending ot.named qt.entries }
  moved_queue n (Remove d) h = record {
    named = qt.named;
    count = qt.count;
    limit = qt.limit;
    entries = all_filter Named (λ x. not (is_of_dpc o.dpc x)) q.state.pending qt.entries;
  }
  moved_queue n (Take part d) h = record {
    named = qt.named;
    count = qt.count;
    limit = qt.limit;
    entries = all_filter Named (λ x. not (is_of_dpc o.dpc x)) q.state.pending qt.entries;
  }
  moved_queue n (SetImportance d i) h = absurd h
  moved_queue n (SetTarget d t) h = absurd h
  moved_queue n Nothing h = absurd h
  moved_queue n Rest h = absurd h
  moved_queue n Run h = absurd h

  -- a held object and queue that agree may both leave an event that moves the object into or out of the queue
  pub both_may : (n : ℕ) (e : Event) → by ≡ e.cpu → Moves l by o.dpc q.cpu (change_of e.what) → MayLeaveBoth s n e o q
  both_may n e same h =
      let may : MayChangeBoth o q e.cpu (change_of e.what) = subst (λ (p : CpuNo). MayChangeBoth o q p (change_of e.what)) same (moves (change_of e.what) h) in
      record {
        may = may;
        object = subst (λ (x : ObjectFacts). IsObjectThere s x) (sym (both_object n e.cpu o q e.what may)) (moved_object n (change_of e.what) h);
        queue = λ objects is. subst (λ (x : QueueFacts). IsQueueThere s x) (sym (both_queue n e.cpu o q s objects is e.what may))
            (moved_queue n (change_of e.what) h);
      }
