-- What an event leaves of an object and of a queue is what its change leaves.
use Rattle.std.proofs.Common.{cond, eqb}
use Rattle.std.specs.Prelude.{Bool, List, None, Option, Some, false, option_map, refl, true, ◌≡◌, ◌∷◌}
use Rattle.nt_event.specs.declared.commands.Command.TheVariants.{Queue, SetImportance, SetTarget, Unqueue}
use Rattle.nt_event.specs.declared.commands.Importance.{Importance}
use Rattle.nt_event.specs.declared.commands.Reply.TheVariants.{Done, Yes}
use Rattle.nt_event.specs.declared.events.Begun.TheVariants.{Dpc, Threaded}
use Rattle.nt_event.specs.declared.events.What.{What}
use Rattle.nt_event.specs.declared.events.What.TheVariants.{Begin, Call, Fire, Rest, Switch}
use Rattle.nt_event.specs.declared.inserts.Insert.{Insert}
use Rattle.nt_event.specs.declared.inserts.Standing.{Standing}
use Rattle.nt_event.specs.declared.numbers.CpuNo.{CpuNo}
use Rattle.nt_event.specs.declared.numbers.DpcNo.{DpcNo}
use Rattle.nt_event.specs.declared.scripts.Script.{Script}
use Rattle.nt_event.specs.Objects.{ObjectState, object_after, object_in, queue_for}
use Rattle.nt_event.specs.Queues.{QueueState, is_queue, new_insert, queue_after, without_dpc}
use Rattle.nt_alike.specs.Bare.{bare_what}
use Rattle.nt_dpc_lanes.specs.Changes.{change_of}
use Rattle.nt_shade_dpcs.specs.Changed.{object_changed, queue_changed}
use Rattle.nt_shade_dpcs.specs.Shades.{standing_in}

-- ---- an object, of which one part changes where the test holds

-- setting where a DPC stands under a condition is choosing between the two objects
standing_if : (b : Bool) (x : Option Standing) (o : ObjectState) →
    ◌≡◌ {A = ObjectState} (record o { standing = cond b x o.standing }) (cond b (record o { standing = x }) o)
standing_if true x o = refl
standing_if false x o = refl

-- setting the importance of a DPC under a condition is choosing between the two objects
importance_if : (b : Bool) (x : Importance) (o : ObjectState) →
    ◌≡◌ {A = ObjectState} (record o { importance = cond b x o.importance }) (cond b (record o { importance = x }) o)
importance_if true x o = refl
importance_if false x o = refl

-- setting the target of a DPC under a condition is choosing between the two objects
target_if : (b : Bool) (x : Option CpuNo) (o : ObjectState) →
    ◌≡◌ {A = ObjectState} (record o { target = cond b x o.target }) (cond b (record o { target = x }) o)
target_if true x o = refl
target_if false x o = refl

-- what an event leaves of a DPC object, with its number as 0, is what the event's change leaves of it
pub object_follows : (d : DpcNo) (by : CpuNo) (w : What) (o : ObjectState) → object_after d 0 by w o ≡ object_changed d by (change_of w) o
object_follows d by (Call f (Queue x) Yes) o = standing_if (eqb x.0 d.0) (Some (standing_in (queue_for o.target by))) o
object_follows d by (Fire x Yes) o = standing_if (eqb x.0 d.0) (Some (standing_in (queue_for o.target by))) o
object_follows d by (Call f (Unqueue x) Yes) o = standing_if (eqb x.0 d.0) None o
object_follows d by (Begin (Dpc x) from) o = standing_if (eqb x.0 d.0) None o
object_follows d by (Begin (Threaded x) from) o = standing_if (eqb x.0 d.0) None o
object_follows d by (Call f (SetImportance x i) Done) o = importance_if (eqb x.0 d.0) i o
object_follows d by (Call f (SetTarget x t) Done) o = target_if (eqb x.0 d.0) t o
object_follows d by w o = refl

-- ---- a queue

-- where an event changes no idle mark
pending_if : (b c : Bool) (xs : List Insert) (q : QueueState) →
    ◌≡◌ {A = QueueState} (record { pending = cond b xs q.pending; idle = cond c q.idle q.idle }) (cond b (record q { pending = xs }) q)
pending_if true true xs q = refl
pending_if true false xs q = refl
pending_if false true xs q = refl
pending_if false false xs q = refl

-- setting the idle flag of a queue under a condition is choosing between the two queues
idle_if : (b : Bool) (x : Bool) (q : QueueState) → ◌≡◌ {A = QueueState} (record q { idle = cond b x q.idle }) (cond b (record q { idle = x }) q)
idle_if true x q = refl
idle_if false x q = refl

module _ (s : Script) (objects : List ObjectState) (p by : CpuNo) where
  inserted : (d : DpcNo) (q : QueueState) → (let xs : List Insert = new_insert s d 0 (object_in objects d) ∷ q.pending in
      let b : Bool = eqb (queue_for (object_in objects d).target by).0 p.0 in
      ◌≡◌ {A = QueueState} (record { pending = cond b xs q.pending; idle = cond (eqb by.0 p.0) q.idle q.idle }) (cond b (record q { pending = xs }) q))
  inserted d q = pending_if (eqb (queue_for (object_in objects d).target by).0 p.0) (eqb by.0 p.0) (new_insert s d 0 (object_in objects d) ∷ q.pending) q

  -- what an event leaves of a DPC queue, with its number as 0, is what the event's change leaves of it
  pub queue_follows : (w : What) (q : QueueState) → queue_after s p 0 by w objects q ≡ queue_changed s objects p by (change_of w) q
  queue_follows (Call f (Queue d) Yes) q = inserted d q
  queue_follows (Fire d Yes) q = inserted d q
  queue_follows (Call f (Unqueue d) Yes) q =
      pending_if (is_queue (option_map (λ (x : Standing). x.queue) (object_in objects d).standing) p) (eqb by.0 p.0) (without_dpc d q.pending) q
  queue_follows (Begin (Dpc d) from) q = pending_if (eqb by.0 p.0) (eqb by.0 p.0) (without_dpc d q.pending) q
  queue_follows (Begin (Threaded d) from) q = pending_if (eqb by.0 p.0) (eqb by.0 p.0) (without_dpc d q.pending) q
  queue_follows (Switch t status) q = idle_if (eqb by.0 p.0) false q
  queue_follows Rest q = idle_if (eqb by.0 p.0) true q
  queue_follows (Call f (SetImportance d i) Done) q = pending_if false (eqb by.0 p.0) q.pending q
  queue_follows (Call f (SetTarget d t) Done) q = pending_if false (eqb by.0 p.0) q.pending q
  queue_follows w q = pending_if false (eqb by.0 p.0) q.pending q

-- ---- an event without numbers changes the same

-- an event without its numbers makes the same change to objects and queues
pub same_change : (w : What) → change_of (bare_what w) ≡ change_of w
same_change (Call f c y) = refl
same_change (Begin b from) = refl
same_change w = refl
