-- DPC objects: importance, target and pending insert (Windows Internals, "Deferred procedure call interrupts").
use Rattle.std.specs.Prelude.{Bool, List, None, Option, Some, [], false, get_or, if◌then◌else◌, is_some, length}
use Rattle.std.specs.Prelude.{unwrap_or, ℕ, ◌==◌, ◌∷◌, ◌&&◌}
use Rattle.nt_event.specs.declared.commands.Importance.{Importance}
use Rattle.nt_event.specs.declared.commands.Importance.TheVariants.{Medium}
use Rattle.nt_event.specs.declared.events.Begun.TheVariants as begun
use Rattle.nt_event.specs.declared.events.Event.{Event}
use Rattle.nt_event.specs.declared.events.What.{What}
use Rattle.nt_event.specs.declared.inserts.Standing.{Standing}
use Rattle.nt_event.specs.declared.numbers.CpuNo.{CpuNo}
use Rattle.nt_event.specs.declared.numbers.DpcNo.{DpcNo}
use Rattle.nt_event.specs.declared.scripts.Script.{Script}
use Rattle.nt_event.specs.Numbers.{dpc}
use Rattle.nt_event.specs.Lists.{table}
use Rattle.nt_event.specs.Families.{DpcCall, GiveImportance, GiveTarget, InsertDpc, RemoveDpc, by_dpc_call, in_begin}
use Rattle.nt_event.specs.Families.{in_call, in_fire}
use Rattle.nt_event.specs.declared.events.Begun.{Begun}
use Rattle.nt_event.specs.declared.commands.Reply.{Reply}
use Rattle.nt_event.specs.Replies.{is_done, some_if_yes}

-- driver documentation, "KeSetImportanceDpc": Medium is the first setting
abbrev pub importance_by : DpcNo → DpcCall → Reply → Importance → Importance
importance_by d (GiveImportance x i) y old = if is_done y && (x.0 == d.0) then i else old
importance_by d (InsertDpc x) y old = old
importance_by d (RemoveDpc x) y old = old
importance_by d (GiveTarget x q) y old = old

abbrev pub importance_after : DpcNo → What → Importance → Importance
importance_after d w old = in_call (λ f c y. by_dpc_call (λ k. importance_by d k y old) old c) old w

abbrev pub importance_of : DpcNo → List Event → Importance
importance_of d [] = Medium
importance_of d (e ∷ past) = importance_after d e.what (importance_of d past)

-- driver documentation, "KeSetTargetProcessorDpc": no target is the first setting
abbrev pub target_by : DpcNo → DpcCall → Reply → Option CpuNo → Option CpuNo
target_by d (GiveTarget x q) y old = if is_done y && (x.0 == d.0) then q else old
target_by d (InsertDpc x) y old = old
target_by d (RemoveDpc x) y old = old
target_by d (GiveImportance x i) y old = old

abbrev pub target_after : DpcNo → What → Option CpuNo → Option CpuNo
target_after d w old = in_call (λ f c y. by_dpc_call (λ k. target_by d k y old) old c) old w

abbrev pub target_of : DpcNo → List Event → Option CpuNo
target_of d [] = None
target_of d (e ∷ past) = target_after d e.what (target_of d past)

abbrev pub dpc_inserted : DpcCall → Reply → Option DpcNo
dpc_inserted (InsertDpc d) y = some_if_yes d y
dpc_inserted (RemoveDpc d) y = None
dpc_inserted (GiveImportance d i) y = None
dpc_inserted (GiveTarget d q) y = None

-- the object that the event inserts: a call of `queue`, or a Fire, with reply yes
abbrev pub inserted_dpc : What → Option DpcNo
inserted_dpc w =
    in_call (λ f c y. by_dpc_call (λ k. dpc_inserted k y) None c) (in_fire (λ d y. some_if_yes d y) None w) w

abbrev pub dpc_removed : DpcCall → Reply → Option DpcNo
dpc_removed (RemoveDpc d) y = some_if_yes d y
dpc_removed (InsertDpc d) y = None
dpc_removed (GiveImportance d i) y = None
dpc_removed (GiveTarget d q) y = None

abbrev pub dpc_begun : Begun → Option DpcNo
dpc_begun (begun.Dpc d) = Some d
dpc_begun (begun.Threaded d) = Some d
dpc_begun (begun.Int level) = None
dpc_begun (begun.Apc a) = None

-- the object whose insert the event uses up: it begins, or a call of `unqueue` removes it
abbrev pub used_up_dpc : What → Option DpcNo
used_up_dpc w =
    in_call (λ f c y. by_dpc_call (λ k. dpc_removed k y) None c) (in_begin (λ b from. dpc_begun b) None w) w

abbrev pub is_dpc : Option DpcNo → DpcNo → Bool
is_dpc None d = false
is_dpc (Some x) d = x.0 == d.0

-- the queue of an insert by p: the object's target, else p (driver documentation, "KeInsertQueueDpc")
abbrev pub queue_for : Option CpuNo → CpuNo → CpuNo
queue_for target p = unwrap_or target p

abbrev pub standing_after : DpcNo → ℕ → CpuNo → What → Option CpuNo → Option Standing → Option Standing
standing_after d n by w target old =
    if is_dpc (inserted_dpc w) d then Some (record { queue = queue_for target by; number = n })
    else (if is_dpc (used_up_dpc w) d then None else old)

-- where the object's pending insert stands
abbrev pub standing : DpcNo → List Event → Option Standing
standing d [] = None
standing d (e ∷ past) = standing_after d (length past) e.cpu e.what (target_of d past) (standing d past)

-- the state of an object: its importance, its target, and where its pending insert stands
pub record ObjectState : Type 0 where
  pub importance : Importance
  pub target : Option CpuNo
  pub standing : Option Standing

abbrev pub start_object : ObjectState
start_object = record { importance = Medium; target = None; standing = None }

abbrev pub object_of : DpcNo → List Event → ObjectState
object_of d past =
    record { importance = importance_of d past; target = target_of d past; standing = standing d past }

-- what the event of this number leaves of an object
abbrev pub object_after : DpcNo → ℕ → CpuNo → What → ObjectState → ObjectState
object_after d n by w o =
    record {
      importance = importance_after d w o.importance;
      target = target_after d w o.target;
      standing = standing_after d n by w o.target o.standing;
    }

abbrev pub is_queued : ObjectState → Bool
is_queued o = is_some o.standing

abbrev pub objects_at : Script → List Event → List ObjectState
objects_at s past = table (length s.dpcs) (λ d. object_of (dpc d) past)

abbrev pub object_in : List ObjectState → DpcNo → ObjectState
object_in xs d = get_or xs d.0 start_object
