-- DPC queues: the pending inserts of a processor, the first of each part, and what an insert asks for.
use Rattle.std.specs.Option.{option_or}
use Rattle.std.specs.Prelude.{Bool, List, None, Option, Some, [], count_by, false, filter, find, if◌then◌else◌, length}
use Rattle.std.specs.Prelude.{not, option_map, reverse, true, ℕ, ◌&&◌, ◌==◌, ◌||◌, ◌∷◌}
use Rattle.nt_event.specs.declared.commands.Importance.{Importance}
use Rattle.nt_event.specs.declared.commands.Importance.TheVariants.{High, Low, Medium, MediumHigh}
use Rattle.nt_event.specs.declared.events.Event.{Event}
use Rattle.nt_event.specs.declared.events.What.{What}
use Rattle.nt_event.specs.declared.inserts.Insert.{Insert}
use Rattle.nt_event.specs.declared.inserts.Part.{Part}
use Rattle.nt_event.specs.declared.inserts.Part.TheVariants.{Ordinary as OrdinaryPart, Threaded as ThreadedPart}
use Rattle.nt_event.specs.declared.numbers.CpuNo.{CpuNo}
use Rattle.nt_event.specs.declared.numbers.DpcNo.{DpcNo}
use Rattle.nt_event.specs.declared.scripts.Script.{Script}
use Rattle.nt_event.specs.Objects.{ObjectState, inserted_dpc, object_in, objects_at, queue_for, used_up_dpc}
use Rattle.nt_event.specs.Routines.{part_of}
use Rattle.nt_event.specs.Numbers.{is_of}
use Rattle.nt_event.specs.Families.{in_call, in_rest, in_switch}

abbrev pub is_high : Importance → Bool
is_high High = true
is_high _ = false

-- profile: importance and target count as they are at the insert
abbrev pub new_insert : Script → DpcNo → ℕ → ObjectState → Insert
new_insert s d n o = record { dpc = d; number = n; part = part_of s d; high = is_high o.importance }

abbrev pub add_insert : Script → CpuNo → ℕ → CpuNo → Option DpcNo → List ObjectState → List Insert → List Insert
add_insert s p n by None objects old = old
add_insert s p n by (Some d) objects old =
    if (queue_for (object_in objects d).target by).0 == p.0 then (new_insert s d n (object_in objects d) ∷ old) else old

abbrev pub is_of_dpc : DpcNo → Insert → Bool
is_of_dpc d x = x.dpc.0 == d.0

-- without the object's inserts
abbrev pub without_dpc : DpcNo → List Insert → List Insert
without_dpc d xs = filter (λ x. not (is_of_dpc d x)) xs

abbrev pub is_queue : Option CpuNo → CpuNo → Bool
is_queue None p = false
is_queue (Some q) p = q.0 == p.0

-- the queue that an insert of the object leaves: a Begin's own, or the one where the removed insert stands
abbrev pub left_queue : CpuNo → What → ObjectState → Option CpuNo
left_queue by w o = in_call (λ f c y. option_map (λ x. x.queue) o.standing) (Some by) w

abbrev pub drop_insert : CpuNo → CpuNo → What → Option DpcNo → List ObjectState → List Insert → List Insert
drop_insert p by w None objects old = old
drop_insert p by w (Some d) objects old =
    if is_queue (left_queue by w (object_in objects d)) p then without_dpc d old else old

-- what the event of this number leaves of the pending inserts of p
abbrev pub pending_after : Script → CpuNo → ℕ → CpuNo → What → List ObjectState → List Insert → List Insert
pending_after s p n by w objects old =
    add_insert s p n by (inserted_dpc w) objects (drop_insert p by w (used_up_dpc w) objects old)

-- the pending inserts whose queue is p's, the greatest number first
abbrev pub pending : Script → CpuNo → List Event → List Insert
pending s p [] = []
pending s p (e ∷ past) = pending_after s p (length past) e.cpu e.what (objects_at s past) (pending s p past)

-- ---- the first of a part

abbrev pub same_part : Part → Part → Bool
same_part OrdinaryPart OrdinaryPart = true
same_part ThreadedPart ThreadedPart = true
same_part _ _ = false

abbrev pub is_in : Part → Insert → Bool
is_in part x = same_part part x.part

abbrev pub is_high_in : Part → Insert → Bool
is_high_in part x = x.high && is_in part x

-- the first of a part is the High one of greatest number, else the one of least number (Windows Internals, "Deferred
-- procedure call interrupts": High goes to the front, the others to the back)
abbrev pub first_dpc : Part → List Insert → Option Insert
first_dpc part xs = option_or (find (is_high_in part) xs) (find (is_in part) (reverse xs))

-- how many ordinary inserts are pending
abbrev pub depth_of : List Insert → ℕ
depth_of xs = count_by (is_in OrdinaryPart) xs

-- ---- idle processors

-- profile: a processor is idle from a Rest to its next Switch
abbrev pub idle_after : What → Bool → Bool
idle_after w old = in_rest true (in_switch (λ t status. false) old w) w

abbrev pub is_idle : CpuNo → List Event → Bool
is_idle p [] = false
is_idle p (e ∷ past) = if is_of e p then idle_after e.what (is_idle p past) else is_idle p past

-- the state of a queue: its pending inserts, and whether its processor is idle
pub record QueueState : Type 0 where
  pub pending : List Insert
  pub idle : Bool

abbrev pub start_queue : QueueState
start_queue = record { pending = []; idle = false }

abbrev pub queue_of : Script → CpuNo → List Event → QueueState
queue_of s p past = record { pending = pending s p past; idle = is_idle p past }

-- what the event of this number leaves of a queue
abbrev pub queue_after : Script → CpuNo → ℕ → CpuNo → What → List ObjectState → QueueState → QueueState
queue_after s p n by w objects x =
    record {
      pending = pending_after s p n by w objects x.pending;
      idle = if by.0 == p.0 then idle_after w x.idle
          else x.idle;
    }

-- profile: whether an ordinary insert asks for a dispatch interrupt, by importance, whether the target is the inserting
-- processor, whether the depth is above the limit, and whether the target is idle
abbrev pub insert_asks : Importance → Bool → Bool → Bool → Bool
insert_asks Low own deep idle = deep || (not own && idle)
insert_asks Medium own deep idle = own || (deep || idle)
insert_asks MediumHigh own deep idle = true
insert_asks High own deep idle = true
