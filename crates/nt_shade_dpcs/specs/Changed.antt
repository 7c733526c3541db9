-- What a change of objects and queues, or of a spin lock, leaves of each of them, where no event has a number.
use Rattle.std.specs.Prelude.{List, false, get_or, if◌then◌else◌, length, option_map, true, ◌==◌, ◌≡◌}
use Rattle.nt_event.specs.declared.numbers.CpuNo.{CpuNo}
use Rattle.nt_event.specs.declared.numbers.DpcNo.{DpcNo}
use Rattle.nt_event.specs.declared.scripts.Script.{Script}
use Rattle.nt_event.specs.Lists.{table}
use Rattle.nt_event.specs.Locks.{LockMove, LockState, lock_moved, start_lock}
use Rattle.nt_event.specs.Numbers.{cpu, dpc, lock}
use Rattle.nt_event.specs.Objects.{ObjectState, object_in, queue_for}
use Rattle.nt_event.specs.Queues.{QueueState, is_queue, new_insert}
use Rattle.nt_dpc.specs.Objects.{standing_at, standing_nowhere, with_importance, with_target}
use Rattle.nt_dpc.specs.Queues.{add_entry, drop_entry, set_idle}
use Rattle.nt_dpc_lanes.specs.declared.changes.Change.{Change}
use Rattle.nt_dpc_lanes.specs.declared.changes.Change.TheVariants as change
use Rattle.nt_states.specs.DpcLanes.{queue_in}
use Rattle.nt_alike.specs.Lists.{Each}
use Rattle.nt_shade_dpcs.specs.Shades.{standing_in}

-- what a change by this processor leaves of the object d
abbrev pub object_changed : DpcNo → CpuNo → Change → ObjectState → ObjectState
object_changed d by change.Nothing o = o
object_changed d by (change.Insert x) o =
    if x.0 == d.0 then standing_at (standing_in (queue_for o.target by)) o else o
object_changed d by (change.Remove x) o = if x.0 == d.0 then standing_nowhere o else o
object_changed d by (change.Take part x) o = if x.0 == d.0 then standing_nowhere o else o
object_changed d by (change.SetImportance x i) o = if x.0 == d.0 then with_importance i o else o
object_changed d by (change.SetTarget x t) o = if x.0 == d.0 then with_target t o else o
object_changed d by change.Rest o = o
object_changed d by change.Run o = o

-- what it leaves of the queue of p, where these were the objects
abbrev pub queue_changed : Script → List ObjectState → CpuNo → CpuNo → Change → QueueState → QueueState
queue_changed s objects p by change.Nothing q = q
queue_changed s objects p by (change.Insert d) q =
    if (queue_for (object_in objects d).target by).0 == p.0 then add_entry (new_insert s d 0 (object_in objects d)) q
    else q
queue_changed s objects p by (change.Remove d) q =
    if is_queue (option_map (λ x. x.queue) (object_in objects d).standing) p then drop_entry d q else q
queue_changed s objects p by (change.Take part d) q = if by.0 == p.0 then drop_entry d q else q
queue_changed s objects p by (change.SetImportance d i) q = q
queue_changed s objects p by (change.SetTarget d t) q = q
queue_changed s objects p by change.Rest q = if by.0 == p.0 then set_idle true q else q
queue_changed s objects p by change.Run q = if by.0 == p.0 then set_idle false q else q

-- what it leaves of all objects, and of all queues
abbrev pub objects_changed : CpuNo → Change → List ObjectState → List ObjectState
objects_changed by c xs = table (length xs) (λ d. object_changed (dpc d) by c (object_in xs (dpc d)))

abbrev pub queues_changed : Script → List ObjectState → CpuNo → Change → List QueueState → List QueueState
queues_changed s objects by c xs =
    table (length xs) (λ p. queue_changed s objects (cpu p) by c (queue_in xs (cpu p)))

-- ---- spin locks

-- there are flags for each processor of the script
abbrev pub HaveFlags : Script → List LockState → Type 0
HaveFlags s xs = Each (λ x. length x.spinners ≡ s.cpus) xs

-- what a move by p leaves of all locks
abbrev pub locks_moved : Script → CpuNo → LockMove → List LockState → List LockState
locks_moved s p m xs = table (length xs) (λ k. lock_moved s (lock k) p m (get_or xs k start_lock))
