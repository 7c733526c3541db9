-- What a shade says of each object, queue and spin lock, in the words of the machine's definitions. The number of each
-- insert is 0.
use Rattle.std.specs.Prelude.{map, option_map, reverse}
use Rattle.nt_event.specs.declared.inserts.Insert.{Insert}
use Rattle.nt_event.specs.declared.inserts.Standing.{Standing}
use Rattle.nt_event.specs.declared.numbers.CpuNo.{CpuNo}
use Rattle.nt_event.specs.Locks.{LockState}
use Rattle.nt_event.specs.Objects.{ObjectState}
use Rattle.nt_event.specs.Queues.{QueueState}
use Rattle.nt_shade_dpcs.specs.declared.locks.ShadeLock.{ShadeLock}
use Rattle.nt_shade_dpcs.specs.declared.objects.ShadeObject.{ShadeObject}
use Rattle.nt_shade_dpcs.specs.declared.queues.ShadeInsert.{ShadeInsert}
use Rattle.nt_shade_dpcs.specs.declared.queues.ShadeQueue.{ShadeQueue}

abbrev pub standing_in : CpuNo → Standing
standing_in q = record { queue = q; number = 0 }

abbrev pub object_said : ShadeObject → ObjectState
object_said o =
    record { importance = o.importance; target = o.target; standing = option_map standing_in o.standing }

abbrev pub insert_said : ShadeInsert → Insert
insert_said x = record { dpc = x.dpc; number = 0; part = x.part; high = x.high }

-- a shade has the newest insert last, the definitions have it first
abbrev pub queue_said : ShadeQueue → QueueState
queue_said q = record { pending = map insert_said (reverse q.pending.items); idle = q.idle }

abbrev pub lock_said : ShadeLock → LockState
lock_said x = record { holder = x.holder; spinners = x.spinners.items }
