-- Spin locks: the processor whose frame holds one, and the processors that spin on it (driver documentation,
-- "KeAcquireSpinLock").
use Rattle.std.specs.Prelude.{Bool, List, None, Option, Some, [], false, get_or, if◌then◌else◌, true, ◌==◌, ◌∷◌}
use Rattle.nt_event.specs.declared.commands.Command.{Command}
use Rattle.nt_event.specs.declared.commands.Reply.{Reply}
use Rattle.nt_event.specs.declared.commands.Reply.TheVariants.{Spin}
use Rattle.nt_event.specs.declared.events.Event.{Event}
use Rattle.nt_event.specs.declared.events.What.{What}
use Rattle.nt_event.specs.declared.events.What.TheVariants as what
use Rattle.nt_event.specs.declared.numbers.CpuNo.{CpuNo}
use Rattle.nt_event.specs.declared.numbers.LockNo.{LockNo}
use Rattle.nt_event.specs.declared.scripts.Script.{Script}
use Rattle.nt_event.specs.Lists.{table}
use Rattle.nt_event.specs.Families.{AcquireLock, LockCall, UnlockLock, by_lock_call}
use Rattle.nt_event.specs.Replies.{is_done, is_spin}

-- what an event does to a lock
pub data LockMove : Type 0 where
  Gets : LockNo → LockMove
  Spins : LockNo → LockMove
  Frees : LockNo → LockMove
  NoMove : LockMove

abbrev pub lock_called : LockCall → Reply → LockMove
lock_called (AcquireLock k) y = if is_done y then Gets k else (if is_spin y then Spins k else NoMove)
lock_called (UnlockLock k) y = if is_done y then Frees k else NoMove

-- an acquire gets the lock or spins on it, and an unlock frees it
abbrev pub call_move : Command → Reply → LockMove
call_move c y = by_lock_call (λ k. lock_called k y) NoMove c

-- so does a Free
abbrev pub lock_move : What → LockMove
lock_move (what.Call f c y) = call_move c y
lock_move (what.Free f k) = Frees k
lock_move (what.Look r) = NoMove
lock_move (what.Begin b from) = NoMove
lock_move (what.Normal f) = NoMove
lock_move (what.End f) = NoMove
lock_move (what.Expire key from) = NoMove
lock_move (what.Fire d y) = NoMove
lock_move (what.Clean class) = NoMove
lock_move (what.Switch t status) = NoMove
lock_move (what.Rewait f y) = NoMove
lock_move (what.Flush a from) = NoMove
lock_move (what.Gone t) = NoMove
lock_move what.Rest = NoMove

-- the processor whose frame holds the lock, if any, and for each processor whether it spins on it
pub record LockState : Type 0 where
  pub holder : Option CpuNo
  pub spinners : List Bool

-- where there is no such lock
abbrev pub start_lock : LockState
start_lock = record { holder = None; spinners = [] }

abbrev pub free_lock : Script → LockState
free_lock s = record { holder = None; spinners = table s.cpus (λ q. false) }

abbrev pub spins_at : LockState → CpuNo → Bool
spins_at x p = get_or x.spinners p.0 false

-- the processors that spin, where p now does or doesn't
abbrev pub spinners_with : Script → CpuNo → Bool → List Bool → List Bool
spinners_with s p b xs = table s.cpus (λ q. if q == p.0 then b else get_or xs q false)

-- what a move by p leaves of the lock
abbrev pub lock_moved : Script → LockNo → CpuNo → LockMove → LockState → LockState
lock_moved s k p (Gets x) old =
    if x.0 == k.0 then record { holder = Some p; spinners = spinners_with s p false old.spinners } else old
lock_moved s k p (Spins x) old =
    if x.0 == k.0 then record old { spinners = spinners_with s p true old.spinners } else old
lock_moved s k p (Frees x) old = if x.0 == k.0 then record old { holder = None } else old
lock_moved s k p NoMove old = old

abbrev pub lock_after : Script → LockNo → Event → LockState → LockState
lock_after s k e old = lock_moved s k e.cpu (lock_move e.what) old

abbrev pub lock_of : Script → LockNo → List Event → LockState
lock_of s k [] = free_lock s
lock_of s k (e ∷ past) = lock_after s k e (lock_of s k past)
