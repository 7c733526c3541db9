-- What an event does to a spin lock, as code tells it.
use Rattle.std.specs.Prelude.{None, Option, Some}
use Rattle.nt_event.specs.declared.numbers.LockNo.{LockNo}
use Rattle.nt_event.specs.Locks.{LockMove, NoMove}
use Rattle.nt_event.specs.Locks as locks
use Rattle.nt_states.specs.declared.locks.Move.{Move}
use Rattle.nt_states.specs.declared.locks.Move.TheVariants.{Frees, Gets, Spins}

-- the move of this lock
abbrev pub move_of : LockNo → Move → LockMove
move_of k Gets = locks.Gets k
move_of k Spins = locks.Spins k
move_of k Frees = locks.Frees k

abbrev pub move_in : Option (LockNo × Move) → LockMove
move_in None = NoMove
move_in (Some m) = move_of m.0 m.1
