-- The calls by which processors try in vain for spin locks.
use Rattle.std.specs.Prelude.{List, None, Option, Some, [], if◌then◌else◌, length, ℕ, ◌∷◌}
use Rattle.nt_event.specs.declared.events.Event.{Event}
use Rattle.nt_event.specs.declared.numbers.CpuNo.{CpuNo}
use Rattle.nt_event.specs.Locks.{Frees, Gets, LockMove, NoMove, Spins, lock_move}
use Rattle.nt_event.specs.Numbers.{is_of}
use Rattle.nt_print.specs.declared.spins.Spun.{Spun}

-- the last call of `acquire` with reply spin, where behind it an event of this number moves a lock so
abbrev pub spin_after : ℕ → LockMove → Option Spun → Option Spun
spin_after n (Spins l) old = Some (record { number = n; lock = l })
spin_after n (Gets l) old = old
spin_after n (Frees l) old = old
spin_after n NoMove old = old

-- the processor's last call of `acquire` with reply spin; the newest event comes first
abbrev pub last_spin : CpuNo → List Event → Option Spun
last_spin p [] = None
last_spin p (e ∷ past) =
    if is_of e p then spin_after (length past) (lock_move e.what) (last_spin p past) else last_spin p past
