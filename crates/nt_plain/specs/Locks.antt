-- The states of the spin locks of a script, and what an event leaves of them.
use Rattle.std.specs.Prelude.{All, IsTrue, List, get_or, length, ◌<◌, ◌≡◌}
use Rattle.nt_event.specs.declared.events.What.{What}
use Rattle.nt_event.specs.declared.numbers.CpuNo.{CpuNo}
use Rattle.nt_event.specs.declared.scripts.Script.{Script}
use Rattle.nt_event.specs.Fitting.{what_fits}
use Rattle.nt_event.specs.Lists.{table}
use Rattle.nt_event.specs.Locks.{LockState, lock_move, lock_moved, start_lock}
use Rattle.nt_event.specs.Numbers.{lock}

-- one for each lock of the script, with a flag for each of its processors
pub record AreLocks (s : Script) (xs : List LockState) : Type 0 where
  pub count : length xs ≡ s.locks
  pub flags : All (λ x. length x.spinners ≡ s.cpus) xs

-- what an event of the processor leaves
abbrev pub locks_left : Script → CpuNo → What → List LockState → List LockState
locks_left s p w xs = table s.locks (λ k. lock_moved s (lock k) p (lock_move w) (get_or xs k start_lock))

-- the event may be made by this processor: both are of the script
pub record MayMove (s : Script) (xs : List LockState) (p : CpuNo) (w : What) : Type 0 where
  pub locks : AreLocks s xs
  pub cpu : p.0 < s.cpus
  pub named : IsTrue (what_fits s w)
