-- A spin lock that is held keeps a flag for each processor.
use Rattle.std.proofs.Common.{length}
use Rattle.std.specs.Prelude.{Bool, false, if◌then◌else◌, true, ℕ, ◌==◌, ◌≡◌}
use Rattle.nt_event.specs.declared.events.Event.{Event}
use Rattle.nt_event.specs.declared.numbers.CpuNo.{CpuNo}
use Rattle.nt_event.specs.declared.numbers.LockNo.{LockNo}
use Rattle.nt_event.specs.declared.scripts.Script.{Script}
use Rattle.nt_event.specs.Locks.{Frees, Gets, LockMove, LockState, NoMove, Spins, lock_move, lock_moved}
use Rattle.nt_event.proofs.Tables.{length-table_from}
use Rattle.nt_lane_record.specs.Held.{IsSpinThere, SpinFacts}
use Rattle.nt_lane.specs.Steps.{spin_left}

-- a choice of two lock states has as many flags as both
either : (b : Bool) (x y : LockState) (n : ℕ) → length x.spinners ≡ n → length y.spinners ≡ n → length (if b then x else y).spinners ≡ n
either true x y n h k = h
either false x y n h k = k

-- a lock after a move by a processor still has one flag for each processor
flags_after : (s : Script) (k : LockNo) (p : CpuNo) (m : LockMove) (x : LockState) → length x.spinners ≡ s.cpus →
    length (lock_moved s k p m x).spinners ≡ s.cpus
flags_after s k p (Gets j) x h = either (j.0 == k.0) _ x s.cpus (length-table_from 0 s.cpus _) h
flags_after s k p (Spins j) x h = either (j.0 == k.0) _ x s.cpus (length-table_from 0 s.cpus _) h
flags_after s k p (Frees j) x h = either (j.0 == k.0) _ x s.cpus h h
flags_after s k p NoMove x h = h

-- a spin lock with a flag for each processor still has one after an event
pub spin_stays : (s : Script) (e : Event) (x : SpinFacts) → IsSpinThere s x → IsSpinThere s (spin_left s e x)
spin_stays s e x h = record { named = h.named; flags = flags_after s x.lock e.cpu (lock_move e.what) x.state h.flags }
