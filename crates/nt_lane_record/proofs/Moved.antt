-- What a spin lock's own move leaves.
use Rattle.std.proofs.Common.{ap, ◌∙◌}
use Rattle.std.specs.Prelude.{ℕ, ◌≡◌}
use Rattle.nt_event.specs.declared.events.What.{What}
use Rattle.nt_event.specs.declared.numbers.CpuNo.{CpuNo}
use Rattle.nt_event.specs.declared.numbers.LockNo.{LockNo}
use Rattle.nt_event.specs.declared.scripts.Script.{Script}
use Rattle.nt_event.specs.Locks.{LockMove, LockState, lock_move, lock_moved}
use Rattle.nt_states.specs.declared.locks.Move.{Move}
use Rattle.nt_states.specs.LockMoves.{move_of}
use Rattle.nt_lane_record.specs.Held.{SpinFacts}

-- the state that a move leaves of a spin lock is the one that the lock's facts have after the event of that move
pub moved_so : (s : Script) (k lock : LockNo) (by : Move) (p : CpuNo) (w : What) (x : SpinFacts) (old new : LockState) →
    record { lock = lock; state = old } ≡ x → k.0 ≡ lock.0 → move_of k by ≡ lock_move w → new ≡ lock_moved s k p (move_of k by) old →
    record { lock = lock; state = new } ≡ record x { state = lock_moved s x.lock p (lock_move w) x.state }
moved_so s k lock by p w x old new is same moves left =
    let here : k ≡ lock = ap (λ (n : ℕ). let z : LockNo = record { 0 = n } in z) same in
    let after : new ≡ lock_moved s lock p (lock_move w) old = left ∙ (ap (λ (m : LockMove). lock_moved s k p m old) moves
    ∙ ap (λ (z : LockNo). lock_moved s z p (lock_move w) old) here) in
    ap (λ (z : LockState). let y : SpinFacts = record { lock = lock; state = z } in y) after
    ∙ ap (λ (y : SpinFacts). record y { state = lock_moved s y.lock p (lock_move w) y.state }) is
