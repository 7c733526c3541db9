use Rattle.std.specs.Prelude.{map}
use Rattle.nt_event.specs.declared.scripts.Script.{Script}
use Rattle.nt_event.specs.Locks.{lock_moved, start_lock}
use Rattle.nt_event.specs.Numbers.{lock}
use Rattle.nt_states.specs.LockMoves.{move_in}
use Rattle.nt_shade_dpcs.specs.Changed.{HaveFlags}
use Rattle.nt_shade_dpcs.specs.Shades.{lock_said}
use Rattle.nt_shade_dpcs.proofs.Followed.{IsFollowedTo}
use Rattle.nt_shade_dpcs.proofs.locks.follow_locks.Given as goal

abbrev pub invariant-loop-k : goal.invariant-loop-k
invariant-loop-k l =
    (s : Script) → HaveFlags s (map lock_said l.fn.locks.items) →
    IsFollowedTo lock_said (λ k. lock_moved s (lock k) l.fn.p (move_in l.moved)) start_lock l.k l.fn.locks.items l.locks.items
