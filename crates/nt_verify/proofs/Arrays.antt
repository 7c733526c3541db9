-- The locks that a walk holds, in the arrays that keep them.
use Rattle.std.proofs.Common.{ap, arith}
use Rattle.std.proofs.Math.Seq.{take-suc}
use Rattle.std.proofs.lemmas.List.{reverse-append}
use Rattle.std.specs.List.{list_all}
use Rattle.std.specs.Prelude.{Bool, List, get_or, length, nat_lt, refl, reverse, suc, take, zero, ℕ, ◌&&◌, ◌≡◌, ◌≤◌}
use Rattle.nt_frame.specs.HeldLocks.{held_in}

-- all of them are below the lock
pub held_below : (k n : ℕ) (ls ks : List ℕ) → n ≤ length ls → list_all (λ l. nat_lt l k) (reverse (take n ls))
    ≡ list_all (λ h. nat_lt h.lock.0 k) (held_in n ls ks)
held_below k zero ls ks h = refl
held_below k (suc n) ls ks h =
    rw (take-suc ls n 0 (omega arith), reverse-append) (ap (λ (b : Bool). nat_lt (get_or ls n 0) k && b) (held_below k n ls ks (omega arith)))
