-- The locks that a frame holds, as two arrays keep them.
use Rattle.std.specs.List.{list_any}
use Rattle.std.specs.Prelude.{List, [], false, get_or, length, suc, zero, ℕ, ◌<◌, ◌==◌, ◌∷◌, ◌≡◌, ◌≤◌}
use Rattle.nt_event.specs.declared.frames.Held.{Held}
use Rattle.nt_event.specs.Numbers.{lock}

-- the first n of these locks and the levels kept with them, the one acquired last first
abbrev pub held_in : ℕ → List ℕ → List ℕ → List Held
held_in zero locks levels = []
held_in (suc n) locks levels =
    record { lock = lock (get_or locks n 0); kept = get_or levels n 0 } ∷ held_in n locks levels

-- each is one of the 64 that a script may have, and none is there twice
abbrev pub AreLocks : List Held → Type 0
AreLocks [] = Unit {0}
AreLocks (h ∷ hs) = (h.lock.0 < 64) × (list_any (λ g. g.lock.0 == h.lock.0) hs ≡ false) × AreLocks hs

-- none keeps a level below this one
abbrev pub KeepAtLeast : ℕ → List Held → Type 0
KeepAtLeast base [] = Unit {0}
KeepAtLeast base (h ∷ hs) = (base ≤ h.kept) × KeepAtLeast base hs

-- the two arrays, of which the first n elements are used
pub record AreArrays (n : ℕ) (ls ks : List ℕ) : Type 0 where
  pub count : n ≤ 64
  pub locks : length ls ≡ 64
  pub levels : length ks ≡ 64
  pub held : AreLocks (held_in n ls ks)
