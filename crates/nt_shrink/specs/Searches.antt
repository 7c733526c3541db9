-- A search for the greatest number that passes a test, from the back.
use Rattle.std.specs.Prelude.{Bool, List, None, Option, Some, false, ℕ, ◌≡◌}
use Rattle.nt_shrink.specs.Spare.{greatest_below}
use Rattle.nt_shrink.specs.Twins.{IsTwin}

-- no number below n and from count on passes the test; nor does count itself, where it is a twin of the place before it
pub record IsMissed (test : ℕ → Bool) (n : ℕ) (twins : List Bool) (count : ℕ) : Type 0 where
  pub left : greatest_below test n ≡ greatest_below test count
  pub missed : IsTwin twins count → test count ≡ false

-- the greatest number below n that passes; or none from low on does
abbrev pub IsAnswer : (ℕ → Bool) → ℕ → List Bool → ℕ → Option ℕ → Type 0
IsAnswer test n twins low (Some at) = greatest_below test n ≡ Some at
IsAnswer test n twins low None = IsMissed test n twins low
