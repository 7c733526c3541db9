-- What stands in the first places of a list that was written there.
use Rattle.std.proofs.Common.{slice_set}
use Rattle.std.specs.Prelude.{List, [], length, refl, take, ◌∷◌, ◌≡◌}
use Rattle.nt_event.specs.declared.class.Asked.{Asked}
use Rattle.nt_states.specs.LaneLists.{as_ask, as_asks}

-- after one write at the first place of the list, its first request is the one written
pub first_is : (xs : List Asked) (a : Asked) → length xs ≡ 64 → as_asks (take 1 (slice_set xs 0 a)) ≡ as_ask a ∷ []
first_is [] a h = absurd cc
first_is (x ∷ xs) a h = refl

-- after writes at the first two places of the list, its first two requests are the ones written
pub first_two_are : (xs : List Asked) (a b : Asked) → length xs ≡ 64 →
    as_asks (take 2 (slice_set (slice_set xs 0 a) 1 b)) ≡ as_ask a ∷ as_ask b ∷ []
first_two_are [] a b h = absurd cc
first_two_are (x ∷ []) a b h = absurd cc
first_two_are (x ∷ y ∷ xs) a b h = refl
