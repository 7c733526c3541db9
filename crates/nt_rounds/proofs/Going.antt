-- Paths of any number of steps, along depths and along rounds.
use Rattle.std.proofs.Common.{List, [], ap, arith, get_or, inl, inr, length, refl, suc, zero, ℕ, ◌+◌, ◌-◌, ◌<◌, ◌∷◌, ◌≡◌, ◌≤◌}
use Rattle.std.proofs.lemmas.Bool.{cases_lt}
use Rattle.std.proofs.lemmas.List.Elements.{All-from_get_or}
use Rattle.nt_rounds.specs.Depths.{AreDepths, IsInside, IsRound}
use Rattle.nt_rounds.specs.Laws.{DepthsAreOfLongestPaths, Goes, RoundsGoOn}

-- no path has more steps than the depth
no_longer : (closed : List (List ℕ)) (depths : List ℕ) → IsInside closed → AreDepths closed depths → (n : ℕ) → n < length closed →
    (path : List ℕ) → Goes closed n path → length path ≤ get_or depths n 0
no_longer closed depths inside are n within [] goes = omega arith
no_longer closed depths inside are n within (m ∷ path) goes =
    let rest = no_longer closed depths inside are m (inside n m goes.0) path goes.1 in
    omega (arith, rest, (are.each n within).above m goes.0)

-- some path has as many
as_long : (closed : List (List ℕ)) (depths : List ℕ) → IsInside closed → AreDepths closed depths → (steps n : ℕ) → n < length closed →
    get_or depths n 0 ≡ steps → (path : List ℕ) × Goes closed n path × (length path ≡ steps)
as_long closed depths inside are zero n within is = ([], tt, refl)
as_long closed depths inside are (suc steps) n within is =
    elim (are.each n within).reached [
      | inl none ↦ absurd (omega (arith, none, is))
      | inr some ↦
          let m = some.0 in
          let rest = as_long closed depths inside are steps m (inside n m some.1) (omega (arith, some.2, is)) in
          (m ∷ rest.0, (some.1, rest.1), ap suc rest.2)
    ]

-- depths are of longest paths
pub longest : DepthsAreOfLongestPaths
longest closed depths inside are n within = record {
  none = no_longer closed depths inside are n within;
  some = as_long closed depths inside are (get_or depths n 0) n within refl;
}

-- a path from a state of a round
round_on : (closed : List (List ℕ)) (states : List ℕ) → IsRound closed states → (steps i : ℕ) → i < length states →
    (path : List ℕ) × Goes closed (get_or states i 0) path × (length path ≡ steps)
round_on closed states is zero i within = ([], tt, refl)
round_on closed states is (suc steps) i within =
    elim (cases_lt (i + 1) (length states)) [
      | inl on ↦
          let rest = round_on closed states is steps (i + 1) on in
          (get_or states (i + 1) 0 ∷ rest.0, (is.on i on, rest.1), ap suc rest.2)
      | inr last ↦
          let rest = round_on closed states is steps 0 is.some in
          let here : i ≡ length states - 1 = omega (arith, within, last) in
          (get_or states 0 0 ∷ rest.0, (rw here is.back, rest.1), ap suc rest.2)
    ]

-- rounds go on
pub goes_on : RoundsGoOn
goes_on closed states is steps =
    All-from_get_or (λ n. (path : List ℕ) × Goes closed n path × (length path ≡ steps)) states 0 (round_on closed states is steps)
