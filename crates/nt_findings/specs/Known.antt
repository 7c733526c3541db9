-- What is known of expectations while searches go on.
use Rattle.std.specs.Prelude.{All, Bool, List, None, Option, Some, get_or, length, map, true, ℕ, ◌<◌, ◌≡◌, ◌⊎◌}
use Rattle.nt_event.specs.declared.scripts.Script.{Script}
use Rattle.nt_expect.specs.declared.expectations.Expectation.{Expectation}
use Rattle.nt_expect.specs.declared.expectations.Expectation.TheVariants.{AlwaysEnds}
use Rattle.nt_search.specs.declared.failures.Failure.{Failure}
use Rattle.nt_search.specs.Failures.{FailsAt}
use Rattle.nt_verdict.specs.Fails.{Fails}

-- where a number is known, the expectation fails there
abbrev pub IsKnown : Script → Expectation → Option ℕ → Type 0
IsKnown s x None = Unit {0}
IsKnown s x (Some at) = FailsAt s x at

-- at which number some of the expectations fail
pub record AreKnown (s : Script) (xs : List Expectation) (fails : List (Option ℕ)) : Type 0 where
  pub count : length fails ≡ length xs
  pub each : (j : ℕ) (d : Expectation) → j < length xs → IsKnown s (get_or xs j d) (get_or fails j None)

-- of the first places, so many, these are the ones at which it isn't known
pub record AreUnknownTo (fails : List (Option ℕ)) (places : List ℕ) (count : ℕ) : Type 0 where
  pub low : All (λ j. j < length fails) places
  pub all : (j : ℕ) → j < count → get_or fails j None ≡ None → (k : ℕ) × (k < length places) × (get_or places k 0 ≡ j)

-- of all places
abbrev pub AreUnknown : List (Option ℕ) → List ℕ → Type 0
AreUnknown fails places = AreUnknownTo fails places (length fails)

-- the expectations at these places
abbrev pub at_places : List Expectation → List ℕ → List Expectation
at_places xs places = map (λ j. get_or xs j AlwaysEnds) places

-- what is known of the expectations once the failures of the first ones at these places, so many, were noted
pub record AreNotedTo (places : List ℕ) (failures : List (Option Failure)) (old new : List (Option ℕ)) (count : ℕ) :
    Type 0 where
  pub length_is : length new ≡ length old
  pub each : (j : ℕ) → (get_or new j None ≡ get_or old j None)
      ⊎ ((k : ℕ) × (k < count) × (get_or places k 0 ≡ j)
      × (f : Failure) × (get_or failures k None ≡ Some f) × (get_or new j None ≡ Some f.at))
  pub noted : (k : ℕ) → k < count → get_or new (get_or places k 0) None ≡ None → get_or failures k None ≡ None

-- of all of them
abbrev pub AreNotedAt : List ℕ → List (Option Failure) → List (Option ℕ) → List (Option ℕ) → Type 0
AreNotedAt places failures old new = AreNotedTo places failures old new (length places)

-- of the first places, so many, what is known in one of two lists is known, and no more; that of the second goes before
pub record AreJoinedTo (others old new : List (Option ℕ)) (count : ℕ) : Type 0 where
  pub length_is : length new ≡ length old
  pub each : (j : ℕ) → (get_or new j None ≡ get_or old j None) ⊎ (get_or new j None ≡ get_or others j None)
  pub joined : (j : ℕ) → j < count → get_or new j None ≡ None → get_or others j None ≡ None

-- of all places
abbrev pub AreJoined : List (Option ℕ) → List (Option ℕ) → List (Option ℕ) → Type 0
AreJoined others old new = AreJoinedTo others old new (length others)

-- where all states were searched, each expectation but `always ends` of which no failure is known holds
abbrev pub HoldTheOthers : Script → Bool → List Expectation → List (Option ℕ) → Type 0
HoldTheOthers s whole xs fails =
    whole ≡ true → (j : ℕ) (d : Expectation) → j < length xs → get_or fails j None ≡ None →
    (get_or xs j d ≡ AlwaysEnds → ⊥) → Fails s (get_or xs j d) → ⊥
