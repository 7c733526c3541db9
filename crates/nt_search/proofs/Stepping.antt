-- Ways in few bytes stay what they are where more values of looks come.
use Rattle.std.proofs.Common.{ap, arith, subst, sym, ◌∙◌}
use Rattle.std.proofs.lemmas.List.{length-append, map-append}
use Rattle.std.specs.Prelude.{Err, List, Ok, OnErr, Result, [], get_or, length, refl, slice_get, suc, zero, ℕ, ◌++◌, ◌<◌, ◌∷◌, ◌≡◌}
use Rattle.nt_event.specs.declared.events.Rises.{Rises}
use Rattle.nt_search.specs.declared.states.Way.{Way}
use Rattle.nt_search.specs.declared.ways.Move.{Move}
use Rattle.nt_search.specs.declared.ways.Move.TheVariants.{Look as LookBy, Next as NextBy, Switch as SwitchBy}
use Rattle.nt_search.specs.declared.ways.Step.{Step}
use Rattle.nt_search.specs.Keys.{GoesOn}
use Rattle.nt_search.specs.Steps.{AreIn, IsIn, look_at, turn_in, way_in, ways_in}

-- what is at a place stays there where the list goes on
still_at : {A : Type 0} (xs ys : List A) (n : ℕ) → n < length xs → slice_get (xs ++ ys) n ≡ slice_get xs n
still_at [] ys n low = absurd (omega (arith, low))
still_at (x ∷ xs) ys zero low = refl
still_at (x ∷ xs) ys (suc n) low = still_at xs ys n (omega (arith, low))

module _ (old new : List Rises) (on : GoesOn old new) where
  -- a turn stays
  turn_on : (by : Move) → IsIn old by → turn_in new by ≡ turn_in old by
  turn_on (NextBy cpu) is = refl
  turn_on (LookBy cpu number) low =
      ap (λ (xs : List Rises). look_at cpu (slice_get xs number)) on.1 ∙ ap (look_at cpu) (still_at old on.0 number low)
  turn_on (SwitchBy cpu thread) is = refl

  -- and its values are there still
  in_on : (by : Move) → IsIn old by → IsIn new by
  in_on (NextBy cpu) is = tt
  in_on (LookBy cpu number) low =
      let size = length-append old on.0 in
      let same = ap length on.1 in
      omega (arith, low, size, same)
  in_on (SwitchBy cpu thread) is = tt

  -- so it is of each
  pub ways_on : (steps : List Step) → AreIn old steps → ways_in new steps ≡ ways_in old steps
  ways_on [] are = refl
  ways_on (step ∷ steps) are = λ i. record { from = step.from; turn = turn_on step.by are.0 i } ∷ ways_on steps are.1 i

  -- and so are the values of each
  pub are_on : (steps : List Step) → AreIn old steps → AreIn new steps
  are_on [] are = tt
  are_on (step ∷ steps) are = (in_on step.by are.0, are_on steps are.1)

  -- with one more step its values are there
  pub are_pushed : (steps : List Step) (step : Step) → AreIn old steps → IsIn new step.by → AreIn new (steps ++ step ∷ [])
  are_pushed [] step are is = (is, tt)
  are_pushed (x ∷ steps) step are is = (in_on x.by are.0, are_pushed steps step are.1 is)

  -- and the ways are one more
  pub ways_pushed : (steps : List Step) (step : Step) (way : Way) → AreIn old steps → step.from ≡ way.from → turn_in new step.by ≡ way.turn →
      ways_in new (steps ++ step ∷ []) ≡ ways_in old steps ++ way ∷ []
  ways_pushed steps step way are from turn =
      map-append (way_in new) steps (step ∷ [])
      ∙ ap (λ (ws : List Way). ws ++ way_in new step ∷ []) (ways_on steps are)
      ∙ (λ i. ways_in old steps ++ record { from = from i; turn = turn i } ∷ [])

-- the values of the step at a place are there
pub in_at : (looks : List Rises) (steps : List Step) (n : ℕ) (step : Step) → AreIn looks steps → n < length steps → step ≡ get_or steps n step →
    IsIn looks step.by
in_at looks [] n step are low is = absurd (omega (arith, low))
in_at looks (x ∷ steps) zero step are low is = subst (λ (y : Step). IsIn looks y.by) (sym is) are.0
in_at looks (x ∷ steps) (suc n) step are low is = in_at looks steps n step are.1 (omega (arith, low)) is

-- what is so is so on an error
pub err_too : {A E P : Type 0} → (r : Result A E) → P → OnErr r P
err_too (Ok x) p = tt
err_too (Err e) p = p
