-- What is noted of an event, or of a quiet end, that was judged.
use Rattle.std.proofs.Common.{arith, subst, sym, ◌∙◌}
use Rattle.std.proofs.Math.ListN.{get_or-eq_default}
use Rattle.std.proofs.lemmas.Bool.{ltb-false, ltb-true}
use Rattle.std.specs.Prelude.{Bool, List, None, Option, Some, false, get_or, length, nat_lt, refl, true, ◌≡◌, ◌≤◌}
use Rattle.nt_event.specs.declared.events.Event.{Event}
use Rattle.nt_event.specs.declared.scripts.Script.{Script}
use Rattle.nt_expect.specs.declared.expectations.Expectation.{Expectation}
use Rattle.nt_expect.specs.declared.expectations.Expectation.TheVariants.{AlwaysEnds}
use Rattle.nt_search.specs.declared.failures.Failure.{Failure}
use Rattle.nt_search.specs.Failures.{AreJudged, AreNoted, EachUnnoted, IsFailure, IsJudgedOne, IsNoted}
use Rattle.nt_search.specs.Searches.{WereUnnoted}

-- a failure that is noted is not none
unlike : {g : Failure} → ◌≡◌ {A = Option Failure} (Some g) None → ⊥
unlike q = cc

module _ (P : Expectation → Type 0) (f : Failure) (xs : List Expectation) (old new : List (Option Failure)) (judged : AreJudged P f xs old new) where
  -- where none is noted now, none was before, and the test does not hold
  one_silent : (y : Expectation) (o n : Option Failure) → IsJudgedOne P f y o n → n ≡ None → (o ≡ None) × (P y → ⊥)
  one_silent y (Some g) n j q = absurd (unlike (sym j ∙ q))
  one_silent y None None j q = (refl, j)
  one_silent y None (Some g) j q = absurd (unlike q)

  -- what is judged of an expectation with no failure noted after it does not hold
  pub silent : EachUnnoted (λ y. P y → ⊥) xs new
  silent j d low q = (one_silent (get_or xs j d) (get_or old j None) (get_or new j None) (judged.each j d low) q).1

  -- a failure that is not noted after the judging was not noted before it
  pub unnoted : length old ≡ length xs → WereUnnoted old new
  unnoted count j q = go (nat_lt j (length xs)) refl
    where
      go : (b : Bool) → nat_lt j (length xs) ≡ b → get_or old j None ≡ None
      go true l =
          (one_silent (get_or xs j AlwaysEnds) (get_or old j None) (get_or new j None) (judged.each j AlwaysEnds (ltb-true j (length xs) l)) q).0
      go false l =
          let high = ltb-false j (length xs) l in
          let beyond : length old ≤ j = omega (arith, high, count) in
          get_or-eq_default old None beyond

  -- what was noted before stays, and what is noted now shows, in a list where the earlier failures show still
  module _ (s : Script) (all others : List (List Event)) (keep : (y : Expectation) (g : Failure) → IsFailure s all y g → IsFailure s others y g)
      (show : (y : Expectation) → P y → IsFailure s others y f) where
    one_noted : (y : Expectation) (o n : Option Failure) → IsNoted s all y o → IsJudgedOne P f y o n → IsNoted s others y n
    one_noted y (Some g) (Some d) noted j = subst (λ (o : Option Failure). IsNoted s others y o) (sym j) (keep y g noted)
    one_noted y (Some g) None noted j = tt
    one_noted y None None noted j = tt
    one_noted y None (Some g) noted j = subst (IsFailure s others y) (sym j.0) (show y j.1)

    pub noted : AreNoted s all xs old → AreNoted s others xs new
    noted h = record {
      count = judged.count ∙ h.count;
      each = λ j d low. one_noted (get_or xs j d) (get_or old j None) (get_or new j None) (h.each j d low) (judged.each j d low);
    }
