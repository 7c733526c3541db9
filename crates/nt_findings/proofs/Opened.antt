-- What searches tell of the expectations of which nothing was known.
use Rattle.std.proofs.Common.{ap, arith, subst, sym, ◌∙◌}
use Rattle.std.specs.Prelude.{All, Bool, List, None, Option, Some, get_or, length, true, ℕ, ◌<◌, ◌≡◌}
use Rattle.nt_expect.specs.declared.expectations.Expectation.{Expectation}
use Rattle.nt_expect.specs.declared.expectations.Expectation.TheVariants.{AlwaysEnds}
use Rattle.nt_expect.specs.Expectations.{expectations_fit}
use Rattle.nt_search.specs.declared.failures.Failure.{Failure}
use Rattle.nt_search.specs.Failures.{EachUnnoted, FailsAt}
use Rattle.nt_verdict.specs.Fails.{Fails}
use Rattle.nt_findings.specs.declared.question.Open.{Open}
use Rattle.nt_findings.specs.declared.question.Question.{Question}
use Rattle.nt_findings.specs.Known.{AreKnown, AreNotedAt, AreUnknown, HoldTheOthers, at_places}
use Rattle.nt_findings.specs.Questions.{AreOpen}
use Rattle.nt_findings.proofs.Fitting.{places_fit}
use Rattle.nt_findings.proofs.Knowing.{hold_on, known_on}

-- they fit
pub open_fit : (q : Question) (given : List (Option ℕ)) (o : Open) (es : List Expectation) → AreOpen q given o →
    length given ≡ length q.expectations.now → expectations_fit q.script.now q.expectations.now ≡ true → es ≡ o.expectations.items →
    expectations_fit q.script.now es ≡ true
open_fit q given o es are count fit e =
    subst (λ (xs : List Expectation). expectations_fit q.script.now xs ≡ true) (sym (e ∙ are.are))
    (places_fit q.script.now q.expectations.now o.places.items fit (λ k d low. let l = are.unknown.low k d low in omega (arith, l, count)))

-- their places are below the number of all
pub open_low : (q : Question) (given old : List (Option ℕ)) (o : Open) (places : List ℕ) → AreOpen q given o → given ≡ old →
    places ≡ o.places.items → All (λ j. j < length old) places
open_low q given old o places are given_is places_is =
    subst (λ (ps : List ℕ). All (λ j. j < length old) ps) (sym places_is)
    (subst (λ (fs : List (Option ℕ)). All (λ j. j < length fs) o.places.items) given_is are.unknown.low)

module _ (q : Question) (given old new : List (Option ℕ)) (o : Open) (es : List Expectation) (places : List ℕ) (fs failures : List (Option Failure))
    (known : AreKnown q.script.now q.expectations.now old) (are : AreOpen q given o) (given_is : given ≡ old) (es_is : es ≡ o.expectations.items)
    (places_is : places ≡ o.places.items) (fs_is : fs ≡ failures) (noted : AreNotedAt places fs old new) where
  there : es ≡ at_places q.expectations.now places
  there = es_is ∙ are.are ∙ ap (at_places q.expectations.now) (sym places_is)

  unknown : AreUnknown old places
  unknown = subst (λ (ps : List ℕ). AreUnknown old ps) (sym places_is) (subst (λ (g : List (Option ℕ)). AreUnknown g o.places.items) given_is are.unknown)

  noted_in : AreNotedAt places failures old new
  noted_in = subst (λ (gs : List (Option Failure)). AreNotedAt places gs old new) fs_is noted

  -- where their failures are noted, what is known is so
  pub open_known : ((j : ℕ) (d : Expectation) (f : Failure) → j < length es → get_or failures j None ≡ Some f → FailsAt q.script.now (get_or es j d) f.at) →
      AreKnown q.script.now q.expectations.now new
  open_known fails =
      known_on q.script.now q.expectations.now places failures old new known unknown noted_in
      (subst (λ (xs : List Expectation). (j : ℕ) (d : Expectation) (f : Failure) → j < length xs → get_or failures j None ≡ Some f →
      FailsAt q.script.now (get_or xs j d) f.at) there fails)

  -- and where all states were searched for them, the others hold
  pub open_hold : (whole : Bool) →
      (whole ≡ true → EachUnnoted (λ e. (e ≡ AlwaysEnds → ⊥) → Fails q.script.now e → ⊥) es failures) →
      HoldTheOthers q.script.now whole q.expectations.now new
  open_hold whole holds =
      hold_on q.script.now whole q.expectations.now places failures old new known.count unknown noted_in
      (λ w. subst (λ (xs : List Expectation). EachUnnoted (λ e. (e ≡ AlwaysEnds → ⊥) → Fails q.script.now e → ⊥) xs failures) there (holds w))
