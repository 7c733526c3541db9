use Rattle.std.proofs.Common.{[], ap, arith, sym, ◌++◌, ◌<◌, ◌∷◌, ◌∙◌}
use Rattle.std.proofs.lemmas.List.{get_or_default, map-append, take_all, take_more}
use Rattle.std.specs.Prelude.{List, get_or, length, map, take, ℕ, ◌≡◌}
use Rattle.nt_expect.specs.declared.expectations.Expectation.{Expectation}
use Rattle.nt_expect.specs.declared.expectations.Expectation.TheVariants.{AlwaysEnds}
use Rattle.nt_findings.proofs.unknown.at_places.Goals as goal

pub bounds-expectations-place : goal.bounds-expectations-place
bounds-expectations-place c = c.requires c.loop-index.index 0 c.loop-index-test.true

pub loop-index-preserved : goal.loop-index-preserved
loop-index-preserved c =
    let xs = c.args.expectations.now in
    let places = c.args.places.now in
    let i = c.loop-index.index in
    let p = get_or places i 0 in
    let x = c.index-expectations-place.result in
    let low : p < length xs = c.requires i 0 c.loop-index-test.true in
    let here : x ≡ get_or xs p AlwaysEnds = c.index-expectations-place.is ∙ get_or_default xs p x AlwaysEnds low in
    c.in_ok-push.ensures.items
    ∙ ap (λ (zs : List Expectation). zs ++ x ∷ []) c.loop-index.invariant
    ∙ ap (λ (y : Expectation). map (λ j. get_or xs j AlwaysEnds) (take i places) ++ y ∷ []) here
    ∙ sym (map-append (λ j. get_or xs j AlwaysEnds) (take i places) (p ∷ []))
    ∙ ap (λ (js : List ℕ). map (λ j. get_or xs j AlwaysEnds) js) (sym (take_more places i 0 c.loop-index-test.true))

pub returns : goal.returns
returns c =
    let places = c.args.places.now in
    let test = c.loop-index-test.false in
    c.loop-index.invariant ∙ ap (λ (js : List ℕ). map (λ j. get_or c.args.expectations.now j AlwaysEnds) js)
    (take_all c.loop-index.index places (omega (arith, test)))
