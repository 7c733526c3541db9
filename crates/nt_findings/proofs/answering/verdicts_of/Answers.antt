use Rattle.std.proofs.Common.{[], arith, subst, sym, ◌∷◌, ◌∙◌}
use Rattle.std.proofs.lemmas.List.{get_or_default, length-append}
use Rattle.std.specs.Prelude.{List, length, not, ◌+◌, ◌≡◌}
use Rattle.nt_ask.specs.declared.answer.Verdict.{Verdict}
use Rattle.nt_expect.specs.declared.expectations.Expectation.{Expectation}
use Rattle.nt_findings.specs.Verdicts.{IsSaid}
use Rattle.nt_findings.proofs.Saying.{AreSaidTo, one_more, told}
use Rattle.nt_findings.proofs.answering.verdicts_of.Goals as goal

pub loop-place-preserved : goal.loop-place-preserved
loop-place-preserved c =
    let xs = c.args.expectations.now in
    let fails = c.args.fails.now in
    let whole = c.args.whole in
    let i = c.loop-place.place in
    let x = c.index-expectations-place.result in
    let vs = c.loop-place.verdicts.items in
    let said = c.verdict_of-verdict.result in
    let h = c.loop-place.invariant in
    let low = c.loop-place-test.true in
    let e = c.in_ok-push.ensures.items in
    record {
      count = let size = length-append vs (said ∷ []) in let was = h.count in
          subst (λ (ws : List Verdict). length ws ≡ i + 1) (sym e) (omega (arith, size, was));
      each = λ s all ends.
          let one = c.verdict_of-verdict.ensures s (told s whole xs fails i x low c.index-expectations-place.is all) ends in
          subst (λ (ws : List Verdict). AreSaidTo s (not whole) xs ws (i + 1)) (sym e)
          (one_more s (not whole) xs vs i said h.count (h.each s all ends)
          (λ d. subst (λ (y : Expectation). IsSaid s (not whole) y said) (c.index-expectations-place.is ∙ get_or_default xs i x d low) one));
    }

pub returns : goal.returns
returns c s all ends =
    let h = c.loop-place.invariant in
    let count = h.count in
    let test = c.loop-place-test.false in
    let end = c.loop-place.auto.place-end in
    record {
      count = omega (arith, count, test, end);
      each = λ j d v low. h.each s all ends j d v (omega (arith, low, test));
    }
