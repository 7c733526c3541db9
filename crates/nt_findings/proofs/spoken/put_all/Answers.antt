use Rattle.std.proofs.Common.{[], ap, append-nil, append_assoc, arith, sym, ◌++◌, ◌∷◌, ◌∙◌}
use Rattle.std.proofs.lemmas.List.{take_all, take_more}
use Rattle.std.specs.Prelude.{List, take}
use Rattle.nt_expect.specs.declared.expectations.Expectation.{Expectation}
use Rattle.nt_findings.proofs.spoken.put_all.Goals as goal

pub loop-index-init : goal.loop-index-init
loop-index-init c = sym (append-nil c.args.all.now.items)

pub loop-index-preserved : goal.loop-index-preserved
loop-index-preserved c =
    let old = c.args.all.now.items in
    let xs = c.args.expectations.now in
    let i = c.loop-index.index in
    let x = c.index-expectations-index.result in
    c.in_ok-push.ensures.items
    ∙ ap (λ (zs : List Expectation). zs ++ x ∷ []) c.loop-index.invariant
    ∙ append_assoc old (take i xs) (x ∷ [])
    ∙ ap (λ (z : Expectation). old ++ (take i xs ++ z ∷ [])) c.index-expectations-index.is
    ∙ ap (λ (zs : List Expectation). old ++ zs) (sym (take_more xs i x c.loop-index-test.true))

pub returns : goal.returns
returns c =
    let test = c.loop-index-test.false in
    c.loop-index.invariant
    ∙ ap (λ (zs : List Expectation). c.args.all.now.items ++ zs) (take_all c.loop-index.index c.args.expectations.now (omega (arith, test)))
