use Rattle.std.proofs.Common.{[], ap, append-nil, append_assoc, arith, sym, ◌++◌, ◌∷◌, ◌∙◌}
use Rattle.std.proofs.lemmas.List.{map-append, take_all, take_more}
use Rattle.std.specs.Prelude.{List, get_or, map, take}
use Rattle.nt_expect.specs.declared.expectations.Expectation.{Expectation}
use Rattle.nt_expect.specs.declared.expectations.Expectation.TheVariants.{Never}
use Rattle.nt_findings.specs.declared.spoken.Spoken.{Spoken}
use Rattle.nt_findings.proofs.spoken.put_events.Goals as goal

pub loop-index-init : goal.loop-index-init
loop-index-init c = sym (append-nil c.args.all.now.items)

pub loop-index-preserved : goal.loop-index-preserved
loop-index-preserved c =
    let old = c.args.all.now.items in
    let ys = c.args.spoken.now in
    let i = c.loop-index.index in
    let r = c.index-spoken-index.result in
    let y = get_or ys i r in
    c.in_ok-push.ensures.items
    ∙ ap (λ (zs : List Expectation). zs ++ Never y.event ∷ []) c.loop-index.invariant
    ∙ append_assoc old (map (λ (z : Spoken). Never z.event) (take i ys)) (Never y.event ∷ [])
    ∙ ap (λ (zs : List Expectation). old ++ zs) (sym (map-append (λ (z : Spoken). Never z.event) (take i ys) (y ∷ [])))
    ∙ ap (λ (zs : List Spoken). old ++ map (λ (z : Spoken). Never z.event) zs) (sym (take_more ys i r c.loop-index-test.true))

pub returns : goal.returns
returns c =
    let ys = c.args.spoken.now in
    let test = c.loop-index-test.false in
    c.loop-index.invariant
    ∙ ap (λ (zs : List Spoken). c.args.all.now.items ++ map (λ (z : Spoken). Never z.event) zs) (take_all c.loop-index.index ys (omega (arith, test)))
