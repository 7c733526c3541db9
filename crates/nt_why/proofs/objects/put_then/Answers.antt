use Rattle.std.proofs.Common.{ap, length, subst, sym, ◌∙◌, ◌++◌, ◌∷◌, [], ◌≡◌}
use Rattle.std.proofs.lemmas.List.Elements.{All-push}
use Rattle.std.specs.List.{All, list_any}
use Rattle.std.specs.Prelude.{List, refl}
use Rattle.nt_history.proofs.Lists.{as_many}
use Rattle.nt_why.specs.declared.reasons.Reason.{Reason}
use Rattle.nt_why.specs.declared.reasons.Reason.TheVariants.{Then}
use Rattle.nt_why.specs.Moments.{IsTold}
use Rattle.nt_why.specs.Says.{holds_back}
use Rattle.nt_why.proofs.Told.{any_same, on_ok, then_told}
use Rattle.nt_why.proofs.objects.put_then.Goals as goal

pub returns-clause-told : goal.returns-clause-told
returns-clause-told c =
    let q = c.args.question.now in
    let rs = c.args.reasons.now.items in
    let f = c.fate_of-fate.result in
    let many = as_many q.events.briefs.now q.events.rises.now in
    let truth = then_told q c.args.at (length q.events.briefs.now) f c.requires.at (sym many) c.fate_of-fate.ensures in
    on_ok (c.add.new.items.items ≡ rs ++ Then f ∷ []) (All (IsTold q) c.add.new.items.items) c.add.result
    (λ h. subst (λ (xs : List Reason). All (IsTold q) xs) (sym h) (All-push (IsTold q) rs (Then f) c.requires.told truth)) c.add.ensures

pub returns-clause-same : goal.returns-clause-same
returns-clause-same c =
    let rs = c.args.reasons.now.items in
    let f = c.fate_of-fate.result in
    on_ok (c.add.new.items.items ≡ rs ++ Then f ∷ []) (list_any holds_back c.add.new.items.items ≡ list_any holds_back rs) c.add.result
    (λ h. ap (list_any holds_back) h ∙ any_same rs (Then f) refl) c.add.ensures
