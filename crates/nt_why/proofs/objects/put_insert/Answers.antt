use Rattle.std.proofs.Common.{ap, ◌∙◌, ◌++◌, ◌∷◌, []}
use Rattle.std.specs.List.{list_any}
use Rattle.std.specs.Prelude.{List}
use Rattle.nt_why.specs.declared.reasons.Reason.{Reason}
use Rattle.nt_why.specs.declared.reasons.Reason.TheVariants.{Waits}
use Rattle.nt_why.specs.Moments.{IsTold}
use Rattle.nt_why.specs.Says.{holds_back}
use Rattle.nt_why.proofs.Told.{one_told, waits_told}
use Rattle.nt_why.proofs.objects.put_insert.Goals as goal

pub returns-clause-told : goal.returns-clause-told
returns-clause-told c =
    let q = c.args.question.now in
    let i = c.insert_of-insert.result in
    let e = c.insert_of-insert.ensures in
    one_told (IsTold q) (Waits i) c.args.reasons.now.items c.add.new.items.items c.requires.none c.in_ok-add.ensures
    (waits_told q c.args.at i c.requires.at c.requires.waits e.at e.cpu e.by e.sort)

pub returns-clause-none : goal.returns-clause-none
returns-clause-none c =
    let i = c.insert_of-insert.result in
    ap (list_any holds_back) (c.in_ok-add.ensures ∙ ap (λ (xs : List Reason). xs ++ Waits i ∷ []) c.requires.none)
