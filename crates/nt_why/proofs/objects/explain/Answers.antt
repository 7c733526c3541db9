use Rattle.std.proofs.Common.{sym, ◌∙◌, ◌++◌, ◌∷◌, [], ◌≡◌}
use Rattle.std.specs.List.{All}
use Rattle.nt_why.specs.declared.reasons.Reason.TheVariants.{NeverInserted}
use Rattle.nt_why.specs.Moments.{AreAll, IsTold}
use Rattle.nt_why.proofs.Told.{never_all, on_ok, one_told}
use Rattle.nt_why.proofs.objects.explain.Goals as goal

pub returns-in-None-clause-told : goal.returns-in-None-clause-told
returns-in-None-clause-told c =
    let q = c.args.question.now in
    let rs = c.args.reasons.now.items in
    on_ok (c.add.new.items.items ≡ rs ++ NeverInserted ∷ []) (All (IsTold q) c.add.new.items.items) c.add.result
    (λ h. one_told (IsTold q) NeverInserted rs _ c.requires.none h (sym c.last_insert.ensures.value ∙ c.in-None.is)) c.add.ensures

pub returns-in-None-clause-all : goal.returns-in-None-clause-all
returns-in-None-clause-all c =
    let q = c.args.question.now in
    let rs = c.args.reasons.now.items in
    on_ok (c.add.new.items.items ≡ rs ++ NeverInserted ∷ []) (AreAll q c.add.new.items.items) c.add.result
    (λ h. never_all q rs _ c.requires.none h (sym c.last_insert.ensures.value ∙ c.in-None.is)) c.add.ensures
