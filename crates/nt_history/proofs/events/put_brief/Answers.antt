use Rattle.std.proofs.Common.{List, [], ap, arith, length, slice_set, ℕ, ◌∙◌, ◌++◌, ◌∷◌, ◌≡◌}
use Rattle.nt_history.specs.declared.brief.Brief.{Brief}
use Rattle.nt_history.proofs.Lists.{written_last}
use Rattle.nt_history.proofs.events.put_brief.Goals as goal

pub returns-clause-items : goal.returns-clause-items
returns-clause-items c =
    let bs = c.args.briefs.now.items in
    let e : c.len-last.result ≡ length bs = let h = c.args.briefs.now.ok.0 in let k = c.len-last.ensures in omega (arith, h, k) in
    ap (λ (xs : List Brief). slice_set xs c.len-last.result c.write.new.self) c.push_reserved.ensures.items
    ∙ ap (λ (n : ℕ). slice_set (bs ++ _ ∷ []) n c.write.new.self) e
    ∙ written_last bs _ c.write.new.self
    ∙ ap (λ (b : Brief). bs ++ b ∷ []) c.write.ensures
