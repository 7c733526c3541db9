use Rattle.std.proofs.Common.{List, ◌<◌, ◌≤◌, ap, sym, ◌∙◌, subst, arith}
use Rattle.nt_mark.specs.declared.view.Note.{Note}
use Rattle.nt_mark.specs.Views.{reach, step_word, first_notes}
use Rattle.nt_mark.specs.Rule.{IsAbove}
use Rattle.nt_mark.specs.Names.{keeper_view, keeper_notes}
use Rattle.nt_mark.proofs.Noting.{IsAbove-le}
use Rattle.test_top.proofs.mark.Lane.act.Goals as goal

pub noted-requires-clause-above : goal.noted-requires-clause-above
noted-requires-clause-above g c =
    let k = c.self.inside.keeper in
    let same = ap first_notes c.share.ensures.own.1.kept in
    let words = (c.share.ensures.words step_word).0 in
    let least = c.draw-n.ensures.least in
    let below : reach step_word (keeper_view k) ≤ c.draw-n.result = omega arith in
    subst (λ (l : List Note). IsAbove c.draw-n.result l) (sym same) (IsAbove-le _ _ (keeper_notes k) c.self.invariant.2 below)

pub invariant_of-self : goal.invariant_of-self
invariant_of-self g c =
    let knows = c.draw-n.ensures.knows in
    let words = c.noted.ensures.words step_word in
    let above : c.draw-n.result < reach step_word (keeper_view c.noted.new.keeper) = omega arith in
    (c.noted.ensures.table.0 ∙ c.requires.table.0, c.noted.ensures.table.2 ∙ (c.share.ensures.same.2 ∙ c.self.invariant.1), c.noted.ensures.last _ above)
