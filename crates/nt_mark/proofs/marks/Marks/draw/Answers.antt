use Rattle.std.proofs.Common.{ap, sym, ◌∙◌, ◌+◌, [], ◌∷◌, arith}
use Rattle.std.proofs.lemmas.List.{map-append}
use Rattle.nt_mark.specs.declared.view.Entry.{Entry}
use Rattle.nt_mark.specs.declared.view.View.{View}
use Rattle.nt_mark.specs.Views.{reach, step_word, entry, entry_numbers}
use Rattle.nt_mark.specs.Names.{pass_view}
use Rattle.nt_mark.proofs.Reach.{one_this, one_other}
use Rattle.nt_mark.proofs.marks.Marks.draw.Goals as goal

pub returns-clause-numbers : goal.returns-clause-numbers
returns-clause-numbers c =
    let v = pass_view c.args.pass.now in
    ap (λ (u : View). entry_numbers u.entries) c.draw_as.ensures.tells.1
    ∙ map-append (λ (e : Entry). e.number) v.entries (entry c.draw_as.result c.args.event.now c.args.lanes.now ∷ [])

pub returns-clause-knows : goal.returns-clause-knows
returns-clause-knows c =
    let t = c.draw_as.ensures.tells in
    let least = t.2 in
    let known = ap (reach step_word) t.1 ∙ one_this step_word (c.draw_as.result + 1) (pass_view c.args.pass.now).reached in
    omega arith

pub returns-clause-others : goal.returns-clause-others
returns-clause-others c = λ w ne. ap (reach w) c.draw_as.ensures.tells.1
    ∙ one_other w step_word (c.draw_as.result + 1) (pass_view c.args.pass.now).reached (λ e. ne (sym e))
