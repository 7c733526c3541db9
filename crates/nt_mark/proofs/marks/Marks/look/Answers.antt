use Rattle.std.proofs.Common.{ap, sym, ◌∙◌, arith}
use Rattle.nt_mark.specs.Views.{reach, request_word, step_word}
use Rattle.nt_mark.specs.Names.{pass_view}
use Rattle.nt_mark.proofs.Reach.{two_first, two_second, two_other}
use Rattle.nt_mark.proofs.marks.Marks.look.Goals as goal

pub returns-clause-knows : goal.returns-clause-knows
returns-clause-knows c =
    let w = request_word c.args.p c.args.class in
    let t = c.look_as.ensures.tells in
    let known = ap (reach w) t.1 ∙ two_first w step_word c.look_as.result (pass_view c.args.pass.now).reached (λ e. omega arith) in
    let least = t.2 in
    omega arith

pub returns-clause-step : goal.returns-clause-step
returns-clause-step c = ap (reach step_word) c.look_as.ensures.tells.1
    ∙ two_second step_word (request_word c.args.p c.args.class) c.look_as.result (pass_view c.args.pass.now).reached (λ e. omega arith)

pub returns-clause-others : goal.returns-clause-others
returns-clause-others c =
    λ u ne ne_step. ap (reach u) c.look_as.ensures.tells.1
    ∙ two_other u (request_word c.args.p c.args.class) step_word c.look_as.result (pass_view c.args.pass.now).reached (λ e. ne (sym e))
    (λ e. ne_step (sym e))
