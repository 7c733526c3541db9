use Rattle.std.proofs.Common.{ap, sym, ◌∙◌, ◌+◌}
use Rattle.nt_mark.specs.Views.{reach, request_word}
use Rattle.nt_mark.specs.Names.{pass_view}
use Rattle.nt_mark.proofs.Reach.{one_this, one_other}
use Rattle.nt_mark.proofs.marks.Marks.mark.Goals as goal

pub returns-clause-knows : goal.returns-clause-knows
returns-clause-knows c =
    let w = request_word c.args.p c.args.class in
    ap (reach w) c.mark_as.ensures.tells.1 ∙ one_this w (c.args.n + 1) (pass_view c.args.pass.now).reached

pub returns-clause-others : goal.returns-clause-others
returns-clause-others c = λ u ne. ap (reach u) c.mark_as.ensures.tells.1
    ∙ one_other u (request_word c.args.p c.args.class) (c.args.n + 1) (pass_view c.args.pass.now).reached (λ e. ne (sym e))
