use Rattle.std.proofs.Common.{ap, ◌∙◌}
use Rattle.nt_shrink.specs.Goals.{delivers}
use Rattle.nt_shrink.proofs.Meeting.{met}
use Rattle.nt_shrink.proofs.goals.delivers.Goals as goal

pub returns : goal.returns
returns c =
    c.is_met.ensures
    ∙ (met c.args.goal c.lend.result.briefs.now c.lend.result.rises.now ∙ ap (delivers c.args.goal) c.lend.ensures.events)
