use Rattle.std.proofs.Common.{◌∙◌, get_or}
use Rattle.nt_history.specs.Briefs.{values_of}
use Rattle.nt_work.proofs.Walks.{change_of_brief}
use Rattle.nt_work.proofs.change.change_at.Goals as goal

pub returns : goal.returns
returns c =
    let briefs = c.args.events.now.briefs.now in
    let rises = c.args.events.now.rises.now in
    let b = c.index-events-number.result in
    c.change_of.ensures (values_of rises (get_or briefs c.args.number b)) ∙ change_of_brief briefs rises c.args.number b c.requires
