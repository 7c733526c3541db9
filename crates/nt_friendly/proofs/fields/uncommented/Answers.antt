use Rattle.std.proofs.Common.{sym, ◌∙◌}
use Rattle.nt_friendly.proofs.Cuts.{comment_found, comment_missed}
use Rattle.nt_friendly.proofs.fields.uncommented.Goals as goal

pub returns-in-Some : goal.returns-in-Some
returns-in-Some c = comment_found _ _ (sym c.comment_place.ensures ∙ c.in-Some.is)

pub returns-in-None : goal.returns-in-None
returns-in-None c = comment_missed _ (sym c.comment_place.ensures ∙ c.in-None.is)
