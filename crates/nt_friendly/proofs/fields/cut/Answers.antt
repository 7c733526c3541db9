use Rattle.std.proofs.Common.{sym, ◌∙◌}
use Rattle.std.proofs.lemmas.List.{take_rest}
use Rattle.nt_friendly.proofs.Cuts.{blank_found, blank_missed}
use Rattle.nt_friendly.proofs.fields.cut.Goals as goal

pub returns-in-Some : goal.returns-in-Some
returns-in-Some c = simp take_rest (blank_found _ _ (sym c.blank_place.ensures ∙ c.in-Some.is))

pub returns-in-None : goal.returns-in-None
returns-in-None c = blank_missed _ (sym c.blank_place.ensures ∙ c.in-None.is)
