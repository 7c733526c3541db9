use Rattle.nt_draw.proofs.Escapes.{text_plain}
use Rattle.nt_draw.proofs.laws.texts_hold_no_tags.Goals as goal

pub returns : goal.returns
returns c = text_plain
