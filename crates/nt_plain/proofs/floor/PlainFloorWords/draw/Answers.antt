use Rattle.nt_plain.proofs.Viewed.{is_drawn}
use Rattle.nt_plain.proofs.floor.PlainFloorWords.draw.Goals as goal

pub returns-clause-drawn : goal.returns-clause-drawn
returns-clause-drawn c =
    is_drawn c.args.self.now c.draw_number.new.self c.args.event.now c.draw_number.result c.kept.ensures c.requires c.draw_number.ensures.number
    c.draw_number.ensures.state
