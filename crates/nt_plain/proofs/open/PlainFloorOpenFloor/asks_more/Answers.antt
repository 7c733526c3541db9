use Rattle.nt_event.specs.Lists.{value_at}
use Rattle.nt_floor.proofs.Sums.{sum_below}
use Rattle.nt_plain.specs.States.{view_of}
use Rattle.nt_plain.proofs.open.PlainFloorOpenFloor.asks_more.Goals as goal

pub returns : goal.returns
returns c =
    rw (c.sum.ensures, c.sum_of_words.ensures) (sum_below (value_at c.args.seen.now) ((view_of c.args.self.now).value c.args.p) c.requires.within)
