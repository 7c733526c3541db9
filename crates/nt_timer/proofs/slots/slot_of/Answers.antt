use Rattle.nt_timer.proofs.Places.{slot_digits}
use Rattle.nt_timer.proofs.slots.slot_of.Goals as goal

pub returns : goal.returns
returns c = rw c.slot_index-index.ensures.value (slot_digits c.args.now c.args.due c.requires c.ranges.due.fits)
