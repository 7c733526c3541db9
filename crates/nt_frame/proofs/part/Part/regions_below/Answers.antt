use Rattle.nt_frame.proofs.Ended.{tail_sum}
use Rattle.nt_frame.proofs.part.Part.regions_below.Goals as goal

pub regions-requires-clause-crit : goal.regions-requires-clause-crit
regions-requires-clause-crit g c =
    rw (c.outer.ensures, c.as_slice.ensures.value, c.self.view_is) (tail_sum (λ f. f.crit) c.args.self.now c.requires.crit)

pub regions-requires-clause-guard : goal.regions-requires-clause-guard
regions-requires-clause-guard g c =
    rw (c.outer.ensures, c.as_slice.ensures.value, c.self.view_is) (tail_sum (λ f. f.guard) c.args.self.now c.requires.guard)
