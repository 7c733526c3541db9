use Rattle.std.specs.Prelude.{◌∷◌}
use Rattle.nt_shows.proofs.Together.{together_tells}
use Rattle.nt_shows.proofs.showing.shows_at.Goals as goal

pub returns-in-NeverWith : goal.returns-in-NeverWith
returns-in-NeverWith c =
    rw c.in-NeverWith.is
    (λ s past came after.
    together_tells
    s (c.args.event.now ∷ past) c.args.cpus.now c.in-NeverWith.one c.in-NeverWith.other c.stand_together.result c.stand_together.ensures after)
