use Rattle.std.proofs.Common.{◌∙◌}
use Rattle.nt_shade_dpcs.specs.Keys.{unset}
use Rattle.nt_shade_dpcs.proofs.KeyPlaces.{insert_is}
use Rattle.nt_shade_dpcs.proofs.timers.ShadeTimers.set.Goals as goal

pub returns-clause-keys : goal.returns-clause-keys
returns-clause-keys c =
    c.in_ok-insert.ensures.items
    ∙ rw (c.place_for-place.ensures.place, c.as_slice.ensures.value, c.unset.ensures.keys)
    (insert_is c.args.set (unset c.args.set.key c.args.self.now.keys.items))
