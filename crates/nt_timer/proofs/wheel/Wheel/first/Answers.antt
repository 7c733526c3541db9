use Rattle.nt_timer.proofs.FirstKeys.{first_is}
use Rattle.nt_timer.proofs.wheel.Wheel.first.Goals as goal

pub returns : goal.returns
returns c =
    rw (c.copied.ensures, c.first.ensures.value, c.deref.ensures.value, ← c.self.view_is)
    (first_is c.self.inside.lowest c.self.inside.now c.self.inside.settings.items c.self.inside.rings c.self.inside.due.items c.self.invariant.4)
