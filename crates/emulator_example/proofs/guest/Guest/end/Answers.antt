use Rattle.emulator_example.proofs.guest.Guest.end.Goals as goal

pub invariant_of-self : goal.invariant_of-self
invariant_of-self c = (c.finish.ensures.named c.self.inside.next c.self.invariant.0, c.self.invariant.1, c.self.invariant.2)
