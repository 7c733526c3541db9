use Rattle.nt_shade_asks.specs.Follows.{IsOf}
use Rattle.nt_search.proofs.Machines.{of_script}
use Rattle.nt_search.proofs.plan.Plan.turn_to.Goals as goal

pub turns_ahead-requires-clause-of : goal.turns_ahead-requires-clause-of
turns_ahead-requires-clause-of c =
    let x = c.args.self.now in
    let u = c.in_ok-unnoticed.unnoticed in
    of_script x.script.now x.limit x.watched.items c.requires.after.0 c.args.machine.now (λ s. IsOf s u) c.requires.after.1.stands c.in_ok-unnoticed.ensures.of
