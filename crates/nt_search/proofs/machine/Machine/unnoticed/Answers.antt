use Rattle.std.proofs.Common.{subst}
use Rattle.nt_event.specs.declared.scripts.Script.{Script}
use Rattle.nt_shade_asks.specs.Follows.{IsAsked}
use Rattle.nt_search.proofs.machine.Machine.unnoticed.Goals as goal

pub returns-clause-asked : goal.returns-clause-asked
returns-clause-asked c s limit watched past h =
    subst (λ (z : Script). IsAsked z past c.in_ok-unnoticed.unnoticed) h.of (c.in_ok-unnoticed.ensures.asked past h.after)
