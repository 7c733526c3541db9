use Rattle.std.proofs.Common.{ap, subst, sym, ◌∙◌, ◌≡◌}
use Rattle.std.specs.Prelude.{None, refl}
use Rattle.nt_event.specs.Robin.{robin}
use Rattle.nt_core.specs.States.{CoreState}
use Rattle.nt_core.proofs.Ending.{ended_settled}
use Rattle.nt_core.proofs.machine.Core.go_on_to_the_end.Goals as goal

pub returns-clause-settled : goal.returns-clause-settled
returns-clause-settled c =
    let none = c.go_on.ensures.none c.loop-event-test.false in
    let at_end = subst (λ (x : CoreState). robin x.script x.limit x.past ≡ None) (sym none.1) none.0 in
    ended_settled _ _ _ _ _ None (ap (λ (x : CoreState). x.script) none.1 ∙ c.loop-event.invariant.script)
    (ap (λ (x : CoreState). x.limit) none.1 ∙ c.loop-event.invariant.limit) c.is_run-2.ensures.run (sym at_end) refl
