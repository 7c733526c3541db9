use Rattle.std.proofs.Common.{[], ap, refl, subst, sym, ◌++◌, ◌∙◌, ◌∷◌}
use Rattle.std.specs.Prelude.{List}
use Rattle.nt_search.specs.declared.states.Way.{Way}
use Rattle.nt_search.specs.declared.ways.Step.{Step}
use Rattle.nt_search.specs.Steps.{AreIn, ways_in}
use Rattle.nt_search.proofs.Stepping.{are_on, are_pushed, err_too, ways_on, ways_pushed}
use Rattle.nt_search.proofs.ways.Ways.push.Goals as goal

pub invariant_of-self : goal.invariant_of-self
invariant_of-self c =
    are_on c.self.inside.looks.items c.move_of.new.looks.items c.in_err-by.ensures.more c.self.inside.steps.items c.self.invariant

pub returns-in_err-by-clause-err : goal.returns-in_err-by-clause-err
returns-in_err-by-clause-err c =
    err_too c.from_residual.result
    (ways_on c.self.inside.looks.items c.move_of.new.looks.items c.in_err-by.ensures.more c.self.inside.steps.items c.self.invariant ∙ c.self.view_is)

pub invariant_of-self-in_err-push : goal.invariant_of-self-in_err-push
invariant_of-self-in_err-push c =
    subst (AreIn c.move_of.new.looks.items) (sym c.in_err-push.ensures.items)
    (are_on c.self.inside.looks.items c.move_of.new.looks.items c.in_ok-by.ensures.more c.self.inside.steps.items c.self.invariant)

pub returns-in_err-push-clause-err : goal.returns-in_err-push-clause-err
returns-in_err-push-clause-err c =
    err_too c.from_residual-in_err-push.result
    (ap (ways_in c.move_of.new.looks.items) c.in_err-push.ensures.items
    ∙ ways_on c.self.inside.looks.items c.move_of.new.looks.items c.in_ok-by.ensures.more c.self.inside.steps.items c.self.invariant
    ∙ c.self.view_is)

pub invariant_of-self-2 : goal.invariant_of-self-2
invariant_of-self-2 c =
    let step : Step = record { from = c.args.way.from; by = c.in_ok-by.by } in
    subst (AreIn c.move_of.new.looks.items) (sym c.in_ok-push.ensures.items)
    (are_pushed c.self.inside.looks.items c.move_of.new.looks.items c.in_ok-by.ensures.more c.self.inside.steps.items step c.self.invariant
    c.in_ok-by.ensures.by.0)

pub returns-clause-ok : goal.returns-clause-ok
returns-clause-ok c =
    let step : Step = record { from = c.args.way.from; by = c.in_ok-by.by } in
    ap (ways_in c.move_of.new.looks.items) c.in_ok-push.ensures.items
    ∙ ways_pushed c.self.inside.looks.items c.move_of.new.looks.items c.in_ok-by.ensures.more c.self.inside.steps.items step c.args.way c.self.invariant refl
    c.in_ok-by.ensures.by.1
    ∙ ap (λ (ws : List Way). ws ++ c.args.way ∷ []) c.self.view_is
