use Rattle.std.proofs.Common.{ap, subst, sym, ◌∙◌}
use Rattle.std.specs.Prelude.{List, filter, map, ◌++◌}
use Rattle.nt_event.specs.declared.events.Rises.{Rises}
use Rattle.nt_event.specs.declared.events.Turn.{Turn}
use Rattle.nt_event.specs.declared.events.Turn.TheVariants.{Look}
use Rattle.nt_ahead.specs.Choices.{finds}
use Rattle.nt_ahead.specs.Turns.{HasAllOf}
use Rattle.nt_ahead.proofs.Listed.{listed_all, plain}
use Rattle.nt_ahead.proofs.turns.add_turns.Goals as goal

pub returns-clause-all : goal.returns-clause-all
returns-clause-all c = λ past asked.
    let s = c.args.script.now in
    let p = c.args.cpu in
    let is =
    c.in_ok-add_looks.ensures
    ∙ ap (λ (turns : List Turn). turns ++ map (λ (r : Rises). Look p r) (filter finds c.as_slice.result.now)) c.in_ok-add_plain.ensures
    ∙ ap (λ (found : List Rises). (c.args.turns.now.items ++ plain s p) ++ map (λ (r : Rises). Look p r) (filter finds found)) c.as_slice.ensures.value in
    subst (HasAllOf s past p) (sym is)
    (listed_all s past c.args.turns.now.items c.in_ok-finds.finds.items p (c.in_ok-finds.ensures s past c.requires.of asked c.requires.cpu))
