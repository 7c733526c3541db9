use Rattle.std.proofs.Common.{ap, arith, subst, sym, ◌≡◌, ◌∙◌}
use Rattle.std.proofs.lemmas.List.Elements.{Contains-push}
use Rattle.std.specs.List.{flat_map}
use Rattle.std.specs.Prelude.{Contains, List, replicate, ℕ}
use Rattle.nt_event.specs.declared.events.Rises.{Rises}
use Rattle.nt_ahead.specs.Choices.{with_values}
use Rattle.nt_ahead.proofs.Chosen.{HasChosen, chosen_first, chosen_more, chosen_whole}
use Rattle.nt_ahead.proofs.choices.finds_ahead.Goals as goal

pub loop-class-init : goal.loop-class-init
loop-class-init c = λ s past of asked has.
    let nothing : Rises = record { value = replicate 16 0 } in
    chosen_first s past c.args.cpu _ (subst (λ (finds : List Rises). Contains finds nothing) (sym c.in_ok-push.ensures.items) (Contains-push _ nothing))

pub loop-class-preserved : goal.loop-class-preserved
loop-class-preserved c = λ s past of asked has.
    chosen_more s past c.args.cpu c.loop-class.class c.ahead.result.now c.loop-class.finds.items _ c.loop-class-test.true (c.ahead.ensures s past of asked has)
    (c.in_ok-finds.ensures ∙ ap (flat_map (with_values c.loop-class.class c.ahead.result.now)) c.as_slice.ensures.value)
    (c.loop-class.invariant s past of asked has)

pub returns : goal.returns
returns c = λ s past of asked has.
    let whole : c.loop-class.class ≡ 16 = omega arith in
    chosen_whole s past c.args.cpu _
    (subst (λ (k : ℕ). HasChosen s past c.args.cpu k c.loop-class.finds.items) whole (c.loop-class.invariant s past of asked has))
