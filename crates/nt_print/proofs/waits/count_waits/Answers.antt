use Rattle.std.proofs.Common.{◌≡◌, ◌≤◌, ◌<◌, ◌+◌, ◌∙◌, List, ap, arith, length, refl, sym, ℕ, Bool}
use Rattle.std.specs.Prelude.{if◌then◌else◌}
use Rattle.nt_event.specs.declared.events.Event.{Event}
use Rattle.nt_history.proofs.Lists.{as_many}
use Rattle.nt_print.specs.Lent.{lent}
use Rattle.nt_print.specs.Uses.{thing_of}
use Rattle.nt_print.proofs.Lent.{inserted_fits}
use Rattle.nt_print.proofs.Passed.{AllFit, count_passed}
use Rattle.nt_print.proofs.WaitRows.{waits_before, waits_counted}
use Rattle.nt_print.proofs.waits.count_waits.Goals as goal
use Rattle.nt_print.proofs.waits.count_waits.Goals.{then-is_some, else-is_some}

pub loop-number-init : goal.loop-number-init
loop-number-init c =
    let briefs = c.args.events.now.briefs.now in
    let rises = c.args.events.now.rises.now in
    let script = c.args.script.now in
    let events : List Event = lent c.args.events.now in
    let fits : AllFit script events = λ n lt. inserted_fits script briefs rises n (omega (arith, lt, as_many briefs rises)) c.requires.fit in
    let place = c.pass_clear-number.ensures.place in
    let within : c.pass_clear-number.result ≤ length events = omega (arith, place.1, c.requires.tally.places.unnamed) in
    record {
      counted = count_passed script events c.args.tally.now 0 _ 0 c.requires.tally fits c.pass_clear-number.ensures.clear place.0 within refl;
      few = place.0;
      within = within;
    }

pub loop-number-preserved : goal.loop-number-preserved
loop-number-preserved c =
    let briefs = c.args.events.now.briefs.now in
    let rises = c.args.events.now.rises.now in
    let script = c.args.script.now in
    let events : List Event = lent c.args.events.now in
    let fits : AllFit script events = λ n lt. inserted_fits script briefs rises n (omega (arith, lt, as_many briefs rises)) c.requires.fit in
    let k : ℕ = c.loop-number.number in
    let before : ℕ = c.loop-number.count in
    let lt : k < length events = omega (arith, c.loop-number-test.true, as_many briefs rises) in
    let next = c.pass_clear-number-in-loop-number in
    let within : next.result ≤ length events = omega (arith, next.ensures.place.1, c.requires.tally.places.unnamed) in
    let counted = λ (b : Bool). if b then before + 1 else before in
    let here = waits_counted thing_of events k before c.waiting.result lt c.loop-number.invariant.counted c.waiting.ensures.waits in
    let now : c.if-is_some.count ≡ waits_before events (k + 1) =
    elim c.if-is_some.branch [
      | then-is_some w ↦ w.count-is ∙ ap counted (sym w.if-is_some.true ∙ c.is_some.ensures) ∙ here
      | else-is_some w ↦ w.count-is ∙ ap counted (sym w.if-is_some.false ∙ c.is_some.ensures) ∙ here
    ] in
    let few : c.if-is_some.count ≤ k + 1 =
    elim c.if-is_some.branch [
      | then-is_some w ↦ omega (arith, c.loop-number.invariant.few, w.count-is)
      | else-is_some w ↦ omega (arith, c.loop-number.invariant.few, w.count-is)
    ] in
    record {
      counted = count_passed script events c.args.tally.now (k + 1) _ _ c.requires.tally fits next.ensures.clear next.ensures.place.0 within now;
      few = omega (arith, few, next.ensures.place.0);
      within = within;
    }
