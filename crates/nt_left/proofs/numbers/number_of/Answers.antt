use Rattle.std.proofs.Common.{arith, ap, sym, ◌∙◌, ◌≤◌}
use Rattle.std.specs.Prelude.{List, Option, length, ℕ}
use Rattle.nt_event.specs.declared.events.Event.{Event}
use Rattle.nt_history.proofs.Lists.{as_many}
use Rattle.nt_left.specs.Walks.{lent, number_after, number_of, past_at}
use Rattle.nt_left.proofs.Moves.{number_moves}
use Rattle.nt_left.proofs.Pasts.{past_length, past_more}
use Rattle.nt_left.proofs.numbers.number_of.Goals as goal

pub loop-number-preserved : goal.loop-number-preserved
loop-number-preserved c =
    let events : List Event = lent c.args.events.now in
    let k : ℕ = c.loop-number.number in
    let many = as_many c.args.events.now.briefs.now c.args.events.now.rises.now in
    let low : k ≤ length events = omega (arith, c.loop-number-test.true, many) in
    let e : Event = c.event-event.result in
    let past : List Event = past_at k events in
    c.number_after-found.ensures
    ∙ (ap (λ (o : Option ℕ). number_after c.args.dpc k e.what o) c.loop-number.invariant
    ∙ (ap (λ (n : ℕ). number_after c.args.dpc n e.what (number_of c.args.dpc past)) (sym (past_length events k low))
    ∙ (sym (number_moves c.args.dpc e past)
    ∙ ap (λ (es : List Event). number_of c.args.dpc es) (sym (past_more events k e c.event-event.ensures)))))
