use Rattle.std.proofs.Common.{◌∙◌, ◌<◌, ◌+◌, List, ap, arith, length, reverse, take, ℕ}
use Rattle.std.specs.Prelude.{filter}
use Rattle.nt_event.specs.declared.events.Event.{Event}
use Rattle.nt_work.specs.Audits.{lent, waits_in}
use Rattle.nt_work.specs.Changes.{added_by, change_at}
use Rattle.nt_work.proofs.Walks.{still_more}
use Rattle.nt_work.proofs.waiting.waiting_at.Goals as goal

pub loop-place-preserved : goal.loop-place-preserved
loop-place-preserved c =
    let events : List Event = lent c.lend-events.result in
    let all : List Event = reverse (take c.args.number events) in
    let k : ℕ = c.loop-place.place in
    let many = ap (λ (xs : List Event). length xs) c.lend-events.ensures.events in
    let lt : k < length events = omega (arith, c.loop-place-test.true, many, c.requires.number) in
    let more : ℕ = length (filter (waits_in all) (added_by (change_at events k) k)) in
    record {
      counted =
          ap (λ (m : ℕ). c.loop-place.count + m) c.one_waits-count.ensures.waits ∙ ap (λ (m : ℕ). m + more) c.loop-place.invariant.counted
          ∙ still_more all events k lt;
      few = omega (arith, c.loop-place.invariant.few, c.one_waits-count.ensures.one);
      within = omega (arith, c.loop-place-test.true);
    }
