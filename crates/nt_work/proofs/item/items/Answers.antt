use Rattle.std.proofs.Common.{◌∙◌, ◌++◌, List, ap, arith, get_or, ℕ}
use Rattle.nt_history.specs.Briefs.{event_in, values_of}
use Rattle.nt_work.specs.declared.item.Item.{Item}
use Rattle.nt_work.specs.Audits.{item_by, word_of}
use Rattle.nt_work.proofs.Walks.{items_more}
use Rattle.nt_work.proofs.item.items.Goals as goal

pub loop-number-preserved : goal.loop-number-preserved
loop-number-preserved c =
    let briefs = c.lend-events.result.briefs.now in
    let rises = c.lend-events.result.rises.now in
    let k : ℕ = c.loop-number.number in
    let b = get_or briefs k c.index-events-number.result in
    record {
      items =
          c.in_ok-put_item.ensures (values_of rises b)
          ∙ ap (λ (xs : List Item). xs ++ item_by k b.cpu (word_of (event_in rises b).what)) c.loop-number.invariant.items
          ∙ items_more briefs rises k c.index-events-number.result c.loop-number-test.true;
      within = omega (arith, c.loop-number-test.true);
    }
