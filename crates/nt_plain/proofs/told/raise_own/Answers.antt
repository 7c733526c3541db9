use Rattle.std.proofs.Common.{sym, ◌∙◌}
use Rattle.nt_event.specs.Lists.{value_at}
use Rattle.nt_plain.proofs.Telling.{none_asked, own_next}
use Rattle.nt_plain.proofs.told.raise_own.Goals.{else-raise_ask, then-raise_ask}
use Rattle.nt_plain.proofs.told.raise_own.Goals as goal

pub loop-ask-preserved : goal.loop-ask-preserved
loop-ask-preserved c =
    record {
      rest = λ k h. own_next c.args.asks.now c.loop-ask.ask-index _ c.args.p k c.args.to (value_at c.loop-ask.seen k) (value_at c.raise_ask.new.seen k) _
          c.loop-ask-test.true (c.raise_ask.ensures.values k h) (c.loop-ask.invariant.rest k h);
      interrupts = elim c.if-raise_ask.branch [
        | then-raise_ask w ↦ (λ h. let e = sym w.interrupts-is ∙ h in absurd cc)
        | else-raise_ask w ↦ (λ h k a b. c.raise_ask.ensures.interrupts w.if-raise_ask.false k a b
            ∙ c.loop-ask.invariant.interrupts (sym w.interrupts-is ∙ h) k a b)
      ];
    }

pub returns-clause-values : goal.returns-clause-values
returns-clause-values c k h =
    none_asked c.args.asks.now c.loop-ask.ask-index c.args.p k c.args.to (value_at c.loop-ask.seen k) _ c.loop-ask-test.false (c.loop-ask.invariant.rest k h)
