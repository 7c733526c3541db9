use Rattle.std.proofs.Common.{sym, ◌∙◌}
use Rattle.nt_event.specs.Lists.{value_at}
use Rattle.nt_plain.specs.Places.{row_value}
use Rattle.nt_plain.proofs.Telling.{nothing_left, over_next}
use Rattle.nt_plain.proofs.told.ToldValues.raise_over.Goals.{else-raise, then-raise}
use Rattle.nt_plain.proofs.told.ToldValues.raise_over.Goals as goal

pub loop-lane-preserved : goal.loop-lane-preserved
loop-lane-preserved c =
    record {
      rest = λ k h. over_next c.args.script.now c.args.self.now c.args.lanes.now c.args.p c.loop-lane.lane-index _ c.number.result c.row_of-row.result
          c.loop-lane.seen c.raise.new.seen k _ c.loop-lane-test.true c.number.ensures c.row_of-row.ensures c.raise.ensures.values h
          (c.loop-lane.invariant.rest k h);
      interrupts = elim c.if-raise.branch [
        | then-raise w ↦ (λ h. let e = sym w.interrupts-is ∙ h in absurd cc)
        | else-raise w ↦ (λ h k a b. c.raise.ensures.interrupts w.if-raise.false k a b ∙ c.loop-lane.invariant.interrupts (sym w.interrupts-is ∙ h) k a b)
      ];
    }

pub returns-clause-values : goal.returns-clause-values
returns-clause-values c k h =
    nothing_left (row_value c.args.script.now c.args.self.now) c.args.lanes.now c.args.p c.loop-lane.lane-index k (value_at c.loop-lane.seen k) _
    c.loop-lane-test.false (c.loop-lane.invariant.rest k h)
