use Rattle.std.proofs.Common.{ap, arith, max, rules, sym, ◌∙◌}
use Rattle.std.specs.Prelude.{List, length, ℕ}
use Rattle.nt_event.specs.Lists.{value_at}
use Rattle.nt_event.proofs.Tables.{is_table, length-table_from}
use Rattle.nt_floor.proofs.Values.{raised_next, raised_other}
use Rattle.nt_floor.proofs.seen.Seen.raise_all.Goals.{else-raise, then-raise}
use Rattle.nt_floor.proofs.seen.Seen.raise_all.Goals as goal

pub returns-clause-values : goal.returns-clause-values
returns-clause-values c =
    is_table c.loop-class.self 16 (λ k. max (value_at c.args.self.now k) (value_at c.args.values.now k)) (c.loop-class.invariant.len (omega arith))
    (λ k h. c.loop-class.invariant.low k (omega arith))

pub loop-class-preserved : goal.loop-class-preserved
loop-class-preserved c = record {
  len = λ h. ap (λ (xs : List ℕ). length xs) c.raise.ensures.values ∙ length-table_from 0 16 _;
  low = λ k h. raised_next c.args.self.now c.args.values.now c.loop-class.self c.raise.new.self c.loop-class.class k c.raise.ensures.values
      c.loop-class-test.true c.loop-class.invariant.low (c.loop-class.invariant.high c.loop-class.class (omega arith) c.loop-class-test.true) h;
  high = λ k h b. raised_other c.loop-class.self c.raise.new.self c.loop-class.class (value_at c.args.values.now c.loop-class.class) k c.raise.ensures.values b
      (λ e. omega (arith, h, e)) ∙ c.loop-class.invariant.high k (omega (arith, h)) b;
  values = search rules;
  interrupts = elim c.if-raise.branch [
    | then-raise w ↦ (λ h. let e = sym w.interrupts-is ∙ h in absurd cc)
    | else-raise w ↦ (λ h k a b. c.raise.ensures.interrupts w.if-raise.false k a b ∙ c.loop-class.invariant.interrupts (sym w.interrupts-is ∙ h) k a b)
  ];
}
