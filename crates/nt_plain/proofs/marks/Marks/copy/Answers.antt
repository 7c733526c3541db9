use Rattle.std.proofs.Common.{List, arith, rules, subst, vec_capacity, ◌≤◌}
use Rattle.nt_plain.specs.Rows.{AreRising}
use Rattle.nt_plain.specs.declared.marks.MarkedRow.{MarkedRow}
use Rattle.nt_plain.proofs.AllRows.{rises_under}
use Rattle.nt_plain.proofs.marks.Marks.copy.Goals as goal

pub invariant_of-result : goal.invariant_of-result
invariant_of-result c =
    let old = c.self.inside.marked in
    let new = c.extend_from_slice.new.self in
    let kept = c.self.invariant in
    let few = kept.0 in
    let is = c.capacity.ensures in
    let exact = c.in_ok-marked.ensures.exact in
    let grown = c.in_ok-extend_from_slice.ensures.capacity in
    let over : vec_capacity old ≤ vec_capacity new = omega (arith, is, exact, grown) in
    let same = c.in_ok-extend_from_slice.ensures.items in (
      omega (arith, few, over),
      subst (λ (xs : List MarkedRow). AreRising 0 (vec_capacity new) xs) (search rules)
          (rises_under 0 (vec_capacity old) (vec_capacity new) old.items kept.1 over),
    )
