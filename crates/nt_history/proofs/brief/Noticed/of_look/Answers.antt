use Rattle.std.proofs.Common.{arith, length, subst, sym, ℕ, ◌≡◌}
use Rattle.nt_history.specs.Briefs.{NoneAbove}
use Rattle.nt_history.proofs.Rising.{one_alone}
use Rattle.nt_history.proofs.brief.Noticed.of_look.Goals as goal

pub returns-then-class-last_rise : goal.returns-then-class-last_rise
returns-then-class-last_rise c =
    let r = c.args.rises.now in
    let n : length r.value ≡ 16 = omega (arith, c.type_inv.rises) in
    let above = subst (λ (k : ℕ). NoneAbove k r) (sym c.if-class-last_rise.true) c.last_rise.ensures in
    one_alone r c.first_rise-class.result n c.first_rise-class.ensures.class c.first_rise-class.ensures.below above
