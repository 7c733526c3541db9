use Rattle.std.proofs.Common.{arith, subst, suc, sym, ◌-◌, ◌≡◌, ◌∙◌, ap}
use Rattle.nt_rounds.specs.Cuts.{start_of}
use Rattle.nt_rounds.proofs.Cutting.{start_first, start_next}
use Rattle.nt_rounds.proofs.graph.start.Goals as goal

pub returns-then-place-eq0 : goal.returns-then-place-eq0
returns-then-place-eq0 c =
    subst (λ n. 0 ≡ start_of 0 c.args.ends.now n) (sym c.if-place-eq0.true) (sym (start_first 0 c.args.ends.now))

pub returns-else-place-eq0 : goal.returns-else-place-eq0
returns-else-place-eq0 c =
    let next : suc (c.args.place - 1) ≡ c.args.place = omega arith in
    sym (start_next 0 c.args.ends.now (c.args.place - 1) 0 (omega arith)) ∙ ap (start_of 0 c.args.ends.now) next
