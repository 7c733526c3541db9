use Rattle.std.proofs.Common.{◌∙◌, ◌++◌, List, ℕ, ap, arith, sym}
use Rattle.std.proofs.lemmas.List.{append_cancel_left}
use Rattle.nt_text.proofs.NumberLines.{decimal_and_end, number_first, number_taken}
use Rattle.nt_text.proofs.lines.Lines.take_number.Goals as goal

pub returns-in_err-behind-clause-other : goal.returns-in_err-behind-clause-other
returns-in_err-behind-clause-other c =
    let bytes = c.self.inside.rest.now in
    let head = c.args.head.now in
    let apart = c.in_err-behind.ensures.none in
    rw (c.from_residual.ensures, ← c.self.view_is) (λ n below e. let taken = number_taken bytes head n e in apart _ taken.1)

pub returns-in_err-number-clause-other : goal.returns-in_err-number-clause-other
returns-in_err-number-clause-other c =
    let bytes = c.self.inside.rest.now in
    let head = c.args.head.now in
    let is = c.in_ok-behind.ensures.some in
    rw (c.from_residual-in_err-number.ensures, ← c.self.view_is) (λ n below e.
    let taken = number_taken bytes head n e in
    c.in_err-number.ensures.none n taken.0 below.0 (append_cancel_left head _ _ (sym is ∙ taken.1)))

pub returns-then-below-number-clause-other : goal.returns-then-below-number-clause-other
returns-then-below-number-clause-other c =
    let bytes = c.self.inside.rest.now in
    let head = c.args.head.now in
    let is = c.in_ok-behind.ensures.some in
    let some = c.in_ok-number.ensures.some in
    rw (← c.self.view_is) (λ n below e.
    let taken = number_taken bytes head n e in
    let one = append_cancel_left head _ _ (sym is ∙ taken.1) in
    let same = decimal_and_end c.in_ok-number.number n c.in_ok-number.rest.now taken.0 some.0 below.0 (sym some.1 ∙ one) in
    let high = c.if-below-number.true in
    let low = below.1 in
    absurd (omega (arith, same)))

pub returns-clause-some : goal.returns-clause-some
returns-clause-some c =
    let bytes = c.self.inside.rest.now in
    let head = c.args.head.now in
    let is = c.in_ok-behind.ensures.some in
    let some = c.in_ok-number.ensures.some in (
      (some.0, omega arith),
      rw (← c.self.view_is)
          (number_first bytes head c.in_ok-number.rest.now c.in_ok-number.number c.requires some.0 (is ∙ ap (λ (l : List ℕ). head ++ l) some.1)),
    )
