use Rattle.std.proofs.Common.{◌++◌, ◌/◌, ◌%◌, ◌∙◌, ◌∷◌, ◌<◌, ◌≡◌, List, ap, arith, inl, inr, sym, ℕ}
use Rattle.std.specs.Fmt.{decimal}
use Rattle.std.proofs.lemmas.Fmt.{decimal_digit}
use Rattle.itoa.proofs.Decimal.{decimal_two}
use Rattle.nt_text.proofs.NumberLines.{Short, short}
use Rattle.nt_text.proofs.lines.short_number.Goals as goal

pub returns-in-Some-clause-some : goal.returns-in-Some-clause-some
returns-in-Some-clause-some c =
    let some = c.in-Some.ensures.some in
    let low = some.0 in
    (omega (arith, low), some.1 ∙ ap (λ (l : List ℕ). l ++ 10 ∷ c.in-Some.rest.now) (sym (decimal_digit c.in-Some.digit some.0)))

pub returns-in_err-number-clause-none : goal.returns-in_err-number-clause-none
returns-in_err-number-clause-none c =
    rw c.from_residual.ensures (λ n rest h e. apart n rest h e (short n h))
  where
    apart : (n : ℕ) (rest : List ℕ) → n < 100 → c.args.bytes.now ≡ decimal n ++ 10 ∷ rest → Short n → ⊥
    apart n rest h e (inl one) =
        c.in_default.ensures.none n rest one.0 (e ∙ ap (λ (l : List ℕ). l ++ 10 ∷ rest) one.1)
    apart n rest h e (inr two) =
        let least = two.0 in
        c.in_err-number.ensures.none (n / 10) (n % 10) rest (omega arith) (omega (arith, h)) (omega arith) (e ∙ ap (λ (l : List ℕ). l ++ 10 ∷ rest) two.1)

pub returns-clause-some : goal.returns-clause-some
returns-clause-some c =
    let some = c.in_ok-number.ensures.some in
    (some.1, some.2 ∙ ap (λ (l : List ℕ). l ++ 10 ∷ c.in_ok-number.rest.now) (sym (decimal_two c.in_ok-number.number some.0 some.1)))
