use Rattle.std.proofs.Common.{◌++◌, ◌∙◌, ◌∷◌, List, ap, ℕ}
use Rattle.nt_text.proofs.FirstRows.{one_field, more_fields}
use Rattle.nt_text.proofs.lines.printable_row.Goals as goal

pub returns-in-Some-clause-row : goal.returns-in-Some-clause-row
returns-in-Some-clause-row c =
    let first = c.in_ok-first.ensures in
    let line = c.in_ok-line.ensures in
    let field = c.in_ok-first.first.now in
    let is = first.1 ∙ ap (λ (l : List ℕ). field ++ l) (c.in-Some.ensures ∙ ap (λ (l : List ℕ). 32 ∷ l) line.1) in
    rw c.with_rest.ensures (more_fields _ field _ _ first.0 line.0 is).0

pub returns-in-Some-clause-rest : goal.returns-in-Some-clause-rest
returns-in-Some-clause-rest c =
    let first = c.in_ok-first.ensures in
    let line = c.in_ok-line.ensures in
    let field = c.in_ok-first.first.now in
    let is = first.1 ∙ ap (λ (l : List ℕ). field ++ l) (c.in-Some.ensures ∙ ap (λ (l : List ℕ). 32 ∷ l) line.1) in
    (more_fields _ field _ _ first.0 line.0 is).1

pub returns-clause-row : goal.returns-clause-row
returns-clause-row c =
    let first = c.in_ok-first.ensures in
    let field = c.in_ok-first.first.now in
    rw c.with_rest-2.ensures (one_field _ field _ first.0 (first.1 ∙ ap (λ (l : List ℕ). field ++ l) c.in_ok-rest.ensures)).0

pub returns-clause-rest : goal.returns-clause-rest
returns-clause-rest c =
    let first = c.in_ok-first.ensures in
    let field = c.in_ok-first.first.now in
    (one_field _ field _ first.0 (first.1 ∙ ap (λ (l : List ℕ). field ++ l) c.in_ok-rest.ensures)).1
