-- One worker after another is taken off the front of a list.
use Rattle.std.proofs.Common.{ap, arith, drop, length, sym, take, ◌∙◌}
use Rattle.std.proofs.lemmas.List.{drop_more, get_or-drop, length-take-le, take_more}
use Rattle.std.specs.List.{remove}
use Rattle.std.specs.Prelude.{List, [], get_or, ℕ, ◌++◌, ◌+◌, ◌<◌, ◌∷◌, ◌≡◌}

module _ {A : Type 0} (ws old new : List A) (n : ℕ) (x : A) (l : n < length ws) (is : old ≡ drop n ws) (value : x ≡ get_or old 0 x)
    (items : new ≡ remove old 0) where
  -- the element taken from the front is the one at the place of the list counted so far
  pub taken_at : get_or ws n x ≡ x
  taken_at =
      let z : n + 0 ≡ n = omega arith in
      sym (value ∙ (ap (λ (xs : List A). get_or xs 0 x) is ∙ (get_or-drop n ws 0 x ∙ ap (λ (k : ℕ). get_or ws k x) z)))

  -- what is left after the front is taken is the list without one element more
  pub left_then : new ≡ drop (n + 1) ws
  left_then = items ∙ ap (λ (xs : List A). remove xs 0) (is ∙ drop_more ws n x l)

  -- the elements taken so far and the one taken now are the first of one more
  pub met_then : take (n + 1) ws ≡ take n ws ++ x ∷ []
  met_then = take_more ws n x l ∙ ap (λ (y : A). take n ws ++ y ∷ []) taken_at

  -- as many elements were taken before as the place says
  pub met_long : length (take n ws) ≡ n
  met_long = length-take-le n ws (omega (arith, l))
