-- A table with one value more, behind a list.
use Rattle.std.proofs.Common.{List, [], ap, append_assoc, refl, sym, ℕ, ◌+◌, ◌++◌, ◌∙◌, ◌∷◌, ◌≡◌}
use Rattle.std.proofs.lemmas.List.{append-nil}
use Rattle.nt_event.proofs.Tables.{table_grown}
use Rattle.nt_event.specs.Lists.{table, table_from}

-- a list is the same with an empty table behind it
pub behind_none : {A : Type 0} (xs : List A) (f : ℕ → A) → xs ≡ xs ++ table 0 f
unfolding table_from
behind_none xs f = sym (append-nil xs)

-- one value more behind a list with a table behind it makes the table one longer
pub behind_grown : {A : Type 0} (n : ℕ) (f : ℕ → A) (xs zs ys : List A) (x : A) → ys ≡ zs ++ x ∷ [] → zs ≡ xs ++ table n f →
    x ≡ f n → ys ≡ xs ++ table (n + 1) f
behind_grown {A} n f xs zs ys x a b c =
    a ∙ (ap (λ (ws : List A). ws ++ x ∷ []) b
    ∙ (append_assoc xs (table n f) (x ∷ []) ∙ ap (λ (ws : List A). xs ++ ws) (table_grown n f (table n f) (table n f ++ x ∷ []) x refl refl c)))

-- a list of one value, and an empty table behind it
pub one_and_none : {A : Type 0} (xs ys : List A) (x y : A) (f : ℕ → A) → ys ≡ xs ++ y ∷ [] → xs ≡ [] → y ≡ x → ys ≡ x ∷ table 0 f
unfolding table_from
one_and_none {A} xs ys x y f a b c =
    a ∙ (ap (λ (zs : List A). zs ++ y ∷ []) b ∙ ap (λ (z : A). z ∷ []) c)
