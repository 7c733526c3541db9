-- The list of the turns Next and Switch of a processor.
use Rattle.std.proofs.Common.{append_assoc, ap, sym, ◌∙◌}
use Rattle.std.specs.Prelude.{List, [], ℕ, ◌++◌, ◌+◌, ◌∷◌, ◌≡◌}
use Rattle.nt_event.specs.declared.events.Turn.{Turn}
use Rattle.nt_event.specs.Lists.{table, table_from}
use Rattle.nt_event.proofs.Tables.{table_more}

-- the first one, and no further one yet
pub first_turn : (xs ys : List Turn) (x : Turn) (f : ℕ → Turn) → ys ≡ xs ++ x ∷ [] → ys ≡ xs ++ (x ∷ table 0 f)
unfolding table_from
first_turn xs ys x f h = h

-- one further turn
pub further_turn : (xs ys zs : List Turn) (x : Turn) (f : ℕ → Turn) (n : ℕ) → ys ≡ xs ++ (x ∷ table n f) → zs ≡ ys ++ f n ∷ [] →
    zs ≡ xs ++ (x ∷ table (n + 1) f)
further_turn xs ys zs x f n h k = k ∙ ap (λ (ts : List Turn). ts ++ f n ∷ []) h ∙ append_assoc xs (x ∷ table n f) (f n ∷ [])
    ∙ ap (λ (ts : List Turn). xs ++ (x ∷ ts)) (more n f)
  where
    more : (n : ℕ) (f : ℕ → Turn) → table n f ++ f n ∷ [] ≡ table (n + 1) f
    more n f = sym (table_more n f)
