-- Classes that are put behind one another, each at its place.
use Rattle.std.proofs.Common.{ap, sym, ◌∙◌}
use Rattle.std.proofs.lemmas.List.{map_push}
use Rattle.std.specs.Prelude.{List, [], map, ℕ, ◌++◌, ◌+◌, ◌∷◌, ◌≡◌}
use Rattle.nt_event.specs.Lists.{table}
use Rattle.nt_event.proofs.Tables.{table_more, table_none}
use Rattle.nt_shade_asks.specs.declared.class_asks.ClassAsks.{ClassAsks}
use Rattle.nt_shade_asks.specs.Follows.{place_of}

-- the first ones, so many, stand at their places
abbrev pub ArePlaced : ℕ → List ClassAsks → Type 0
ArePlaced n rows = map place_of rows ≡ table n (λ place. place)

-- no class at all
pub none_placed : (rows : List ClassAsks) → rows ≡ [] → ArePlaced 0 rows
none_placed rows e = ap (map place_of) e ∙ sym (table_none (λ k. k))

-- and the next one
pub one_placed : (n : ℕ) (rows : List ClassAsks) (x : ClassAsks) → ArePlaced n rows → place_of x ≡ n → ArePlaced (n + 1) (rows ++ x ∷ [])
one_placed n rows x are here =
    map_push place_of rows x ∙ ap (λ (ps : List ℕ). ps ++ place_of x ∷ []) are ∙ ap (λ (place : ℕ). table n (λ k. k) ++ place ∷ []) here
    ∙ sym (table_more n (λ k. k))
