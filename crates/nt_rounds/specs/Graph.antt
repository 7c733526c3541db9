-- What contracts see of a graph.
use Rattle.std.specs.Prelude.{List, length, ℕ, ◌+◌}
use Rattle.std.specs.List.{sum_by}

-- to which states each closed state leads, and to which the open one leads so far, in the order of pushing
pub record Drawn : Type 0 where
  pub closed : List (List ℕ)
  pub opened : List ℕ

-- how many these are together
abbrev pub edge_count : Drawn → ℕ
edge_count x = sum_by length x.closed + length x.opened
