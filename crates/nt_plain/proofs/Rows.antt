-- A row of a list, read by itself.
use Rattle.std.proofs.Common.{ap, arith, drop, get_or, max, ◌∙◌}
use Rattle.std.proofs.lemmas.List.{get_or-drop, get_or-take}
use Rattle.std.specs.List.{slice_range}
use Rattle.std.specs.Prelude.{List, ℕ, ◌+◌, ◌-◌, ◌<◌, ◌≡◌}
use Rattle.nt_event.specs.Lists.{table, value_at}
use Rattle.nt_event.proofs.Tables.{table-same}

-- an entry of a row of sixteen is the entry of the whole list at the row's start plus its place
in_row : (xs : List ℕ) (at i : ℕ) → i < 16 → get_or (slice_range xs at (at + 16)) i 0 ≡ get_or xs (at + i) 0
in_row xs at i h =
    let k : i < at + 16 - at = omega arith in
    get_or-take (at + 16 - at) (drop at xs) i 0 k ∙ get_or-drop at xs i 0

-- the value of a class in the row cut from a list is the list's value at that class of the row
pub in_row_of : (xs ys : List ℕ) (at i : ℕ) → xs ≡ ys → i < 16 → get_or (slice_range xs at (at + 16)) i 0 ≡ get_or ys (at + i) 0
in_row_of xs ys at i e h = in_row xs at i h ∙ ap (λ (zs : List ℕ). get_or zs (at + i) 0) e

-- raising values to a row cut from a list is raising them to the list's values from the row's start on
pub row_values : (xs ys old : List ℕ) (at : ℕ) → xs ≡ ys → table 16 (λ c. max (value_at old c) (get_or (slice_range xs at (at + 16)) c 0))
    ≡ table 16 (λ c. max (value_at old c) (get_or ys (at + c) 0))
row_values xs ys old at e =
    table-same 16 (λ c. max (value_at old c) (get_or (slice_range xs at (at + 16)) c 0)) (λ c. max (value_at old c) (get_or ys (at + c) 0))
    (λ i h. ap (λ (v : ℕ). max (value_at old i) v) (in_row_of xs ys at i e h))
