-- A path along states whose depths are not known, up to a state that is on it already.
use Rattle.std.proofs.Common.{List, [], ap, arith, drop, get_or, inl, inr, length, refl, set, sym, ℕ, ◌+◌, ◌++◌, ◌-◌, ◌<◌, ◌∙◌, ◌∷◌, ◌≡◌, ◌≤◌}
use Rattle.std.proofs.lemmas.Bool.{cases_eq}
use Rattle.std.proofs.lemmas.List.{get_or-drop, get_or-set_other, get_or-set_same, get_or_append_left, get_or_push, get_or_read, length-drop, length-set}
use Rattle.std.proofs.lemmas.List.{length_push}
use Rattle.std.proofs.lemmas.List.Elements.{All-drop, All-push}
use Rattle.nt_rounds.specs.Depths.{IsRound, Leads}
use Rattle.nt_rounds.specs.Path.{IsPath}
use Rattle.nt_rounds.proofs.Knowing.{count_room, count_set}

-- what is read of a state's place, at any default
pub place_read : (closed : List (List ℕ)) (path places : List ℕ) (at read : ℕ) → IsPath closed path places at → at < length closed →
    read ≡ get_or places at read → read ≡ get_or places at 0
place_read closed path places at read is within reads = get_or_read places at read (omega (arith, within, is.states)) reads 0

-- a place that is too great: the state is not on the path
pub not_on : (closed : List (List ℕ)) (path places : List ℕ) (at read size : ℕ) → IsPath closed path places at → at < length closed →
    read ≡ get_or places at read → size ≡ length closed → size ≤ read → length places ≤ get_or places at 0
not_on closed path places at read size is within reads same great =
    omega (arith, place_read closed path places at read is within reads, same, great, is.states)

-- one that isn't: it is on the path
pub is_on : (closed : List (List ℕ)) (path places : List ℕ) (at read size : ℕ) → IsPath closed path places at → at < length closed →
    read ≡ get_or places at read → size ≡ length closed → read < size → get_or places at 0 < length places
is_on closed path places at read size is within reads same small =
    omega (arith, place_read closed path places at read is within reads, same, small, is.states)

-- there is room on the path for a state that is not on it
pub path_room : (closed : List (List ℕ)) (path places : List ℕ) (at : ℕ) → IsPath closed path places at → at < length closed →
    length places ≤ get_or places at 0 → length path < length places
path_room closed path places at is within new =
    omega (arith, count_room places at (omega (arith, within, is.states)) new, is.counted)

-- one step further, the states of the path are where they are noted to be
placed_on : (closed : List (List ℕ)) (path places : List ℕ) (at : ℕ) → IsPath closed path places at → at < length closed →
    (n : ℕ) → n < length (set places at (length path)) →
    get_or (set places at (length path)) n 0 < length (set places at (length path)) →
    (get_or (set places at (length path)) n 0 < length (path ++ at ∷ []))
    × (get_or (path ++ at ∷ []) (get_or (set places at (length path)) n 0) 0 ≡ n)
placed_on closed path places at is within n has on =
    let size = length-set places at (length path) in
    let longer = length_push path at in
    elim (cases_eq n at) [
      | inl same ↦
          let here : get_or (set places at (length path)) n 0 ≡ length path =
          rw same (get_or-set_same places at (length path) 0 (omega (arith, within, is.states))) in
          (omega (arith, here, longer), ap (λ i. get_or (path ++ at ∷ []) i 0) here ∙ get_or_push path at 0 (length path) refl ∙ sym same)
      | inr other ↦
          let there : get_or (set places at (length path)) n 0 ≡ get_or places n 0 = get_or-set_other places at n (length path) 0 other in
          let was = is.placed n (omega (arith, has, size)) (omega (arith, on, there, size)) in (
            omega (arith, there, was.0, longer),
            ap (λ i. get_or (path ++ at ∷ []) i 0) there ∙ get_or_append_left path (at ∷ []) 0 (get_or places n 0) was.0 ∙ was.1,
          )
    ]

-- and each leads to the next one
leads_on : (closed : List (List ℕ)) (path places : List ℕ) (at : ℕ) → IsPath closed path places at → (i : ℕ) →
    i + 1 < length (path ++ at ∷ []) → Leads closed (get_or (path ++ at ∷ []) i 0) (get_or (path ++ at ∷ []) (i + 1) 0)
leads_on closed path places at is i within =
    let longer = length_push path at in
    let first : get_or (path ++ at ∷ []) i 0 ≡ get_or path i 0 = get_or_append_left path (at ∷ []) 0 i (omega (arith, within, longer)) in
    rw first (elim (cases_eq (i + 1) (length path)) [
      | inl last ↦
          let second : get_or (path ++ at ∷ []) (i + 1) 0 ≡ at = get_or_push path at 0 (i + 1) (sym last) in
          rw second (is.last i last)
      | inr other ↦
          let before : i + 1 < length path = omega (arith, within, longer, other) in
          let second : get_or (path ++ at ∷ []) (i + 1) 0 ≡ get_or path (i + 1) 0 = get_or_append_left path (at ∷ []) 0 (i + 1) before in
          rw second (is.on i before)
    ])

-- one step further
pub path_on : (closed : List (List ℕ)) (path places : List ℕ) (at next : ℕ) → IsPath closed path places at → at < length closed →
    length places ≤ get_or places at 0 → Leads closed at next → IsPath closed (path ++ at ∷ []) (set places at (length path)) next
path_on closed path places at next is within new leads =
    let size = length-set places at (length path) in
    let longer = length_push path at in
    let has : at < length places = omega (arith, within, is.states) in
    let room = path_room closed path places at is within new in
    record {
      states = size ∙ is.states;
      counted = omega (arith, count_set places at (length path) has new room, longer, is.counted);
      placed = placed_on closed path places at is within;
      inside = All-push (λ n. n < length closed) path at is.inside within;
      on = leads_on closed path places at is;
      last = λ i end.
          let here : i ≡ length path = omega (arith, end, longer) in
          let state : get_or (path ++ at ∷ []) i 0 ≡ at = get_or_push path at 0 i (sym here) in
          rw state leads;
    }

-- from the state on to which the path has come again, it is a round
pub round_is : (closed : List (List ℕ)) (path places : List ℕ) (at : ℕ) → IsPath closed path places at → at < length closed →
    get_or places at 0 < length places → IsRound closed (drop (get_or places at 0) path)
round_is closed path places at is within on =
    let from = get_or places at 0 in
    let place = is.placed at (omega (arith, within, is.states)) on in
    let size = length-drop from path in
    let end = length (drop from path) - 1 in
    let last : from + end + 1 ≡ length path = omega (arith, size, place.0) in
    record {
      some = omega (arith, size, place.0);
      inside = All-drop (λ n. n < length closed) from path is.inside;
      on = λ i has.
          let first = get_or-drop from path i 0 in
          let second = get_or-drop from path (i + 1) 0 in
          let step : from + (i + 1) ≡ from + i + 1 = omega arith in
          rw (first, second, step) (is.on (from + i) (omega (arith, has, size)));
      back =
          let first = get_or-drop from path 0 0 in
          let none : from + 0 ≡ from = omega arith in
          let second = get_or-drop from path end 0 in
          rw (first, second, none, place.1) (is.last (from + end) last);
    }
