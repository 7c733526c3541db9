-- Lists that one list keeps: how the parts change with the list and the ends.
use Rattle.std.proofs.Common.{List, [], ap, arith, drop, get_or, length, refl, suc, take, zero, ℕ, ◌+◌, ◌++◌, ◌-◌, ◌<◌, ◌∙◌, ◌∷◌, ◌≡◌, ◌≤◌}
use Rattle.std.specs.List.{sum_by}
use Rattle.std.specs.Prelude.{slice_range}
use Rattle.std.proofs.lemmas.List.{drop-append-le, drop_all, length-drop, length-take-le, length_push, take-append-le, take_rest}
use Rattle.std.proofs.lemmas.List.Sums.{sum_by-cons}
use Rattle.nt_rounds.specs.Cuts.{AreEnds, cut, last_end, start_of}
use Rattle.nt_rounds.specs.Graph.{Drawn, edge_count}

-- there are as many parts as ends
pub length-cut : (all : List ℕ) (from : ℕ) (ends : List ℕ) → length (cut all from ends) ≡ length ends
length-cut all from [] = refl
length-cut all from (e ∷ ends) = ap suc (length-cut all e ends)

-- the last part ends within the list
pub last_within : (from : ℕ) (ends : List ℕ) (n : ℕ) → AreEnds from ends n → last_end from ends ≤ n
last_within from [] n are = are
last_within from (e ∷ ends) n are = last_within e ends n are.1

-- the first part begins within the list
pub first_within : (from : ℕ) (ends : List ℕ) (n : ℕ) → AreEnds from ends n → from ≤ n
first_within from [] n are = are
first_within from (e ∷ ends) n are = omega (arith, are.0, first_within e ends n are.1)

-- they are ends of a longer list too
pub ends_longer : (from : ℕ) (ends : List ℕ) (n m : ℕ) → AreEnds from ends n → n ≤ m → AreEnds from ends m
ends_longer from [] n m are le = omega (arith, are, le)
ends_longer from (e ∷ ends) n m are le = (are.0, ends_longer e ends n m are.1 le)

-- with one more at the end of the list
pub ends_close : (from : ℕ) (ends : List ℕ) (n : ℕ) → AreEnds from ends n → AreEnds from (ends ++ n ∷ []) n
ends_close from [] n are = (are, omega arith)
ends_close from (e ∷ ends) n are = (are.0, ends_close e ends n are.1)

-- how long a part is
pub length_part : (all : List ℕ) (from e : ℕ) → from ≤ e → e ≤ length all → length (slice_range all from e) + from ≡ e
length_part all from e low high =
    let whole = length-drop from all in
    let within : e - from ≤ length (drop from all) = omega (arith, whole) in
    let size = length-take-le (e - from) (drop from all) within in
    omega (arith, size, low)

-- the parts and what is behind the last one are all that is behind the start
pub length_parts : (all : List ℕ) (from : ℕ) (ends : List ℕ) → AreEnds from ends (length all) →
    from + (sum_by length (cut all from ends) + length (drop (last_end from ends) all)) ≡ length all
length_parts all from [] are = omega (arith, length-drop from all, are)
length_parts all from (e ∷ ends) are =
    let more = length_parts all e ends are.1 in
    let part = length_part all from e are.0 (first_within e ends (length all) are.1) in
    let sums = sum_by-cons length (slice_range all from e) (cut all e ends) in
    omega (arith, more, part, sums)

-- what is put behind a list changes no part of it
pub part_longer : (all more : List ℕ) (from e : ℕ) → from ≤ e → e ≤ length all →
    slice_range (all ++ more) from e ≡ slice_range all from e
part_longer all more from e low high =
    let start : from ≤ length all = omega (arith, low, high) in
    let within : e - from ≤ length (drop from all) = omega (arith, length-drop from all, high) in
    ap (take (e - from)) (drop-append-le from all more start) ∙ take-append-le (e - from) (drop from all) more within

-- nor the parts
pub cut_longer : (all more : List ℕ) (from : ℕ) (ends : List ℕ) → AreEnds from ends (length all) →
    cut (all ++ more) from ends ≡ cut all from ends
cut_longer all more from [] are = refl
cut_longer all more from (e ∷ ends) are =
    let part = part_longer all more from e are.0 (first_within e ends (length all) are.1) in
    let rest = cut_longer all more e ends are.1 in
    cc

-- one more end: one more part, from where the last one ends
pub cut_close : (all : List ℕ) (from : ℕ) (ends : List ℕ) (n : ℕ) →
    cut all from (ends ++ n ∷ []) ≡ cut all from ends ++ slice_range all (last_end from ends) n ∷ []
cut_close all from [] n = refl
cut_close all from (e ∷ ends) n = ap (λ (xs : List (List ℕ)). slice_range all from e ∷ xs) (cut_close all e ends n)

-- the last part ends there then
pub last_close : (from : ℕ) (ends : List ℕ) (n : ℕ) → last_end from (ends ++ n ∷ []) ≡ n
last_close from [] n = refl
last_close from (e ∷ ends) n = last_close e ends n

-- the first part begins at the start
pub start_first : (from : ℕ) (ends : List ℕ) → start_of from ends 0 ≡ from
start_first from [] = refl
start_first from (e ∷ ends) = refl

-- each other one where the one before ends
pub start_next : (from : ℕ) (ends : List ℕ) (n d : ℕ) → n < length ends → start_of from ends (suc n) ≡ get_or ends n d
start_next from [] n d within = absurd (omega (arith, within))
start_next from (e ∷ ends) zero d within = start_first e ends
start_next from (e ∷ ends) (suc n) d within = start_next e ends n d (omega (arith, within))

-- the part of a number, by its start and its end
pub get_or-cut : (all : List ℕ) (from : ℕ) (ends : List ℕ) (n d : ℕ) → n < length ends →
    get_or (cut all from ends) n [] ≡ slice_range all (start_of from ends n) (get_or ends n d)
get_or-cut all from [] n d within = absurd (omega (arith, within))
get_or-cut all from (e ∷ ends) zero d within = refl
get_or-cut all from (e ∷ ends) (suc n) d within = get_or-cut all e ends n d (omega (arith, within))

-- it doesn't end before it begins
pub start_below : (from : ℕ) (ends : List ℕ) (size n d : ℕ) → AreEnds from ends size → n < length ends →
    start_of from ends n ≤ get_or ends n d
start_below from [] size n d are within = absurd (omega (arith, within))
start_below from (e ∷ ends) size zero d are within = are.0
start_below from (e ∷ ends) size (suc n) d are within = start_below e ends size n d are.1 (omega (arith, within))

-- and ends within the list
pub end_within : (from : ℕ) (ends : List ℕ) (size n d : ℕ) → AreEnds from ends size → n < length ends → get_or ends n d ≤ size
end_within from [] size n d are within = absurd (omega (arith, within))
end_within from (e ∷ ends) size zero d are within = first_within e ends size are.1
end_within from (e ∷ ends) size (suc n) d are within = end_within e ends size n d are.1 (omega (arith, within))

-- what contracts see of a graph that keeps these lists
abbrev pub drawn : List ℕ → List ℕ → Drawn
drawn to ends = record { closed = cut to 0 ends; opened = drop (last_end 0 ends) to }

-- one more at the end of the list
pub drawn_push : (to now : List ℕ) (x : ℕ) (ends : List ℕ) → now ≡ to ++ x ∷ [] → AreEnds 0 ends (length to) →
    drawn now ends ≡ record (drawn to ends) { opened = (drawn to ends).opened ++ x ∷ [] }
drawn_push to now x ends is are =
    let parts = cut_longer to (x ∷ []) 0 ends are in
    let rest = drop-append-le (last_end 0 ends) to (x ∷ []) (last_within 0 ends (length to) are) in
    rw is (rw (parts, rest) refl)

-- they are still ends then
pub ends_push : (to now : List ℕ) (x : ℕ) (ends : List ℕ) → now ≡ to ++ x ∷ [] → AreEnds 0 ends (length to) →
    AreEnds 0 ends (length now)
ends_push to now x ends is are = ends_longer 0 ends (length to) (length now) are (omega (arith, ap length is, length_push to x))

-- one more end, at the end of the list
pub drawn_close : (to ends now : List ℕ) (n : ℕ) → now ≡ ends ++ n ∷ [] → n ≡ length to → AreEnds 0 ends (length to) →
    drawn to now ≡ record { closed = (drawn to ends).closed ++ (drawn to ends).opened ∷ []; opened = [] }
drawn_close to ends now n is size are =
    let start = last_end 0 ends in
    let last : slice_range to start (length to) ≡ drop start to = take_rest to start in
    let parts = cut_close to 0 ends (length to) in
    let end = last_close 0 ends (length to) in
    let none : drop (length to) to ≡ [] = drop_all (length to) to (omega arith) in
    rw is (rw size (rw (parts, last, end, none) refl))

-- they are still ends then
pub ends_closed : (to ends now : List ℕ) (n : ℕ) → now ≡ ends ++ n ∷ [] → n ≡ length to → AreEnds 0 ends (length to) →
    AreEnds 0 now (length to)
ends_closed to ends now n is size are = rw is (rw size (ends_close 0 ends (length to) are))

-- the list has as many as the graph has edges
pub edges_are : (to ends : List ℕ) → AreEnds 0 ends (length to) → length to ≡ edge_count (drawn to ends)
edges_are to ends are = omega (arith, length_parts to 0 ends are)
