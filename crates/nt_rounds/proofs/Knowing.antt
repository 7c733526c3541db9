-- Depths that are known: what one more leaves.
use Rattle.std.proofs.Common.{List, [], add-zero, arith, cond, false, get_or, inl, inr, length, nat_lt, set, subst, sym, true, ℕ, ◌+◌, ◌<◌, ◌∙◌, ◌≡◌, ◌≢◌, ◌≤◌}
use Rattle.std.specs.List.{count_by}
use Rattle.std.specs.Prelude.{All, Bool, Contains}
use Rattle.std.proofs.lemmas.Bool.{cases_eq, le-ltb, lt-ltb}
use Rattle.std.proofs.lemmas.List.{get_or-set_other, get_or-set_same, length-set}
use Rattle.std.proofs.lemmas.List.Elements.{Contains-get_or}
use Rattle.std.proofs.lemmas.List.Sums.{count_by-le-length, sum_by-set}
use Rattle.nt_rounds.specs.Depths.{IsDepth, IsInside, Leads}
use Rattle.nt_rounds.specs.Known.{AreKnown, IsOver, known_count}

-- the states that one leads to are within
pub targets_within : (closed : List (List ℕ)) → IsInside closed → (n size : ℕ) (ts : List ℕ) → ts ≡ get_or closed n [] →
    size ≡ length closed → All (λ m. m < size) ts
targets_within closed inside n size ts is same = λ k d within.
    let has : Contains (get_or closed n []) (get_or ts k d) =
    subst (λ (xs : List ℕ). Contains xs (get_or ts k d)) is (Contains-get_or ts k d within) in
    omega (arith, inside n (get_or ts k d) has, same)

-- a number less than the length, written where there was a greater one
pub count_set : (xs : List ℕ) (n y : ℕ) → n < length xs → length xs ≤ get_or xs n 0 → y < length xs →
    known_count (set xs n y) ≡ known_count xs + 1
count_set xs n y within old new =
    let size = length-set xs n y in
    let p : ℕ → Bool = λ x. nat_lt x (length xs) in
    let sums = sum_by-set (λ x. cond (nat_lt x (length xs)) 1 0) xs n y 0 within in
    let was : nat_lt (get_or xs n 0) (length xs) ≡ false = le-ltb (get_or xs n 0) (length xs) old in
    let is : nat_lt y (length xs) ≡ true = lt-ltb y (length xs) new in
    rw size (sym (add-zero (count_by p (set xs n y))) ∙ (rw (was, is) at sums))

-- there is room for one more
pub count_room : (xs : List ℕ) (n : ℕ) → n < length xs → length xs ≤ get_or xs n 0 → known_count xs < length xs
count_room xs n within old =
    let more = count_set xs n 0 within old (omega arith) in
    let most = count_by-le-length (λ x. nat_lt x (length (set xs n 0))) (set xs n 0) in
    omega (arith, more, most, length-set xs n 0)

-- writing the depth of one that is not known leaves the depths that are known
pub set_other : (depths : List ℕ) (n x m : ℕ) → length depths ≤ get_or depths n 0 → get_or depths m 0 < length depths →
    get_or (set depths n x) m 0 ≡ get_or depths m 0
set_other depths n x m unknown known =
    let other : m ≢ n = λ (e : m ≡ n). absurd (omega (arith, unknown, (rw e at known))) in
    get_or-set_other depths n m x 0 other

-- the state gets its depth
depth_new : (closed : List (List ℕ)) (depths : List ℕ) (n x : ℕ) → n < length depths → length depths ≤ get_or depths n 0 →
    IsOver depths (get_or closed n []) x → IsDepth closed (set depths n x) n
depth_new closed depths n x within unknown over =
    let here : get_or (set depths n x) n 0 ≡ x = get_or-set_same depths n x 0 within in
    let there = λ (m : ℕ) (lead : Leads closed n m). set_other depths n x m unknown (omega (arith, over.above m lead, over.bound)) in
    record {
      above = λ m lead. omega (arith, here, there m lead, over.above m lead);
      reached = elim over.reached [
        | inl none ↦ inl (here ∙ none)
        | inr some ↦ inr (some.0, some.1, omega (arith, here, there some.0 some.1, some.2))
      ];
    }

-- each other one keeps its depth
depth_old : (closed : List (List ℕ)) (depths : List ℕ) (n x k : ℕ) → length depths ≤ get_or depths n 0 →
    get_or depths k 0 < length depths → IsDepth closed depths k → IsDepth closed (set depths n x) k
depth_old closed depths n x k unknown known is =
    let here = set_other depths n x k unknown known in
    let there = λ (m : ℕ) (lead : Leads closed k m). set_other depths n x m unknown (omega (arith, is.above m lead, known)) in
    record {
      above = λ m lead. omega (arith, here, there m lead, is.above m lead);
      reached = elim is.reached [
        | inl none ↦ inl (here ∙ none)
        | inr some ↦ inr (some.0, some.1, omega (arith, here, there some.0 some.1, some.2))
      ];
    }

-- a new depth is no more than the number of those that are known
over_small : (closed : List (List ℕ)) (depths : List ℕ) (count n x : ℕ) → AreKnown closed depths count → IsInside closed →
    IsOver depths (get_or closed n []) x → x ≤ count
over_small closed depths count n x known inside over =
    elim over.reached [
      | inl none ↦ omega (arith, none)
      | inr some ↦
          let m = some.0 in
          let within = inside n m some.1 in
          let below = over.above m some.1 in
          let small = known.small m (omega (arith, within, known.states)) (omega (arith, below, over.bound)) in
          omega (arith, small, some.2)
    ]

-- one more depth is known
pub known_more : (closed : List (List ℕ)) (depths : List ℕ) (count n x : ℕ) → AreKnown closed depths count → IsInside closed →
    n < length depths → length depths ≤ get_or depths n 0 → IsOver depths (get_or closed n []) x →
    AreKnown closed (set depths n x) (count + 1)
known_more closed depths count n x known inside within unknown over =
    let size = length-set depths n x in
    let small = over_small closed depths count n x known inside over in
    let room = count_room depths n within unknown in
    let here : get_or (set depths n x) n 0 ≡ x = get_or-set_same depths n x 0 within in
    record {
      states = size ∙ known.states;
      counted = omega (arith, count_set depths n x within unknown (omega (arith, small, room, known.counted)), known.counted);
      small = λ k has is. elim (cases_eq k n) [
        | inl same ↦ rw same (omega (arith, here, small))
        | inr other ↦
            let there : get_or (set depths n x) k 0 ≡ get_or depths k 0 = get_or-set_other depths n k x 0 other in
            omega (arith, there, known.small k (omega (arith, has, size)) (omega (arith, is, there, size)))
      ];
      right = λ k has is. elim (cases_eq k n) [
        | inl same ↦ rw same (depth_new closed depths n x within unknown over)
        | inr other ↦
            let there : get_or (set depths n x) k 0 ≡ get_or depths k 0 = get_or-set_other depths n k x 0 other in
            let was : get_or depths k 0 < length depths = omega (arith, is, there, size) in
            depth_old closed depths n x k unknown was (known.right k (omega (arith, has, size)) was)
      ];
    }
