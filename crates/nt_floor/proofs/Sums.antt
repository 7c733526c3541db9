-- Sums of values by class: how a value that rises moves them, how great they are, and what tells two of them apart.
use Rattle.std.proofs.Common.{add-zero, ap, arith, get_or, length, set, sym, ◌∙◌}
use Rattle.std.proofs.lemmas.Bool.{eqb-false, eqb-true, le-ltb, lt-ltb, ltb-false, ltb-true}
use Rattle.std.proofs.lemmas.List.{get_or-set_other, get_or-set_same, length-set}
use Rattle.std.proofs.lemmas.List.Sums.{sum_by-cons, sum_by-set}
use Rattle.std.specs.List.{list_any}
use Rattle.std.specs.Prelude.{Bool, List, false, if◌then◌else◌, nat_lt, refl, replicate, suc, sum, true, zero, ℕ, ◌*◌, ◌+◌, ◌-◌, ◌<◌, ◌==◌, ◌^◌, ◌||◌, ◌∷◌, ◌≡◌}
use Rattle.std.specs.Prelude.{◌≤◌}
use Rattle.nt_event.specs.Lists.{table, table_from, value_at}
use Rattle.nt_event.proofs.Tables.{get_or-table, is_table, length-table_from, table-same}
use Rattle.nt_floor.specs.Sums.{IsSum, sum_of}

-- functions with the same values at the sixteen classes have the same sum
pub same_sums : (f g : ℕ → ℕ) → ((c : ℕ) → c < 16 → f c ≡ g c) → sum_of f ≡ sum_of g
same_sums f g h = ap sum (table-same 16 f g h)

-- ---- one value changes

-- a table written at one class has the new value of each class, if the other classes' values stay
changed_at : (f g : ℕ → ℕ) (c i : ℕ) → c < 16 → i < 16 → ((k : ℕ) → k < 16 → (c == k) ≡ false → g k ≡ f k) → (b : Bool) → (c == i) ≡ b →
    get_or (set (table 16 f) c (g c)) i 0 ≡ g i
changed_at f g c i h k others true e =
    let at : c ≡ i = eqb-true c i e in
    let size = length-table_from 0 16 f in
    rw (← at) (get_or-set_same (table 16 f) c (g c) 0 (omega (arith, size)))
changed_at f g c i h k others false e =
    get_or-set_other (table 16 f) c i (g c) 0 (λ s. eqb-false c i e (sym s)) ∙ (get_or-table 16 i f 0 k ∙ sym (others i k e))

-- where the others stay, the sum moves as the value does
pub sum_moves : (f g : ℕ → ℕ) (c : ℕ) → c < 16 → ((k : ℕ) → k < 16 → (c == k) ≡ false → g k ≡ f k) → sum_of g + f c ≡ sum_of f + g c
sum_moves f g c h others =
    let size = length-table_from 0 16 f in
    let long : length (set (table 16 f) c (g c)) ≡ 16 = length-set (table 16 f) c (g c) ∙ size in
    let new : set (table 16 f) c (g c) ≡ table 16 g = is_table (set (table 16 f) c (g c)) 16 g long
    (λ i k. changed_at f g c i h k others (c == i) refl) in
    let moved = sum_by-set (λ (x : ℕ). x) (table 16 f) c (g c) 0 (omega (arith, size)) in
    let sums : sum (set (table 16 f) c (g c)) ≡ sum_of g = ap sum new in
    let old : get_or (table 16 f) c 0 ≡ f c = get_or-table 16 c f 0 h in
    omega (arith, moved, sums, old)

-- ---- how great a sum is

-- the sum of values that are each at most a bound is at most their number times the bound, from any place
bound_from : (most k n : ℕ) (f : ℕ → ℕ) → ((i : ℕ) → i < n → f (k + i) ≤ most) → sum (table_from k n f) ≤ n * most
unfolding table_from
bound_from most k zero f h = omega arith
bound_from most k (suc n) f h =
    let here : f k ≤ most = rw add-zero at (h 0 (omega arith)) in
    let rest = bound_from most (suc k) n f (λ i l. next i l) in
    let all : sum (f k ∷ table_from (suc k) n f) ≡ f k + sum (table_from (suc k) n f) = sum_by-cons (λ (x : ℕ). x) (f k) (table_from (suc k) n f) in
    omega (arith, here, rest, all)
  where
    next : (i : ℕ) → i < n → f (suc k + i) ≤ most
    next i l = let e : k + suc i ≡ suc k + i = omega arith in rw e at (h (suc i) (omega arith))

-- if no class has a value above a bound, the sum is at most sixteen times the bound
pub sum_bound : (most : ℕ) (f : ℕ → ℕ) → ((c : ℕ) → c < 16 → f c ≤ most) → sum_of f ≤ 16 * most
sum_bound most f h = bound_from most 0 16 f (λ i l. let e : 0 + i ≡ i = omega arith in rw e (h i l))

-- ---- two sums

-- of two values and two sums, the first of each at most the second: these with the values are apart where either is
apart_step : (a b s t : ℕ) (rest : Bool) → a ≤ b → s ≤ t → nat_lt s t ≡ rest → nat_lt (a + s) (b + t) ≡ (nat_lt 0 (if nat_lt a b then b else 0) || rest)
apart_step a b s t rest h k e = go (nat_lt a b) refl
  where
    go : (less : Bool) → nat_lt a b ≡ less → nat_lt (a + s) (b + t) ≡ (nat_lt 0 (if less then b else 0) || rest)
    go true l =
        let below : a < b = ltb-true a b l in
        let some : nat_lt 0 b ≡ true = lt-ltb 0 b (omega arith) in
        let sums : nat_lt (a + s) (b + t) ≡ true = lt-ltb (a + s) (b + t) (omega arith) in
        rw (some, sums) refl
    go false l =
        let same : a ≡ b = (let up = ltb-false a b l in omega arith) in
        tails rest refl
      where
        tails : (more : Bool) → rest ≡ more → nat_lt (a + s) (b + t) ≡ more
        tails true m =
            let below : s < t = ltb-true s t (e ∙ m) in
            lt-ltb (a + s) (b + t) (omega arith)
        tails false m =
            let up = ltb-false s t (e ∙ m) in
            le-ltb (a + s) (b + t) (omega (arith, ltb-false a b l))

-- greater or equal values have a greater or equal sum, greater exactly if some value is, from any place
sums_from : (f g : ℕ → ℕ) (k n : ℕ) → ((i : ℕ) → i < n → f (k + i) ≤ g (k + i)) → (sum (table_from k n f) ≤ sum (table_from k n g))
    × (nat_lt (sum (table_from k n f)) (sum (table_from k n g)) ≡ list_any (λ v. nat_lt 0 v) (table_from k n (λ c. if nat_lt (f c) (g c) then g c else 0)))
unfolding table_from
sums_from f g k zero h = (omega arith, refl)
sums_from f g k (suc n) h =
    let rest = sums_from f g (suc k) n (λ i l. next i l) in
    let left : sum (f k ∷ table_from (suc k) n f) ≡ f k + sum (table_from (suc k) n f) = sum_by-cons (λ (x : ℕ). x) (f k) (table_from (suc k) n f) in
    let right : sum (g k ∷ table_from (suc k) n g) ≡ g k + sum (table_from (suc k) n g) = sum_by-cons (λ (x : ℕ). x) (g k) (table_from (suc k) n g) in
    (omega (arith, here, rest.0, left, right), rw (left, right) (apart_step (f k) (g k) _ _ _ here rest.0 rest.1))
  where
    here : f k ≤ g k
    here = let e : k + 0 ≡ k = omega arith in rw e at (h 0 (omega arith))

    next : (i : ℕ) → i < n → f (suc k + i) ≤ g (suc k + i)
    next i l = let e : k + suc i ≡ suc k + i = omega arith in rw e at (h (suc i) (omega arith))

-- where no value is above the other one of its class, the sum is below exactly where some value is
pub sum_below : (f g : ℕ → ℕ) → ((c : ℕ) → c < 16 → f c ≤ g c) →
    nat_lt (sum_of f) (sum_of g) ≡ list_any (λ v. nat_lt 0 v) (table 16 (λ c. if nat_lt (f c) (g c) then g c else 0))
sum_below f g h = (sums_from f g 0 16 (λ i l. let e : 0 + i ≡ i = omega arith in rw e (h i l))).1

-- ---- the sum that is kept beside a list of values

-- each entry of a list of zeros is zero
pub zeros : (n i : ℕ) → get_or {A = ℕ} (replicate {A = ℕ} n 0) i 0 ≡ 0
zeros zero i = refl
zeros (suc n) zero = refl
zeros (suc n) (suc i) = zeros n i

-- of no values
pub no_sum : IsSum 0 (replicate {A = ℕ} 16 0)
no_sum =
    record {
      total = let none = sum_bound 0 (value_at (replicate {A = ℕ} 16 0)) (λ c l. let value = zeros 16 c in omega (arith, value)) in omega (arith, none);
      fits = λ c. let value = zeros 16 c in omega (arith, value);
    }

-- with what a value rises by, it fits in 128 bits
pub sum_fits : (total : ℕ) (values : ℕ → ℕ) (by : ℕ) → total ≡ sum_of values → ((c : ℕ) → c < 16 → values c < 2 ^ 64) → by < 2 ^ 64 → total + by < 2 ^ 128
sum_fits total values by e fits low =
    let bound = sum_bound (2 ^ 64) values (λ c l. let value = fits c l in omega (arith, value)) in omega (arith, bound, e)

-- a value rises
pub sum_rises : (total : ℕ) (values : List ℕ) (c to : ℕ) → IsSum total values → length values ≡ 16 → c < 16 → to < 2 ^ 64 → value_at values c < to →
    IsSum (total + (to - value_at values c)) (set values c to)
sum_rises total values c to is size h low up =
    record {
      total = (let moved = sum_moves (value_at values) (value_at (set values c to)) c h (λ k l e. other k (λ s. eqb-false c k e (sym s))) in
          let before = is.total in
          omega (arith, moved, before, here));
      fits = λ k. fits k (c == k) refl;
    }
  where
    here : value_at (set values c to) c ≡ to
    here = get_or-set_same values c to 0 (omega (arith, size))

    other : (k : ℕ) → (k ≡ c → ⊥) → value_at (set values c to) k ≡ value_at values k
    other k apart = get_or-set_other values c k to 0 apart

    fits : (k : ℕ) (b : Bool) → (c == k) ≡ b → value_at (set values c to) k < 2 ^ 64
    fits k true e = rw (← eqb-true c k e, here) low
    fits k false e = rw (other k (λ s. eqb-false c k e (sym s))) (is.fits k)
