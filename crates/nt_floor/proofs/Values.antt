-- Sixteen values, one for each class: one is written or raised, and whether one is above.
use Rattle.std.proofs.Common.{ap, arith, max, ◌∙◌}
use Rattle.std.proofs.lemmas.Bool.Decides.{nat_tests}
use Rattle.std.proofs.lemmas.List.{get_or-set_other, get_or-set_same, length-set}
use Rattle.std.proofs.lemmas.List.Elements.{All-from_get_or}
use Rattle.std.proofs.lemmas.List.Folds.{list_any_at, list_any_none}
use Rattle.std.specs.List.{list_any}
use Rattle.std.specs.Prelude.{Bool, List, false, get_or, if◌then◌else◌, length, nat_lt, refl, set, true, ℕ, ◌+◌, ◌<◌, ◌==◌, ◌≡◌, ◌≢◌, ◌≤◌}
use Rattle.nt_event.specs.Lists.{table, value_at}
use Rattle.nt_event.proofs.Tables.{get_or-table, is_table, length-table_from, table-same}

-- sixteen values are their table
pub values_table : (xs : List ℕ) → length xs ≡ 16 → xs ≡ table 16 (λ c. value_at xs c)
values_table xs l = is_table xs 16 (λ c. value_at xs c) l (λ i h. refl)

-- one of sixteen values written
pub set_table : (xs : List ℕ) (k v : ℕ) → length xs ≡ 16 → k < 16 → set xs k v ≡ table 16 (λ c. if k == c then v else value_at xs c)
set_table xs k v l h =
    is_table (set xs k v) 16 (λ c. if k == c then v else value_at xs c) (length-set xs k v ∙ l) (λ i b. go i (k == i) refl)
  where
    go : (i : ℕ) (b : Bool) → (k == i) ≡ b → get_or (set xs k v) i 0 ≡ (if b then v else value_at xs i)
    go i true e =
        let j : i ≡ k = grind (arith, nat_tests) in rw j (get_or-set_same xs k v 0 (omega (arith, l)))
    go i false e = let n : i ≢ k = λ j. grind (arith, nat_tests) in get_or-set_other xs k i v 0 n

-- ---- one value is raised

-- the greater of a value and zero is the value
most_of_none : (v : ℕ) → max v 0 ≡ v
most_of_none v = omega arith

-- none is
pub raised_none : (xs : List ℕ) → length xs ≡ 16 → xs ≡ table 16 (λ c. max (value_at xs c) 0)
raised_none xs l = values_table xs l ∙ table-same 16 _ _ (λ c b. let m = most_of_none (value_at xs c) in omega (arith, m))

-- case of one class: writing a value not below the old one is raising the class to it
one_value : (xs : List ℕ) (k v c : ℕ) (here : Bool) → (k == c) ≡ here → max (value_at xs k) v ≡ v → (if here then v else value_at xs c)
    ≡ max (value_at xs c) (if here then v else 0)
one_value xs k v c true e m = let i : k ≡ c = grind (arith, nat_tests) in rw (← i) (let n = m in omega (arith, n))
one_value xs k v c false e m = let n = most_of_none (value_at xs c) in omega (arith, n)

-- it rises
pub raised_one : (xs : List ℕ) (k v : ℕ) → length xs ≡ 16 → k < 16 → value_at xs k < v → set xs k v
    ≡ table 16 (λ c. max (value_at xs c) (if k == c then v else 0))
raised_one xs k v l h r =
    set_table xs k v l h ∙ table-same 16 _ _ (λ c b. one_value xs k v c (k == c) refl (omega (arith, r)))

-- case of one class: raising a class to a value that isn't above its own leaves it
stays_value : (xs : List ℕ) (k v c : ℕ) (here : Bool) → (k == c) ≡ here → v ≤ value_at xs k → value_at xs c ≡ max (value_at xs c) (if here then v else 0)
stays_value xs k v c true e m = let i : k ≡ c = grind (arith, nat_tests) in let n = rw i at m in omega (arith, n)
stays_value xs k v c false e m = let n = most_of_none (value_at xs c) in omega (arith, n)

-- it is not below
pub raised_already : (xs : List ℕ) (k v : ℕ) → length xs ≡ 16 → v ≤ value_at xs k → xs ≡ table 16 (λ c. max (value_at xs c) (if k == c then v else 0))
raised_already xs k v l h =
    values_table xs l ∙ table-same 16 _ _ (λ c b. stays_value xs k v c (k == c) refl h)

-- a value after it
pub raised_value : (xs ys : List ℕ) (k v i : ℕ) → ys ≡ table 16 (λ c. max (value_at xs c) (if k == c then v else 0)) → i < 16 → value_at ys i
    ≡ max (value_at xs i) (if k == i then v else 0)
raised_value xs ys k v i e h =
    ap (λ (zs : List ℕ). value_at zs i) e ∙ get_or-table 16 i (λ c. max (value_at xs c) (if k == c then v else 0)) 0 h

-- another class's value stays
pub raised_other : (xs ys : List ℕ) (k v i : ℕ) → ys ≡ table 16 (λ c. max (value_at xs c) (if k == c then v else 0)) → i < 16 → k ≢ i → value_at ys i
    ≡ value_at xs i
raised_other xs ys k v i e h n =
    let f : (k == i) ≡ false = grind (arith, nat_tests) in
    raised_value xs ys k v i e h ∙ (ap (λ (b : Bool). max (value_at xs i) (if b then v else 0)) f ∙ most_of_none (value_at xs i))

-- the values below the class k are raised to these, and then that of k is
pub raised_next : (old values xs ys : List ℕ) (k i : ℕ) → ys ≡ table 16 (λ c. max (value_at xs c) (if k == c then value_at values k else 0)) → k < 16 →
    ((c : ℕ) → c < k → value_at xs c ≡ max (value_at old c) (value_at values c)) → value_at xs k ≡ value_at old k → i < k + 1 → value_at ys i
    ≡ max (value_at old i) (value_at values i)
raised_next old values xs ys k i e h low here b = go (k == i) refl
  where
    go : (same : Bool) → (k == i) ≡ same → value_at ys i ≡ max (value_at old i) (value_at values i)
    go true t =
        let j : k ≡ i = grind (arith, nat_tests) in
        let s : (k == k) ≡ true = grind (arith, nat_tests) in
        rw (← j) (raised_value xs ys k (value_at values k) k e h
        ∙ (ap (λ (c : Bool). max (value_at xs k) (if c then value_at values k else 0)) s ∙ ap (λ (v : ℕ). max v (value_at values k)) here))
    go false t =
        raised_other xs ys k (value_at values k) i e (omega arith) (λ j. grind (arith, nat_tests)) ∙ low i (grind (arith, nat_tests))

-- ---- whether some value is above

-- the value of a class where it is above the one seen, else 0
abbrev pub above_at : List ℕ → List ℕ → ℕ → ℕ
above_at seen values k = if nat_lt (value_at seen k) (value_at values k) then value_at values k else 0

-- if a class's value is above what was seen, what it has above is more than zero
rises : (seen values : List ℕ) (k : ℕ) → value_at seen k < value_at values k → nat_lt 0 (above_at seen values k) ≡ true
rises seen values k h =
    let t : nat_lt (value_at seen k) (value_at values k) ≡ true = grind (arith, nat_tests) in
    let z : nat_lt 0 (value_at values k) ≡ true = grind (arith, nat_tests) in
    rw t z

-- one class with a value above the one seen is enough
pub some_above : (seen values : List ℕ) (k : ℕ) → k < 16 → value_at seen k < value_at values k →
    list_any (λ v. nat_lt 0 v) (table 16 (above_at seen values)) ≡ true
some_above seen values k b h =
    list_any_at (λ v. nat_lt 0 v) (table 16 (above_at seen values)) k 0 (let n = length-table_from 0 16 (above_at seen values) in omega (arith, n, b))
    (rw (get_or-table 16 k (above_at seen values) 0 b) (rises seen values k h))

-- if a class's value isn't above what was seen, what it has above is zero
stays : (seen values : List ℕ) (k : ℕ) → nat_lt (value_at seen k) (value_at values k) ≡ false → nat_lt 0 (above_at seen values k) ≡ false
stays seen values k h = rw h refl

-- if no class's value is above the one seen, no entry of the table of values above those seen is above zero
pub none_above : (seen values : List ℕ) → ((k : ℕ) → k < 16 → nat_lt (value_at seen k) (value_at values k) ≡ false) →
    list_any (λ v. nat_lt 0 v) (table 16 (above_at seen values)) ≡ false
none_above seen values h =
    list_any_none (λ v. nat_lt 0 v) (table 16 (above_at seen values)) (All-from_get_or (λ v. nat_lt 0 v ≡ false) (table 16 (above_at seen values)) 0
    (λ k b. let c : k < 16 = (let n = length-table_from 0 16 (above_at seen values) in omega (arith, n, b)) in
    rw (get_or-table 16 k (above_at seen values) 0 c) (stays seen values k (h k c))))
