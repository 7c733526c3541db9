-- All rows of marks, as the marked ones tell them.
use Rattle.std.proofs.Common.{ap, arith, inl, inr, set, sym, zero, ◌∙◌}
use Rattle.std.proofs.lemmas.Bool.{cases_eq, cases_order, eq-eqb, le-ltb, lt-ltb, ne_eqb}
use Rattle.std.proofs.lemmas.List.{get_or-replicate, get_or-set_other, get_or-set_same, length-replicate, length-set}
use Rattle.std.proofs.lemmas.List.Edits.{length-insert}
use Rattle.std.specs.Int.Bits.{bit_or, or_zero_l}
use Rattle.std.specs.List.{insert}
use Rattle.std.specs.Prelude.{List, [], get_or, if◌then◌else◌, length, refl, replicate, suc, ℕ, ◌+◌, ◌<◌, ◌==◌, ◌∷◌, ◌≡◌, ◌≤◌}
use Rattle.nt_event.proofs.Tables.{get_or-table, is_table, length-table_from}
use Rattle.nt_plain.specs.declared.marks.MarkedRow.{MarkedRow}
use Rattle.nt_plain.specs.Rows.{AreRising, GoesAt, StandsAt, all_rows, classes_of, row_at, with_classes}

-- ---- rising rows

-- each row is no less than where they rise from
least : (from end i : ℕ) (marked : List MarkedRow) → AreRising from end marked → i < length marked → from ≤ row_at marked i
least from end i [] h l = absurd (omega (arith, l))
least from end zero (m ∷ marked) h l = h.0
least from end (suc i) (m ∷ marked) h l =
    let low : m.row + 1 ≤ row_at marked i = least (m.row + 1) end i marked h.1 (omega (arith, l)) in
    omega (arith, low, h.0)

-- there are no more of them than numbers
fits : (from end : ℕ) (marked : List MarkedRow) → AreRising from end marked → from + length marked ≤ end
fits from end [] h = omega (arith, h)
fits from end (m ∷ marked) h = let rest = fits (m.row + 1) end marked h.1 in omega (arith, rest, h.0)

-- a row below them has no entry
none_below : (from end row : ℕ) (marked : List MarkedRow) → AreRising from end marked → row < from → classes_of marked row ≡ 0
none_below from end row [] h l = refl
none_below from end row (m ∷ marked) h l =
    rw (ne_eqb m.row row (λ e. omega (arith, h.0))) (none_below (m.row + 1) end row marked h.1 (omega (arith, h.0)))

-- ---- a row that is sought

-- the first row is below the one that stands, or goes, behind it
before_stands : (from end i row : ℕ) (m : MarkedRow) (marked : List MarkedRow) → AreRising from end (m ∷ marked) → StandsAt row (m ∷ marked) (suc i) →
    m.row < row
before_stands from end i row m marked h s =
    let low : m.row + 1 ≤ row_at marked i = least (m.row + 1) end i marked h.1 (omega (arith, s.bound)) in
    omega (arith, low, s.here)

-- a row that goes in after the first marked row is above it
before_goes : (from end i row : ℕ) (m : MarkedRow) (marked : List MarkedRow) → AreRising from end (m ∷ marked) → GoesAt row (m ∷ marked) (suc i) →
    m.row < row
before_goes from end zero row m marked h g = g.before 0 (omega arith)
before_goes from end (suc i) row m marked h g =
    let low : m.row + 1 ≤ row_at marked i = least (m.row + 1) end i marked h.1 (omega (arith, g.bound)) in
    let last : row_at marked i < row = g.before (suc i) (omega arith) in
    omega (arith, low, last)

-- among the others, it is one place nearer
stands_behind : (i row : ℕ) (m : MarkedRow) (marked : List MarkedRow) → StandsAt row (m ∷ marked) (suc i) → StandsAt row marked i
stands_behind i row m marked s = record { bound = omega (arith, s.bound); here = s.here }

-- a row that goes in after the first marked row goes in at one place less among the rest
goes_behind : (i row : ℕ) (m : MarkedRow) (marked : List MarkedRow) → GoesAt row (m ∷ marked) (suc i) → GoesAt row marked i
goes_behind i row m marked g = record {
  bound = omega (arith, g.bound);
  before = λ k e. g.before (suc k) (omega (arith, e));
  behind = λ l. g.behind (omega (arith, l));
}

-- the entry has the classes of the row
pub found : (from end i row : ℕ) (m : MarkedRow) (marked : List MarkedRow) → AreRising from end marked → StandsAt row marked i → m ≡ get_or marked i m →
    m.classes ≡ classes_of marked row
found from end i row m [] h s e = absurd (omega (arith, s.bound))
found from end zero row m (n ∷ marked) h s e =
    rw (eq-eqb n.row row s.here) (ap (λ (x : MarkedRow). x.classes) e)
found from end (suc i) row m (n ∷ marked) h s e =
    let low = before_stands from end i row n marked h s in
    rw (ne_eqb n.row row (λ f. omega (arith, low, f))) (found (n.row + 1) end i row m marked h.1 (stands_behind i row n marked s) e)

-- a row without an entry has none
pub missing : (from end i row : ℕ) (marked : List MarkedRow) → AreRising from end marked → GoesAt row marked i → classes_of marked row ≡ 0
missing from end i row [] h g = refl
missing from end zero row (m ∷ marked) h g =
    let high : row < m.row = g.behind (omega arith) in
    none_below m.row end row (m ∷ marked) (omega arith, h.1) high
missing from end (suc i) row (m ∷ marked) h g =
    let low = before_goes from end i row m marked h g in
    rw (ne_eqb m.row row (λ f. omega (arith, low, f))) (missing (m.row + 1) end i row marked h.1 (goes_behind i row m marked g))

-- ---- a row with classes more

-- the entry gets the classes where it stands
pub stands_with : (from end i row classes : ℕ) (m : MarkedRow) (marked : List MarkedRow) → AreRising from end marked → StandsAt row marked i →
    m ≡ get_or marked i m → set marked i (record m { classes = bit_or m.classes classes }) ≡ with_classes row classes marked
stands_with from end i row classes m [] h s e = absurd (omega (arith, s.bound))
stands_with from end zero row classes m (n ∷ marked) h s e =
    rw (eq-eqb n.row row s.here, e) refl
stands_with from end (suc i) row classes m (n ∷ marked) h s e =
    let low = before_stands from end i row n marked h s in
    rw (ne_eqb n.row row (λ f. omega (arith, low, f)), lt-ltb n.row row low)
    (ap (λ (l : List MarkedRow). n ∷ l) (stands_with (n.row + 1) end i row classes m marked h.1 (stands_behind i row n marked s) e))

-- a new entry goes in with them
pub goes_with : (from end i row classes : ℕ) (marked : List MarkedRow) → AreRising from end marked → GoesAt row marked i →
    insert marked i (record { row = row; classes = classes }) ≡ with_classes row classes marked
goes_with from end zero row classes [] h g = refl
goes_with from end (suc i) row classes [] h g = absurd (omega (arith, g.bound))
goes_with from end zero row classes (m ∷ marked) h g =
    let high : row < m.row = g.behind (omega arith) in
    rw (ne_eqb m.row row (λ f. omega (arith, high, f)), le-ltb m.row row (omega (arith, high))) refl
goes_with from end (suc i) row classes (m ∷ marked) h g =
    let low = before_goes from end i row m marked h g in
    rw (ne_eqb m.row row (λ f. omega (arith, low, f)), lt-ltb m.row row low)
    (ap (λ (l : List MarkedRow). m ∷ l) (goes_with (m.row + 1) end i row classes marked h.1 (goes_behind i row m marked g)))

-- the rows rise still
pub rises_with : (from end row classes : ℕ) (marked : List MarkedRow) → AreRising from end marked → from ≤ row → row < end →
    AreRising from end (with_classes row classes marked)
rises_with from end row classes [] h l r = (l, omega (arith, r))
rises_with from end row classes (m ∷ marked) h l r =
    elim (cases_order m.row row) [
      | inl e ↦ rw (eq-eqb m.row row e) h
      | inr d ↦ elim d [
        | inl low ↦ rw (ne_eqb m.row row (λ f. omega (arith, low, f)), lt-ltb m.row row low)
            (h.0, rises_with (m.row + 1) end row classes marked h.1 (omega (arith, low)) r)
        | inr high ↦ rw (ne_eqb m.row row (λ f. omega (arith, high, f)), le-ltb m.row row (omega (arith, high))) (l, (omega (arith, high), h.1))
      ]
    ]

-- they rise below a greater end too
pub rises_under : (from end other : ℕ) (marked : List MarkedRow) → AreRising from end marked → end ≤ other → AreRising from other marked
rises_under from end other [] h k = omega (arith, h, k)
rises_under from end other (m ∷ marked) h k = (h.0, rises_under (m.row + 1) end other marked h.1 k)

-- there is room for one more, where one goes in
pub room_for : (end i row classes : ℕ) (marked : List MarkedRow) → AreRising 0 end marked → row < end → GoesAt row marked i → length marked < end
room_for end i row classes marked h r g =
    let entry : MarkedRow = record { row = row; classes = classes } in
    let more : length (insert marked i entry) ≡ length marked + 1 = length-insert marked i entry g.bound in
    let all : 0 + length (with_classes row classes marked) ≤ end = fits 0 end (with_classes row classes marked)
    (rises_with 0 end row classes marked h (omega arith) r) in
    let same : length (insert marked i entry) ≡ length (with_classes row classes marked) = ap (λ (l : List MarkedRow). length l)
    (goes_with 0 end i row classes marked h g) in
    omega (arith, more, all, same)

-- the row has the classes of before, and these
here_with : (from end row classes : ℕ) (marked : List MarkedRow) → AreRising from end marked →
    classes_of (with_classes row classes marked) row ≡ bit_or (classes_of marked row) classes
here_with from end row classes [] h = rw (eq-eqb row row refl, or_zero_l classes) refl
here_with from end row classes (m ∷ marked) h =
    elim (cases_order m.row row) [
      | inl e ↦ let same = eq-eqb m.row row e in rw (same, same) refl
      | inr d ↦ elim d [
        | inl low ↦ let e = ne_eqb m.row row (λ f. omega (arith, low, f)) in
            rw (e, lt-ltb m.row row low) (rw e (here_with (m.row + 1) end row classes marked h.1))
        | inr high ↦ rw (
          ne_eqb m.row row (λ f. omega (arith, high, f)),
          le-ltb m.row row (omega (arith, high)),
          eq-eqb row row refl,
          none_below (m.row + 1) end row marked h.1 (omega (arith, high)),
          or_zero_l classes,
        ) refl
      ]
    ]

-- any other row has what it had
others_with : (row classes k : ℕ) (marked : List MarkedRow) → (k ≡ row → ⊥) → classes_of (with_classes row classes marked) k ≡ classes_of marked k
others_with row classes k [] apart = rw (ne_eqb row k (λ e. apart (sym e))) refl
others_with row classes k (m ∷ marked) apart =
    elim (cases_order m.row row) [
      | inl e ↦ rw (eq-eqb m.row row e, ne_eqb m.row k (λ f. apart (sym f ∙ e))) refl
      | inr d ↦ elim d [
        | inl low ↦ rw (ne_eqb m.row row (λ f. omega (arith, low, f)), lt-ltb m.row row low)
            (ap (λ (v : ℕ). if m.row == k then m.classes else v) (others_with row classes k marked apart))
        | inr high ↦ rw (ne_eqb m.row row (λ f. omega (arith, high, f)), le-ltb m.row row (omega (arith, high)), ne_eqb row k (λ e. apart (sym e))) refl
      ]
    ]

-- ---- all rows

-- the list of all rows has as many entries as there are rows
size : (count : ℕ) (marked : List MarkedRow) → length (all_rows count marked) ≡ count
size count marked = length-table_from 0 count (λ row. classes_of marked row)

-- a row of the list that contracts see
pub row_below : (count : ℕ) (marked : List MarkedRow) (row : ℕ) (all : List ℕ) → all_rows count marked ≡ all → row < length all → row < count
row_below count marked row all e lt =
    let long = size count marked in
    let same : length (all_rows count marked) ≡ length all = ap (λ (l : List ℕ). length l) e in
    omega (arith, long, same, lt)

-- each row of the full list has the classes that its marked entry tells, or none
pub row_read : (count : ℕ) (marked : List MarkedRow) (row : ℕ) (all : List ℕ) → all_rows count marked ≡ all → row < length all →
    classes_of marked row ≡ get_or all row 0
row_read count marked row all e lt =
    sym (get_or-table count row (λ r. classes_of marked r) 0 (row_below count marked row all e lt)) ∙ ap (λ (l : List ℕ). get_or l row 0) e

-- where no row is marked
pub rows_none : (count : ℕ) → all_rows count [] ≡ replicate count 0
rows_none count = sym (is_table (replicate count 0) count (λ row. 0) (length-replicate count 0) (λ i h. get_or-replicate count i 0 0 h))

-- a row with a mark more
pub rows_marked : (count end row bits : ℕ) (marked : List MarkedRow) (all : List ℕ) → AreRising 0 end marked → all_rows count marked ≡ all → row < length all →
    all_rows count (with_classes row bits marked) ≡ set all row (bit_or (get_or all row 0) bits)
rows_marked count end row bits marked all h e lt =
    sym (is_table (set all row (bit_or (get_or all row 0) bits)) count (λ k. classes_of (with_classes row bits marked) k)
    (length-set all row (bit_or (get_or all row 0) bits) ∙ long) each)
  where
    long : length all ≡ count
    long = ap (λ (l : List ℕ). length l) (sym e) ∙ size count marked

    read : (k : ℕ) → k < count → classes_of marked k ≡ get_or all k 0
    read k l = row_read count marked k all e (omega (arith, l, long))

    each : (k : ℕ) → k < count → get_or (set all row (bit_or (get_or all row 0) bits)) k 0 ≡ classes_of (with_classes row bits marked) k
    each k l =
        elim (cases_eq k row) [
          | inl same ↦ rw (same, get_or-set_same all row (bit_or (get_or all row 0) bits) 0 lt, here_with 0 end row bits marked h)
              (ap (λ (v : ℕ). bit_or v bits) (sym (row_read count marked row all e lt)))
          | inr apart ↦ get_or-set_other all row k (bit_or (get_or all row 0) bits) 0 apart ∙ (sym (read k l) ∙ sym (others_with row bits k marked apart))
        ]
