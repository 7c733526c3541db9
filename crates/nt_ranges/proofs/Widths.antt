-- How long lines are, and texts of lines.
use Rattle.std.proofs.Common.{arith, refl}
use Rattle.std.proofs.Math.Nat.{mul-suc}
use Rattle.std.proofs.lemmas.List.{length-append}
use Rattle.std.specs.List.{AllByRecursion, join_with_byte}
use Rattle.std.specs.Prelude.{List, [], length, map, suc, ℕ, ◌*◌, ◌++◌, ◌+◌, ◌∷◌, ◌≡◌, ◌≤◌}
use Rattle.nt_script.specs.Text.{declared_rows}
use Rattle.nt_text.specs.Lines.{Row, row_text, rows_text}

-- ---- a line

-- the bytes of fields, with one more for each
abbrev pub width : Row → ℕ
width [] = 0
width (f ∷ fs) = suc (length f + width fs)

-- the width of two rows put together is the sum of their widths
pub width_both : (a b : Row) → width (a ++ b) ≡ width a + width b
width_both [] b = omega arith
width_both (f ∷ fs) b = let more = width_both fs b in omega (arith, more)

-- fields joined by spaces have one byte less than the width of their row
joined_width : (f : List ℕ) (fs : Row) → length (join_with_byte 32 (f ∷ fs)) + 1 ≡ width (f ∷ fs)
joined_width f [] = let one : length (join_with_byte 32 (f ∷ [])) ≡ length f = refl in omega (arith, one)
joined_width f (g ∷ fs) =
    let more = joined_width g fs in
    let parts : length (join_with_byte 32 (f ∷ g ∷ fs)) ≡ length f + suc (length (join_with_byte 32 (g ∷ fs))) =
    length-append f (32 ∷ join_with_byte 32 (g ∷ fs)) in
    omega (arith, more, parts)

-- a line is as long as that: a space stands between two fields, and its end behind the last
pub row_width : (f : List ℕ) (fs : Row) → length (row_text (f ∷ fs)) ≡ width (f ∷ fs)
row_width f fs =
    let parts : length (row_text (f ∷ fs)) ≡ length (join_with_byte 32 (f ∷ fs)) + 1 = length-append (join_with_byte 32 (f ∷ fs)) (10 ∷ []) in
    let whole = joined_width f fs in
    omega (arith, parts, whole)

-- the text of a row that is not empty is no longer than its width
pub row_most : (most : ℕ) (f : List ℕ) (fs : Row) → width (f ∷ fs) ≤ most → length (row_text (f ∷ fs)) ≤ most
row_most most f fs h = let same = row_width f fs in omega (arith, same, h)

-- ---- lines

-- the text of rows is as long as the text of the first row and that of the others together
pub size_cons : (row : Row) (rows : List Row) → length (rows_text (row ∷ rows)) ≡ length (row_text row) + length (rows_text rows)
size_cons row rows = length-append (row_text row) (rows_text rows)

-- the text of two lists of rows put together is as long as the two texts together
pub size_both : (a b : List Row) → length (rows_text (a ++ b)) ≡ length (rows_text a) + length (rows_text b)
size_both [] b = omega arith
size_both (row ∷ rows) b =
    let more = size_both rows b in
    let one = size_cons row rows in
    let all : length (rows_text (row ∷ (rows ++ b))) ≡ length (row_text row) + length (rows_text (rows ++ b)) = size_cons row (rows ++ b) in
    omega (arith, more, one, all)

-- the text of one row alone is as long as the row's text
pub one_size : (row : Row) → length (rows_text (row ∷ [])) ≡ length (row_text row)
one_size row = let one = size_cons row [] in omega (arith, one)

-- one line more of at most so many bytes
one_more : (most k line lines : ℕ) → line ≤ most → lines ≤ most * k → line + lines ≤ most * suc k
one_more most k line lines h m = let next = mul-suc most k in omega (arith, h, m, next)

-- lines of things, each of at most so many bytes
pub mapped_most : {A : Type 0} (P : A → Type 0) (row : A → Row) (most : ℕ) → ((x : A) → P x → length (row_text (row x)) ≤ most) → (xs : List A) →
    AllByRecursion P xs → length (rows_text (map row xs)) ≤ most * length xs
mapped_most P row most f [] h = omega arith
mapped_most P row most f (x ∷ xs) h =
    let whole : length (rows_text (row x ∷ map row xs)) ≡ length (row_text (row x)) + length (rows_text (map row xs)) = size_cons (row x) (map row xs) in
    let sum = one_more most (length xs) (length (row_text (row x))) (length (rows_text (map row xs))) (f x h.0) (mapped_most P row most f xs h.1) in
    omega (arith, whole, sum)

-- lines of things with their names
pub declared_most : {A : Type 0} (N : List ℕ → Type 0) (P : A → Type 0) (row : List ℕ → A → Row) (most : ℕ) →
    ((n : List ℕ) (x : A) → N n → P x → length (row_text (row n x)) ≤ most) → (ns : List (List ℕ)) (xs : List A) → AllByRecursion N ns →
    AllByRecursion P xs → length (rows_text (declared_rows row ns xs)) ≤ most * length xs
declared_most N P row most f [] xs h k = omega arith
declared_most N P row most f (n ∷ ns) [] h k = omega arith
declared_most N P row most f (n ∷ ns) (x ∷ xs) h k =
    let whole : length (rows_text (row n x ∷ declared_rows row ns xs)) ≡ length (row_text (row n x)) + length (rows_text (declared_rows row ns xs)) =
    size_cons (row n x) (declared_rows row ns xs) in
    let sum = one_more most (length xs) (length (row_text (row n x))) (length (rows_text (declared_rows row ns xs))) (f n x h.0 k.0)
    (declared_most N P row most f ns xs h.1 k.1) in
    omega (arith, whole, sum)
