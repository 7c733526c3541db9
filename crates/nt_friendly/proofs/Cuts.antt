-- A line up to its comment, and the parts between blank spaces.
use Rattle.std.proofs.Common.{◌≡◌, ℕ, zero, suc, ◌+◌, ◌≤◌, ◌∷◌, List, [], Bool, true, false, cond, take, drop, length, Some, None, refl, arith}
use Rattle.std.specs.List.{onto_first, position}
use Rattle.std.proofs.lemmas.Bool.{ltb-true, ltb-false}
use Rattle.std.proofs.lemmas.List.Sums.{fails_before_first}
use Rattle.std.proofs.lemmas.List.Splits.{slice_split_first, slice_split_none}
use Rattle.nt_text.specs.Lines.{first, is_byte, parts}
use Rattle.nt_text.proofs.Cuts.{cut_found, cut_missed, none_if, some_if}
use Rattle.nt_friendly.specs.Fields.{begun, blank_parts, has_mark, is_blank, uncommented}

-- bytes with their first blank space at place i are cut into what stands before it and the parts of the rest
pub blank_found : (xs : List ℕ) (i : ℕ) → position is_blank xs ≡ Some i → blank_parts xs ≡ take i xs ∷ blank_parts (drop (i + 1) xs)
blank_found xs i e =
    let at = some_if _ _ _ e in
    rw (← at.1) (slice_split_first is_blank xs 0 (ltb-true _ _ at.0))

-- bytes without blank space are one part
pub blank_missed : (xs : List ℕ) → position is_blank xs ≡ None → blank_parts xs ≡ xs ∷ []
blank_missed xs e =
    let le = ltb-false _ _ (none_if _ _ e) in
    slice_split_none is_blank xs (λ i d h. fails_before_first is_blank xs i d (omega arith))

-- a line with its first # at place i is read up to there
pub comment_found : (xs : List ℕ) (i : ℕ) → position (is_byte 35) xs ≡ Some i → take i xs ≡ uncommented xs
comment_found xs i e = rw (cut_found 35 xs i e) refl

-- a line without # is read whole
pub comment_missed : (xs : List ℕ) → position (is_byte 35) xs ≡ None → xs ≡ uncommented xs
comment_missed xs e = rw (cut_missed 35 xs e) refl

-- ---- how many bytes

-- the bytes of parts, each with one blank space behind it
abbrev pub bytes_of : List (List ℕ) → ℕ
bytes_of [] = 0
bytes_of (part ∷ more) = length part + 1 + bytes_of more

-- the parts of a text have its bytes and one more
pub bytes_total : (bytes : List ℕ) → bytes_of (blank_parts bytes) ≡ length bytes + 1
bytes_total [] = refl
bytes_total (b ∷ bs) = go (is_blank b) (blank_parts bs) (bytes_total bs)
  where
    onto : (ps : List (List ℕ)) → bytes_of ps ≡ length bs + 1 → bytes_of (onto_first b ps) ≡ length bs + 2
    onto [] e = absurd (omega (arith, e))
    onto (p ∷ ps) e = omega (arith, e)

    go : (t : Bool) (ps : List (List ℕ)) → bytes_of ps ≡ length bs + 1 → bytes_of (cond t ([] ∷ ps) (onto_first b ps)) ≡ length (b ∷ bs) + 1
    go true ps e = omega (arith, e)
    go false ps e = let h = onto ps e in omega (arith, h)

-- what is left behind blank space is no longer
pub begun_short : (n : ℕ) (bytes : List ℕ) → length (begun n bytes) ≤ length bytes
begun_short n [] = omega arith
begun_short (suc n) (b ∷ more) = omega (arith, begun_short n more)
begun_short zero (b ∷ more) = go (is_blank b) (has_mark (b ∷ more)) (begun_short zero more) (begun_short 2 more)
  where
    go : (s t : Bool) → length (begun zero more) ≤ length more → length (begun 2 more) ≤ length more →
        length (cond s (begun zero more) (cond t (begun 2 more) (b ∷ more))) ≤ length (b ∷ more)
    go true t h k = omega (arith, h)
    go false true h k = omega (arith, k)
    go false false h k = omega arith

-- a line is no longer without its comment
pub uncommented_short : (line : List ℕ) → length (uncommented line) ≤ length line
uncommented_short [] = omega arith
uncommented_short (b ∷ bs) = go (is_byte 35 b) (parts 35 bs) (uncommented_short bs)
  where
    go : (t : Bool) (ps : List (List ℕ)) → length (first ps) ≤ length bs → length (first (cond t ([] ∷ ps) (onto_first b ps))) ≤ length (b ∷ bs)
    go true ps h = omega arith
    go false [] h = omega arith
    go false (p ∷ ps) h = omega (arith, h)
