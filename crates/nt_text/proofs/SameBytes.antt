-- When two lists of bytes are the same.
use Rattle.std.proofs.Common.{◌≡◌, ℕ, ◌<◌, ◌++◌, ◌∙◌, true, false, List, length, get_or, take, ap}
use Rattle.std.specs.Prelude.{◌≢◌}
use Rattle.std.specs.Str.{bytes_eq}
use Rattle.std.proofs.lemmas.Bool.{false_from_ne_true}
use Rattle.std.proofs.lemmas.Grind.{same_number_lists}
use Rattle.std.proofs.lemmas.Slice.Eq.{bytes_eq-Decides}
use Rattle.std.proofs.Math.Seq.{take-append_seam}

-- lists of bytes of different lengths are not equal
pub other_length : (xs ys : List ℕ) → length xs ≢ length ys → bytes_eq xs ys ≡ false
other_length xs ys differ = false_from_ne_true (bytes_eq xs ys) (λ same. differ (ap (λ (l : List ℕ). length l) ((bytes_eq-Decides xs ys).0 same)))

-- lists of bytes that differ at one place are not equal
pub other_byte : (xs ys : List ℕ) (i : ℕ) → get_or xs i 0 ≢ get_or ys i 0 → bytes_eq xs ys ≡ false
other_byte xs ys i differ = false_from_ne_true (bytes_eq xs ys) (λ same. differ (ap (λ (l : List ℕ). get_or l i 0) ((bytes_eq-Decides xs ys).0 same)))

-- lists of bytes of one length that agree at each place are equal
pub same_bytes : (xs ys : List ℕ) → length xs ≡ length ys → ((k : ℕ) → k < length xs → get_or xs k 0 ≡ get_or ys k 0) → bytes_eq xs ys ≡ true
same_bytes xs ys long same = (bytes_eq-Decides xs ys).1 (same_number_lists xs ys long same)

-- what bytes begin with is the head that stands before the rest
pub same_head : (head bytes front rest : List ℕ) → front ≡ take (length head) bytes → bytes ≡ head ++ rest → bytes_eq front head ≡ true
same_head head bytes front rest first whole =
    (bytes_eq-Decides front head).1 (first ∙ ap (λ (l : List ℕ). take (length head) l) whole ∙ take-append_seam head rest)
