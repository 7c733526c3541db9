-- The table of two digits, and a number's digits by it.
use Rattle.std.proofs.Common.{◌≡◌, ℕ, zero, suc, ◌+◌, ◌-◌, ◌*◌, ◌/◌, ◌%◌, ◌^◌, ◌<◌, ◌≤◌, Bool, true, ◌&&◌, T, eqb, ◌∷◌, ◌++◌, get_or, refl, arith}
use Rattle.std.proofs.Common.{eq-zero-or-pos, eqb→eq, inl, inr}
use lib.Ieee.Fits.{and_l, and_r}
use Rattle.std.specs.Fmt.{decimal}
use Rattle.std.proofs.lemmas.Fmt.{decimal_digit}
use Rattle.itoa.proofs.Decimal.{decimal_two, decimal_pair, decimal_four}
use Rattle.nt_text.specs.Digits.{two_digits}
use Rattle.nt_text.specs.declared.printing.TheConstants.{PAIRS}

abbrev are_pairs : ℕ → Bool
are_pairs zero = true
are_pairs (suc p) = (eqb (get_or PAIRS (p * 2) 0) (48 + p / 10) && eqb (get_or PAIRS (p * 2 + 1) 0) (48 + p % 10)) && are_pairs p

-- if the table of pairs passes the test up to a bound, it holds the two digits of each number below the bound
below : (n p : ℕ) → T (are_pairs n) → p < n → (get_or PAIRS (p * 2) 0 ≡ 48 + p / 10) × (get_or PAIRS (p * 2 + 1) 0 ≡ 48 + p % 10)
below zero p t h = absurd (omega arith)
below (suc n) p t h =
    elim (eq-zero-or-pos (n - p)) [
      | inl z ↦ let e : p ≡ n = omega arith in let a = and_l _ (are_pairs n) t in rw e (eqb→eq _ _ (and_l _ _ a), eqb→eq _ _ (and_r _ _ a))
      | inr g ↦ below n p (and_r _ (are_pairs n) t) (omega arith)
    ]

-- for each number below 100 the table of pairs holds its two digits
pub pairs_at : (p : ℕ) → p < 100 → (get_or PAIRS (p * 2) 0 ≡ 48 + p / 10) × (get_or PAIRS (p * 2 + 1) 0 ≡ 48 + p % 10)
pairs_at p h = below 100 p tt h

-- three and four digits
pub three : (n : ℕ) → 100 ≤ n → n < 1000 → decimal n ≡ (48 + n / 100) ∷ two_digits (n % 100)
three n lo hi = rw (decimal_pair n lo (omega arith), decimal_digit (n / 100) (omega arith)) refl

-- a number of four digits is written as the two digits of its hundreds and the two of the rest
pub four : (n : ℕ) → 1000 ≤ n → n < 10000 → decimal n ≡ two_digits (n / 100) ++ two_digits (n % 100)
four n lo hi = rw (decimal_pair n (omega arith) (omega arith), decimal_two (n / 100) (omega arith) (omega arith)) refl

-- a number of four digits is written as two pairs of digits, both taken from its rest by 10000
pub four_again : (n : ℕ) → 1000 ≤ n → n < 10000 → decimal n ≡ two_digits (n % 10000 / 100) ++ two_digits (n % 10000 % 100)
four_again n lo hi = let same : n % 10000 ≡ n = omega arith in rw same (four n lo hi)

-- a longer number: what stands before its last four digits, and these
pub longer : (n : ℕ) → 10000 ≤ n → n < 2 ^ 64 → decimal n ≡ decimal (n / 10000) ++ (two_digits (n % 10000 / 100) ++ two_digits (n % 10000 % 100))
longer n lo hi = decimal_four n lo hi

-- five and six digits
pub five_by_first : (n : ℕ) → 10000 ≤ n → n < 100000 → decimal n ≡ (48 + n / 10000) ∷ (two_digits (n % 10000 / 100) ++ two_digits (n % 10000 % 100))
five_by_first n lo hi = rw (longer n lo (omega arith), decimal_digit (n / 10000) (omega arith)) refl

-- a number of five digits is written as its first digit and then two pairs of digits
pub five : (n : ℕ) → 10000 ≤ n → n < 100000 → decimal n ≡ (48 + n / 10000 % 10) ∷ (two_digits (n % 10000 / 100) ++ two_digits (n % 10000 % 100))
five n lo hi =
    let first : n / 10000 % 10 ≡ n / 10000 = omega arith in
    rw (five_by_first n lo hi, first) refl

-- a number of six digits is written as three pairs of digits
pub six : (n : ℕ) → 100000 ≤ n → n < 1000000 → decimal n ≡ two_digits (n / 10000) ++ (two_digits (n % 10000 / 100) ++ two_digits (n % 10000 % 100))
six n lo hi = rw (longer n (omega arith) (omega arith), decimal_two (n / 10000) (omega arith) (omega arith)) refl
