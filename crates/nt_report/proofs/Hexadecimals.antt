-- A number that is written in hexadecimal is read again.
use Rattle.std.proofs.Common.{◌≡◌, ◌≢◌, ◌∙◌, ℕ, zero, suc, ◌+◌, ◌*◌, ◌/◌, ◌%◌, ◌<◌, ◌≤◌, Bool, true, false, cond, List, [], ◌∷◌, refl, ap, arith, lit≤}
use Rattle.std.specs.Prelude.{nat_le, nat_lt, ◌&&◌, ◌==◌, Ok}
use Rattle.std.specs.Char.{is_ascii_digit}
use Rattle.std.specs.Fmt.{digit_glyph, digits, digits_onto}
use Rattle.std.proofs.lemmas.Bool.{and_from, eqb-true, eqb-false, le-leb, lt-leb, ltb-false, ltb-true, ne_eqb}
use Rattle.std.proofs.Math.Nat.{div-add-mod, mod-lt}
use Rattle.nt_report.specs.Fields.{hexadecimal_after, hexadecimal_of, hexadecimal_value, is_hexadecimal_digit, read_hexadecimal}

-- one digit more
digit_step : (c m v : ℕ) (more : List ℕ) → is_hexadecimal_digit c ≡ true → hexadecimal_value c ≡ v → m ≤ 268435455 →
    hexadecimal_after m (c ∷ more) ≡ hexadecimal_after (16 * m + v) more
digit_step c m v more h e le = rw (h, le-leb m 268435455 le, e) refl

-- the glyph of a digit below ten is a hexadecimal digit with that value
low_digit : (d : ℕ) → d < 10 → (is_hexadecimal_digit (48 + d) ≡ true) × (hexadecimal_value (48 + d) ≡ d)
low_digit d lt =
    let digit : is_ascii_digit (48 + d) ≡ true =
    and_from (nat_le 48 (48 + d)) (nat_le (48 + d) 57) (le-leb 48 (48 + d) (omega arith)) (le-leb (48 + d) 57 (omega (arith, lt))) in
    (rw digit refl, rw digit (omega arith))

-- the glyph of a digit from ten to fifteen is a hexadecimal digit with that value
high_digit : (d : ℕ) → 10 ≤ d → d < 16 → (is_hexadecimal_digit (87 + d) ≡ true) × (hexadecimal_value (87 + d) ≡ d)
high_digit d le lt =
    let digit : is_ascii_digit (87 + d) ≡ false = rw (le-leb 48 (87 + d) (omega arith), lt-leb (87 + d) 57 (omega (arith, le))) refl in
    let letter : (nat_le 97 (87 + d) && nat_le (87 + d) 102) ≡ true =
    and_from (nat_le 97 (87 + d)) (nat_le (87 + d) 102) (le-leb 97 (87 + d) (omega (arith, le))) (le-leb (87 + d) 102 (omega (arith, lt))) in
    (rw (digit, letter) refl, rw digit (omega arith))

-- the digit of a number below 16
glyph_read : (m d : ℕ) (more : List ℕ) → d < 16 → m ≤ 268435455 → hexadecimal_after m (digit_glyph false d ∷ more) ≡ hexadecimal_after (16 * m + d) more
glyph_read m d more lt le = go (nat_lt d 10) refl
  where
    go : (b : Bool) → nat_lt d 10 ≡ b → hexadecimal_after m (cond b (48 + d) (87 + d) ∷ more) ≡ hexadecimal_after (16 * m + d) more
    go true is = let f = low_digit d (ltb-true d 10 is) in digit_step (48 + d) m d more f.0 f.1 le
    go false is = let f = high_digit d (ltb-false d 10 is) lt in digit_step (87 + d) m d more f.0 f.1 le

-- the greatest number of so many digits and one
abbrev most : ℕ → ℕ
most zero = 15
most (suc k) = 16 * most k + 15

abbrev Onto : ℕ → Type 0
Onto k = (n : ℕ) (more : List ℕ) → n ≤ most k → n ≤ 4294967295 → hexadecimal_after 0 (digits_onto (suc k) 16 false n more) ≡ hexadecimal_after n more

-- a last digit
last_read : (n : ℕ) (more : List ℕ) → n / 16 ≡ 0 → hexadecimal_after 0 (digit_glyph false (n % 16) ∷ more) ≡ hexadecimal_after n more
last_read n more q =
    let all : 16 * (n / 16) + n % 16 ≡ n = div-add-mod n 16 in
    let lt : n % 16 < 16 = mod-lt n (omega arith) in
    let same : 16 * 0 + n % 16 ≡ n = omega (arith, all, q) in
    glyph_read 0 (n % 16) more lt (omega arith) ∙ ap (λ (x : ℕ). hexadecimal_after x more) same

-- a digit behind others
next_read : (n : ℕ) (more : List ℕ) → n ≤ 4294967295 → hexadecimal_after (n / 16) (digit_glyph false (n % 16) ∷ more) ≡ hexadecimal_after n more
next_read n more fits =
    let all : 16 * (n / 16) + n % 16 ≡ n = div-add-mod n 16 in
    let lt : n % 16 < 16 = mod-lt n (omega arith) in
    glyph_read (n / 16) (n % 16) more lt (omega (arith, all, fits)) ∙ ap (λ (x : ℕ). hexadecimal_after x more) all

-- the digits of a number in front of others
onto_read : (k : ℕ) → Onto k
onto_read zero n more le fits =
    let all : 16 * (n / 16) + n % 16 ≡ n = div-add-mod n 16 in
    let q : n / 16 ≡ 0 = omega (arith, all, le) in
    rw q (last_read n more q)
onto_read (suc k) n more le fits = go (onto_read k) (n / 16 == 0) refl
  where
    go : Onto k → (b : Bool) → (n / 16 == 0) ≡ b → hexadecimal_after 0 (cond b (digit_glyph false (n % 16) ∷ more)
        (digits_onto (suc k) 16 false (n / 16) (digit_glyph false (n % 16) ∷ more))) ≡ hexadecimal_after n more
    go before true is = last_read n more (eqb-true (n / 16) 0 is)
    go before false is =
        let all : 16 * (n / 16) + n % 16 ≡ n = div-add-mod n 16 in
        before (n / 16) (digit_glyph false (n % 16) ∷ more) (omega (arith, all, le)) (omega (arith, all, fits)) ∙ next_read n more fits

-- the first digit is no zero, but of zero
pub record Begins (ds : List ℕ) : Type 0 where
  pub head : ℕ
  pub tail : List ℕ
  pub is : ds ≡ head ∷ tail
  pub above : 48 < head

-- the glyph of a digit above zero is above the glyph of zero
glyph_above : (d : ℕ) → 0 < d → 48 < digit_glyph false d
glyph_above d lt = go (nat_lt d 10)
  where
    go : (b : Bool) → 48 < cond b (48 + d) (87 + d)
    go true = omega (arith, lt)
    go false = omega arith

-- the hexadecimal digits of a number above zero do not begin with a zero
onto_begins : (k n : ℕ) (more : List ℕ) → n ≤ most k → 0 < n → Begins (digits_onto (suc k) 16 false n more)
onto_begins zero n more le pos =
    let all : 16 * (n / 16) + n % 16 ≡ n = div-add-mod n 16 in
    let q : n / 16 ≡ 0 = omega (arith, all, le) in
    rw q (record { head = digit_glyph false (n % 16); tail = more; is = refl; above = glyph_above (n % 16) (omega (arith, all, q, pos)) })
onto_begins (suc k) n more le pos = go (onto_begins k (n / 16) (digit_glyph false (n % 16) ∷ more)) (n / 16 == 0) refl
  where
    all : 16 * (n / 16) + n % 16 ≡ n
    all = div-add-mod n 16

    go : (n / 16 ≤ most k → 0 < n / 16 → Begins (digits_onto (suc k) 16 false (n / 16) (digit_glyph false (n % 16) ∷ more))) → (b : Bool) →
        (n / 16 == 0) ≡ b → Begins (cond b (digit_glyph false (n % 16) ∷ more) (digits_onto (suc k) 16 false (n / 16) (digit_glyph false (n % 16) ∷ more)))
    go before true is =
        let q = eqb-true (n / 16) 0 is in
        record { head = digit_glyph false (n % 16); tail = more; is = refl; above = glyph_above (n % 16) (omega (arith, all, q, pos)) }
    go before false is = let q = eqb-false (n / 16) 0 is in before (omega (arith, all, le)) (positive (n / 16) q)
      where
        positive : (a : ℕ) → a ≢ 0 → 0 < a
        positive zero h = absurd (h refl)
        positive (suc a) h = omega arith

-- digits that do not begin with a zero are read as the number that they make
plain : (ds : List ℕ) → Begins ds → hexadecimal_of ds ≡ hexadecimal_after 0 ds
plain ds b = rw (b.is, ne_eqb b.head 48 (λ e. let h = b.above in omega (arith, e, h))) refl

-- a number of 32 bits that is written in hexadecimal is read as that number
pub hexadecimal_again : (n : ℕ) → n ≤ 4294967295 → read_hexadecimal (digits 16 false n) ≡ Ok n
unfolding digits
hexadecimal_again zero le = refl
hexadecimal_again (suc n) le =
    let big : 4294967295 ≤ most 63 = lit≤ tt in
    let fits : suc n ≤ most 63 = omega (arith, le, big) in
    let written : List ℕ = digits_onto 64 16 false (suc n) [] in
    rw (plain written (onto_begins 63 (suc n) [] fits (omega arith)), onto_read 63 (suc n) [] fits le) refl
