-- A number that is read from hexadecimal digits is written so.
use Rattle.std.proofs.Common.{◌≡◌, ◌∙◌, ℕ, zero, suc, ◌+◌, ◌*◌, ◌-◌, ◌/◌, ◌%◌, ◌<◌, ◌≤◌, Bool, true, false, List, [], ◌∷◌, length, Some, refl, sym, ap, arith}
use Rattle.std.proofs.Common.{subst, inl, inr}
use Rattle.std.specs.Prelude.{nat_le, nat_lt, not, ◌&&◌, ◌||◌, ◌==◌}
use Rattle.std.specs.Char.{is_ascii_digit}
use Rattle.std.specs.Fmt.{digit_glyph, digits, digits_onto}
use Rattle.std.proofs.lemmas.Bool.{and_cases, and_parts, eqb-false, eqb-true, leb-true, le-ltb, lt-ltb, not-false}
use Rattle.std.proofs.DigitsParse.{digits_onto-nil, digits_onto_last, digits_onto_step}
use Rattle.nt_expect.specs.Fields.{hexadecimal_after, hexadecimal_of, hexadecimal_value, is_hexadecimal_digit}
use Rattle.nt_expect.proofs.Steps.{kept, missed}

-- ---- one digit

-- a digit is the one that is written of its value
record Digit (c : ℕ) : Type 0 where
  small : hexadecimal_value c < 16
  again : digit_glyph false (hexadecimal_value c) ≡ c
  zero_is : hexadecimal_value c ≡ 0 → c ≡ 48

-- a hexadecimal digit that is read is the one written for its value
digit : (c : ℕ) → is_hexadecimal_digit c ≡ true → Digit c
digit c h = go (is_ascii_digit c) (nat_le 97 c && nat_le c 102) refl refl h
  where
    go : (b d : Bool) → is_ascii_digit c ≡ b → (nat_le 97 c && nat_le c 102) ≡ d → (b || d) ≡ true → Digit c
    go true d is so h =
        let p = and_parts (nat_le 48 c) (nat_le c 57) is in
        let low = leb-true 48 c p.0 in
        let high = leb-true c 57 p.1 in
        let value : hexadecimal_value c ≡ c - 48 = rw is refl in
        let few : nat_lt (c - 48) 10 ≡ true = lt-ltb (c - 48) 10 (omega (arith, low, high)) in
        record {
          small = rw value (omega (arith, low, high));
          again = rw (value, few) (omega (arith, low));
          zero_is = λ z. let w = sym value ∙ z in omega (arith, low, w);
        }
    go false true is so h =
        let p = and_parts (nat_le 97 c) (nat_le c 102) so in
        let low = leb-true 97 c p.0 in
        let high = leb-true c 102 p.1 in
        let value : hexadecimal_value c ≡ c - 87 = rw is refl in
        let many : nat_lt (c - 87) 10 ≡ false = le-ltb (c - 87) 10 (omega (arith, low)) in
        record {
          small = rw value (omega (arith, low, high));
          again = rw (value, many) (omega (arith, low));
          zero_is = λ z. let w = sym value ∙ z in absurd (omega (arith, low, w));
        }
    go false false is so h = absurd cc

-- ---- how many digits

-- behind a number above b stand at most k digits
Short : ℕ → ℕ → Type 0
Short b k = (n : ℕ) (cs : List ℕ) (m : ℕ) → b < n → hexadecimal_after n cs ≡ Some m → length cs ≤ k

-- after a number above 2^28 - 1 no further digit is read
none : Short 268435455 0
unfolding Short
none n [] m lt e = omega arith
none n (c ∷ cs) m lt e =
    let k = kept (is_hexadecimal_digit c && nat_le n 268435455) (hexadecimal_after (16 * n + hexadecimal_value c) cs) m e in
    let p = and_parts (is_hexadecimal_digit c) (nat_le n 268435455) k.0 in
    let le = leb-true n 268435455 p.1 in
    absurd (omega (arith, lt, le))

-- if at most k digits are read after numbers above a bound, at most one more is after those above its sixteenth
one_more : (b k d : ℕ) → Short b k → b < 16 * d + 16 → Short d (k + 1)
unfolding Short
one_more b k d short lt n [] m above e = omega arith
one_more b k d short lt n (c ∷ cs) m above e =
    let t = kept (is_hexadecimal_digit c && nat_le n 268435455) (hexadecimal_after (16 * n + hexadecimal_value c) cs) m e in
    let few = short (16 * n + hexadecimal_value c) cs m (omega (arith, lt, above)) t.1 in
    omega (arith, few)

-- after a number that is not zero at most seven digits are read
seven : Short 0 7
seven =
    one_more 15 6 0 (one_more 255 5 15 (one_more 4095 4 255 (one_more 65535 3 4095 (one_more 1048575 2 65535 (one_more 16777215 1 1048575
    (one_more 268435455 0 16777215 none (omega arith)) (omega arith)) (omega arith)) (omega arith)) (omega arith)) (omega arith)) (omega arith)

-- ---- all digits

-- the digits behind a number above 0 are written behind its digits
onto : (cs : List ℕ) (n m k : ℕ) → 0 < n → 0 < k → hexadecimal_after n cs ≡ Some m →
    digits_onto (length cs + k) 16 false m [] ≡ digits_onto k 16 false n cs
onto [] n m k pos some e = let same : n ≡ m = cc in let fuel : 0 + k ≡ k = omega arith in
    ap (λ (f : ℕ). digits_onto f 16 false m []) fuel ∙ ap (λ (v : ℕ). digits_onto k 16 false v []) (sym same)
onto (c ∷ cs) n m k pos some e =
    let t = kept (is_hexadecimal_digit c && nat_le n 268435455) (hexadecimal_after (16 * n + hexadecimal_value c) cs) m e in
    let d = digit c (and_parts (is_hexadecimal_digit c) (nat_le n 268435455) t.0).0 in
    let small = d.small in
    let next : ℕ = 16 * n + hexadecimal_value c in
    let front : next / 16 ≡ n = omega (arith, small) in
    let back : next % 16 ≡ hexadecimal_value c = omega (arith, small) in
    let glyph : digit_glyph false (next % 16) ≡ c = ap (digit_glyph false) back ∙ d.again in
    let fuel : length (c ∷ cs) + k ≡ length cs + (k + 1) = omega arith in
    let less : k + 1 - 1 ≡ k = omega arith in
    ap (λ (f : ℕ). digits_onto f 16 false m []) fuel
    ∙ onto cs next m (k + 1) (omega (arith, pos)) (omega arith) t.1
    ∙ digits_onto_step 16 false next cs (k + 1) (omega arith) (λ z. omega (arith, z, front, pos))
    ∙ ap (λ (f : ℕ). digits_onto f 16 false (next / 16) (digit_glyph false (next % 16) ∷ cs)) less
    ∙ ap (λ (q : ℕ). digits_onto k 16 false q (digit_glyph false (next % 16) ∷ cs)) front
    ∙ ap (λ (g : ℕ). digits_onto k 16 false n (g ∷ cs)) glyph

-- digits of which the first is no zero
written : (c : ℕ) (cs : List ℕ) (m : ℕ) → (c ≡ 48 → ⊥) → hexadecimal_after 0 (c ∷ cs) ≡ Some m → c ∷ cs ≡ digits 16 false m
unfolding Short
written c cs m lead e =
    let t = kept (is_hexadecimal_digit c && nat_le 0 268435455) (hexadecimal_after (16 * 0 + hexadecimal_value c) cs) m e in
    let d = digit c (and_parts (is_hexadecimal_digit c) (nat_le 0 268435455) t.0).0 in
    let small = d.small in
    let n : ℕ = 16 * 0 + hexadecimal_value c in
    let pos : 0 < n = positive (hexadecimal_value c) (λ z. lead (d.zero_is z)) in
    let few : length cs ≤ 7 = seven_of n cs m pos t.1 in
    let fuel : length cs + (64 - length cs) ≡ 64 = omega (arith, few) in
    let low : n / 16 ≡ 0 = omega (arith, small) in
    let back : n % 16 ≡ hexadecimal_value c = omega (arith, small) in
    let all : digits_onto 64 16 false m [] ≡ c ∷ cs =
    ap (λ (f : ℕ). digits_onto f 16 false m []) (sym fuel)
    ∙ onto cs n m (64 - length cs) pos (omega (arith, few)) t.1
    ∙ digits_onto_last 16 false n cs (64 - length cs) (omega (arith, few)) low
    ∙ ap (λ (g : ℕ). g ∷ cs) (ap (digit_glyph false) back ∙ d.again) in
    sym all ∙ digits_onto-nil 16 false m
  where
    positive : (v : ℕ) → (v ≡ 0 → ⊥) → 0 < 16 * 0 + v
    positive zero h = absurd (h refl)
    positive (suc v) h = omega arith

    seven_of : (n : ℕ) (cs : List ℕ) (m : ℕ) → 0 < n → hexadecimal_after n cs ≡ Some m → length cs ≤ 7
    seven_of = seven

-- the digit zero alone is read as the number that is written so
alone : (m : ℕ) → hexadecimal_after 0 (48 ∷ []) ≡ Some m → 48 ∷ [] ≡ digits 16 false m
unfolding digits
alone m e = let same : 0 ≡ m = cc in rw (← same) refl

-- a field that is read as a hexadecimal number is the hexadecimal digits of that number
pub hexadecimal_shown : (f : List ℕ) (m : ℕ) → hexadecimal_of f ≡ Some m → f ≡ digits 16 false m
hexadecimal_shown [] m e = absurd cc
hexadecimal_shown (c ∷ cs) m e =
    let t = missed (c == 48 && not (length cs == 0)) (hexadecimal_after 0 (c ∷ cs)) m e in
    elim (and_cases (c == 48) (not (length cs == 0)) t.0) [
      | inl other ↦ written c cs m (eqb-false c 48 other) t.1
      | inr last ↦ go (c == 48) refl cs (eqb-true (length cs) 0 (not-false (length cs == 0) last)) t.1
    ]
  where
    go : (b : Bool) → (c == 48) ≡ b → (cs : List ℕ) → length cs ≡ 0 → hexadecimal_after 0 (c ∷ cs) ≡ Some m → c ∷ cs ≡ digits 16 false m
    go false is cs len e = written c cs m (eqb-false c 48 is) e
    go true is [] len e = let same : 48 ≡ c = sym (eqb-true c 48 is) in
        subst (λ (c : ℕ). hexadecimal_after 0 (c ∷ []) ≡ Some m → c ∷ [] ≡ digits 16 false m) same (alone m) e
    go true is (x ∷ cs) len e = absurd (omega (arith, len))
