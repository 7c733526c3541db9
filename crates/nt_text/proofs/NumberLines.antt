-- A first line that ends in a number of one or two digits.
use Rattle.std.proofs.Common.{◌≡◌, ◌∙◌, ℕ, zero, suc, ◌+◌, Bool, true, false, cond, List, [], ◌∷◌, ◌++◌, length, Some, refl, sym, ap, append_assoc, arith, inl}
use Rattle.std.proofs.Common.{inr, ◌/◌, ◌%◌, ◌<◌, ◌≤◌}
use Rattle.std.specs.Prelude.{◌==◌, All, nat_lt, slice_get, ◌⊎◌}
use Rattle.std.specs.Fmt.{decimal}
use Rattle.std.specs.List.{list_all, join_with_byte}
use Rattle.std.proofs.lemmas.Bool.Decides.{nat_tests}
use Rattle.std.proofs.lemmas.Fmt.{decimal_digit}
use Rattle.itoa.proofs.Decimal.{decimal_two}
use Rattle.std.proofs.lemmas.Bool.{false≢true, and_parts, and_from, ne_eqb, not-true}
use Rattle.std.proofs.lemmas.List.Folds.{list_all-append}
use Rattle.std.proofs.lemmas.List.Splits.{slice_split_at, join_with_byte-slice_split}
use Rattle.nt_text.specs.Lines.{is_byte, is_inner, lines, lines_of_parts, number_line, parts}
use Rattle.nt_text.proofs.Cuts.{more_lines}

-- bytes that may all stand within a line have no line end among them
none_ends : (xs : List ℕ) → list_all is_inner xs ≡ true → All (λ b. is_byte 10 b ≡ false) xs
none_ends [] e k d h = absurd (omega arith)
none_ends (b ∷ bs) e zero d h = not-true (is_byte 10 b) (and_parts (is_inner b) (list_all is_inner bs) e).0
none_ends (b ∷ bs) e (suc k) d h = none_ends bs (and_parts (is_inner b) (list_all is_inner bs) e).1 k d (omega arith)

-- the byte of a digit may stand within a line
digit_inner : (digit : ℕ) → is_inner (48 + digit) ≡ true
digit_inner digit = rw (ne_eqb (48 + digit) 10 (λ z. absurd (omega arith))) refl

-- the digits of a number of one or two
abbrev pub Short : ℕ → Type 0
Short n = ((n < 10) × (decimal n ≡ (48 + n) ∷ [])) ⊎ ((10 ≤ n) × (decimal n ≡ (48 + n / 10) ∷ (48 + n % 10) ∷ []))

-- a number below 100 is written as one digit if it is below 10, and else as two
pub short : (n : ℕ) → n < 100 → Short n
short n h = go (nat_lt n 10) refl
  where
    go : (b : Bool) → nat_lt n 10 ≡ b → Short n
    go true e = let few : n < 10 = grind (arith, nat_tests) in inl (few, decimal_digit n few)
    go false e = let least : 10 ≤ n = grind (arith, nat_tests) in inr (least, decimal_two n least h)

-- the digits of a number below 100 may stand within a line
short_inner : (n : ℕ) → n < 100 → list_all is_inner (decimal n) ≡ true
short_inner n h = elim (short n h) [
  | inl one ↦ rw (one.1, digit_inner n) refl
  | inr two ↦ rw (two.1, digit_inner (n / 10), digit_inner (n % 10)) refl
]

-- bytes that begin with a head without ends, a number and an end have this first line
pub number_first : (bytes head rest : List ℕ) (n : ℕ) → list_all is_inner head ≡ true → n < 100 → bytes ≡ head ++ (decimal n ++ 10 ∷ rest) →
    lines bytes ≡ number_line head n ∷ lines rest
number_first bytes head rest n inner h e =
    let line = head ++ decimal n in
    let all : list_all is_inner line ≡ true = list_all-append is_inner head (decimal n)
    ∙ and_from (list_all is_inner head) (list_all is_inner (decimal n)) inner (short_inner n h) in
    let is : bytes ≡ line ++ 10 ∷ rest = e ∙ sym (append_assoc head (decimal n) (10 ∷ rest)) in
    rw (is, slice_split_at (is_byte 10) line 10 rest (none_ends line all) refl) (more_lines line rest)

-- numbers before an end are the same where the bytes are
pub decimal_and_end : (m n : ℕ) (rest behind : List ℕ) → m < 100 → n < 100 → decimal m ++ 10 ∷ rest ≡ decimal n ++ 10 ∷ behind → m ≡ n
decimal_and_end m n rest behind h k e = go (short m h) (short n k)
  where
    go : Short m → Short n → m ≡ n
    go (inl a) (inl b) =
        let same : (48 + m) ∷ 10 ∷ rest ≡ (48 + n) ∷ 10 ∷ behind = rw (a.1, b.1) at e in
        let one : 48 + m ≡ 48 + n = cc in
        omega (arith, one)
    go (inl a) (inr b) =
        let same : (48 + m) ∷ 10 ∷ rest ≡ (48 + n / 10) ∷ (48 + n % 10) ∷ 10 ∷ behind = rw (a.1, b.1) at e in
        let two : 10 ≡ 48 + n % 10 = cc in
        absurd (omega (arith, two))
    go (inr a) (inl b) =
        let same : (48 + m / 10) ∷ (48 + m % 10) ∷ 10 ∷ rest ≡ (48 + n) ∷ 10 ∷ behind = rw (a.1, b.1) at e in
        let two : 48 + m % 10 ≡ 10 = cc in
        absurd (omega (arith, two))
    go (inr a) (inr b) =
        let same : (48 + m / 10) ∷ (48 + m % 10) ∷ 10 ∷ rest ≡ (48 + n / 10) ∷ (48 + n % 10) ∷ 10 ∷ behind = rw (a.1, b.1) at e in
        let one : 48 + m / 10 ≡ 48 + n / 10 = cc in
        let two : 48 + m % 10 ≡ 48 + n % 10 = cc in
        omega (arith, one, two)

-- bytes whose first line is ended begin with it and its end
ended_first : (bytes line : List ℕ) → slice_get {X = List ℕ × Bool} (lines bytes) 0 ≡ Some (line, true) → (rest : List ℕ) × (bytes ≡ line ++ 10 ∷ rest)
ended_first bytes line e = go (parts 10 bytes) (sym (join_with_byte-slice_split 10 bytes)) e
  where
    one : (x : List ℕ) (b : Bool) → slice_get {X = List ℕ × Bool} (cond b [] ((x, false) ∷ [])) 0 ≡ Some (line, true) → ⊥
    one x true e = absurd cc
    one x false e = let same : (x, false) ≡ (line, true) = cc in false≢true (ap (λ (l : List ℕ × Bool). l.1) same)

    go : (ps : List (List ℕ)) → bytes ≡ join_with_byte 10 ps → slice_get {X = List ℕ × Bool} (lines_of_parts ps) 0 ≡ Some (line, true) →
        (rest : List ℕ) × (bytes ≡ line ++ 10 ∷ rest)
    go [] is e = absurd cc
    go (x ∷ []) is e = absurd (one x (length x == 0) e)
    go (x ∷ y ∷ ps) is e =
        let same : (x, true) ≡ (line, true) = cc in
        (join_with_byte 10 (y ∷ ps), is ∙ ap (λ (l : List ℕ × Bool). l.0 ++ 10 ∷ join_with_byte 10 (y ∷ ps)) same)

-- bytes whose first line ends in a number begin with the head, the number and an end
pub number_taken : (bytes head : List ℕ) (n : ℕ) → slice_get (lines bytes) 0 ≡ Some (number_line head n) →
    (rest : List ℕ) × (bytes ≡ head ++ (decimal n ++ 10 ∷ rest))
number_taken bytes head n e =
    let first = ended_first bytes (head ++ decimal n) e in
    (first.0, first.1 ∙ append_assoc head (decimal n) (10 ∷ first.0))
